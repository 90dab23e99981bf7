-- Readings at an offset: what a byte more, a stop and the end of the text mean for the rest of what is to be read.
-- Assumes nothing.
use mathlib.Core.Path.{◌≡◌, refl, sym, ap, ap₂, ◌∙◌}
use mathlib.Core.Logic.{◌≢◌, ◌⊎◌, inl, inr}
use mathlib.Core.Bool.{true, false}
use mathlib.Core.List.{List, [], ◌∷◌, ◌++◌, append_assoc}
use Prim.Native.Nat.{ℕ, suc, ◌+◌, ◌-◌, ◌*◌, ◌≤◌, ◌<◌}
use lib.Dec.{eqb}
use borrow.Author.Tests.{eqb-true, eqb-false}
use Rattle.std.specs.Prelude.{Option, None, Some, IsSome}
use Rattle.text.specs.declared.number.Number.{Number}
use Rattle.lists.proofs.Ranks.{true_or_false}
use native.Mathlib.Numerals.{add-one}
use native.Mathlib.Omega.{arith}
use lib.ListN.{length, set, drop, drop_of_length-le, length-drop, length-append}
use lib.Seq.{drop-cons, drop-drop, drop_at}
use Rattle.lists.specs.Sums.{at}
use Rattle.text.specs.Numbers.{Found, found, missing, zero_byte, digit_of, is_digit, bound, digits_on, first_number}
use Rattle.text.specs.Lines.{equals, separator, behind, past, field, fields, line}
use Rattle.text.specs.Places.{NumberAt, LineAt, KeyAt, fields_of, rest_of, stored}
use Rattle.text.proofs.Lines.{past_none, past_end, past_same, past_other, past_text, past_append, past_back, Behind, field_of_found, with_first, fields_none, fields_on, fields_stop}
use Rattle.text.proofs.Stores.{stored_first}
use Rattle.text.proofs.Numbers.{on_digit, on_big, on_other, on_end, number_zero, number_first, number_other, number_end}

-- the text from an offset on: a byte and the text behind it, or nothing
pub drop_next : (s : List ℕ) (i : ℕ) → i < length s → drop i s ≡ at s i ∷ drop (i + 1) s
drop_next s i h = rw (add-one, drop-cons s i 0)

pub drop_end : (s : List ℕ) (i : ℕ) → length s ≤ i → drop i s ≡ []
drop_end s i h = drop_of_length-le s h

-- the digits of a number: what is left from here on is what was to be read from the start
module _ (s : List ℕ) (o : Found ℕ) (value i : ℕ) (same : o ≡ digits_on value (drop i s)) where
  pub digits_next : i < length s → is_digit (at s i) ≡ true → value * 10 + digit_of (at s i) < bound
      → o ≡ digits_on (value * 10 + digit_of (at s i)) (drop (i + 1) s)
  digits_next h d b = same ∙ ap (digits_on value) (drop_next s i h) ∙ on_digit value (at s i) (drop (i + 1) s) d b

  pub digits_big : i < length s → is_digit (at s i) ≡ true → bound ≤ value * 10 + digit_of (at s i) → o ≡ missing
  digits_big h d b = same ∙ ap (digits_on value) (drop_next s i h) ∙ on_big value (at s i) (drop (i + 1) s) d b

  pub digits_stop : i < length s → is_digit (at s i) ≡ false → o ≡ found value (drop i s)
  digits_stop h d =
      same ∙ ap (digits_on value) (drop_next s i h) ∙ on_other value (at s i) (drop (i + 1) s) d ∙ ap (found value) (sym (drop_next s i h))

  pub digits_end : length s ≤ i → o ≡ found value (drop i s)
  digits_end h = same ∙ ap (digits_on value) (drop_end s i h) ∙ on_end value ∙ ap (found value) (sym (drop_end s i h))

-- the first digit
module _ (s : List ℕ) (i : ℕ) where
  pub number_stops : length s ≤ i → first_number (drop i s) ≡ missing
  number_stops h = ap first_number (drop_end s i h) ∙ number_end

  pub number_no_digit : i < length s → is_digit (at s i) ≡ false → first_number (drop i s) ≡ missing
  number_no_digit h d = ap first_number (drop_next s i h) ∙ number_other (at s i) (drop (i + 1) s) d

  pub number_is_zero : i < length s → at s i ≡ zero_byte → first_number (drop i s) ≡ found 0 (drop (i + 1) s)
  number_is_zero h e = ap first_number (drop_next s i h) ∙ number_zero (at s i) (drop (i + 1) s) e

  pub number_goes_on : i < length s → is_digit (at s i) ≡ true → at s i ≢ zero_byte
      → first_number (drop i s) ≡ digits_on (digit_of (at s i)) (drop (i + 1) s)
  number_goes_on h d q = ap first_number (drop_next s i h) ∙ number_first (at s i) (drop (i + 1) s) d q

-- a key with its equals sign: where the key stands in front, the rest decides, and otherwise nothing is read
module _ (key : List ℕ) (go : List ℕ → Found (List ℕ)) where
  pub past_key : (s rest : List ℕ) → s ≡ key ++ rest → past (key ++ (equals ∷ [])) go s ≡ past (equals ∷ []) go rest
  past_key s rest e =
      ap (past (key ++ (equals ∷ [])) go) e ∙ past_append key (equals ∷ []) go (key ++ rest) ∙ past_text key (past (equals ∷ []) go) rest

  pub key_cut : (s rest : List ℕ) → s ≡ key ++ rest → rest ≡ [] → past (key ++ (equals ∷ [])) go s ≡ missing
  key_cut s rest e z = past_key s rest e ∙ ap (past (equals ∷ []) go) z ∙ past_end equals [] go

  pub key_open : (s rest : List ℕ) → s ≡ key ++ rest → 0 < length rest → at rest 0 ≢ equals → past (key ++ (equals ∷ [])) go s ≡ missing
  key_open s rest e h d = past_key s rest e ∙ ap (past (equals ∷ []) go) (drop_next rest 0 h) ∙ past_other equals [] go (at rest 0) (drop 1 rest) d

  pub key_there : (s rest : List ℕ) → s ≡ key ++ rest → 0 < length rest → at rest 0 ≡ equals
      → past (key ++ (equals ∷ [])) go s ≡ go (drop 1 rest)
  key_there s rest e h q =
      past_key s rest e ∙ ap (past (equals ∷ []) go) (drop_next rest 0 h) ∙ past_same equals [] go (at rest 0) (drop 1 rest) q
      ∙ past_none go (drop 1 rest)

pub key_nothing : (key : List ℕ) (go : List ℕ → Found (List ℕ)) → past (key ++ (equals ∷ [])) go [] ≡ missing
key_nothing [] go = past_end equals [] go
key_nothing (b ∷ key) go = past_end b (key ++ (equals ∷ [])) go

pub key_other : (key s : List ℕ) (go : List ℕ → Found (List ℕ)) → ((rest : List ℕ) → s ≢ key ++ rest) → past (key ++ (equals ∷ [])) go s ≡ missing
key_other [] s go d = absurd (d s refl)
key_other (b ∷ key) [] go d = past_end b (key ++ (equals ∷ [])) go
key_other (b ∷ key) (c ∷ s) go d = case (true_or_false (eqb c b)) (key_other key s go)
  where
    case : (eqb c b ≡ true) ⊎ (eqb c b ≡ false)
        → (((rest : List ℕ) → s ≢ key ++ rest) → past (key ++ (equals ∷ [])) go s ≡ missing)
        → past (b ∷ (key ++ (equals ∷ []))) go (c ∷ s) ≡ missing
    case (inl e) more =
        let q : c ≡ b = eqb-true c b e in
        past_same b (key ++ (equals ∷ [])) go c s q ∙ more (λ rest t. d rest (ap₂ ◌∷◌ q t))
    case (inr e) more = past_other b (key ++ (equals ∷ [])) go c s (eqb-false c b e)

-- the text behind a key and one byte more
pub behind_key : (key s rest : List ℕ) (i : ℕ) → drop i s ≡ key ++ rest → drop (i + length key + 1) s ≡ drop 1 rest
behind_key key s rest i e =
    sym (drop-drop 1 (i + length key) s)
    ∙ ap (drop 1) (sym (drop-drop (length key) i s) ∙ ap (drop (length key)) e ∙ drop_at key rest (length key) refl)

-- a field: a number, and what stands behind it
module _ (s : List ℕ) (i following value n : ℕ) (a : first_number (drop i s) ≡ found value (drop n s)) where
  behind_number : field following (drop i s) ≡ past (separator following ∷ []) (found value) (drop n s)
  behind_number = field_of_found following (drop i s) value (drop n s) a

  pub field_cut : length s ≤ n → field following (drop i s) ≡ missing
  field_cut h =
      behind_number ∙ ap (past (separator following ∷ []) (found value)) (drop_end s n h) ∙ past_end (separator following) [] (found value)

  pub field_other : n < length s → at s n ≢ separator following → field following (drop i s) ≡ missing
  field_other h q =
      behind_number ∙ ap (past (separator following ∷ []) (found value)) (drop_next s n h)
      ∙ past_other (separator following) [] (found value) (at s n) (drop (n + 1) s) q

  pub field_there : n < length s → at s n ≡ separator following → field following (drop i s) ≡ found value (drop (n + 1) s)
  field_there h q =
      behind_number ∙ ap (past (separator following ∷ []) (found value)) (drop_next s n h)
      ∙ past_same (separator following) [] (found value) (at s n) (drop (n + 1) s) q
      ∙ past_none (found value) (drop (n + 1) s)

-- fields in front of others
abbrev pub with_front : List ℕ → Found (List ℕ) → Found (List ℕ)
with_front front o = behind o (λ ns t. found (front ++ ns) t)

front_more : (front : List ℕ) (n : ℕ) (o : Found (List ℕ)) → with_front front (with_first n o) ≡ with_front (front ++ (n ∷ [])) o
front_more front n (found ns t) = ap (λ l. found l t) (sym (append_assoc front (n ∷ []) ns))
front_more front n missing = refl

-- what was to be read is some fields that were read, and what is left
pub record Partly (o left : Found (List ℕ)) : Type 0 where
  pub front : List ℕ
  pub whole : o ≡ with_front front left

-- so many fields, one after the other
module _ (s : List ℕ) (o : Found (List ℕ)) (i : ℕ) where
  pub fields_end : (left : ℕ) → i ≤ length s → Partly o (fields left (drop i s)) → left ≡ 0 → LineAt s o (Some i)
  fields_end left h so_far z = (
    h,
    (
      so_far.front ++ [],
      so_far.whole ∙ ap (λ k. with_front so_far.front (fields k (drop i s))) z ∙ ap (with_front so_far.front) (fields_none (drop i s)),
    ),
  )

  module _ (left following : ℕ) (so_far : Partly o (fields left (drop i s))) (e : left ≡ suc following) where
    opens : o ≡ with_front so_far.front (fields (suc following) (drop i s))
    opens = so_far.whole ∙ ap (λ k. with_front so_far.front (fields k (drop i s))) e

    pub fields_missing : field following (drop i s) ≡ missing → o ≡ missing
    fields_missing a = opens ∙ ap (with_front so_far.front) (fields_stop following (drop i s) a)

    pub fields_next : (value n : ℕ) → field following (drop i s) ≡ found value (drop n s) → Partly o (fields following (drop n s))
    fields_next value n a =
        record {
          front = so_far.front ++ (value ∷ []);
          whole =
              opens
              ∙ ap (with_front so_far.front) (fields_on following (drop i s) value (drop n s) a)
              ∙ front_more so_far.front value (fields following (drop n s));
        }

-- what is there was read
pub number_there : (s : List ℕ) (o : Found ℕ) (r : Option Number) → o ≢ missing → NumberAt s o r → IsSome r
number_there s o None d a = absurd (d a)
number_there s o (Some n) d a = refl

-- a field that is known to be there
first_fields : (n : ℕ) (o : Found (List ℕ)) → o ≢ missing → fields_of (with_first n o) ≡ n ∷ fields_of o
first_fields n (found ns t) d = refl
first_fields n missing d = absurd (d refl)

first_rest : (n : ℕ) (o : Found (List ℕ)) → rest_of (with_first n o) ≡ rest_of o
first_rest n (found ns t) = refl
first_rest n missing = refl

module _ (s : List ℕ) (i left following : ℕ) (e : left ≡ suc following) (there : fields left (drop i s) ≢ missing) where
  one_more : fields left (drop i s) ≡ fields (suc following) (drop i s)
  one_more = ap (λ k. fields k (drop i s)) e

  pub taken_found : field following (drop i s) ≢ missing
  taken_found z = there (one_more ∙ fields_stop following (drop i s) z)

  module _ (value n : ℕ) (a : field following (drop i s) ≡ found value (drop n s)) where
    onward : fields left (drop i s) ≡ with_first value (fields following (drop n s))
    onward = one_more ∙ fields_on following (drop i s) value (drop n s) a

    pub taken_there : fields following (drop n s) ≢ missing
    taken_there z = there (onward ∙ ap (with_first value) z)

    pub taken_rest : rest_of (fields following (drop n s)) ≡ rest_of (fields left (drop i s))
    taken_rest = sym (ap rest_of onward ∙ first_rest value (fields following (drop n s)))

    pub taken_stored : (words : List ℕ) (store next : ℕ) → next ≡ store + 1
        → stored (set words store value) next (fields_of (fields following (drop n s)))
        ≡ stored words store (fields_of (fields left (drop i s)))
    taken_stored words store next q =
        ap (λ k. stored (set words store value) k (fields_of (fields following (drop n s)))) q
        ∙ sym (ap (stored words store) (ap fields_of onward ∙ first_fields value (fields following (drop n s)) taken_there)
        ∙ stored_first words store value (fields_of (fields following (drop n s))))

-- the fields of a line that is known to be there stand behind its key
pub record Keyed (key : List ℕ) (width : ℕ) (s : List ℕ) (i : ℕ) : Type 0 where
  pub inside : i + length key + 1 ≤ length s
  pub same : fields width (drop (i + length key + 1) s) ≡ line key width (drop i s)

pub keyed : (key : List ℕ) (width : ℕ) (s : List ℕ) (i : ℕ) → line key width (drop i s) ≢ missing → Keyed key width s i
unfolding line
keyed key width s i there = go (line key width (drop i s)) refl
  where
    go : (o : Found (List ℕ)) → line key width (drop i s) ≡ o → Keyed key width s i
    go missing e = absurd (there e)
    go (found ns t) e =
        let back : Behind (key ++ (equals ∷ [])) (fields width) (drop i s) (found ns t) =
        past_back (key ++ (equals ∷ [])) (fields width) (drop i s) ns t e in
        let size : length (key ++ (equals ∷ [])) ≡ length key + 1 = length-append key (equals ∷ []) in
        let whole : length (drop i s) ≡ length key + 1 + length back.rest =
        ap length back.written ∙ length-append (key ++ (equals ∷ [])) back.rest ∙ ap (λ k. k + length back.rest) size in
        let left : length (drop i s) ≡ length s - i = length-drop i s in
        let far : drop (i + length key + 1) s ≡ back.rest =
        (let q : i + length key + 1 ≡ i + (length key + 1) = omega arith in ap (λ k. drop k s) q)
        ∙ sym (drop-drop (length key + 1) i s)
        ∙ ap (drop (length key + 1)) back.written
        ∙ drop_at (key ++ (equals ∷ [])) back.rest (length key + 1) size in
        record { inside = omega arith; same = ap (fields width) far ∙ back.read ∙ sym e }

-- a line is its fields behind its key
module _ (key : List ℕ) (width : ℕ) (s : List ℕ) (i : ℕ) where
  pub line_unkeyed : KeyAt key s (drop i s) None → line key width (drop i s) ≡ missing
  unfolding line
  line_unkeyed k = k (fields width)

  pub line_keyed : (n : ℕ) → KeyAt key s (drop i s) (Some n) → line key width (drop i s) ≡ fields width (drop n s)
  unfolding line
  line_keyed n k = k.1 (fields width)
