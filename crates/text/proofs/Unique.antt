-- The contracts determine the answers: two answers, and two lent memories after, that one of them allows are equal.
-- Assumes nothing.
use mathlib.Core.Path.{◌≡◌, refl, sym, ap, ◌∙◌, subst}
use mathlib.Core.Logic.{◌≢◌, ◌⊎◌, inl, inr}
use mathlib.Core.Bool.{true, false}
use mathlib.Core.List.{List}
use Prim.Native.Nat.{ℕ, ◌-◌, ◌≤◌}
use Rattle.std.specs.Prelude.{Option, None, Some}
use native.Mathlib.Omega.{arith}
use lib.Dec.{eqb}
use lib.ListN.{length, drop, length-drop}
use borrow.Author.Tests.{eqb-true, eqb-false}
use denote.Ref.{Bor}
use Rattle.lists.proofs.Ranks.{true_or_false}
use Rattle.text.specs.declared.number.Number.{Number}
use Rattle.text.specs.declared.reader.Reader.{Reader}
use Rattle.text.specs.declared.reader.Ends.{Ends}
use Rattle.text.specs.Numbers.{Found, found, missing}
use Rattle.text.specs.Lines.{line}
use Rattle.text.specs.Places.{NumberAt, LineAt, EndAt, PutAt, Sized, FieldsTaken}
use Rattle.text.specs.Readers.{Stepped, EndsAt}
use Rattle.text.proofs.Numbers.{never}

-- two offsets with the same text behind them
same_offset : (s : List ℕ) (n m : ℕ) → n ≤ length s → m ≤ length s → drop n s ≡ drop m s → n ≡ m
same_offset s n m h k e =
    let left : length s - n ≡ length s - m = sym (length-drop n s) ∙ ap length e ∙ length-drop m s in
    omega arith

module _ {A : Type 0} (s : List ℕ) (o : Found A) (none : ℕ) where
  -- an offset that stands for what was read up to it, but for one that stands for nothing
  abbrev Stands : ℕ → Type 0
  Stands n = (n ≢ none → (n ≤ length s) × ((x : A) × (o ≡ found x (drop n s)))) × (n ≡ none → o ≡ missing)

  abbrev rest : Found A → List ℕ
  rest (found x t) = t
  rest missing = s

  same_place : (n m : ℕ) → Stands n → Stands m → n ≡ m
  same_place n m a b = go (true_or_false (eqb n none)) (true_or_false (eqb m none))
    where
      go : (eqb n none ≡ true) ⊎ (eqb n none ≡ false) → (eqb m none ≡ true) ⊎ (eqb m none ≡ false) → n ≡ m
      go (inl e) (inl f) = eqb-true n none e ∙ sym (eqb-true m none f)
      go (inl e) (inr f) = absurd (never (a.1 (eqb-true n none e)) (b.0 (eqb-false m none f)).1.1)
      go (inr e) (inl f) = absurd (never (b.1 (eqb-true m none f)) (a.0 (eqb-false n none e)).1.1)
      go (inr e) (inr f) =
          let x = a.0 (eqb-false n none e) in
          let y = b.0 (eqb-false m none f) in
          same_offset s n m x.0 y.0 (ap rest (sym x.1.1 ∙ y.1.1))

-- an outcome is not both there and missing
both : {A B : Type 0} (o : Found A) (x : A) (t : List ℕ) → o ≡ missing → o ≡ found x t → B
both o x t a b = absurd (never a b)

-- `number_at`, `field_at`
pub number_at_unique : (s : List ℕ) (o : Found ℕ) (r q : Option Number) → NumberAt s o r → NumberAt s o q → r ≡ q
number_at_unique s o None None a b = refl
number_at_unique s o None (Some m) a b = both o m.value (drop m.next s) a b.1
number_at_unique s o (Some n) None a b = both o n.value (drop n.next s) b a.1
number_at_unique s o (Some n) (Some m) a b =
    let same : found n.value (drop n.next s) ≡ found m.value (drop m.next s) = sym a.1 ∙ b.1 in
    let value : n.value ≡ m.value = cc in
    let behind : drop n.next s ≡ drop m.next s = cc in
    let next : n.next ≡ m.next = same_offset s n.next m.next a.0 b.0 behind in
    λ i. Some (record { value = value i; next = next i })

-- `line_at`, `reader::next_line`
pub line_at_unique : (s : List ℕ) (o : Found (List ℕ)) (n m : Option ℕ) → LineAt s o n → LineAt s o m → n ≡ m
line_at_unique s o None None a b = refl
line_at_unique s o None (Some m) a b = both o b.1.0 (drop m s) a b.1.1
line_at_unique s o (Some n) None a b = both o a.1.0 (drop n s) b a.1.1
line_at_unique s o (Some n) (Some m) a b =
    let same : found a.1.0 (drop n s) ≡ found b.1.0 (drop m s) = sym a.1.1 ∙ b.1.1 in
    let behind : drop n s ≡ drop m s = cc in
    ap Some (same_offset s n m a.0 b.0 behind)

-- `line_end`
pub end_at_unique : (s : List ℕ) (i : ℕ) (o : Found (List ℕ)) (n m : ℕ) → EndAt s i o n → EndAt s i o m → n ≡ m
end_at_unique s i o n m a b =
    same_place s o i n m ((λ d. (a.inside d, a.fits d)), a.unfit) ((λ d. (b.inside d, b.fits d)), b.unfit)

-- `reader::take_next_line`
pub fields_taken_unique : (s : List ℕ) (o : Found (List ℕ)) (lent : List ℕ) (place n m : ℕ) (after after' : List ℕ)
    → FieldsTaken s o lent place n after → FieldsTaken s o lent place m after' → (n ≡ m) × (after ≡ after')
fields_taken_unique s o lent place n m after after' a b =
    (same_offset s n m a.inside b.inside (sym a.behind ∙ b.behind), a.written ∙ sym b.written)

-- `line_size`; `number_size` and `add_capped` say what their answer is equal to
pub sized_unique : (before : ℕ) (bytes : List ℕ) (cap n m : ℕ) → Sized before bytes cap n → Sized before bytes cap m → n ≡ m
sized_unique before bytes cap n m a b = a.capped ∙ sym b.capped

-- `put_number`, `put_bytes`, `put_line`
pub put_at_unique : (lent : List ℕ) (at : ℕ) (bytes : List ℕ) (n m : ℕ) (after after' : List ℕ)
    → PutAt lent at bytes n after → PutAt lent at bytes m after' → (n ≡ m) × (after ≡ after')
put_at_unique lent at bytes n m after after' a b = (a.onward ∙ sym b.onward, a.written ∙ sym b.written)

pub reader_at_unique : (text : Bor (List ℕ)) (i : ℕ) (r q : Reader) → (r.text ≡ text) × (r.at ≡ i) → (q.text ≡ text) × (q.at ≡ i) → r ≡ q
reader_at_unique text i r q a b =
    let same_text : r.text ≡ q.text = a.0 ∙ sym b.0 in
    let same_at : r.at ≡ q.at = a.1 ∙ sym b.1 in
    λ j. record { text = same_text j; at = same_at j }

-- `reader::step`
pub stepped_unique : (before : Reader) (key : List ℕ) (width : ℕ) (after other : Reader) → Stepped before key width after
    → Stepped before key width other → after ≡ other
stepped_unique before key width after other a b =
    let same_text : after.text ≡ other.text = a.same ∙ sym b.same in
    let same_at : after.at ≡ other.at =
    end_at_unique before.text.now before.at (line key width (drop before.at before.text.now)) after.at other.at a.end_is b.end_is in
    λ i. record { text = same_text i; at = same_at i }

-- `reader::next_two_lines`
pub ends_at_unique : (s : List ℕ) (i : ℕ) (one two : List ℕ) (width : ℕ) (r q : Ends) → EndsAt s i one two width r → EndsAt s i one two width q → r ≡ q
ends_at_unique s i one two width r q a b =
    let first : r.first ≡ q.first = end_at_unique s i (line one width (drop i s)) r.first q.first a.first_is b.first_is in
    let there : EndAt s q.first (line two width (drop q.first s)) r.second =
    subst (λ j. EndAt s j (line two width (drop j s)) r.second) first a.second_is in
    let second : r.second ≡ q.second =
    end_at_unique s q.first (line two width (drop q.first s)) r.second q.second there b.second_is in
    λ j. record { first = first j; second = second j }
