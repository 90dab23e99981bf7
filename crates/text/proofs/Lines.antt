-- A line's text reads as its fields, and what reads as fields is their text. Field by field, from the laws of numbers.
-- Assumes nothing.
use mathlib.Core.Path.{◌≡◌, refl, sym, ap, ap₂, ◌∙◌, subst}
use mathlib.Core.Logic.{⊎_elim, ◌≢◌}
use mathlib.Core.Bool.{true, false, cond, true≢false}
use mathlib.Core.List.{List, [], ◌∷◌, ◌++◌, append_assoc}
use Prim.Native.Nat.{ℕ, zero, suc, ◌<◌}
use lib.Dec.{eqb, lit<}
use lib.ListN.{length}
use borrow.Author.Tests.{eq-eqb, ne_eqb, eqb-true, eqb-false}
use Rattle.lists.proofs.Ranks.{true_or_false}
use Rattle.text.specs.Numbers.{Found, found, missing, is_digit, bound, Below, first_number, decimal}
use Rattle.text.specs.Lines.{comma, equals, separator, behind, past, unlike, field, fields, line, fields_text, line_text}
use Rattle.text.proofs.Below.{below_none, below_cons}
use Rattle.text.proofs.Numbers.{never, digit_low, number_decimal, decimal_number, Decimal}

-- bytes that stand first are read past, and nothing else is
pub past_none : {A : Type 0} (go : List ℕ → Found A) (s : List ℕ) → past [] go s ≡ go s
unfolding past
past_none go s = refl

pub past_end : {A : Type 0} (b : ℕ) (bytes : List ℕ) (go : List ℕ → Found A) → past (b ∷ bytes) go [] ≡ missing
unfolding past
past_end b bytes go = refl

pub past_same : {A : Type 0} (b : ℕ) (bytes : List ℕ) (go : List ℕ → Found A) (c : ℕ) (s : List ℕ) → c ≡ b
    → past (b ∷ bytes) go (c ∷ s) ≡ past bytes go s
unfolding past
past_same b bytes go c s e = rw (eq-eqb c b e)

pub past_other : {A : Type 0} (b : ℕ) (bytes : List ℕ) (go : List ℕ → Found A) (c : ℕ) (s : List ℕ) → c ≢ b
    → past (b ∷ bytes) go (c ∷ s) ≡ missing
unfolding past
past_other b bytes go c s d = rw (ne_eqb c b d)

pub past_text : {A : Type 0} (bytes : List ℕ) (go : List ℕ → Found A) (s : List ℕ) → past bytes go (bytes ++ s) ≡ go s
past_text [] go s = past_none go s
past_text (b ∷ bytes) go s = past_same b bytes go b (bytes ++ s) refl ∙ past_text bytes go s

pub past_append : {A : Type 0} (x y : List ℕ) (go : List ℕ → Found A) (s : List ℕ) → past (x ++ y) go s ≡ past x (past y go) s
unfolding past
past_append [] y go s = refl
past_append (b ∷ x) y go [] = refl
past_append (b ∷ x) y go (c ∷ s) = ap (λ r. cond (eqb c b) r missing) (past_append x y go s)

-- a text that is read past bytes: the bytes, and what stands behind them
pub record Behind {A : Type 0} (bytes : List ℕ) (go : List ℕ → Found A) (s : List ℕ) (o : Found A) : Type 0 where
  pub rest : List ℕ
  pub written : s ≡ bytes ++ rest
  pub read : go rest ≡ o

pub past_back : {A : Type 0} (bytes : List ℕ) (go : List ℕ → Found A) (s : List ℕ) (a : A) (t : List ℕ)
    → past bytes go s ≡ found a t → Behind bytes go s (found a t)
past_back [] go s a t e = record { rest = s; written = refl; read = sym (past_none go s) ∙ e }
past_back (b ∷ bytes) go [] a t e = absurd (never (past_end b bytes go) e)
past_back (b ∷ bytes) go (c ∷ s) a t e =
    ⊎_elim
    (λ (same : eqb c b ≡ true).
    let q : c ≡ b = eqb-true c b same in
    let more : Behind bytes go s (found a t) = past_back bytes go s a t (sym (past_same b bytes go c s q) ∙ e) in
    record { rest = more.rest; written = ap₂ ◌∷◌ q more.written; read = more.read })
    (λ (other : eqb c b ≡ false). absurd (never (past_other b bytes go c s (eqb-false c b other)) e))
    (true_or_false (eqb c b))

-- bytes that differ from those that must stand first
pub past_apart : {A : Type 0} (x y : List ℕ) (go : List ℕ → Found A) (s : List ℕ) → unlike x y ≡ true → past x go (y ++ s) ≡ missing
unfolding unlike
past_apart [] y go s e = absurd (true≢false (sym e))
past_apart (a ∷ x) [] go s e = absurd (true≢false (sym e))
past_apart (a ∷ x) (b ∷ y) go s e =
    ⊎_elim
    (λ (same : eqb a b ≡ true).
    past_same a x go b (y ++ s) (sym (eqb-true a b same)) ∙ past_apart x y go s (rw same at e))
    (λ (other : eqb a b ≡ false). past_other a x go b (y ++ s) (λ q. eqb-false a b other (sym q)))
    (true_or_false (eqb a b))

separator_ends : (following : ℕ) → is_digit (separator following) ≡ false
separator_ends zero = digit_low 10 (lit< tt)
separator_ends (suc following) = digit_low 44 (lit< tt)

pub separator_more : (following : ℕ) → following ≢ 0 → comma ≡ separator following
separator_more zero d = absurd (d refl)
separator_more (suc following) d = refl

pub field_of_missing : (following : ℕ) (s : List ℕ) → first_number s ≡ missing → field following s ≡ missing
unfolding field
field_of_missing following s e = rw e

pub field_of_found : (following : ℕ) (s : List ℕ) (n : ℕ) (t : List ℕ) → first_number s ≡ found n t
    → field following s ≡ past (separator following ∷ []) (found n) t
unfolding field
field_of_found following s n t e = rw e

pub field_text : (following n : ℕ) (rest : List ℕ) → n < bound → field following (decimal n ++ (separator following ∷ rest)) ≡ found n rest
unfolding field
field_text following n rest h =
    ap (λ o. behind o (λ n t. past (separator following ∷ []) (found n) t))
    (number_decimal n (separator following) rest h (separator_ends following))
    ∙ past_text (separator following ∷ []) (found n) rest

pub field_back : (following : ℕ) (s : List ℕ) (n : ℕ) (rest : List ℕ) → field following s ≡ found n rest
    → Decimal n s (separator following ∷ rest)
unfolding field
field_back following s n rest e = go (first_number s) refl e
  where
    go : (o : Found ℕ) → first_number s ≡ o → behind o (λ m t. past (separator following ∷ []) (found m) t) ≡ found n rest
        → Decimal n s (separator following ∷ rest)
    go missing p q = absurd (never refl q)
    go (found m t) p q =
        let back : Behind (separator following ∷ []) (found m) t (found n rest) = past_back (separator following ∷ []) (found m) t n rest q in
        let same : found m back.rest ≡ found n rest = back.read in
        let value : m ≡ n = cc in
        let left : back.rest ≡ rest = cc in
        let whole : Decimal m s t = decimal_number s m t p in
        record {
          written =
              whole.written ∙ ap (λ u. decimal m ++ u) back.written
              ∙ ap₂ (λ k u. decimal k ++ (separator following ∷ u)) value left;
          small = subst (λ k. k < bound) value whole.small;
        }

pub fields_none : (s : List ℕ) → fields 0 s ≡ found [] s
unfolding fields
fields_none s = refl

-- one field and the others behind it
abbrev pub with_first : ℕ → Found (List ℕ) → Found (List ℕ)
with_first n o = behind o (λ ns u. found (n ∷ ns) u)

pub fields_on : (following : ℕ) (s : List ℕ) (n : ℕ) (t : List ℕ) → field following s ≡ found n t
    → fields (suc following) s ≡ with_first n (fields following t)
unfolding fields
fields_on following s n t e = rw e

pub fields_stop : (following : ℕ) (s : List ℕ) → field following s ≡ missing → fields (suc following) s ≡ missing
unfolding fields
fields_stop following s e = rw e

pub fields_text_lem : (ns rest : List ℕ) → Below ns → fields (length ns) (fields_text ns ++ rest) ≡ found ns rest
unfolding fields_text
fields_text_lem [] rest h = fields_none rest
fields_text_lem (n ∷ ns) rest h =
    ap (fields (suc (length ns))) (append_assoc (decimal n) (separator (length ns) ∷ fields_text ns) rest)
    ∙ fields_on (length ns) (decimal n ++ (separator (length ns) ∷ (fields_text ns ++ rest))) n (fields_text ns ++ rest)
    (field_text (length ns) n (fields_text ns ++ rest) (h 0))
    ∙ ap (with_first n) (fields_text_lem ns rest (λ i. h (suc i)))

pub record Fields (width : ℕ) (s ns rest : List ℕ) : Type 0 where
  pub written : s ≡ fields_text ns ++ rest
  pub width_is : length ns ≡ width
  pub below : Below ns

pub fields_back : (width : ℕ) (s ns rest : List ℕ) → fields width s ≡ found ns rest → Fields width s ns rest
unfolding fields_text
fields_back zero s ns rest e =
    let same : found [] s ≡ found ns rest = sym (fields_none s) ∙ e in
    let value : ◌≡◌ {A = List ℕ} [] ns = cc in
    let left : s ≡ rest = cc in
    subst (λ k. Fields 0 s k rest) value (record { written = left; width_is = refl; below = below_none })
fields_back (suc following) s ns rest e = first (field following s) refl (λ t ms u q. fields_back following t ms u q)
  where
    later : (n : ℕ) (t : List ℕ) (o : Found (List ℕ)) → field following s ≡ found n t → fields following t ≡ o
        → with_first n o ≡ found ns rest → ((t ms u : List ℕ) → fields following t ≡ found ms u → Fields following t ms u)
        → Fields (suc following) s ns rest
    later n t missing p q r go = absurd (never refl r)
    later n t (found ms u) p q r go =
        let value : n ∷ ms ≡ ns = cc in
        let left : u ≡ rest = cc in
        let one : Decimal n s (separator following ∷ t) = field_back following s n t p in
        let more : Fields following t ms u = go t ms u q in
        subst (λ k. Fields (suc following) s k rest) value
        (record {
          written =
              one.written
              ∙ ap₂ (λ k v. decimal n ++ (separator k ∷ v)) (sym more.width_is)
              (more.written ∙ ap (λ v. fields_text ms ++ v) left)
              ∙ sym (append_assoc (decimal n) (separator (length ms) ∷ fields_text ms) rest);
          width_is = ap suc more.width_is;
          below = below_cons n ms one.small more.below;
        })

    first : (o : Found ℕ) → field following s ≡ o → ((t ms u : List ℕ) → fields following t ≡ found ms u → Fields following t ms u)
        → Fields (suc following) s ns rest
    first missing p go = absurd (never (fields_stop following s p) e)
    first (found n t) p go = later n t (fields following t) p refl (sym (fields_on following s n t p) ∙ e) go

-- a line's text reads as its fields ..
pub line_text_lem : (key ns rest : List ℕ) → Below ns → line key (length ns) (line_text key ns ++ rest) ≡ found ns rest
unfolding line line_text
line_text_lem key ns rest h =
    ap (past (key ++ (equals ∷ [])) (fields (length ns))) (append_assoc (key ++ (equals ∷ [])) (fields_text ns) rest)
    ∙ past_text (key ++ (equals ∷ [])) (fields (length ns)) (fields_text ns ++ rest)
    ∙ fields_text_lem ns rest h

-- .. and what reads as a line is its text
pub record Line (key : List ℕ) (width : ℕ) (s ns rest : List ℕ) : Type 0 where
  pub written : s ≡ line_text key ns ++ rest
  pub width_is : length ns ≡ width
  pub below : Below ns

pub line_back : (key : List ℕ) (width : ℕ) (s ns rest : List ℕ) → line key width s ≡ found ns rest → Line key width s ns rest
unfolding line line_text
line_back key width s ns rest e =
    let back : Behind (key ++ (equals ∷ [])) (fields width) s (found ns rest) =
    past_back (key ++ (equals ∷ [])) (fields width) s ns rest e in
    let inner : Fields width back.rest ns rest = fields_back width back.rest ns rest back.read in
    record {
      written =
          back.written ∙ ap (λ u. (key ++ (equals ∷ [])) ++ u) inner.written
          ∙ sym (append_assoc (key ++ (equals ∷ [])) (fields_text ns) rest);
      width_is = inner.width_is;
      below = inner.below;
    }

-- a line with another key does not fit, and nothing fits at the text's end
pub line_apart : (key other : List ℕ) (width : ℕ) (ns rest : List ℕ) → unlike (key ++ (equals ∷ [])) (other ++ (equals ∷ [])) ≡ true
    → line key width (line_text other ns ++ rest) ≡ missing
unfolding line line_text
line_apart key other width ns rest e =
    ap (past (key ++ (equals ∷ [])) (fields width)) (append_assoc (other ++ (equals ∷ [])) (fields_text ns) rest)
    ∙ past_apart (key ++ (equals ∷ [])) (other ++ (equals ∷ [])) (fields width) (fields_text ns ++ rest) e

pub line_end : (key : List ℕ) (width : ℕ) → line key width [] ≡ missing
unfolding line
line_end [] width = past_end equals [] (fields width)
line_end (b ∷ key) width = past_end b (key ++ (equals ∷ [])) (fields width)
