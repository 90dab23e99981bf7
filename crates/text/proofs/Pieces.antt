-- Fields written and measured one after the other: what is left from here on is what was to be written from the start.
-- Assumes nothing.
use mathlib.Core.Path.{◌≡◌, refl, sym, ap, ap₂, ◌∙◌}
use mathlib.Core.List.{List, [], ◌∷◌, ◌++◌}
use Prim.Native.Nat.{ℕ, suc, ◌+◌, ◌-◌, ◌≤◌, ◌<◌}
use native.Mathlib.Omega.{arith}
use lib.ListN.{length, drop, set, length-append, length-drop}
use Rattle.lists.specs.Sums.{at}
use Rattle.text.specs.Numbers.{decimal}
use Rattle.text.specs.Lines.{equals, separator, fields_text, line_text}
use Rattle.text.specs.Places.{stored, PutAt}
use Rattle.text.proofs.Places.{drop_next, drop_end}
use Rattle.text.proofs.Stores.{stored_append, stored_first, put_append, put_one}

pub text_none : fields_text [] ≡ []
unfolding fields_text
text_none = refl

text_first : (n : ℕ) (ns : List ℕ) → fields_text (n ∷ ns) ≡ decimal n ++ (separator (length ns) ∷ fields_text ns)
unfolding fields_text
text_first n ns = refl

pub length_key : (key ns : List ℕ) → length (line_text key ns) ≡ length key + 1 + length (fields_text ns)
unfolding line_text
length_key key ns =
    length-append (key ++ (equals ∷ [])) (fields_text ns) ∙ ap (λ k. k + length (fields_text ns)) (length-append key (equals ∷ []))

pub text_done : (ns : List ℕ) (k : ℕ) → length ns ≤ k → fields_text (drop k ns) ≡ []
text_done ns k h = ap fields_text (drop_end ns k h) ∙ text_none

module _ (ns : List ℕ) (k : ℕ) (h : k < length ns) where
  pub text_next : fields_text (drop k ns) ≡ decimal (at ns k) ++ (separator (length ns - (k + 1)) ∷ fields_text (drop (k + 1) ns))
  text_next =
      ap fields_text (drop_next ns k h)
      ∙ text_first (at ns k) (drop (k + 1) ns)
      ∙ ap (λ n. decimal (at ns k) ++ (separator n ∷ fields_text (drop (k + 1) ns))) (length-drop (k + 1) ns)

  pub length_next : length (fields_text (drop k ns)) ≡ length (decimal (at ns k)) + (1 + length (fields_text (drop (k + 1) ns)))
  length_next =
      ap length text_next
      ∙ length-append (decimal (at ns k)) (separator (length ns - (k + 1)) ∷ fields_text (drop (k + 1) ns))
      ∙ (let q : length (decimal (at ns k)) + suc (length (fields_text (drop (k + 1) ns)))
      ≡ length (decimal (at ns k)) + (1 + length (fields_text (drop (k + 1) ns))) = omega arith in q)

  pub put_next : (out : List ℕ) (i n behind : ℕ) (mid : List ℕ) → PutAt out i (decimal (at ns k)) n mid → behind ≡ separator (length ns - (k + 1))
      → stored (set mid n behind) (n + 1) (fields_text (drop (k + 1) ns)) ≡ stored out i (fields_text (drop k ns))
  put_next out i n behind mid w e =
      let tail : List ℕ = fields_text (drop (k + 1) ns) in
      ap (λ b. stored (set mid n b) (n + 1) tail) e
      ∙ sym (stored_first mid n (separator (length ns - (k + 1))) tail)
      ∙ ap₂ (λ l j. stored l j (separator (length ns - (k + 1)) ∷ tail)) w.written w.onward
      ∙ sym (stored_append out i (decimal (at ns k)) (separator (length ns - (k + 1)) ∷ tail))
      ∙ ap (stored out i) (sym text_next)

-- a key, its equals sign and the fields, one after the other
pub put_keyed : (out : List ℕ) (i : ℕ) (key ns : List ℕ) (n m : ℕ) (mid after : List ℕ) → PutAt out i key n mid
    → PutAt (set mid n equals) (n + 1) (fields_text ns) m after → PutAt out i (line_text key ns) m after
unfolding line_text
put_keyed out i key ns n m mid after p q =
    put_append out i (key ++ (equals ∷ [])) (fields_text ns) (n + 1) m (set mid n equals) after
    (put_append out i key (equals ∷ []) n (n + 1) mid (set mid n equals) p (put_one mid n equals)) q
