-- `fileform::head::one_number` meets its contract.
-- Assumes nothing.
use mathlib.Core.Path.{◌≡◌, sym, ap, ◌∙◌}
use mathlib.Core.List.{List, [], ◌∷◌}
use Prim.Native.Nat.{ℕ}
use native.Mathlib.Omega.{arith}
use lib.ListN.{length}
use Rattle.lists.specs.Sums.{at}
use Rattle.text.specs.Numbers.{Found, found}
use Rattle.text.specs.Places.{fields_of, rest_of, stored}
use Rattle.text.proofs.Lines.{line_back}
use Rattle.text.proofs.Stores.{stored_one}
use Rattle.fileform.proofs.head.one_number.Goals as goal

-- a line with one field is that field, wherever it is stored
one_field : (o : Found (List ℕ)) (ns rest behind after : List ℕ) (room : ℕ) → o ≡ found ns rest → length ns ≡ 1 → rest_of o ≡ behind
    → after ≡ stored (room ∷ []) 0 (fields_of o) → o ≡ found (at after 0 ∷ []) behind
one_field o [] rest behind after room e h b w = absurd (omega arith)
one_field o (n ∷ []) rest behind after room e h b w =
    let its : at after 0 ≡ n = ap (λ l. at l 0) (w ∙ ap (λ q. stored (room ∷ []) 0 (fields_of q)) e ∙ stored_one (room ∷ []) 0 n) in
    e ∙ ap (λ k. found (k ∷ []) rest) (sym its) ∙ ap (found (at after 0 ∷ [])) (sym (ap rest_of e) ∙ b)
one_field o (n ∷ m ∷ ns) rest behind after room e h b w = absurd (omega arith)

pub returns : goal.returns
returns c =
    let a = c.args in
    let t = c.take_next_line-next in
    let there = c.in_ok-next_line.ensures in
    (t.ensures.inside, one_field _ there.1.0 _ _ t.new.words 0 there.1.1 (line_back a.key.now 1 _ _ _ there.1.1).width_is t.ensures.behind t.ensures.written)
