-- The contract determines the answer: two answers, and two final memories, that the contract of `write` allows are equal, and so are
-- two results.
-- Assumes nothing.
use mathlib.Core.Path.{◌≡◌, sym, ap, ◌∙◌}
use mathlib.Core.List.{List}
use Prim.Native.Nat.{ℕ}
use Rattle.std.specs.Prelude.{Result, Ok, Err}
use Rattle.answer.specs.declared.Refused.{Refused}
use Rattle.answer.proofs.Results.{refused_by_answer, refused_some}
use Rattle.tables.specs.declared.Head.{Head}
use Rattle.tables.specs.Shape.{Tables}
use Rattle.filewrite.specs.Calls.{Written, written_of, Writes}

pub write_unique : (head : Head) (t : Tables) (lent after after' : List ℕ) (r r' : Written) → Writes head t lent after r → Writes head t lent after' r'
    → (r ≡ r') × (after ≡ after')
write_unique head t lent after after' r r' a b =
    let answer : r.answer ≡ r'.answer = a.answers ∙ sym b.answers in
    let size : r.length ≡ r'.length = a.length_is ∙ sym b.length_is in
    ((λ i. record { answer = answer i; length = size i }), a.stores ∙ sym b.stores)

-- what a result stands for leaves no choice of the result
pub written_unique : (r s : Result ℕ Refused) → written_of r ≡ written_of s → r ≡ s
written_unique (Ok n) (Ok m) e = ap Ok (ap (λ (w : Written). w.length) e)
written_unique (Ok n) (Err s) e = absurd (refused_some s (ap (λ (w : Written). w.answer.number) (sym e)))
written_unique (Err r) (Ok m) e = absurd (refused_some r (ap (λ (w : Written). w.answer.number) e))
written_unique (Err r) (Err s) e = ap Err (refused_by_answer r s (ap (λ (w : Written). w.answer) e))

pub write_results_unique : (head : Head) (t : Tables) (lent after after' : List ℕ) (r s : Result ℕ Refused)
    → Writes head t lent after (written_of r) → Writes head t lent after' (written_of s) → (r ≡ s) × (after ≡ after')
write_results_unique head t lent after after' r s a b =
    let same = write_unique head t lent after after' (written_of r) (written_of s) a b in
    (written_unique r s same.0, same.1)
