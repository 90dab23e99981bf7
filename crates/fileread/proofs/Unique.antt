-- The contract determines the answer: two answers, and two final memories, that the contract of `read` allows are equal, and so are
-- two results.
-- Assumes nothing.
use mathlib.Core.Path.{◌≡◌, sym, ap, ◌∙◌}
use mathlib.Core.List.{List}
use Prim.Native.Nat.{ℕ}
use Rattle.std.specs.Prelude.{Result, Ok, Err}
use Rattle.answer.specs.declared.Refused.{Refused}
use Rattle.answer.proofs.Results.{refused_by_answer, refused_some}
use Rattle.tables.specs.Shape.{Tables}
use Rattle.fileread.specs.declared.Held.{Held}
use Rattle.fileread.specs.Calls.{Reading, held_reading, Reads}

pub read_unique : (text : List ℕ) (lent after after' : Tables) (r r' : Reading) → Reads text lent after r → Reads text lent after' r'
    → (r ≡ r') × (after ≡ after')
read_unique text lent after after' r r' a b = (a.answers ∙ sym b.answers, a.stores ∙ sym b.stores)

-- what a result stands for leaves no choice of the result
pub reading_unique : (r s : Result Held Refused) → held_reading r ≡ held_reading s → r ≡ s
reading_unique (Ok h) (Ok k) e =
    let head : h.head ≡ k.head = ap (λ (w : Reading). w.head) e in
    let counts : h.counts ≡ k.counts = ap (λ (w : Reading). w.counts) e in
    λ i. Ok (record { head = head i; counts = counts i })
reading_unique (Ok h) (Err s) e = absurd (refused_some s (ap (λ (w : Reading). w.answer.number) (sym e)))
reading_unique (Err r) (Ok k) e = absurd (refused_some r (ap (λ (w : Reading). w.answer.number) e))
reading_unique (Err r) (Err s) e = ap Err (refused_by_answer r s (ap (λ (w : Reading). w.answer) e))

pub read_results_unique : (text : List ℕ) (lent after after' : Tables) (r s : Result Held Refused)
    → Reads text lent after (held_reading r) → Reads text lent after' (held_reading s) → (r ≡ s) × (after ≡ after')
read_results_unique text lent after after' r s a b =
    let same = read_unique text lent after after' (held_reading r) (held_reading s) a b in
    (reading_unique r s same.0, same.1)
