-- The contract determines the answer: two answers, and two final memories, that the contract of `divide` allows are equal: by their
-- numbers, and as results.
-- Assumes nothing.
use mathlib.Core.Path.{◌≡◌, sym, ◌∙◌}
use mathlib.Core.List.{List}
use Prim.Native.Nat.{ℕ}
use Rattle.std.specs.Prelude.{Result}
use Rattle.answer.specs.declared.Refusal.{Refusal}
use Rattle.answer.specs.Results.{result_number}
use Rattle.answer.proofs.Results.{result_number_unique}
use Rattle.division.specs.Shares.{Divided}

pub divide_unique : (pot : ℕ) (weights before after after' : List ℕ) (r r' : ℕ)
    → Divided pot weights before after r → Divided pot weights before after' r' → (r ≡ r') × (after ≡ after')
divide_unique pot weights before after after' r r' d d' = (d.number ∙ sym d'.number, d.lent ∙ sym d'.lent)

pub divide_results_unique : (pot : ℕ) (weights before after after' : List ℕ) (r r' : Result (Unit {0}) Refusal)
    → Divided pot weights before after (result_number r) → Divided pot weights before after' (result_number r') → (r ≡ r') × (after ≡ after')
divide_results_unique pot weights before after after' r r' d d' =
    (result_number_unique r r' (d.number ∙ sym d'.number), d.lent ∙ sym d'.lent)
