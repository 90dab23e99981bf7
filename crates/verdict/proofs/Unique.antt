-- The contract determines the answer: two answers that the contract of `check` allows are equal.
-- Assumes nothing.
use mathlib.Core.Path.{◌≡◌, sym, ap, ◌∙◌}
use mathlib.Core.Bool.{Bool, true, false}
use mathlib.Core.List.{List}
use Prim.Native.Nat.{ℕ}
use Rattle.std.specs.Prelude.{Result, Ok, Err}
use Rattle.answer.specs.declared.Refusal.{Refusal}
use Rattle.answer.proofs.Results.{refusal_by_number}
use Rattle.verdict.specs.Check.{Verdict, Yes, No, Refused, verdict_of, Checked}

-- the number of a refused check
its_number : Verdict → ℕ
its_number Yes = 0
its_number No = 0
its_number (Refused n) = n

-- a result is known by its verdict
one_result : (r r' : Result Bool Refusal) → verdict_of r ≡ verdict_of r' → r ≡ r'
unfolding its_number
one_result (Ok true) (Ok true) e = cc
one_result (Ok true) (Ok false) e = cc
one_result (Ok true) (Err s) e = cc
one_result (Ok false) (Ok true) e = cc
one_result (Ok false) (Ok false) e = cc
one_result (Ok false) (Err s) e = cc
one_result (Err r) (Ok true) e = cc
one_result (Err r) (Ok false) e = cc
one_result (Err r) (Err s) e = ap Err (refusal_by_number r s (ap its_number e))

pub check_unique : (pot : ℕ) (weights amounts : List ℕ) (r r' : Result Bool Refusal)
    → Checked pot weights amounts r → Checked pot weights amounts r' → r ≡ r'
check_unique pot weights amounts r r' e e' = one_result r r' (e ∙ sym e')
