-- An outcome that was given a place: what was found and what was refused is the outcome's own.
-- Assumes nothing.
use Rattle.std.specs.Prelude.{◌≡◌, ◌≢◌, ℕ, Result, Ok, Err}
use Rattle.std.proofs.Common.{ap, ◌∙◌}
use Rattle.answer.specs.declared.Refusal.{Refusal}
use Rattle.answer.specs.declared.Part.{Part}
use Rattle.answer.specs.declared.Refused.{Refused}
use Rattle.answer.specs.Numbers.{part_number}
use Rattle.answer.specs.Turns.{refuse}
use Rattle.answer.specs.Results.{refused_answer, result_answer, result_number, place_result}
use Rattle.answer.proofs.Results.{refusal_number_some, placed_answer}

-- what is handed on was found
pub placed_found : {A : Type 0} → (outcome : Result A Refusal) (part : Part) (row : ℕ) (x : A)
    → Ok x ≡ place_result outcome part row → outcome ≡ Ok x
placed_found (Ok y) part row x e = cc
placed_found (Err r) part row x e = cc

-- what is refused was refused ..
pub placed_some : {A : Type 0} → (outcome : Result A Refusal) (part : Part) (row : ℕ) (r : Refused)
    → Err r ≡ place_result outcome part row → result_number outcome ≢ 0
placed_some (Ok y) part row r e = cc
placed_some (Err s) part row r e = refusal_number_some s

-- .. and its number stands at that place
pub placed_refuses : {A : Type 0} → (outcome : Result A Refusal) (part : Part) (row : ℕ) (r : Refused)
    → Err r ≡ place_result outcome part row → refused_answer r ≡ refuse (result_number outcome) (part_number part) row
placed_refuses outcome part row r e = ap result_answer e ∙ placed_answer outcome part row
