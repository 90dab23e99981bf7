-- What is promised of every division, beyond its definition. Nothing else stands here; the proofs cite `Parts`, `Refusals`, `Reasons`
-- and `Passing`.
-- Assumes nothing.
use mathlib.Core.Path.{◌≡◌, sym, ap, ◌∙◌}
use mathlib.Core.Logic.{◌⊎◌, ◌↔◌, ◌≢◌}
use mathlib.Core.Bool.{true}
use mathlib.Core.List.{List, ◌++◌}
use Prim.Native.Nat.{ℕ, ◌+◌, ◌≤◌, ◌<◌}
use lib.ListN.{length, drop}
use Rattle.lists.specs.Sums.{at, total, count, bit}
use Rattle.std.specs.Prelude.{Result}
use Rattle.answer.specs.declared.Refusal.{Refusal}
use Rattle.answer.specs.declared.Part.TheVariants.{Head}
use Rattle.answer.specs.Numbers.{HEAD}
use Rattle.answer.specs.Turns.{refuse}
use Rattle.answer.specs.Results.{result_number, result_answer, place_result}
use Rattle.answer.proofs.Results.{placed_answer}
use Rattle.closeness.specs.Closeness.{distance}
use Rattle.division.specs.Limits.{most_weights, divide_refusal}
use Rattle.division.specs.Shares.{quotient, remainder, leftover, gets_cent, share, shares, Divided}
use Rattle.division.specs.Refused.{FineSize, DivideRefused}
use Rattle.division.proofs.Refusals.{memory_accepted, memory_refused, refuse_nowhere}
use Rattle.division.proofs.Reasons as reasons
use Rattle.division.proofs.Parts as parts
use Rattle.division.proofs.Passing as passing

-- a good division is never refused, and no other is accepted: at most 64 weights, as many words of room, a pot and a sum
-- of weights within their limits, and a sum above zero unless the pot is zero
pub divide_accepts : (pot : ℕ) (weights : List ℕ) (room : ℕ)
    → (divide_refusal pot weights room ≡ 0)
    ↔ ((length weights ≤ most_weights) × (length weights ≤ room) × FineSize pot (total weights))
divide_accepts = passing.divide_accepts

-- a division is refused with a number exactly when that is the number of the first of COUNT, ROOM, BIG, BASE that holds
pub divide_refused_why : (pot : ℕ) (weights : List ℕ) (room n : ℕ)
    → ((divide_refusal pot weights room ≡ n) × (n ≢ 0)) ↔ DivideRefused pot weights room n
divide_refused_why pot weights room n = (reasons.divide_why pot weights room n, reasons.why_divide pot weights room n)

-- "table and row are 0" in the answer of every division
pub divide_answers : (pot : ℕ) (weights before after : List ℕ) (r : Result (Unit {0}) Refusal) → Divided pot weights before after (result_number r)
    → result_answer (place_result r Head 0) ≡ record { number = divide_refusal pot weights (length before); table = 0; row = 0 }
divide_answers pot weights before after r d =
    placed_answer r Head 0
    ∙ ap (λ n. refuse n HEAD 0) d.number
    ∙ refuse_nowhere (divide_refusal pot weights (length before))

-- "A refusal writes to no lent memory" ..
pub refused_writes_nothing : (pot : ℕ) (weights before after : List ℕ) (r : ℕ) → Divided pot weights before after r
    → r ≢ 0 → after ≡ before
refused_writes_nothing pot weights before after r d n = d.lent ∙ memory_refused pot weights before (λ z. n (d.number ∙ z))

-- .. and acceptance the shares alone, with what was lent behind them
pub accepted_writes_shares : (pot : ℕ) (weights before after : List ℕ) (r : ℕ) → Divided pot weights before after r
    → r ≡ 0 → after ≡ shares pot weights ++ drop (length weights) before
accepted_writes_shares pot weights before after r d z = d.lent ∙ memory_accepted pot weights before (sym d.number ∙ z)

-- the shares add up to the pot
pub shares_add_up : (pot : ℕ) (weights : List ℕ) → 0 < total weights → total (shares pot weights) ≡ pot
shares_add_up = passing.shares_add_up

-- "W zero with P zero gives all zeros"
pub no_pot_no_shares : (weights : List ℕ) (i : ℕ) → at (shares 0 weights) i ≡ 0
no_pot_no_shares = passing.no_pot_no_shares

-- each share is its quotient or one cent more ..
pub quotient_or_one_more : (pot : ℕ) (weights : List ℕ) (i : ℕ)
    → (share pot weights i ≡ quotient pot weights i) ⊎ (share pot weights i ≡ quotient pot weights i + 1)
quotient_or_one_more = passing.quotient_or_one_more

-- .. and less than one cent from the exact share
pub share_within_a_cent : (pot : ℕ) (weights : List ℕ) → 0 < total weights
    → (i : ℕ) → i < length weights → distance pot weights (shares pot weights) i < total weights
share_within_a_cent = passing.share_within_a_cent

-- "The cents left over go one each": as many positions get a cent as there are cents left over ..
pub leftover_cents_go_one_each : (pot : ℕ) (weights : List ℕ) → 0 < total weights
    → count (length weights) (gets_cent pot weights) ≡ leftover pot weights
leftover_cents_go_one_each = parts.winners

-- ".. to the largest remainders, lower position first among equals": where a position gets one, every position with a larger
-- remainder gets one, and every lower position with an equal remainder
pub leftover_cents_to_the_largest : (pot : ℕ) (weights : List ℕ) → 0 < total weights
    → (i j : ℕ) → i < length weights → j < length weights
    → (remainder pot weights i < remainder pot weights j) ⊎ ((remainder pot weights i ≡ remainder pot weights j) × (j < i))
    → gets_cent pot weights i ≡ true → gets_cent pot weights j ≡ true
leftover_cents_to_the_largest = passing.leftover_cents_to_the_largest

-- a share is the quotient, with one cent more exactly where the position gets one
pub share_and_cent : (pot : ℕ) (weights : List ℕ) (i : ℕ) → share pot weights i ≡ quotient pot weights i + bit (gets_cent pot weights i)
share_and_cent = parts.share_is
