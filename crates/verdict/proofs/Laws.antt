-- What the crates above may cite of a check, and nothing else: its numbers, what is refused for its counts, when it says yes, no
-- and neither, and that it passes the shares of a division.
-- Assumes nothing.
use mathlib.Core.Path.{◌≡◌, sym}
use mathlib.Core.Logic.{◌↔◌, ◌≢◌}
use mathlib.Core.List.{List}
use Prim.Native.Nat.{ℕ, ◌≤◌, ◌<◌}
use native.Mathlib.Omega.{arith}
use lib.ListN.{length}
use Rattle.lists.specs.Sums.{total}
use Rattle.answer.specs.Numbers.{COUNT, BASE}
use Rattle.closeness.specs.Closeness.{Closest}
use Rattle.division.specs.Limits.{most_weights}
use Rattle.division.proofs.Laws.{zero_or_within}
use Rattle.verdict.specs.Check.{verdict, yes, no, meaning, Refused}
use Rattle.verdict.specs.Refused.{FineCheck, CheckRefused}
use Rattle.verdict.proofs.Verdicts as verdicts
use Rattle.verdict.proofs.Reasons as reasons
use Rattle.verdict.proofs.Sayings as sayings
use Rattle.verdict.proofs.Passing as passing
-- what a refused check says, that shares pass, and what passes
pub use Rattle.verdict.proofs.Passing.{refused_exactly, divisions_pass, passed_within_a_cent, no_base_no_amounts}

-- no refusal has a number above BASE, and none has 0
pub check_number : (pot : ℕ) (weights amounts : List ℕ) → (meaning (verdict pot weights amounts)).number ≤ BASE
check_number pot weights amounts =
    let n = (meaning (verdict pot weights amounts)).number in
    zero_or_within n
    (λ d.
    reasons.check_within pot weights amounts n
    (reasons.check_why pot weights amounts n (sym (verdicts.its_number pot weights amounts), d)))

pub refused_number : (pot : ℕ) (weights amounts : List ℕ) (n : ℕ) → CheckRefused pot weights amounts n → (n ≢ 0) × (n ≤ BASE)
refused_number pot weights amounts n why = ((reasons.why_check pot weights amounts n why).1, reasons.check_within pot weights amounts n why)

-- a check of more than 64 weights, or of another number of amounts than weights, is refused with COUNT
pub check_many_weights : (pot : ℕ) (weights amounts : List ℕ) → most_weights < length weights → verdict pot weights amounts ≡ Refused COUNT
check_many_weights pot weights amounts h =
    sym (verdicts.refused pot weights amounts COUNT (verdicts.too_many pot weights amounts h) (λ e. omega arith))

pub check_unlike : (pot : ℕ) (weights amounts : List ℕ) → length weights ≤ most_weights → length amounts ≢ length weights
    → verdict pot weights amounts ≡ Refused COUNT
check_unlike pot weights amounts few d =
    sym (verdicts.refused pot weights amounts COUNT (verdicts.unlike pot weights amounts few d) (λ e. omega arith))

-- a check says yes exactly when nothing is refused and the amounts are a closest list, and no when nothing is and they are not
pub yes_exactly : (pot : ℕ) (weights amounts : List ℕ)
    → ((meaning (verdict pot weights amounts)).says ≡ yes)
    ↔ (FineCheck pot weights amounts × (total amounts ≡ pot) × Closest pot weights amounts)
yes_exactly pot weights amounts = (
  (λ s.
      let fine = (passing.check_accepts pot weights amounts).0 (sayings.yes_passed pot weights amounts s).0 in
      let closest = (passing.fine_yes pot weights amounts fine).0 s in
      (fine, closest.0, closest.1)),
  λ c. (passing.fine_yes pot weights amounts c.0).1 (c.1, c.2),
)

pub no_exactly : (pot : ℕ) (weights amounts : List ℕ)
    → ((meaning (verdict pot weights amounts)).says ≡ no)
    ↔ (FineCheck pot weights amounts × (¬ ((total amounts ≡ pot) × Closest pot weights amounts)))
no_exactly pot weights amounts = (
  (λ s.
      let fine = (passing.check_accepts pot weights amounts).0 (sayings.no_failed pot weights amounts s).0 in
      (fine, (passing.fine_no pot weights amounts fine).0 s)),
  λ c. (passing.fine_no pot weights amounts c.0).1 c.1,
)
