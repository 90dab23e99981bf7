-- What is promised of every check, beyond its definition. What it says is `meaning` of its answer. Nothing else stands here; the
-- proofs cite `Reasons`, `Verdicts`, `Sayings` and `Passing`.
-- Assumes nothing.
use mathlib.Core.Path.{◌≡◌}
use mathlib.Core.Logic.Iff
use mathlib.Core.Logic.{◌⊎◌, ◌↔◌, ◌≢◌}
use mathlib.Core.List.{List}
use Prim.Native.Nat.{ℕ, ◌≤◌, ◌<◌}
use native.Mathlib.Omega.{arith}
use lib.ListN.{length, take}
use Rattle.lists.specs.Sums.{at, total}
use Rattle.closeness.specs.Closeness.{distance, Closest}
use Rattle.division.specs.Limits.{most_weights, pot_limit, weight_limit, divide_refusal}
use Rattle.division.specs.Shares.{shares, Divided}
use Rattle.verdict.specs.Check.{check_refusal, verdict, yes, no, neither, meaning, verdict_answer}
use Rattle.verdict.specs.Refused.{FineCheck, CheckRefused}
use Rattle.verdict.proofs.Reasons as reasons
use Rattle.verdict.proofs.Verdicts as verdicts
use Rattle.verdict.proofs.Sayings as sayings
use Rattle.verdict.proofs.Passing as passing

-- a good check is never refused, and no other is accepted: at most 64 weights, as many amounts, a pot and a sum of weights
-- within their limits, and a sum above zero unless the pot is zero
pub check_accepts : (pot : ℕ) (weights amounts : List ℕ) → (check_refusal pot weights amounts ≡ 0) ↔ FineCheck pot weights amounts
check_accepts = passing.check_accepts

-- a check is refused with a number exactly when that is the number of the first of COUNT, BIG, BASE that holds
pub check_refused_why : (pot : ℕ) (weights amounts : List ℕ) (n : ℕ)
    → ((check_refusal pot weights amounts ≡ n) × (n ≢ 0)) ↔ CheckRefused pot weights amounts n
check_refused_why pot weights amounts n = (reasons.check_why pot weights amounts n, reasons.why_check pot weights amounts n)

-- "table and row are 0" in the answer of every check
pub check_answers : (pot : ℕ) (weights amounts : List ℕ)
    → verdict_answer (verdict pot weights amounts) ≡ record { number = check_refusal pot weights amounts; table = 0; row = 0 }
check_answers pot weights amounts = λ i. record { number = verdicts.its_number pot weights amounts i; table = 0; row = 0 }

-- "A refused check says neither yes nor no": it says neither exactly when it is refused ..
pub neither_means_refused : (pot : ℕ) (weights amounts : List ℕ)
    → ((meaning (verdict pot weights amounts)).says ≡ neither) ↔ (¬ FineCheck pot weights amounts)
neither_means_refused pot weights amounts =
    Iff.trans
    (sayings.neither_refused pot weights amounts, sayings.refused_says_neither pot weights amounts)
    (Iff.not (check_accepts pot weights amounts))

-- .. and neither with a number exactly when it is refused with that number
pub refused_says_neither : (pot : ℕ) (weights amounts : List ℕ) (n : ℕ)
    → (((meaning (verdict pot weights amounts)).says ≡ neither) × ((meaning (verdict pot weights amounts)).number ≡ n))
    ↔ CheckRefused pot weights amounts n
refused_says_neither = passing.refused_exactly

-- a check within the limits: at most 64 weights, as many amounts, a pot of at most 10^11, weights that add up to at most 10^13
module _ (pot : ℕ) (weights amounts : List ℕ) (few : length weights ≤ most_weights) (alike : length weights ≡ length amounts)
    (pot_fits : pot ≤ pot_limit) (weights_fit : total weights ≤ weight_limit)
  where
    -- for weights that add up to more than zero it says yes exactly when the amounts add up to the pot and no list of whole
    -- numbers of the same length with that sum lies closer to the exact shares ..
    pub yes_means_closest : 0 < total weights
        → ((meaning (verdict pot weights amounts)).says ≡ yes) ↔ ((total amounts ≡ pot) × Closest pot weights amounts)
    yes_means_closest some =
        passing.fine_yes pot weights amounts (passing.within_limits pot weights amounts few alike pot_fits weights_fit (λ none. absurd (omega arith)))

    -- .. and no exactly when they do not
    pub no_means_not_closest : 0 < total weights
        → ((meaning (verdict pot weights amounts)).says ≡ no) ↔ (¬ ((total amounts ≡ pot) × Closest pot weights amounts))
    no_means_not_closest some =
        passing.fine_no pot weights amounts (passing.within_limits pot weights amounts few alike pot_fits weights_fit (λ none. absurd (omega arith)))

    -- it says one or the other, also where pot and weights are zero
    pub yes_or_no : (total weights ≡ 0 → pot ≡ 0)
        → ((meaning (verdict pot weights amounts)).says ≡ yes) ⊎ ((meaning (verdict pot weights amounts)).says ≡ no)
    yes_or_no base =
        passing.yes_or_no pot weights amounts (passing.within_limits pot weights amounts few alike pot_fits weights_fit base)

-- each amount that it passes is less than one cent from its exact share
pub passed_within_a_cent : (pot : ℕ) (weights amounts : List ℕ) → 0 < total weights → (meaning (verdict pot weights amounts)).says ≡ yes
    → (i : ℕ) → i < length weights → distance pot weights amounts i < total weights
passed_within_a_cent = passing.passed_within_a_cent

-- it passes every division that we make ..
pub divisions_pass : (pot : ℕ) (weights : List ℕ) (room : ℕ) → divide_refusal pot weights room ≡ 0
    → (meaning (verdict pot weights (shares pot weights))).says ≡ yes
divisions_pass = passing.divisions_pass

-- .. as `divide` leaves it in the first of the lent words
pub written_divisions_pass : (pot : ℕ) (weights before after : List ℕ) (r : ℕ) → Divided pot weights before after r
    → r ≡ 0 → (meaning (verdict pot weights (take (length weights) after))).says ≡ yes
written_divisions_pass = passing.written_divisions_pass

-- "For W and P both zero it says yes exactly when all amounts are zero"
pub no_base_no_amounts : (weights amounts : List ℕ) → length weights ≤ most_weights → length weights ≡ length amounts → total weights ≡ 0
    → ((meaning (verdict 0 weights amounts)).says ≡ yes) ↔ ((i : ℕ) → at amounts i ≡ 0)
no_base_no_amounts weights amounts few alike none =
    passing.no_base_no_amounts weights amounts
    (passing.within_limits 0 weights amounts few alike (omega arith) (omega arith) (λ z. omega arith)) none
