-- Why a check is refused: for each condition in turn, it holds and gives the number, or it does not and the next one is looked at.
-- Assumes nothing.
use mathlib.Core.Path.{◌≡◌, sym, ◌∙◌}
use mathlib.Core.Logic.{⊎_elim, ◌≢◌}
use mathlib.Core.Bool.{true, false}
use mathlib.Core.List.{List}
use Prim.Native.Nat.{ℕ, ◌≤◌, ◌<◌}
use native.Mathlib.Omega.{arith}
use lib.Dec.{eqb}
use lib.ListN.{length}
use borrow.Author.Tests.{eqb-true, eqb-false}
use Rattle.lists.specs.Sums.{total}
use Rattle.lists.proofs.Ranks.{lt_or_le, true_or_false}
use Rattle.answer.specs.Numbers.{BASE}
use Rattle.division.specs.Limits.{most_weights}
use Rattle.division.proofs.Laws as division
use Rattle.verdict.specs.Check.{check_refusal}
use Rattle.verdict.specs.Refused.{CheckRefused, by_many, by_unlike, by_sizes}
use Rattle.verdict.proofs.Verdicts as verdicts

module _ (pot : ℕ) (weights amounts : List ℕ) (n : ℕ) where
  pub check_why : (check_refusal pot weights amounts ≡ n) × (n ≢ 0) → CheckRefused pot weights amounts n
  check_why p =
      ⊎_elim
      (λ (many : most_weights < length weights). by_many (sym p.0 ∙ verdicts.too_many pot weights amounts many) many)
      (λ (few : length weights ≤ most_weights).
      ⊎_elim
      (λ (t : eqb (length weights) (length amounts) ≡ true).
      let like : length weights ≡ length amounts = eqb-true (length weights) (length amounts) t in
      by_sizes few like (division.size_why pot (total weights) n (sym (verdicts.by_size pot weights amounts few (sym like)) ∙ p.0) p.1))
      (λ (f : eqb (length weights) (length amounts) ≡ false).
      let other : length weights ≢ length amounts = eqb-false (length weights) (length amounts) f in
      by_unlike (sym p.0 ∙ verdicts.unlike pot weights amounts few (λ e. other (sym e))) other)
      (true_or_false (eqb (length weights) (length amounts))))
      (lt_or_le most_weights (length weights))

  pub why_check : CheckRefused pot weights amounts n → (check_refusal pot weights amounts ≡ n) × (n ≢ 0)
  why_check (by_many e many) = (verdicts.too_many pot weights amounts many ∙ sym e, λ z. omega arith)
  why_check (by_unlike e other) = (
    ⊎_elim
        (λ (many : most_weights < length weights). verdicts.too_many pot weights amounts many)
        (λ (few : length weights ≤ most_weights). verdicts.unlike pot weights amounts few (λ q. other (sym q)))
        (lt_or_le most_weights (length weights))
        ∙ sym e,
    λ z. omega arith,
  )
  why_check (by_sizes few like why) =
      let size = division.why_size pot (total weights) n why in (verdicts.by_size pot weights amounts few (sym like) ∙ size.0, size.1)

  pub check_within : CheckRefused pot weights amounts n → n ≤ BASE
  check_within (by_many e many) = omega arith
  check_within (by_unlike e other) = omega arith
  check_within (by_sizes few like why) = division.size_within pot (total weights) n why
