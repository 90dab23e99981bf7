-- The check's answer, from the tests that the code makes in turn.
-- Assumes nothing.
use mathlib.Core.Path.{◌≡◌, refl, sym, ap, ◌∙◌}
use mathlib.Core.Logic.{⊎_elim, ◌≢◌}
use mathlib.Core.Bool.{Bool, true, false, cond}
use mathlib.Core.List.{List}
use Prim.Native.Nat.{ℕ, ◌≤◌, ◌<◌}
use lib.ListN.{length}
use borrow.Author.Tests.{lt-ltb, le-ltb, eq-eqb, ne_eqb}
use Rattle.lists.specs.Sums.{total}
use Rattle.answer.proofs.Turns.{zero_or_not}
use Rattle.closeness.specs.Closeness.{level}
use Rattle.division.specs.Limits.{most_weights, size_refusal}
use Rattle.verdict.specs.Check.{check_refusal, passes, verdict, meaning, Yes, No, Refused}

module _ (pot : ℕ) (weights amounts : List ℕ) where
  pub too_many : most_weights < length weights → check_refusal pot weights amounts ≡ 1
  unfolding check_refusal
  too_many h = rw (lt-ltb most_weights (length weights) h)

  pub unlike : length weights ≤ most_weights → (length amounts ≡ length weights → ⊥) → check_refusal pot weights amounts ≡ 1
  unfolding check_refusal
  unlike h d = rw (le-ltb most_weights (length weights) h, ne_eqb (length weights) (length amounts) (λ e. d (sym e)))

  pub by_size : length weights ≤ most_weights → length amounts ≡ length weights → check_refusal pot weights amounts ≡ size_refusal pot (total weights)
  unfolding check_refusal
  by_size h e = rw (le-ltb most_weights (length weights) h, eq-eqb (length weights) (length amounts) (sym e))

  -- a refused check says its number
  pub refused : (number : ℕ) → check_refusal pot weights amounts ≡ number → (number ≡ 0 → ⊥) → Refused number ≡ verdict pot weights amounts
  unfolding verdict
  refused number e d =
      ap Refused (sym e) ∙ (rw (ne_eqb (check_refusal pot weights amounts) 0 (λ z. d (sym e ∙ z))))

  -- one that is not says whether the amounts pass
  pub said : check_refusal pot weights amounts ≡ 0 → verdict pot weights amounts ≡ cond (passes pot weights amounts) Yes No
  unfolding verdict
  said e = rw (eq-eqb (check_refusal pot weights amounts) 0 e)

  -- its number is the refusal's, 0 where nothing is refused
  pub its_number : (meaning (verdict pot weights amounts)).number ≡ check_refusal pot weights amounts
  its_number =
      ⊎_elim
      (λ (e : check_refusal pot weights amounts ≡ 0). ap (λ v. (meaning v).number) (said e) ∙ neither_refuses (passes pot weights amounts) ∙ sym e)
      (λ (d : check_refusal pot weights amounts ≢ 0). ap (λ v. (meaning v).number) (sym (refused (check_refusal pot weights amounts) refl d)))
      (zero_or_not (check_refusal pot weights amounts))
    where
      neither_refuses : (t : Bool) → (meaning (cond t Yes No)).number ≡ 0
      neither_refuses true = refl
      neither_refuses false = refl

  pub wrong_sum : (total amounts ≡ pot → ⊥) → passes pot weights amounts ≡ false
  unfolding passes
  wrong_sum d = rw (ne_eqb (total amounts) pot d)

  pub right_sum : total amounts ≡ pot → passes pot weights amounts ≡ level pot weights amounts
  unfolding passes
  right_sum e = rw (eq-eqb (total amounts) pot e)
