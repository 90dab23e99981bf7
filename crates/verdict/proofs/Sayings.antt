-- What a check says tells whether it is refused and whether its amounts pass: each of the three cases says something else.
-- Assumes nothing.
use mathlib.Core.Path.{◌≡◌, refl, sym, ap, ◌∙◌}
use mathlib.Core.Logic.{◌⊎◌, inl, inr, ◌≢◌}
use mathlib.Core.Bool.{true, false, cond}
use mathlib.Core.List.{List}
use Prim.Native.Nat.{ℕ}
use native.Mathlib.Omega.{arith}
use Rattle.lists.proofs.Ranks.{true_or_false}
use Rattle.answer.proofs.Turns.{zero_or_not}
use Rattle.verdict.specs.Check.{check_refusal, passes, verdict, yes, no, neither, meaning, Yes, No}
use Rattle.verdict.proofs.Verdicts as verdicts

module _ (pot : ℕ) (weights amounts : List ℕ) where
  pub passed_says_yes : check_refusal pot weights amounts ≡ 0 → passes pot weights amounts ≡ true
      → (meaning (verdict pot weights amounts)).says ≡ yes
  passed_says_yes e p = ap (λ v. (meaning v).says) (verdicts.said pot weights amounts e ∙ ap (λ t. cond t Yes No) p)

  pub failed_says_no : check_refusal pot weights amounts ≡ 0 → passes pot weights amounts ≡ false
      → (meaning (verdict pot weights amounts)).says ≡ no
  failed_says_no e p = ap (λ v. (meaning v).says) (verdicts.said pot weights amounts e ∙ ap (λ t. cond t Yes No) p)

  pub refused_says_neither : check_refusal pot weights amounts ≢ 0 → (meaning (verdict pot weights amounts)).says ≡ neither
  refused_says_neither d =
      ap (λ v. (meaning v).says) (sym (verdicts.refused pot weights amounts (check_refusal pot weights amounts) refl d))

  -- one of these is there, so each is known by what it says
  pub yes_passed : (meaning (verdict pot weights amounts)).says ≡ yes
      → (check_refusal pot weights amounts ≡ 0) × (passes pot weights amounts ≡ true)
  yes_passed s = go (zero_or_not (check_refusal pot weights amounts)) (true_or_false (passes pot weights amounts))
    where
      go : (check_refusal pot weights amounts ≡ 0) ⊎ (check_refusal pot weights amounts ≢ 0)
          → (passes pot weights amounts ≡ true) ⊎ (passes pot weights amounts ≡ false)
          → (check_refusal pot weights amounts ≡ 0) × (passes pot weights amounts ≡ true)
      go (inl e) (inl p) = (e, p)
      go (inl e) (inr f) = let z : ◌≡◌ {A = ℕ} 0 1 = cc (failed_says_no e f) in absurd (omega arith)
      go (inr d) p = let z : ◌≡◌ {A = ℕ} 0 1 = cc (refused_says_neither d) in absurd (omega arith)

  pub no_failed : (meaning (verdict pot weights amounts)).says ≡ no
      → (check_refusal pot weights amounts ≡ 0) × (passes pot weights amounts ≡ false)
  no_failed s = go (zero_or_not (check_refusal pot weights amounts)) (true_or_false (passes pot weights amounts))
    where
      go : (check_refusal pot weights amounts ≡ 0) ⊎ (check_refusal pot weights amounts ≢ 0)
          → (passes pot weights amounts ≡ true) ⊎ (passes pot weights amounts ≡ false)
          → (check_refusal pot weights amounts ≡ 0) × (passes pot weights amounts ≡ false)
      go (inl e) (inl p) = let z : ◌≡◌ {A = ℕ} 0 1 = cc (passed_says_yes e p) in absurd (omega arith)
      go (inl e) (inr f) = (e, f)
      go (inr d) p = let z : ◌≡◌ {A = ℕ} 0 1 = cc (refused_says_neither d) in absurd (omega arith)

  pub neither_refused : (meaning (verdict pot weights amounts)).says ≡ neither → check_refusal pot weights amounts ≢ 0
  neither_refused s e = go (true_or_false (passes pot weights amounts))
    where
      go : (passes pot weights amounts ≡ true) ⊎ (passes pot weights amounts ≡ false) → ⊥
      go (inl p) = let z : ◌≡◌ {A = ℕ} 0 1 = cc (passed_says_yes e p) in omega arith
      go (inr f) = let z : ◌≡◌ {A = ℕ} 0 1 = cc (failed_says_no e f) in omega arith
