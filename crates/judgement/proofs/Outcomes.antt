-- The month, or the refusal: which of the two an answer gives, and what either says of the answer.
-- Assumes nothing.
use mathlib.Core.Path.{◌≡◌, sym, ◌∙◌}
use mathlib.Core.Logic.{⊎_elim, ◌≢◌}
use Prim.Native.Nat.{ℕ}
use native.Mathlib.Omega.{arith}
use borrow.Author.Tests.{eq-eqb, ne_eqb}
use Rattle.answer.specs.declared.Answer.{Answer}
use Rattle.answer.proofs.Turns.{zero_or_not}
use Rattle.month.specs.declared.Month.{Month}
use Rattle.judgement.specs.Judgement.{Good, Refused, good_or}

pub good_given : (month : Month) (a : Answer) → a.number ≡ 0 → good_or month a ≡ Good month
unfolding good_or
good_given month a z = rw (eq-eqb a.number 0 z)

pub refused_given : (month : Month) (a : Answer) → a.number ≢ 0 → good_or month a ≡ Refused a
unfolding good_or
refused_given month a d = rw (ne_eqb a.number 0 d)

pub good_told : (month m : Month) (a : Answer) → good_or month a ≡ Good m → (a.number ≡ 0) × (m ≡ month)
good_told month m a e =
    ⊎_elim
    (λ (z : a.number ≡ 0). let same : Good month ≡ Good m = sym (good_given month a z) ∙ e in (z, cc))
    (λ (d : a.number ≢ 0).
    let other : Refused a ≡ Good m = sym (refused_given month a d) ∙ e in
    let never : ◌≡◌ {A = ℕ} 0 1 = cc in
    absurd (omega arith))
    (zero_or_not a.number)

pub refused_told : (month : Month) (a b : Answer) → good_or month a ≡ Refused b → (a.number ≢ 0) × (a ≡ b)
refused_told month a b e =
    ⊎_elim
    (λ (z : a.number ≡ 0).
    let other : Good month ≡ Refused b = sym (good_given month a z) ∙ e in
    let never : ◌≡◌ {A = ℕ} 0 1 = cc in
    absurd (omega arith))
    (λ (d : a.number ≢ 0). let same : Refused a ≡ Refused b = sym (refused_given month a d) ∙ e in (d, cc))
    (zero_or_not a.number)
