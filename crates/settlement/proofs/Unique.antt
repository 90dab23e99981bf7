-- The contract determines the answer and both outputs: what it allows twice is the same.
-- Assumes nothing.
use mathlib.Core.Path.{◌≡◌, sym, ap, ◌∙◌}
use mathlib.Core.Bool.{cond}
use mathlib.Core.List.{List}
use lib.Dec.{eqb}
use Rattle.answer.specs.declared.Answer.{Answer}
use Rattle.pool.specs.Input.{Input}
use Rattle.settlement.specs.Settled.{charge_words, credit_words, Settled}

pub settle_unique : (m : Input) (charges charges₁ charges₂ credits credits₁ credits₂ : List _) (r₁ r₂ : Answer)
    → Settled m charges charges₁ credits credits₁ r₁ → Settled m charges charges₂ credits credits₂ r₂
    → (r₁ ≡ r₂) × (charges₁ ≡ charges₂) × (credits₁ ≡ credits₂)
settle_unique m charges charges₁ charges₂ credits credits₁ credits₂ r₁ r₂ a b =
    let same : r₁ ≡ r₂ = a.answer ∙ sym b.answer in (
      same,
      a.charges_lent ∙ ap (λ (r : Answer). cond (eqb r.number 0) (charge_words m charges) charges) same ∙ sym b.charges_lent,
      a.credits_lent ∙ ap (λ (r : Answer). cond (eqb r.number 0) (credit_words m credits) credits) same ∙ sym b.credits_lent,
    )
