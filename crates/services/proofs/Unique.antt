-- The contract determines the answer: two answers, and two final columns, that it allows are equal.
-- Assumes nothing.
use mathlib.Core.Path.{◌≡◌, sym, ◌∙◌}
use mathlib.Core.List.{List}
use Prim.Native.Nat.{ℕ}
use Rattle.answer.specs.declared.Answer.{Answer}
use Rattle.service.proofs.Unique.{charge_unique}
use Rattle.pool.specs.Input.{Input}
use Rattle.services.specs.Settled.{service_from, ServiceSettled}

-- `settle`
pub service_settled_unique : (m : Input) (network energy : ℕ → ℕ) (s place : ℕ) (charges charges₁ charges₂ credits credits₁ credits₂ : List ℕ) (r₁ r₂ : Answer)
    → ServiceSettled m network energy s place charges charges₁ credits credits₁ r₁
    → ServiceSettled m network energy s place charges charges₂ credits credits₂ r₂ → (r₁ ≡ r₂) × (charges₁ ≡ charges₂) × (credits₁ ≡ credits₂)
service_settled_unique m network energy s place charges charges₁ charges₂ credits credits₁ credits₂ r₁ r₂ a b =
    let same = charge_unique (service_from m network energy s) place charges charges₁ charges₂ r₁ r₂ a.served b.served in
    (same.0, same.1, a.credited ∙ sym b.credited)
