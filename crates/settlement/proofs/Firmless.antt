-- Firm service changes no other figure, and without it there is no firm figure.
-- Assumes nothing.
use mathlib.Core.Path.{◌≡◌, refl}
use Prim.Native.Nat.{ℕ, zero, suc, ◌<◌}
use native.Mathlib.Nat.{not-suc-le-zero}
use native.Mathlib.Omega.{arith}
use Rattle.pool.specs.Input.{Input}
use Rattle.pool.specs.Accounts.{contributions, network_use, energy_use}
use Rattle.pool.specs.Network.{rate, network_charge, charges_in, network_credit, requirements, nonzone_credit}
use Rattle.pool.specs.Services.{unit_credit, credit_in, service_credit, zone_credits, service_charge}
use Rattle.firm.specs.Firm.{firm_charge}
use Rattle.firm.proofs.Promises.{no_row_no_charge}
use Rattle.settlement.specs.Settled.{charge_of, credit_of}
use Rattle.settlement.specs.Firmless.{firmless}

module _ (m : Input) where
  pub same_charges : (column : ℕ) → column < 3 → (a : ℕ) → charge_of m column a ≡ charge_of (firmless m) column a
  unfolding charge_of network_charge contributions rate service_charge network_use energy_use zone_credits credit_in unit_credit
  same_charges zero h a = refl
  same_charges (suc zero) h a = refl
  same_charges (suc (suc zero)) h a = refl
  same_charges (suc (suc (suc column))) h a = absurd (omega (arith, h))

  pub same_credits : (column : ℕ) → column < 4 → (o : ℕ) → credit_of m column o ≡ credit_of (firmless m) column o
  unfolding credit_of network_credit nonzone_credit charges_in network_charge contributions rate requirements service_credit credit_in unit_credit
  same_credits zero h o = refl
  same_credits (suc zero) h o = refl
  same_credits (suc (suc zero)) h o = refl
  same_credits (suc (suc (suc zero))) h o = refl
  same_credits (suc (suc (suc (suc column)))) h o = absurd (omega (arith, h))

  pub no_firm_charge : (a : ℕ) → firm_charge (firmless m) a ≡ 0
  unfolding firm_charge
  no_firm_charge a = no_row_no_charge _ _ _ (λ i b. absurd (not-suc-le-zero b))
