-- The parts of an account's use: the network part and the energy part make it up, and so do the zone part and the non-zone part.
-- Assumes nothing.
use mathlib.Core.Path.{◌≡◌, ap₂, ◌∙◌}
use mathlib.Core.Logic.{◌≢◌, ⊎_elim}
use Prim.Native.Nat.{ℕ, ◌+◌}
use native.Mathlib.Nat.{add_comm, zero-add, add-zero}
use native.Mathlib.Omega.{arith}
use borrow.Author.Tests.{eq-eqb, ne_eqb}
use Rattle.answer.proofs.Turns.{zero_or_not}
use Rattle.month.specs.Quantities.{use_of}
use Rattle.pool.specs.Input.{Input}
use Rattle.pool.specs.Accounts.{reserved, curtailed, account_use, network_use, energy_use}
use Rattle.pool.specs.Services.{zone_part, nonzone_part}

pub network_and_energy_add_up : (m : Input) (a : ℕ) → network_use m a + energy_use m a ≡ account_use m a
unfolding network_use energy_use account_use reserved curtailed use_of
network_and_energy_add_up m a = omega arith

-- what of a use, network and energy, is zone use and what is non-zone use: at the border, in a zone whose units have credits, and in
-- one whose units have none
module _ (zone credits network energy : ℕ) where
  pub at_border : zone ≡ 0 → (zone_part zone credits network energy ≡ 0) × (nonzone_part zone credits network energy ≡ network + energy)
  unfolding zone_part nonzone_part
  at_border e = let border = eq-eqb zone 0 e in (rw border, rw border)

  pub with_credits : zone ≢ 0 → credits ≢ 0 → (zone_part zone credits network energy ≡ network + energy) × (nonzone_part zone credits network energy ≡ 0)
  unfolding zone_part nonzone_part
  with_credits d some =
      let outside = ne_eqb zone 0 d in
      let credited = ne_eqb credits 0 some in (rw (outside, credited), rw (outside, credited))

  pub without_credits : zone ≢ 0 → credits ≡ 0 → (zone_part zone credits network energy ≡ energy) × (nonzone_part zone credits network energy ≡ network)
  unfolding zone_part nonzone_part
  without_credits d none =
      let outside = ne_eqb zone 0 d in
      let uncredited = eq-eqb credits 0 none in (rw (outside, uncredited) (zero-add energy), rw (outside, uncredited))

  pub parts_add_up : zone_part zone credits network energy + nonzone_part zone credits network energy ≡ network + energy
  parts_add_up =
      ⊎_elim
      (λ (e : zone ≡ 0). let p = at_border e in ap₂ ◌+◌ p.0 p.1 ∙ zero-add (network + energy))
      (λ (d : zone ≢ 0).
      ⊎_elim
      (λ (none : credits ≡ 0). let p = without_credits d none in ap₂ ◌+◌ p.0 p.1 ∙ add_comm energy network)
      (λ (some : credits ≢ 0). let p = with_credits d some in ap₂ ◌+◌ p.0 p.1 ∙ add-zero (network + energy))
      (zero_or_not credits))
      (zero_or_not zone)
