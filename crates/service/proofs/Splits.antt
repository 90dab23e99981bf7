-- The zone side of a split: it is within half a cent of its exact share, so it does not grow where zone use falls.
-- Assumes nothing.
use mathlib.Core.Path.{◌≡◌, sym, ap, ap₂, ◌∙◌}
use mathlib.Core.Logic.{⊎_elim, ◌≢◌}
use mathlib.Core.List.{[], ◌∷◌}
use Prim.Native.Nat.{ℕ, ◌+◌, ◌*◌, ◌≤◌, ◌<◌}
use native.Mathlib.Nat.{mul-one, mul_comm, mul-add, mul-le-mul_left, eq_of_mul-eq-mul_left}
use native.Mathlib.Omega.{arith}
use lib.Dec.{lit<}
use Rattle.lists.specs.Sums.{at, total}
use Rattle.lists.proofs.Ranks.{lt_or_le}
use Rattle.answer.proofs.Turns.{zero_or_not}
use Rattle.division.specs.Shares.{shares}
use Rattle.division.proofs.Laws.{none_ahead}
use Rattle.service.specs.Service.{Service, zone_use, nonzone_use, both_uses, zone_side, nonzone_side}
use Rattle.service.specs.Turn.{split_refusal}
use Rattle.service.proofs.Laws.{split_base, uses_add_up, sides_add_up}

-- a side that was split off is within half a cent of its exact share
module _ (v : Service) (z : ℕ) (fine : split_refusal v z ≡ 0) (some : 0 < total (both_uses v)) where
  side_within : (2 * (total (both_uses v) * zone_side v z) ≤ 2 * (v.pot z * zone_use v) + total (both_uses v))
      × (2 * (v.pot z * zone_use v) ≤ 2 * (total (both_uses v) * zone_side v z) + total (both_uses v))
  unfolding zone_side nonzone_side both_uses
  side_within =
      let first = none_ahead (v.pot z) (both_uses v) some 0 1 (lit< tt) (lit< tt) in
      let second = none_ahead (v.pot z) (both_uses v) some 1 0 (lit< tt) (lit< tt) in
      let by-sides : total (both_uses v) * v.pot z ≡ total (both_uses v) * zone_side v z + total (both_uses v) * nonzone_side v z =
      ap (λ k. total (both_uses v) * k) (sym (sides_add_up v z fine)) ∙ mul-add (total (both_uses v)) (zone_side v z) (nonzone_side v z) in
      let by-uses : v.pot z * total (both_uses v) ≡ v.pot z * zone_use v + v.pot z * nonzone_use v =
      ap (λ k. v.pot z * k) (uses_add_up v) ∙ mul-add (v.pot z) (zone_use v) (nonzone_use v) in
      let turned = mul_comm (total (both_uses v)) (v.pot z) in
      (omega (arith, first, by-sides, by-uses, turned), omega (arith, second, by-sides, by-uses, turned))

-- so of two services with one pot in a zone and as much use in all, the one with less zone use has no larger zone side
module _ (s t : Service) (z : ℕ) (same_pot : s.pot z ≡ t.pot z) (same-use : total (both_uses s) ≡ total (both_uses t)) (less : zone_use s ≤ zone_use t)
    (fine-s : split_refusal s z ≡ 0) (fine-t : split_refusal t z ≡ 0) where
  same_side : zone_use s ≡ zone_use t → zone_side s z ≡ zone_side t z
  unfolding zone_side both_uses
  same_side e =
      let other : nonzone_use s ≡ nonzone_use t = omega (arith, uses_add_up s, uses_add_up t, same-use, e) in
      ap₂ (λ pot l. at (shares pot l) 0) same_pot (ap₂ (λ x y. x ∷ y ∷ []) e other)

  not_larger : zone_side t z < zone_side s z → ⊥
  not_larger l =
      let whole = sides_add_up s z fine-s in
      ⊎_elim
      (λ (none : total (both_uses s) ≡ 0). omega (arith, split_base s z fine-s none, whole, l))
      (λ (d : total (both_uses s) ≢ 0).
      let some-s : 0 < total (both_uses s) = omega (arith, d) in
      let some-t : 0 < total (both_uses t) = omega (arith, d, same-use) in
      let of-s = (side_within s z fine-s some-s).0 in
      let of-t = (side_within t z fine-t some-t).1 in
      let side : total (both_uses t) * zone_side t z ≡ total (both_uses s) * zone_side t z = ap (λ w. w * zone_side t z) (sym same-use) in
      let used : t.pot z * zone_use t ≡ s.pot z * zone_use t = ap (λ pot. pot * zone_use t) (sym same_pot) in
      let next : total (both_uses s) * (zone_side t z + 1) ≤ total (both_uses s) * zone_side s z = mul-le-mul_left (total (both_uses s)) (omega (arith, l)) in
      let one_more = mul-add (total (both_uses s)) (zone_side t z) 1 in
      let one = mul-one (total (both_uses s)) in
      let uses : s.pot z * zone_use s ≤ s.pot z * zone_use t = mul-le-mul_left (s.pot z) less in
      let product : s.pot z * zone_use s ≡ s.pot z * zone_use t = omega (arith, of-s, of-t, side, used, next, one_more, one, uses, same-use) in
      let some-pot : 0 < s.pot z = omega (arith, whole, l) in
      omega (arith, l, same_side (eq_of_mul-eq-mul_left (s.pot z) some-pot (zone_use s) (zone_use t) product)))
      (zero_or_not (total (both_uses s)))

  pub no_larger_side : zone_side s z ≤ zone_side t z
  no_larger_side = ⊎_elim (λ (l : zone_side t z < zone_side s z). absurd (not_larger l)) (λ (h : zone_side s z ≤ zone_side t z). h) (lt_or_le (zone_side t z) (zone_side s z))
