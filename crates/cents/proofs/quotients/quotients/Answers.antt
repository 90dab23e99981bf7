-- `cents::quotients::quotients` meets its contract: quotients and rests so far are those of the pot's digits passed.
-- Assumes nothing.
use mathlib.Core.Path.{◌≡◌}
use Prim.Native.Nat.{◌+◌, ◌-◌, ◌*◌, ◌/◌, ◌^◌}
use native.Mathlib.Nat.{le_refl}
use native.Mathlib.Omega.{arith}
use Rattle.lists.specs.Sums.{at}
use Rattle.cents.proofs.Doubling.{Stretch, stretch, no_digits, passed_none, passed_more, cents_fit, steady_at, quotient_is}
use Rattle.cents.proofs.Several.{worked_none, worked_on}
use Rattle.cents.proofs.quotients.quotients.Goals as goal

pub loop-left-init : goal.loop-left-init
loop-left-init g c = worked_none g.row.N _ (λ j. passed_none _ _ _ (no_digits c.args.pot c.ranges.pot.fits))

pub step-requires : goal.step-requires
step-requires g c =
    let whole = c.args.whole in
    let weights = c.args.weights.now in
    let k = c.loop-k-2.k in
    let bound = c.requires.pot_le_most in
    let wide : Stretch (2 ^ 62 / whole) whole = stretch whole bound.1 bound.2 in
    let gain : at c.loop-k.gains k ≡ 2 ^ 62 / whole * at weights k = c.loop-k.invariant.1 k (omega arith) in
    let back : c.loop-left.left - 1 + 1 ≡ c.loop-left.left = omega arith in
    rw gain
    (steady_at (2 ^ 62 / whole) (at weights k) whole wide (c.requires.weights_fit.1 k c.loop-k-2-test.true)
    c.args.pot c.loop-left.left _ _ bound.0 (rw back at (c.loop-k-2.invariant.left k (le_refl k) c.loop-k-2-test.true)))

pub loop-k-2-preserved : goal.loop-k-2-preserved
loop-k-2-preserved g c =
    let k = c.loop-k-2.k in
    let gain : at c.loop-k.gains k ≡ 2 ^ 62 / c.args.whole * at c.args.weights.now k = c.loop-k.invariant.1 k (omega arith) in
    let back : c.loop-left.left - 1 + 1 ≡ c.loop-left.left = omega arith in
    worked_on c.loop-k-2-test.true c.loop-k-2.invariant
    (passed_more c.args.pot c.loop-left.left _ _ _ _ _ _ c.loop-left-test.true
    (rw back at (c.loop-k-2.invariant.left k (le_refl k) c.loop-k-2-test.true)) (rw gain at c.step.ensures))

pub settle-requires : goal.settle-requires
settle-requires g c =
    let whole = c.args.whole in
    let bound = c.requires.pot_le_most in
    let wide : Stretch (2 ^ 62 / whole) whole = stretch whole bound.1 bound.2 in
    let k = c.loop-k-3.k in (
      cents_fit (2 ^ 62 / whole) (at c.args.weights.now k) whole wide (c.requires.weights_fit.1 k c.loop-k-3-test.true)
          c.args.pot c.args.pot _ _ bound.0 (le_refl c.args.pot) (c.loop-k-3.invariant.left k (le_refl k) c.loop-k-3-test.true),
      wide.positive,
    )

pub loop-k-3-preserved : goal.loop-k-3-preserved
loop-k-3-preserved g c =
    let whole = c.args.whole in
    let bound = c.requires.pot_le_most in
    let wide : Stretch (2 ^ 62 / whole) whole = stretch whole bound.1 bound.2 in
    let k = c.loop-k-3.k in
    worked_on c.loop-k-3-test.true c.loop-k-3.invariant
    (quotient_is (2 ^ 62 / whole) (at c.args.weights.now k) whole wide (c.requires.weights_fit.1 k c.loop-k-3-test.true)
    c.args.pot _ _ (c.loop-k-3.invariant.left k (le_refl k) c.loop-k-3-test.true) _ _ bound.2 c.settle.ensures)
