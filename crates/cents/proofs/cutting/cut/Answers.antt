-- `cents::cutting::cut` meets its contract: the positions passed are kept.
-- Assumes nothing.
use mathlib.Core.Path.{refl}
use Prim.Native.Nat.{◌+◌}
use native.Mathlib.Omega.{arith}
use Rattle.cents.proofs.Bounds.{weight_fits}
use Rattle.cents.proofs.Several.{stretch_long, stretch_at, quotient_at}
use Rattle.cents.proofs.Stretches.{cut_next, cut_on, room_on, given_small}
use Rattle.cents.proofs.cutting.cut.Goals as goal

pub quotients-parts-requires : goal.quotients-parts-requires
quotients-parts-requires g c =
    let weights = c.args.weights.now in
    let from = c.args.from in
    let base = c.requires.base in (
      omega (arith, c.requires.room.few),
      (
        (base.pot_fits, base.positive, base.whole_fits),
        (
          stretch_long weights from g.row.N c.requires.from_within,
          λ k b. rw (stretch_at weights from g.row.N c.requires.from_within k b) (weight_fits c.args.pot weights c.args.whole base (from + k) (omega arith)),
        ),
      ),
    )

pub overflow_add-given : goal.overflow_add-given
overflow_add-given g c =
    let a = c.args in
    let i = a.from + c.loop-k.k in
    let part = quotient_at a.weights.now a.from g.row.N c.requires.from_within a.pot a.whole _ c.quotients-parts.ensures c.loop-k.k c.loop-k-test.true in
    let done = cut_on a.pot a.weights.now a.whole c.loop-k.invariant.1 (cut_next a.pot a.weights.now a.whole i (i + 1) refl part c.keep-given.ensures) in
    omega (arith, given_small a.pot a.weights.now a.whole c.requires.base (i + 1) (omega arith) c.requires.room.few done)

pub loop-k-preserved : goal.loop-k-preserved
loop-k-preserved g c =
    let a = c.args in
    let i = a.from + c.loop-k.k in
    let part = quotient_at a.weights.now a.from g.row.N c.requires.from_within a.pot a.whole _ c.quotients-parts.ensures c.loop-k.k c.loop-k-test.true in (
      room_on c.loop-k.invariant.0 c.keep-given.ensures,
      cut_on a.pot a.weights.now a.whole c.loop-k.invariant.1 (cut_next a.pot a.weights.now a.whole i _ (omega arith) part c.keep-given.ensures),
    )
