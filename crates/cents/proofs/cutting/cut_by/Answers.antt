-- `cents::cutting::cut_by` meets its contract: the weights passed are done.
-- Assumes nothing.
use Prim.Native.Nat.{◌+◌, ◌-◌, ◌*◌}
use native.Mathlib.Omega.{arith}
use lib.ListN.{length}
use Rattle.cents.proofs.Several.{times_within}
use Rattle.cents.proofs.Stretches.{cut_on, given_small}
use Rattle.cents.proofs.cutting.cut_by.Goals as goal

pub overflow_add-given : goal.overflow_add-given
overflow_add-given g c =
    let a = c.args in
    let done = cut_on a.pot a.weights.now a.whole c.loop-k.invariant.1 c.cut-given.ensures in
    let inside = times_within (length a.weights.now - a.from) g.row.N c.loop-k.k c.requires.from_within.0 c.loop-k-test.true in
    omega (arith, given_small a.pot a.weights.now a.whole c.requires.base (a.from + c.loop-k.k * g.row.N + g.row.N) (omega arith) c.requires.room.few done)
