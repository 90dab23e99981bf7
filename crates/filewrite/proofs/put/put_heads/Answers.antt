-- `filewrite::put::put_heads` meets its contract: what is left from a line on is written behind the lines before.
-- Assumes nothing.
use mathlib.Core.Path.{sym, subst}
use Prim.Native.Nat.{◌+◌, ◌≤◌}
use lib.ListN.{length}
use Rattle.text.specs.Places.{PutAt}
use Rattle.filewrite.proofs.Pieces.{putting_start, putting_fits, putting_next, putting_end, heads_from, head_piece, heads_end}
use Rattle.filewrite.proofs.put.put_heads.Goals as goal

pub loop-k-init : goal.loop-k-init
loop-k-init c =
    putting_start (heads_from c.from-numbers.result) c.args.out.now 0
    (subst (λ ns. 0 + length (heads_from ns 0) ≤ length c.args.out.now) (sym c.from-numbers.ensures) c.requires)

pub put_head-i-requires : goal.put_head-i-requires
put_head-i-requires c =
    let numbers = c.from-numbers.result in
    let there = c.loop-k-test.true in
    (there, putting_fits c.loop-k.invariant (head_piece numbers c.loop-k.k there))

pub loop-k-preserved : goal.loop-k-preserved
loop-k-preserved c =
    let numbers = c.from-numbers.result in
    let there = c.loop-k-test.true in
    let t = c.put_head-i in
    putting_next c.loop-k.invariant (head_piece numbers c.loop-k.k there) t.result _ t.ensures t.auto.out

pub returns : goal.returns
returns c =
    let numbers = c.from-numbers in
    let out = c.args.out.now in
    subst (λ ns. PutAt out 0 (heads_from ns 0) c.loop-k.i c.loop-k.out) numbers.ensures
    (putting_end c.loop-k.invariant (heads_end numbers.result c.loop-k.k c.loop-k-test.false))
