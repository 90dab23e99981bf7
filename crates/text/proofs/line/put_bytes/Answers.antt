-- `text::line::put_bytes` meets its contract.
-- Assumes nothing.
use mathlib.Core.Path.{◌≡◌, refl, sym, ap, ◌∙◌}
use Prim.Native.Nat.{◌+◌}
use native.Mathlib.Omega.{arith}
use lib.ListN.{drop, set}
use Rattle.lists.specs.Sums.{at}
use Rattle.text.specs.Places.{stored}
use Rattle.text.proofs.Places.{drop_next, drop_end}
use Rattle.text.proofs.Stores.{stored_none, stored_first}
use Rattle.text.proofs.line.put_bytes.Goals as goal

pub loop-k-preserved : goal.loop-k-preserved
loop-k-preserved c =
    let l = c.loop-k in
    let a = c.args in
    let place : a.at + (l.k + 1) ≡ a.at + l.k + 1 = omega arith in
    ap (λ i. stored (set l.out (a.at + l.k) (at a.bytes.now l.k)) i (drop (l.k + 1) a.bytes.now)) place
    ∙ sym (stored_first l.out (a.at + l.k) (at a.bytes.now l.k) (drop (l.k + 1) a.bytes.now))
    ∙ ap (stored l.out (a.at + l.k)) (sym (drop_next a.bytes.now l.k c.loop-k-test.true))
    ∙ l.invariant

pub returns : goal.returns
returns c =
    let l = c.loop-k in
    let a = c.args in
    record {
      onward = refl;
      written =
          sym (stored_none l.out (a.at + l.k))
          ∙ ap (stored l.out (a.at + l.k)) (sym (drop_end a.bytes.now l.k c.loop-k-test.false))
          ∙ l.invariant;
    }
