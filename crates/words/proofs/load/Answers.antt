-- `words::load` meets its contract: the numbers of the words passed are stored.
-- Assumes nothing.
use mathlib.Core.Path.{◌≡◌, sym, ap, ap₂, ◌∙◌}
use Prim.Native.Nat.{◌/◌}
use native.Mathlib.Omega.{arith}
use lib.ListN.{length, set}
use Rattle.lists.specs.Entries.{put}
use Rattle.lists.proofs.Entries.{put_none, put_suc}
use Rattle.words.specs.Steps.{number_in}
use Rattle.words.proofs.Storing.{word_number, stored_numbers}
use Rattle.words.proofs.load.Goals as goal

pub loop-i-init : goal.loop-i-init
loop-i-init c = sym (put_none _ _)

pub loop-i-preserved : goal.loop-i-preserved
loop-i-preserved c =
    let a = c.args in
    let l = c.loop-i in
    ap₂ (λ out v. set out l.i v) l.invariant
    (c.from_le_bytes.ensures ∙ word_number a.lent.now _ l.i _ c.as_chunks.ensures.front (omega arith))
    ∙ sym (put_suc l.i (number_in a.lent.now) a.out.now)

pub returns : goal.returns
returns c =
    let a = c.args in
    let all : c.loop-i.i ≡ length a.lent.now / 8 = omega arith in
    c.loop-i.invariant ∙ ap (λ n. put n (number_in a.lent.now) a.out.now) all ∙ stored_numbers a.lent.now a.out.now c.requires.1
