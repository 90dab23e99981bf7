-- `words::store` meets its contract: the bytes of the numbers passed are stored.
-- Assumes nothing.
use mathlib.Core.Path.{◌≡◌, sym, ap, ap₂, ◌∙◌}
use Prim.Native.Nat.{◌+◌, ◌-◌, ◌*◌}
use native.Mathlib.Omega.{arith}
use lib.ListN.{length}
use mir.Syntax.{w64}
use Rattle.std.specs.Int.{to_le_bytes}
use borrow.Rule.Slice.PartMut.{put_mid}
use Rattle.lists.specs.Entries.{put}
use Rattle.lists.proofs.Entries.{put_none}
use Rattle.words.specs.Steps.{byte_at}
use Rattle.words.proofs.Storing.{word_stored, stored_bytes}
use Rattle.words.proofs.store.Goals as goal

pub loop-i-init : goal.loop-i-init
loop-i-init c = sym (put_none _ _)

pub loop-i-preserved : goal.loop-i-preserved
loop-i-preserved c =
    let a = c.args in
    let i = c.loop-i.i in
    ap₂ (put_mid (8 * i) (8 * (i + 1) - 8 * i)) c.loop-i.invariant (c.copy_from_slice.ensures.after ∙ c.to_le_bytes.ensures ∙ ap (to_le_bytes w64) (grind arith))
    ∙ word_stored a.values.now a.lent.now i (omega arith) c.requires

pub returns : goal.returns
returns c =
    let a = c.args in
    let all : 8 * c.loop-i.i ≡ 8 * length a.values.now = omega arith in
    c.loop-i.invariant ∙ ap (λ n. put n (byte_at a.values.now) a.lent.now) all ∙ stored_bytes a.values.now a.lent.now c.requires
