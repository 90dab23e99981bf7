-- `cents::handing::hand_out` meets its contract: each word passed has its cent, and the words ahead are as they were.
-- Assumes nothing.
use mathlib.Core.Path.{◌≡◌, sym, ap, ap₂, ◌∙◌}
use mathlib.Core.List.{List}
use Prim.Native.Nat.{ℕ, ◌+◌}
use native.Mathlib.Nat.{le_refl}
use mir.Val.{bool_byte}
use native.Mathlib.Omega.{arith}
use lib.Dec.{leb}
use lib.ListN.{set}
use borrow.Author.Rules.{rules}
use Rattle.lists.specs.Sums.{at}
use Rattle.lists.specs.Entries.{put}
use Rattle.lists.proofs.Sums.{bit_le}
use Rattle.lists.proofs.Entries.{put_none, put_suc, put_ahead}
use Rattle.cents.specs.Steps.{handed}
use Rattle.cents.proofs.Bits.{bit_of}
use Rattle.cents.proofs.Standing.{told}
use Rattle.cents.proofs.handing.hand_out.Goals as goal

-- the word to come is as it was
same_word : (out : List ℕ) (i : ℕ) (f : ℕ → ℕ) (l : List ℕ) → out ≡ put i f l → at out i ≡ at l i
same_word out i f l e = ap (λ o. at o i) e ∙ put_ahead i f l i (le_refl i)

pub loop-i-init : goal.loop-i-init
loop-i-init c = (sym (put_none _ _), c.first_bounds-bounds.ensures)

pub overflow_add-out : goal.overflow_add-out
overflow_add-out c =
    let l = c.loop-i in
    let t = leb c.narrowed-bounds.result.high (at c.args.keys.now l.i) in
    omega (arith, same_word _ l.i _ c.args.out.now l.invariant.0, (c.requires.by_index l.i (search rules)).0, bit_of t, bit_le t)

pub loop-i-preserved : goal.loop-i-preserved
loop-i-preserved c =
    let a = c.args in
    let l = c.loop-i in
    let key = at a.keys.now l.i in
    let narrowed = c.narrowed-bounds in
    let word : at l.out l.i + bool_byte (leb narrowed.result.high key) ≡ handed a.left a.keys.now a.out.now l.i =
    ap₂ ◌+◌ (same_word _ l.i _ a.out.now l.invariant.0)
    (bit_of (leb narrowed.result.high key)
    ∙ told a.left a.keys.now key narrowed.result.low narrowed.result.high (c.requires.by_index l.i (search rules)).1 narrowed.ensures) in (
      ap₂ (λ out w. set out l.i w) l.invariant.0 word ∙ sym (put_suc l.i (handed a.left a.keys.now a.out.now) a.out.now),
      narrowed.ensures.between,
    )
