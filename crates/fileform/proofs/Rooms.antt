-- The look at ROOM: it refuses where less is lent than is needed, and where it does not, everything fits.
-- Assumes nothing.
use mathlib.Core.Path.{◌≡◌, sym, ap, ◌∙◌}
use mathlib.Core.Logic.{⊎_elim}
use Prim.Native.Nat.{ℕ, ◌≤◌, ◌<◌}
use native.Mathlib.Omega.{arith}
use borrow.Author.Tests.{lt-ltb, le-ltb}
use Rattle.lists.proofs.Ranks.{lt_or_le}
use Rattle.answer.specs.declared.Answer.{Answer}
use Rattle.answer.specs.Numbers as answers
use Rattle.answer.specs.Turns.{refuse}
use Rattle.answer.proofs.Turns.{refuse_number}
use Rattle.tables.specs.Counts.{room_for}

pub room_short : (output needed lent : ℕ) → lent < needed → refuse answers.ROOM output 0 ≡ room_for output needed lent
unfolding room_for
room_short output needed lent h = rw (lt-ltb lent needed h)

pub room_enough : (output needed lent : ℕ) → needed ≤ lent → refuse 0 output 0 ≡ room_for output needed lent
unfolding room_for
room_enough output needed lent h = rw (le-ltb lent needed h)

pub room_fits : (output needed lent : ℕ) → (room_for output needed lent).number ≡ 0 → needed ≤ lent
room_fits output needed lent e =
    ⊎_elim
    (λ (short : lent < needed).
    absurd (let z : 2 ≡ 0 = sym (refuse_number answers.ROOM output 0) ∙ ap (λ (a : Answer). a.number) (room_short output needed lent short) ∙ e in omega arith))
    (λ (fits : needed ≤ lent). fits)
    (lt_or_le lent needed)
