-- `fileread::room::room_of` meets its contract: its test is the definition's.
-- Assumes nothing.
use mathlib.Core.Path.{refl, sym, ap, ◌∙◌}
use native.Mathlib.Omega.{arith}
use Rattle.answer.specs.Numbers.{ROOM, part_number}
use Rattle.answer.specs.Turns.{refusal}
use Rattle.answer.specs.Results.{refused_answer}
use Rattle.answer.proofs.Turns.{refuse_none, refuse_some}
use Rattle.tables.specs.Shape.{number}
use Rattle.fileform.proofs.Rooms.{room_short, room_enough}
use Rattle.fileread.proofs.room.room_of.Goals as goal

pub returns-then-lent-limit : goal.returns-then-lent-limit
returns-then-lent-limit c =
    let table = c.args.table in
    ap refused_answer c.at.ensures
    ∙ ap (λ p. refusal ROOM (part_number p) 0) c.part.ensures
    ∙ sym (refuse_some ROOM (number table) 0 (λ z. omega (arith, z)))
    ∙ room_short (number table) _ c.args.lent (rw (c.limit.ensures, c.width.ensures) at c.if-lent-limit.true)

pub returns : goal.returns
returns c =
    let table = c.args.table in
    sym (refuse_none 0 (number table) 0 refl)
    ∙ room_enough (number table) _ c.args.lent (rw (c.limit.ensures, c.width.ensures) at c.if-lent-limit.false)
