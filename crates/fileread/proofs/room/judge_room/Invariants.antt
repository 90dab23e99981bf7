-- `fileread::room::judge_room` meets its contract: every table passed is lent at full size.
-- Assumes nothing.
use Rattle.tables.proofs.Passing.{TablesFine}
use Rattle.fileread.proofs.Rooms.{room_of}
use Rattle.fileread.proofs.room.judge_room.Given as goal

abbrev pub invariant-loop-k : goal.invariant-loop-k
invariant-loop-k l = TablesFine (room_of l.fn.lengths) l.k
