-- `fileread::room::judge_room` meets its contract: the first table that is lent below its full size gives the answer.
-- Assumes nothing.
use mathlib.Core.Path.{◌≡◌, sym, ap, ◌∙◌}
use mathlib.Core.List.{List}
use Prim.Native.Nat.{ℕ, ◌<◌}
use Rattle.lists.specs.Sums.{at}
use Rattle.tables.specs.declared.Table.{Table}
use Rattle.tables.specs.Shape.{table_count, table_at}
use Rattle.tables.proofs.Places.{place_told}
use Rattle.tables.proofs.Passing.{fine_more, fine_stop, fine_end}
use Rattle.fileread.specs.Calls.{full_size}
use Rattle.fileread.specs.Steps.{rooms_in_turn}
use Rattle.fileread.proofs.Rooms.{room_of}
use Rattle.fileread.proofs.room.judge_room.Goals as goal

-- the look at the table at a place
room_here : (lengths : List ℕ) (k : ℕ) (table : Table) → k < table_count → table ≡ table_at k
    → full_size table (at lengths k) ≡ room_of lengths (table_at k)
room_here lengths k table h its = ap (λ i. full_size table (at lengths i)) (place_told k table h its) ∙ ap (room_of lengths) its

pub returns-in_err-room_of : goal.returns-in_err-room_of
unfolding rooms_in_turn
returns-in_err-room_of c =
    fine_stop c.loop-k.invariant c.loop-k-test.true c.from_residual.result _ c.from_residual.ensures.1
    (c.in_err-room_of.ensures ∙ room_here c.args.lengths c.loop-k.k c.table_at.result c.loop-k-test.true c.table_at.ensures)

pub loop-k-preserved : goal.loop-k-preserved
loop-k-preserved c =
    fine_more c.loop-k.invariant
    (sym (c.in_ok-room_of.ensures ∙ room_here c.args.lengths c.loop-k.k c.table_at.result c.loop-k-test.true c.table_at.ensures))

pub returns : goal.returns
unfolding rooms_in_turn
returns c = fine_end c.loop-k.invariant c.loop-k-test.false
