-- ROOM for one table after the other, by lengths and by the tables that have them.
-- Assumes nothing.
use mathlib.Core.Path.{◌≡◌, ap}
use mathlib.Core.List.{List}
use Prim.Native.Nat.{ℕ}
use lib.ListN.{length}
use Rattle.lists.specs.Sums.{at}
use Rattle.answer.specs.declared.Answer.{Answer}
use Rattle.tables.specs.declared.Table.{Table}
use Rattle.tables.specs.Shape.{place_of, Tables, words_of}
use Rattle.tables.specs.Counts.{tables_in_turn}
use Rattle.fileform.specs.Each.{in_order}
use Rattle.fileform.proofs.Each.{order_at}
use Rattle.fileread.specs.Calls.{full_size, read_room}
use Rattle.fileread.specs.Steps.{rooms_in_turn}

-- the answer for a table, of lengths by the table's place
abbrev pub room_of : List ℕ → Table → Answer
room_of lengths table = full_size table (at lengths (place_of table))

-- tables with so many words each
pub rooms_lent : (lent : Tables) → rooms_in_turn (in_order (λ table. length (words_of lent table))) ≡ read_room lent
unfolding rooms_in_turn read_room
rooms_lent lent = ap tables_in_turn (λ i table. full_size table (order_at (λ table. length (words_of lent table)) 0 table i))
