-- What is printed of a refusal and of an answer.
-- Assumes nothing.
use Rattle.std.specs.Prelude.{ℕ, List, ◌∷◌, ◌++◌, codes}
use Rattle.std.specs.Fmt.{decimal}
use Rattle.answer.specs.declared.Refusal.{Refusal}
use Rattle.answer.specs.declared.Refusal.TheVariants.{Count, Room, Month, Range, Order, Link, Pair, Big, Base, Text}
use Rattle.answer.specs.declared.Answer.{Answer}

-- the paper's name of a refusal
abbrev pub refusal_name : Refusal → List ℕ
refusal_name Count = codes "COUNT"
refusal_name Room = codes "ROOM"
refusal_name Month = codes "MONTH"
refusal_name Range = codes "RANGE"
refusal_name Order = codes "ORDER"
refusal_name Link = codes "LINK"
refusal_name Pair = codes "PAIR"
refusal_name Big = codes "BIG"
refusal_name Base = codes "BASE"
refusal_name Text = codes "TEXT"

-- "The answer is number, table, row", joined by commas
abbrev pub answer_text : Answer → List ℕ
answer_text a = decimal a.number ++ (44 ∷ (decimal a.table ++ (44 ∷ decimal a.row)))
