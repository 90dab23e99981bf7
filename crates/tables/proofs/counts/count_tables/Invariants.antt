-- `tables::counts::count_tables` meets its contract: every table passed is fine.
-- Assumes nothing.
use mathlib.Core.List.{List, map}
use Prim.Native.Nat.{ℕ}
use lib.ListN.{length}
use Rattle.answer.specs.declared.Answer.{Answer}
use Rattle.tables.specs.declared.Table.{Table}
use Rattle.tables.specs.Shape.{tables_from, words_of}
use Rattle.tables.specs.Counts.{counted}
use Rattle.tables.proofs.Passing.{TablesFine}
use Rattle.tables.proofs.counts.count_tables.Given as goal

-- the answer for one of the tables
abbrev pub count_of : List (List ℕ) → Table → Answer
count_of l table = counted table (length (words_of (tables_from l) table))

abbrev pub invariant-loop-k : goal.invariant-loop-k
invariant-loop-k l = TablesFine (count_of (map (λ x. x.now) l.tables)) l.k
