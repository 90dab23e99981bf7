-- `tables::counts::count_tables` meets its contract: the first table that is not fine gives the answer.
-- Assumes nothing.
use mathlib.Core.Path.{◌≡◌, sym, ap, ◌∙◌}
use mathlib.Core.List.{List, map, []}
use Prim.Native.Nat.{ℕ, ◌<◌}
use denote.Bor.{Bor}
use lib.ListN.{length, get_or, get_or-map}
use Rattle.tables.specs.declared.Table.{Table}
use Rattle.tables.specs.Shape.{table_count, table_at}
use Rattle.tables.specs.Counts.{counted, counts_in_turn}
use Rattle.tables.proofs.Places.{words_told}
use Rattle.tables.proofs.Passing.{fine_start, fine_more, fine_stop, fine_end}
use Rattle.tables.proofs.counts.count_tables.Invariants.{count_of}
use Rattle.tables.proofs.counts.count_tables.Goals as goal

-- the count of the table at a place
count_here : (l : List (Bor (List ℕ))) (k : ℕ) (table : Table) → k < table_count → table ≡ table_at k
    → counted table (length (get_or l k (record { ref_ptr = (0, 0); now = [] })).now) ≡ count_of (map (λ x. x.now) l) (table_at k)
count_here l k table h its =
    let held = map (λ (x : Bor (List ℕ)). x.now) l in
    ap (λ w. counted table (length w)) (sym (get_or-map (λ x. x.now) l k (record { ref_ptr = (0, 0); now = [] })) ∙ words_told held k table h its)
    ∙ ap (count_of held) its

pub loop-k-init : goal.loop-k-init
loop-k-init c = fine_start _

pub returns-in_err-judge_count : goal.returns-in_err-judge_count
unfolding counts_in_turn
returns-in_err-judge_count c =
    fine_stop c.loop-k.invariant c.loop-k-test.true c.from_residual.result _ c.from_residual.ensures.1
    (c.in_err-judge_count.ensures ∙ count_here c.args.tables c.loop-k.k c.table_at.result c.loop-k-test.true c.table_at.ensures)

pub loop-k-preserved : goal.loop-k-preserved
loop-k-preserved c =
    fine_more c.loop-k.invariant
    (sym (c.in_ok-judge_count.ensures ∙ count_here c.args.tables c.loop-k.k c.table_at.result c.loop-k-test.true c.table_at.ensures))

pub returns : goal.returns
unfolding counts_in_turn
returns c = fine_end c.loop-k.invariant c.loop-k-test.false
