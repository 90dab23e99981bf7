-- `fileread::judge::judge_tables` meets its contract: what is left from a table on is read behind the tables before.
-- Assumes nothing.
use mathlib.Core.Path.{◌≡◌, refl, ap, ap₂, ◌∙◌}
use Rattle.answer.specs.Numbers.{COUNT, part_number}
use Rattle.answer.specs.Turns.{refusal}
use Rattle.answer.specs.Results.{refused_answer}
use Rattle.tables.specs.Shape.{table_at, part, limit}
use Rattle.fileread.specs.Calls.{counts_of}
use Rattle.fileread.proofs.LineWalks.{walk_start, counts_more, table_stop, table_next, table_end}
use Rattle.fileread.proofs.judge.judge_tables.Goals as goal

pub loop-k-init : goal.loop-k-init
loop-k-init c = (c.requires.0, walk_start counts_of refl counts_more _ _)

pub returns-then-limit-counted : goal.returns-then-limit-counted
returns-then-limit-counted c =
    let l = c.loop-k in
    let most : c.limit-limit.result ≡ limit (table_at l.k) = c.limit-limit.ensures ∙ ap limit c.table_at-table.ensures in
    let whose = c.part.ensures ∙ ap part c.table_at-table.ensures in
    table_stop c.args.text.now _ c.args.counts.now l.counts l.i l.k l.invariant.1 l.invariant.0 c.loop-k-test.true
    c.count_table-counted.result (rw c.table_at-table.ensures at c.count_table-counted.ensures) (rw most at c.if-limit-counted.true) _
    (ap refused_answer c.at.ensures ∙ ap₂ (λ p n. refusal COUNT (part_number p) n) whose most)

pub loop-k-preserved : goal.loop-k-preserved
loop-k-preserved c =
    let l = c.loop-k in
    let most : c.limit-limit.result ≡ limit (table_at l.k) = c.limit-limit.ensures ∙ ap limit c.table_at-table.ensures in (
      c.count_table-counted.ensures.inside,
      table_next c.args.text.now _ c.args.counts.now l.counts l.i l.k l.invariant.1 l.invariant.0 c.loop-k-test.true
          c.count_table-counted.result (rw c.table_at-table.ensures at c.count_table-counted.ensures) (rw most at c.if-limit-counted.false),
    )

pub returns : goal.returns
returns c =
    let l = c.loop-k in
    table_end c.args.text.now _ c.args.counts.now l.counts l.i l.k l.invariant.1 l.invariant.0 c.loop-k-test.false
