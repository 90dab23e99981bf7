-- `fileread::judge::judge_heads` meets its contract: what is left from a line on is read behind the lines before.
-- Assumes nothing.
use mathlib.Core.Path.{ap, ◌∙◌}
use Rattle.std.proofs.lemmas.Result.{err_from_is_err_and}
use Rattle.answer.specs.Results.{refused_answer}
use Rattle.fileread.proofs.LineWalks.{asked, month_stop, days_stop, days_next, further_stop, further_next, further_end}
use Rattle.fileread.proofs.judge.judge_heads.Goals as goal

pub returns-then-month-eq0 : goal.returns-then-month-eq0
returns-then-month-eq0 c =
    month_stop c.args.text.now c.args.head.now _ c.next_two_lines-ends.ensures c.if-month-eq0.true _ c.unfit.ensures

pub returns-then-days-month : goal.returns-then-days-month
returns-then-days-month c =
    days_stop c.args.text.now c.args.head.now _ c.next_two_lines-ends.ensures c.if-month-eq0.false c.if-days-month.true _
    c.unfit-then-days-month.ensures

pub loop-k-init : goal.loop-k-init
loop-k-init c = (
  c.next_two_lines-ends.ensures.second_is.inside c.if-days-month.false,
  days_next c.args.text.now c.args.head.now _ c.next_two_lines-ends.ensures c.if-month-eq0.false c.if-days-month.false _ _
      c.take_next_line.ensures.written c.take_next_line-2.ensures.written,
)

pub returns-in_err-number : goal.returns-in_err-number
returns-in_err-number c =
    let l = c.loop-k in
    let up = err_from_is_err_and c.from_residual.result c.from_residual.ensures.1 in
    let line = rw c.in_err-number.ensures.ok_part at c.take_head.ensures in
    rw (up.1, up.2)
    (further_stop c.args.text.now _ c.args.head.now l.head l.i l.k l.invariant.1 l.invariant.0 c.loop-k-test.true line _
    (ap refused_answer (asked c.take_head.result _ _ c.in_err-number.ensures.value) ∙ c.unfit-in-loop-k.ensures))

pub loop-k-preserved : goal.loop-k-preserved
loop-k-preserved c =
    let l = c.loop-k in
    let line = rw c.in_ok-number.ensures.ok_part at c.take_head.ensures in
    (line.0, further_next c.args.text.now _ c.args.head.now l.head l.i l.k l.invariant.1 l.invariant.0 c.loop-k-test.true _ _ line.1)

pub returns : goal.returns
returns c =
    let l = c.loop-k in
    further_end c.args.text.now _ c.args.head.now l.head l.i l.k l.invariant.1 l.invariant.0 c.loop-k-test.false
