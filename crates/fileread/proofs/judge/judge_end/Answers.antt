-- `fileread::judge::judge_end` meets its contract: the last line is there with its number, and nothing behind it, or the refusal says where.
-- Assumes nothing.
use mathlib.Core.Path.{sym, ap, ◌∙◌}
use Rattle.std.proofs.lemmas.Result.{err_from_is_err_and}
use native.Mathlib.Omega.{arith}
use Rattle.answer.specs.Numbers.{TEXT, HEAD}
use Rattle.answer.specs.Turns.{refusal}
use Rattle.answer.specs.Results.{refused_answer}
use Rattle.fileform.specs.Form.{month_form}
use Rattle.fileread.proofs.LineWalks.{asked, end_missing, end_other, end_behind, end_fine}
use Rattle.fileread.proofs.judge.judge_end.Goals as goal

pub returns-in_err-number : goal.returns-in_err-number
returns-in_err-number c =
    let up = err_from_is_err_and c.from_residual.result c.from_residual.ensures.1 in
    let line = rw c.in_err-number.ensures.ok_part at c.one_number.ensures in
    rw (up.1, up.2)
    (end_missing month_form.last c.args.text.now c.args.at _ c.requires.0 line _
    (ap refused_answer (asked c.one_number.result _ _ c.in_err-number.ensures.value) ∙ c.unfit.ensures))

pub returns-then-number-total : goal.returns-then-number-total
returns-then-number-total c =
    let line = rw c.in_ok-number.ensures.ok_part at c.one_number.ensures in
    end_other month_form.last c.args.text.now c.args.at _ c.requires.0 c.in_ok-number.number.value c.in_ok-number.number.next line.0 line.1
    (λ q. c.if-number-total.true (q ∙ sym c.rows_in_all-total.ensures)) _ c.unfit-then-number-total.ensures

pub returns-then-number-text : goal.returns-then-number-text
returns-then-number-text c =
    let line = rw c.in_ok-number.ensures.ok_part at c.one_number.ensures in
    end_behind month_form.last c.args.text.now c.args.at _ c.requires.0 c.in_ok-number.number.value c.in_ok-number.number.next line.0 line.1
    (c.if-number-total.false ∙ c.rows_in_all-total.ensures) c.if-number-text.true _ (c.unfit-then-number-text.ensures ∙ ap (refusal TEXT HEAD) (grind arith))

pub returns : goal.returns
returns c =
    let line = rw c.in_ok-number.ensures.ok_part at c.one_number.ensures in
    end_fine month_form.last c.args.text.now c.args.at _ c.requires.0 c.in_ok-number.number.value c.in_ok-number.number.next line.0 line.1
    (c.if-number-total.false ∙ c.rows_in_all-total.ensures) c.if-number-text.false
