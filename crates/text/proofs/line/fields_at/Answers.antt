-- `text::line::fields_at` meets its contract.
-- Assumes nothing.
use native.Mathlib.Omega.{arith}
use Rattle.text.proofs.Places.{fields_missing, fields_end}
use Rattle.text.proofs.line.fields_at.Goals as goal

pub returns-in_err-i : goal.returns-in_err-i
returns-in_err-i c =
    let l = c.loop-following in
    rw c.from_residual.ensures
    (fields_missing c.args.text.now _ l.i l.following _ l.invariant.1 (omega (arith, c.loop-following-test.true)) c.in_err-i.ensures)

pub returns : goal.returns
returns c = let l = c.loop-following in fields_end c.args.text.now _ l.i l.following l.invariant.0 l.invariant.1 (omega (arith, c.loop-following-test.false))
