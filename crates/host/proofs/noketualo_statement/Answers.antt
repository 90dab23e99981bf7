-- `host::noketualo_statement` meets its contract: the number and the length of what is shown, in one word.
-- Assumes nothing.
use Rattle.std.specs.Prelude.{Ok, Err}
use native.Mathlib.Omega.{arith}
use Rattle.statement_lines.specs.Calls.{shown_of}
use Rattle.host.proofs.Stating.{length_small, stated}
use Rattle.host.proofs.noketualo_statement.Goals as goal

pub overflow_mul-result : goal.overflow_mul-result
overflow_mul-result c =
    let small = length_small c.args.text.now c.args.out.now c.statement.new.out (shown_of (Ok c.in-Ok.length)) c.in-Ok.ensures in omega (arith, small)

pub returns-in-Ok : goal.returns-in-Ok
returns-in-Ok c = stated c.args.text.now c.args.out.now c.statement.new.out (shown_of (Ok c.in-Ok.length)) c.in-Ok.ensures _ (omega arith)

pub returns-in-Err : goal.returns-in-Err
returns-in-Err c =
    stated c.args.text.now c.args.out.now c.statement.new.out (shown_of (Err c.in-Err.refused)) c.in-Err.ensures _ (omega (arith, c.number.ensures))
