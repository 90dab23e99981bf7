-- `text::line::put_line` meets its contract.
-- Assumes nothing.
use native.Mathlib.Omega.{arith}
use lib.ListN.{length-set}
use Rattle.text.proofs.Pieces.{length_key, put_keyed}
use Rattle.text.proofs.line.put_line.Goals as goal

pub put_fields-requires : goal.put_fields-requires
put_fields-requires c = rw length-set (omega (arith, length_key c.args.key.now c.args.fields.now, c.put_bytes-i.ensures.onward))

pub returns : goal.returns
returns c =
    let a = c.args in
    let one = c.put_bytes-i in
    let two = c.put_fields in
    put_keyed a.out.now a.at a.key.now a.fields.now one.result two.result one.new.out two.new.out one.ensures two.ensures
