-- `text::line::put_fields` meets its contract.
-- Assumes nothing.
use mathlib.Core.Path.{◌≡◌, sym, ap, ◌∙◌}
use mathlib.Core.List.{[]}
use native.Mathlib.Omega.{arith}
use lib.ListN.{length, drop}
use Rattle.text.specs.Lines.{fields_text}
use Rattle.text.specs.Places.{stored}
use Rattle.text.proofs.Stores.{stored_none}
use Rattle.text.proofs.Pieces.{text_done, length_next, put_next}
use Rattle.text.proofs.line.put_fields.Goals as goal

pub loop-k-preserved : goal.loop-k-preserved
loop-k-preserved c =
    let l = c.loop-k in
    let ns = c.args.fields.now in
    let put = c.put_number-i in (
      omega (arith, length_next ns l.k c.loop-k-test.true, put.ensures.onward),
      put_next ns l.k c.loop-k-test.true l.out l.i put.result c.separator.result put.new.out put.ensures c.separator.ensures ∙ l.invariant.1,
    )

pub returns : goal.returns
returns c =
    let l = c.loop-k in
    let none : fields_text (drop l.k c.args.fields.now) ≡ [] = text_done c.args.fields.now l.k c.loop-k-test.false in
    let none_left : length (fields_text (drop l.k c.args.fields.now)) ≡ 0 = ap length none in
    record {
      onward = omega (arith, l.invariant.0);
      written = sym (stored_none l.out l.i) ∙ ap (stored l.out l.i) (sym none) ∙ l.invariant.1;
    }
