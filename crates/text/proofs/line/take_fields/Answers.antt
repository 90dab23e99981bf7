-- `text::line::take_fields` meets its contract.
-- Assumes nothing.
use mathlib.Core.Path.{◌≡◌, sym, ap, ◌∙◌}
use mathlib.Core.List.{[]}
use Prim.Native.Nat.{◌+◌, ◌-◌}
use native.Mathlib.Omega.{arith}
use lib.ListN.{drop}
use Rattle.text.specs.Numbers.{found}
use Rattle.text.specs.Lines.{fields}
use Rattle.text.specs.Places.{rest_of, fields_of, stored}
use Rattle.text.proofs.Lines.{fields_none}
use Rattle.text.proofs.Stores.{stored_none}
use Rattle.text.proofs.line.take_fields.Goals as goal

pub returns : goal.returns
returns c =
    let a = c.args in
    let l = c.loop-k in
    let done : fields (a.width - l.k) (drop l.i a.text.now) ≡ found [] (drop l.i a.text.now) =
    (let z : a.width - l.k ≡ 0 = omega (arith, c.loop-k-test.false) in ap (λ k. fields k (drop l.i a.text.now)) z) ∙ fields_none (drop l.i a.text.now) in
    record {
      inside = l.invariant.0;
      behind = sym l.invariant.2 ∙ ap rest_of done;
      written = sym (ap (λ o. stored l.words (a.place + l.k) (fields_of o)) done ∙ stored_none l.words (a.place + l.k)) ∙ l.invariant.3;
    }
