-- `verdict::spread::is_level` meets its contract: the heights of all amounts say whether they are level.
-- Assumes nothing.
use mathlib.Core.Path.{◌≡◌, ◌∙◌, subst}
use native.Mathlib.Omega.{arith}
use lib.ListN.{length}
use Rattle.std.proofs.lemmas.Slice.Zip.{zip_end}
use borrow.Author.Rules.{rules}
use Rattle.division.specs.Refused.{FineSize}
use Rattle.verdict.proofs.Heights.{level_spread}
use Rattle.verdict.proofs.spread.is_level.Goals as goal

pub returns : goal.returns
returns c =
    let a = c.args in
    let l = c.loop-weight in
    let all : length l.yielded ≡ length a.weights.now =
    zip_end a.weights.now a.amounts.now l.yielded c.into_iter-weight-iterator.result _ c.next.new.self _ (search rules) (search rules) l.yielded_by c.in-None.is c.next.ensures.steps
    ∙ (omega (arith, c.requires.weights_len.0)) in
    simp (l.invariant.highest_is, l.invariant.lowest_is, all, c.requires.sum_value.0)
    (level_spread a.pot a.weights.now a.amounts.now
    (subst (FineSize a.pot) c.requires.sum_value.0 c.requires.sum_value.1) c.requires.weights_len.0 c.requires.weights_len.1)
