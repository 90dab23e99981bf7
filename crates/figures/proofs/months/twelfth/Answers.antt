-- `figures::months::twelfth` is safe: a month that was made is one of the twelve.
-- Assumes nothing.
use mathlib.Core.Path.{sym, ap, ◌∙◌}
use native.Mathlib.Omega.{arith}
use Rattle.month.specs.declared.Month.{Month}
use Rattle.month.proofs.Months.{made_good, month_within}
use Rattle.figures.proofs.months.twelfth.Goals as goal

pub twelfth-cents-requires : goal.twelfth-cents-requires
twelfth-cents-requires c =
    let made = made_good c.args.month c.args.days _ (sym c.new.ensures ∙ c.in-Some.is) in
    let same = ap (λ (m : Month). m.number) made.1 in
    let within = month_within c.args.month c.args.days made.0 in
    (omega (arith, same, within.first), omega (arith, same, within.last), c.requires)
