-- `services::fill_credits` meets its contract: the units passed have their credits.
-- Assumes nothing.
use mathlib.Core.Path.{◌≡◌}
use Rattle.lists.specs.Entries.{put}
use Rattle.tables.specs.Shape.{tables_now}
use Rattle.pool.specs.Services.{credit_in}
use Rattle.services.specs.Settled.{units_input}
use Rattle.services.proofs.fill_credits.Given as goal

abbrev pub invariant-loop-i : goal.invariant-loop-i
invariant-loop-i l =
    l.out ≡ put l.i (credit_in (units_input l.month.number (tables_now l.tables)) l.service) l.initial.out
