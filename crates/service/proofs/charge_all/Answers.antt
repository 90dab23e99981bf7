-- `service::charge_all` meets its contract: a zone that is refused has the answer, else the non-zone pot does.
-- Assumes nothing.
use mathlib.Core.Path.{refl, ap, ◌∙◌}
use Rattle.std.proofs.Common.{rules}
use Rattle.answer.specs.declared.Part.TheVariants.{Divisions}
use Rattle.answer.specs.Results.{result_answer}
use Rattle.answer.proofs.Results.{placed_answer}
use Rattle.service.proofs.Serving.{parts_are, zone_stops, room_for_nonzone, nonzone_ends}
use Rattle.service.proofs.charge_all.Goals as goal

pub returns-in_err-nonzone : goal.returns-in_err-nonzone
returns-in_err-nonzone c = search (rules, zone_stops)

pub divide_all-divided-requires : goal.divide_all-divided-requires
divide_all-divided-requires c =
    room_for_nonzone c.in_ok-nonzone.ensures _ c.args.lists.together.both_parts c.args.lists.together.together.few_groups

pub returns : goal.returns
returns c =
    nonzone_ends c.in_ok-nonzone.ensures _ (parts_are _ _ c.args.lists.together.both_parts refl) _ _ c.divide_all-divided.ensures _
    (ap result_answer c.placed.ensures ∙ placed_answer c.divide_all-divided.result Divisions _)
