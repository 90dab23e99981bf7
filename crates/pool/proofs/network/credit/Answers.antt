-- `pool::network::credit` meets its contract: the lists that are divided hold the tables' columns and the zones' charges, and each of
-- the two columns of credits is lent by itself.
-- Assumes nothing.
use mathlib.Core.Path.{◌≡◌, sym, ap, ◌∙◌}
use mathlib.Core.List.{List}
use Prim.Native.Nat.{ℕ}
use native.Mathlib.Omega.{arith}
use lib.ListN.{replicate}
use Rattle.lists.specs.Entries.{put}
use Rattle.answer.specs.Numbers.{DIVISIONS}
use Rattle.answer.specs.Turns.{refuse}
use Rattle.answer.specs.Results.{result_answer, result_number}
use Rattle.answer.specs.declared.Part.TheVariants.{Divisions}
use Rattle.answer.proofs.Results.{placed_answer}
use Rattle.tables.specs.declared.Table.TheVariants.{Zones, Owners}
use Rattle.tables.specs.Shape.{Tables, rows, limit}
use Rattle.tables.specs.Columns.{zone_number, owner_zone, owner_requirement}
use Rattle.columns.proofs.Fronts.{stored_front}
use Rattle.columns.proofs.Blocks.{columns_long}
use Rattle.pool.specs.Divided.{charges_from, Divisible}
use Rattle.pool.proofs.Crediting.{Lists, together, and_answer, second_addable, network_divided, network_credited}
use Rattle.pool.proofs.network.credit.Goals as goal

-- the lists that are divided, filled from the tables and the network charges
filled : {t : Tables} {network : List ℕ} {zonecount ownercount : ℕ} {pots numbers requirements ownerzones : List ℕ}
    → Divisible t network → zonecount ≡ rows Zones t.zones → ownercount ≡ rows Owners t.owners
    → pots ≡ put (rows Zones t.zones) (λ z. charges_from t.accounts network (zone_number t.zones z)) (replicate (limit Zones) 0)
    → numbers ≡ put (rows Zones t.zones) (zone_number t.zones) (replicate (limit Zones) 0)
    → requirements ≡ put (rows Owners t.owners) (owner_requirement t.owners) (replicate (limit Owners) 0)
    → ownerzones ≡ put (rows Owners t.owners) (owner_zone t.owners) (replicate (limit Owners) 0)
    → Lists t network zonecount ownercount pots numbers requirements ownerzones
filled can zones owners pots numbers requirements ownerzones =
    record {
      pots_front = stored_front _ _ _ pots can.few_zones zones;
      numbers_front = stored_front _ _ _ numbers can.few_zones zones;
      requirements_front = stored_front _ _ _ requirements can.few_owners owners;
      ownerzones_front = stored_front _ _ _ ownerzones can.few_owners owners;
    }

pub slice_bounds-each_group-end-2 : goal.slice_bounds-each_group-end-2
slice_bounds-each_group-end-2 c = sym (columns_long 64 0 c.args.credits.now 1 (omega (arith, c.requires.1.long)))

pub each_group-zones-requires-clause-weights_in_bounds : goal.each_group-zones-requires-clause-weights_in_bounds
each_group-zones-requires-clause-weights_in_bounds c =
    let lists = filled c.requires.0 c.rows_of-zonecount.ensures c.rows_of-ownercount.ensures c.sums_in.ensures c.copy.ensures c.copy-2.ensures c.copy-3.ensures in
    let goes = together lists c.requires.0 in
    omega (arith, goes.few_members, columns_long 64 0 c.args.credits.now 1 (omega (arith, c.requires.1.long)))

pub divide_all-divided-requires : goal.divide_all-divided-requires
divide_all-divided-requires c =
    let lists = filled c.requires.0 c.rows_of-zonecount.ensures c.rows_of-ownercount.ensures c.sums_in.ensures c.copy.ensures c.copy-2.ensures c.copy-3.ensures in
    second_addable c.requires.1 _ c.each_group-zones.ensures (together lists c.requires.0).few_members

pub returns : goal.returns
returns c =
    let lists = filled c.requires.0 c.rows_of-zonecount.ensures c.rows_of-ownercount.ensures c.sums_in.ensures c.copy.ensures c.copy-2.ensures c.copy-3.ensures in
    network_credited lists c.sum_in-pot.ensures
    (network_divided c.requires.1 _ c.each_group-zones.ensures c.divide_all-divided.ensures
    (ap result_answer c.placed-nonzone.ensures
    ∙ placed_answer c.divide_all-divided.result Divisions c.rows_of-zonecount.result
    ∙ ap (refuse (result_number c.divide_all-divided.result) DIVISIONS) lists.numbers_front.long)
    (ap result_answer c.and.ensures ∙ and_answer c.each_group-zones.result c.placed-nonzone.result))
