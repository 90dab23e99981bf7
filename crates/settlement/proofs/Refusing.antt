-- A settlement is refused exactly by its tables, or at the first division that is not fine.
-- Assumes nothing.
use mathlib.Core.Path.{◌≡◌, refl, sym, ap, ap₂, ◌∙◌, subst}
use mathlib.Core.Logic.{◌↔◌, ◌≢◌}
use Prim.Native.Nat.{ℕ, ◌+◌, ◌*◌, ◌≤◌, ◌<◌}
use native.Mathlib.Nat.{zero-add}
use native.Mathlib.Omega.{arith}
use Rattle.lists.specs.Sums.{total}
use Rattle.answer.specs.declared.Answer.{Answer}
use Rattle.answer.specs.Numbers.{DIVISIONS}
use Rattle.answer.specs.Turns.{refuse, refusal}
use Rattle.answer.proofs.Turns.{refuse_none, refuse_some, refuse_number, turns_stop, then_on, then_stays}
use Rattle.division.specs.Refused.{SizeRefused}
use Rattle.division.proofs.Laws.{why_size}
use Rattle.groups.specs.Groups as groups
use Rattle.groups.proofs.Laws.{all_accepted}
use Rattle.service.specs.Service.{Service}
use Rattle.service.specs.Turn as service
use Rattle.service.proofs.Turns.{fine_accepted, refused_exactly}
use Rattle.tables.specs.declared.Table.{Table}
use Rattle.tables.specs.declared.Table.TheVariants.{Zones, Owners, Units, Accounts, Loads, Reservations, Firm}
use Rattle.tables.specs.Shape.{number}
use Rattle.tables.specs.Columns.{zone_number}
use Rattle.month.specs.Limits.{black_start, reactive}
use Rattle.judgement.specs.Refused as reasons
use Rattle.judgement.proofs.Reasons as judgement
use Rattle.pool.specs.Input.{Input, head_of, zone_count}
use Rattle.pool.specs.Network.{charges_in, network_pots, requirements, network_nonzone_refusal}
use Rattle.pool.specs.Services.{service_in}
use Rattle.firm.specs.Firm.{firm_pot, firm_refusal}
use Rattle.settlement.specs.Settled.{network_place, network_nonzone_place, black_start_place, reactive_place, firm_place, network_in_turn, divisions_in_turn, answer_of}
use Rattle.settlement.specs.Accepted.{ZonesFine, NetworkFine}
use Rattle.settlement.specs.Refused.{Refused, by_tables, at_zone, at_nonzone, in_black_start, in_reactive, at_firm, Places}
use Rattle.settlement.proofs.Accepting.{zones_pass, answer_why, tables_accept, network_accepts, services_accept}

module _ (m : Input) (lent_charges lent_credits : ℕ) where
  abbrev zones_answer : Answer
  zones_answer = groups.groups_in_turn (network_pots m) network_place

  abbrev nonzone_answer : Answer
  nonzone_answer = refuse (network_nonzone_refusal m) DIVISIONS (network_nonzone_place (zone_count m))

  abbrev black_start_answer : Answer
  black_start_answer = service.service_in_turn (service_in m black_start) (black_start_place (zone_count m))

  abbrev reactive_answer : Answer
  reactive_answer = service.service_in_turn (service_in m reactive) (reactive_place (zone_count m))

  abbrev firm_answer : Answer
  firm_answer = refuse (firm_refusal m) DIVISIONS (firm_place (zone_count m))

  -- the divisions of the zones stop at the first that is not fine
  zone_stops : (z n : ℕ) → z < zone_count m → ZonesFine m z → groups.group_refusal (network_pots m) z ≡ n → n ≢ 0 → zones_answer ≡ refusal n DIVISIONS z
  unfolding groups.groups_in_turn
  zone_stops z n b before e d =
      turns_stop (λ y. refuse (groups.group_refusal (network_pots m) y) DIVISIONS (network_place + y)) (zone_count m) z b
      (λ y l. refuse_none (groups.group_refusal (network_pots m) y) DIVISIONS (network_place + y) (zones_pass m z before y l))
      (λ o. d (sym e ∙ sym (refuse_number (groups.group_refusal (network_pots m) z) DIVISIONS (network_place + z)) ∙ o))
      ∙ ap₂ (λ k row. refuse k DIVISIONS row) e (zero-add z)
      ∙ refuse_some n DIVISIONS z d

  zone_is : (z n : ℕ) → SizeRefused (charges_in m (zone_number m.tables.zones z)) (total (groups.weights_in (network_pots m) z)) n
      → (groups.group_refusal (network_pots m) z ≡ n) × (n ≢ 0)
  unfolding groups.group_refusal
  zone_is z n = why_size (charges_in m (zone_number m.tables.zones z)) (total (groups.weights_in (network_pots m) z)) n

  nonzone_is : (n : ℕ) → SizeRefused (charges_in m 0) (total (requirements m)) n → (network_nonzone_refusal m ≡ n) × (n ≢ 0)
  unfolding network_nonzone_refusal
  nonzone_is n = why_size (charges_in m 0) (total (requirements m)) n

  firm_is : (n : ℕ) → SizeRefused (firm_pot m) (total (requirements m)) n → (firm_refusal m ≡ n) × (n ≢ 0)
  unfolding firm_refusal
  firm_is n = why_size (firm_pot m) (total (requirements m)) n

  why_number : (r : Answer) → Refused m lent_charges lent_credits r → r.number ≢ 0
  why_number r (by_tables why) = judgement.why_number (head_of m) m.tables lent_charges lent_credits r why
  why_number r (at_zone good z n b before why e) = λ o. (zone_is z n why).1 (sym (ap (λ (a : Answer). a.number) e) ∙ o)
  why_number r (at_nonzone good n before why e) = λ o. (nonzone_is n why).1 (sym (ap (λ (a : Answer). a.number) e) ∙ o)
  why_number r (in_black_start good network why) =
      ((refused_exactly (service_in m black_start) (black_start_place (zone_count m)) r).0 why).1
  why_number r (in_reactive good network first why) =
      ((refused_exactly (service_in m reactive) (reactive_place (zone_count m)) r).0 why).1
  why_number r (at_firm good n network services why e) = λ o. (firm_is n why).1 (sym (ap (λ (a : Answer). a.number) e) ∙ o)

  -- a reason that is so is what is answered: all that is looked at earlier passes, and the look that it names does not
  why_answer : (r : Answer) → Refused m lent_charges lent_credits r → answer_of m lent_charges lent_credits ≡ r
  unfolding answer_of divisions_in_turn network_in_turn
  why_answer r why = go why (why_number r why)
    where
      go : Refused m lent_charges lent_credits r → r.number ≢ 0 → answer_of m lent_charges lent_credits ≡ r
      go (by_tables w) d =
          then_stays d (divisions_in_turn m) (judgement.why_judged (head_of m) m.tables lent_charges lent_credits r w)
      go (at_zone good z n b before w e) d =
          then_on (tables_accept m lent_charges lent_credits good)
          (then_stays d firm_answer
          (then_stays d reactive_answer
          (then_stays d black_start_answer
          (then_stays d nonzone_answer (zone_stops z n b before (zone_is z n w).0 (zone_is z n w).1 ∙ sym e)))))
      go (at_nonzone good n zones w e) d =
          then_on (tables_accept m lent_charges lent_credits good)
          (then_stays d firm_answer
          (then_stays d reactive_answer
          (then_stays d black_start_answer
          (then_on (all_accepted (network_pots m) network_place (zones_pass m (zone_count m) zones))
          (ap (λ k. refuse k DIVISIONS (zone_count m)) (nonzone_is n w).0 ∙ refuse_some n DIVISIONS (zone_count m) (nonzone_is n w).1 ∙ sym e)))))
      go (in_black_start good network w) d =
          then_on (tables_accept m lent_charges lent_credits good)
          (then_stays d firm_answer
          (then_stays d reactive_answer
          (then_on (network_accepts m network)
          ((refused_exactly (service_in m black_start) (black_start_place (zone_count m)) r).0 w).0)))
      go (in_reactive good network first w) d =
          then_on (tables_accept m lent_charges lent_credits good)
          (then_stays d firm_answer
          (then_on
          (then_on (network_accepts m network) (fine_accepted (service_in m black_start) (black_start_place (zone_count m)) first))
          ((refused_exactly (service_in m reactive) (reactive_place (zone_count m)) r).0 w).0))
      go (at_firm good n network services w e) d =
          then_on (tables_accept m lent_charges lent_credits good)
          (then_on (services_accept m network services)
          (ap (λ k. refuse k DIVISIONS (firm_place (zone_count m))) (firm_is n w).0
          ∙ refuse_some n DIVISIONS (firm_place (zone_count m)) (firm_is n w).1
          ∙ sym e))

  pub answer_exactly : (r : Answer) → Refused m lent_charges lent_credits r ↔ ((answer_of m lent_charges lent_credits ≡ r) × (r.number ≢ 0))
  answer_exactly r = (
    (λ why. (why_answer r why, why_number r why)),
    λ p.
        subst (Refused m lent_charges lent_credits) p.0
        (answer_why m lent_charges lent_credits (λ z. p.1 (ap (λ (a : Answer). a.number) (sym p.0) ∙ z))),
  )

-- A refusal at the last place is the firm division's: the tables are refused elsewhere, and every other division stands before it.
not_divisions : (table : Table) → number table ≢ DIVISIONS
not_divisions Zones e = omega arith
not_divisions Owners e = omega arith
not_divisions Units e = omega arith
not_divisions Accounts e = omega arith
not_divisions Loads e = omega arith
not_divisions Reservations e = omega arith
not_divisions Firm e = omega arith

its_table : {r s : Answer} → r ≡ s → r.table ≡ s.table
its_table e = ap (λ (a : Answer). a.table) e

its_row : {r s : Answer} → r ≡ s → r.row ≡ s.row
its_row e = ap (λ (a : Answer). a.row) e

in_service : (s : Service) (place : ℕ) (r : Answer) → service.RefusedAt s place r → r.row ≤ place + 2 * s.zones
in_service s place r (service.at_split z n b before why e) = omega (arith, its_row e, b)
in_service s place r (service.at_share z b before split some none e) = omega (arith, its_row e, b)
in_service s place r (service.at_nonzone before why e) = omega (arith, its_row e)

module _ (m : Input) (lent_charges lent_credits : ℕ) (r : Answer) where
  tables_elsewhere : reasons.Refused (head_of m) m.tables lent_charges lent_credits r → r.table ≢ DIVISIONS
  tables_elsewhere (reasons.by_count table e before bad) q = not_divisions table (sym (its_table e) ∙ q)
  tables_elsewhere (reasons.by_charges e all short) q = omega (arith, its_table e, q)
  tables_elsewhere (reasons.by_credits e all fit short) q = omega (arith, its_table e, q)
  tables_elsewhere (reasons.by_month e all roomy bad) q = omega (arith, its_table e, q)
  tables_elsewhere (reasons.by_head e all roomy known bad) q = omega (arith, its_table e, q)
  tables_elsewhere (reasons.by_row table i n e why) q = not_divisions table (sym (its_table e) ∙ q)

  pub last_is_firm : Refused m lent_charges lent_credits r → r.table ≡ DIVISIONS → r.row ≡ 5 * zone_count m + 3 → NetworkFine m × (firm_refusal m ≡ r.number)
  last_is_firm (by_tables why) t row = absurd (tables_elsewhere why t)
  last_is_firm (at_zone good z n b before why e) t row = absurd (omega (arith, its_row e, row, b))
  last_is_firm (at_nonzone good n before why e) t row = absurd (omega (arith, its_row e, row))
  last_is_firm (in_black_start good network why) t row =
      absurd (omega (arith, in_service (service_in m black_start) (black_start_place (zone_count m)) r why, row))
  last_is_firm (in_reactive good network first why) t row =
      absurd (omega (arith, in_service (service_in m reactive) (reactive_place (zone_count m)) r why, row))
  last_is_firm (at_firm good n network services why e) t row =
      (network, (firm_is m lent_charges lent_credits n why).0 ∙ sym (ap (λ (a : Answer). a.number) e))

pub places : (m : Input) → Places m
places m =
    record {
      black_start_split = λ i. refl;
      black_start_share = λ i. omega arith;
      black_start_nonzone = omega arith;
      reactive_split = λ i. refl;
      reactive_share = λ i. omega arith;
      reactive_nonzone = omega arith;
    }
