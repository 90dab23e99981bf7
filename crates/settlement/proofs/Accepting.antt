-- The answer is a stage: it passes where the input is good and every division is fine, and stops at the first look that is not.
-- Assumes nothing.
use mathlib.Core.Path.{◌≡◌, refl, sym, ap, subst, ◌∙◌}
use mathlib.Core.Logic.{◌↔◌, ◌≢◌, inl, inr, ⊎_elim}
use Prim.Native.Nat.{ℕ, ◌<◌}
use native.Mathlib.Nat.{zero-add}
use Rattle.answer.specs.declared.Answer.{Answer}
use Rattle.answer.specs.Numbers.{DIVISIONS}
use Rattle.answer.specs.Turns.{accepted, refuse, ◌then◌}
use Rattle.answer.proofs.Turns.{zero_or_not, refuse_none, then_on}
use Rattle.lists.specs.Sums.{total}
use Rattle.division.proofs.Laws.{size_why, size_exactly}
use Rattle.groups.specs.Groups as groups
use Rattle.groups.proofs.Laws.{accepted_all, all_accepted, RefusedGroup, refused_at}
use Rattle.service.specs.Turn as service
use Rattle.service.proofs.Turns.{accepted_fine, fine_accepted, refused_where}
use Rattle.tables.specs.Columns.{zone_number}
use Rattle.month.specs.Limits.{black_start, reactive}
use Rattle.tables.proofs.Stages.{Stage, passed, stopped, passed_on, then_stage, refuse_stage}
use Rattle.judgement.specs.Judgement.{judged}
use Rattle.judgement.proofs.Judging.{judged_good, judged_why}
use Rattle.judgement.proofs.Reasons.{good_unrefused}
use Rattle.pool.specs.Input.{Input, head_of, zone_count}
use Rattle.pool.specs.Network.{charges_in, network_pots, requirements, network_nonzone_refusal}
use Rattle.pool.specs.Services.{service_in}
use Rattle.firm.specs.Firm.{firm_pot, firm_refusal}
use Rattle.settlement.specs.Settled.{
  network_place,
  network_nonzone_place,
  black_start_place,
  reactive_place,
  firm_place,
  network_in_turn,
  divisions_in_turn,
  answer_of,
}
use Rattle.settlement.specs.Accepted.{GoodInput, FineNetworkZone, FineNetworkNonzone, ZonesFine, NetworkFine, ServicesFine, FineFirm, Accepted}
use Rattle.settlement.specs.Refused.{Refused, by_tables, at_zone, at_nonzone, in_black_start, in_reactive, at_firm}

-- a network division is not refused exactly where its sizes are fine
module _ (m : Input) where
  pub zone_exactly : (z : ℕ) → (groups.group_refusal (network_pots m) z ≡ 0) ↔ FineNetworkZone m z
  unfolding groups.group_refusal
  zone_exactly z = size_exactly (charges_in m (zone_number m.tables.zones z)) (total (groups.weights_in (network_pots m) z))

  pub nonzone_exactly : (network_nonzone_refusal m ≡ 0) ↔ FineNetworkNonzone m
  unfolding network_nonzone_refusal
  nonzone_exactly = size_exactly (charges_in m 0) (total (requirements m))

  pub firm_exactly : (firm_refusal m ≡ 0) ↔ FineFirm m
  unfolding firm_refusal
  firm_exactly = size_exactly (firm_pot m) (total (requirements m))

  pub zones_pass : (z : ℕ) → ZonesFine m z → (y : ℕ) → y < z → groups.group_refusal (network_pots m) y ≡ 0
  zones_pass z fine y b = (zone_exactly y).1 (fine y b)

  pub network_accepts : NetworkFine m → network_in_turn m ≡ accepted
  unfolding network_in_turn
  network_accepts fine =
      then_on (all_accepted (network_pots m) network_place (zones_pass (zone_count m) fine.zones_fine))
      (refuse_none (network_nonzone_refusal m) DIVISIONS (network_nonzone_place (zone_count m)) (nonzone_exactly.1 fine.nonzone_fine))

  -- the network and both services
  pub services_accept : NetworkFine m → ServicesFine m
      → (network_in_turn m
      then service.service_in_turn (service_in m black_start) (black_start_place (zone_count m))
      then service.service_in_turn (service_in m reactive) (reactive_place (zone_count m)))
      ≡ accepted
  services_accept network fine =
      then_on
      (then_on (network_accepts network) (fine_accepted (service_in m black_start) (black_start_place (zone_count m)) (fine black_start (inl refl))))
      (fine_accepted (service_in m reactive) (reactive_place (zone_count m)) (fine reactive (inr refl)))

module _ (m : Input) (lent_charges lent_credits : ℕ) where
  abbrev Why : Answer → Type 0
  Why = Refused m lent_charges lent_credits

  tables_stage : Stage (GoodInput m lent_charges lent_credits) Why (judged (head_of m) m.tables lent_charges lent_credits)
  tables_stage =
      ⊎_elim
      (λ (z : _ ≡ 0).
      let good : GoodInput m lent_charges lent_credits = judged_good (head_of m) m.tables lent_charges lent_credits z in
      passed (good_unrefused (head_of m) m.tables lent_charges lent_credits good) good)
      (λ (d : _ ≢ 0). stopped d (by_tables (judged_why (head_of m) m.tables lent_charges lent_credits d)))
      (zero_or_not (judged (head_of m) m.tables lent_charges lent_credits).number)

  module _ (good : GoodInput m lent_charges lent_credits) where
    zones_stage : Stage (ZonesFine m (zone_count m)) Why (groups.groups_in_turn (network_pots m) network_place)
    unfolding groups.group_refusal
    zones_stage =
        ⊎_elim
        (λ (z : (groups.groups_in_turn (network_pots m) network_place).number ≡ 0).
        let all = accepted_all (network_pots m) network_place z in
        passed (all_accepted (network_pots m) network_place all) (λ y b. (zone_exactly m y).0 (all y b)))
        (λ (d : (groups.groups_in_turn (network_pots m) network_place).number ≢ 0).
        let g : RefusedGroup (network_pots m) network_place (groups.groups_in_turn (network_pots m) network_place) = refused_at (network_pots m) network_place d in
        stopped d
        (at_zone good g.group (groups.group_refusal (network_pots m) g.group) g.one_of_them (λ y b. (zone_exactly m y).0 (g.earlier_fine y b))
        (size_why _ _ _ refl (λ e. d (g.its_number ∙ e)))
        (λ i. record { number = g.its_number i; table = g.its_table i; row = (g.its_place ∙ zero-add g.group) i })))
        (zero_or_not (groups.groups_in_turn (network_pots m) network_place).number)

    nonzone_stage : ZonesFine m (zone_count m) → Stage (NetworkFine m) Why (refuse (network_nonzone_refusal m) DIVISIONS (network_nonzone_place (zone_count m)))
    unfolding network_nonzone_refusal
    nonzone_stage fine =
        refuse_stage (network_nonzone_refusal m) DIVISIONS (zone_count m) (λ z. record { zones_fine = fine; nonzone_fine = (nonzone_exactly m).0 z })
        (λ d. at_nonzone good (network_nonzone_refusal m) fine (size_why _ _ _ refl d) refl)

    service_stage : (s place : ℕ) → ((r : Answer) → service.RefusedAt (service_in m s) place r → Why r)
        → Stage (service.ServiceFine (service_in m s)) Why (service.service_in_turn (service_in m s) place)
    service_stage s place because =
        ⊎_elim
        (λ (z : (service.service_in_turn (service_in m s) place).number ≡ 0).
        let fine : service.ServiceFine (service_in m s) = accepted_fine (service_in m s) place z in
        passed (fine_accepted (service_in m s) place fine) fine)
        (λ (d : (service.service_in_turn (service_in m s) place).number ≢ 0). stopped d (because _ (refused_where (service_in m s) place d)))
        (zero_or_not (service.service_in_turn (service_in m s) place).number)

    -- both services, behind the network
    both : service.ServiceFine (service_in m black_start) → service.ServiceFine (service_in m reactive) → ServicesFine m
    both first second s i =
        ⊎_elim
        (λ (q : s ≡ black_start). subst (λ k. service.ServiceFine (service_in m k)) (sym q) first)
        (λ (q : s ≡ reactive). subst (λ k. service.ServiceFine (service_in m k)) (sym q) second)
        i

    firm_stage : NetworkFine m → ServicesFine m → Stage (FineFirm m) Why (refuse (firm_refusal m) DIVISIONS (firm_place (zone_count m)))
    unfolding firm_refusal
    firm_stage network services =
        refuse_stage (firm_refusal m) DIVISIONS (firm_place (zone_count m)) (firm_exactly m).0
        (λ d. at_firm good (firm_refusal m) network services (size_why _ _ _ refl d) refl)

    divisions_stage : Stage (Accepted m lent_charges lent_credits) Why (divisions_in_turn m)
    unfolding divisions_in_turn network_in_turn
    divisions_stage =
        then_stage {G = NetworkFine m × ServicesFine m}
        (then_stage {G = NetworkFine m × service.ServiceFine (service_in m black_start)}
        (then_stage
        (then_stage zones_stage nonzone_stage)
        (λ network.
        passed_on (λ fine. (network, fine))
        (service_stage black_start (black_start_place (zone_count m)) (λ r. in_black_start good network))))
        (λ p.
        passed_on (λ fine. (p.0, both p.1 fine))
        (service_stage reactive (reactive_place (zone_count m)) (λ r. in_reactive good p.0 p.1))))
        (λ p.
        passed_on (λ fine. record { good = good; network_fine = p.0; service_fine = p.1; firm_fine = fine })
        (firm_stage p.0 p.1))

  answer_stage : Stage (Accepted m lent_charges lent_credits) Why (answer_of m lent_charges lent_credits)
  unfolding answer_of
  answer_stage = then_stage tables_stage divisions_stage

  pub answer_accepted : (answer_of m lent_charges lent_credits).number ≡ 0 → Accepted m lent_charges lent_credits
  answer_accepted e =
      elim answer_stage as (λ s. Accepted m lent_charges lent_credits) [ passed q all ↦ all | stopped d why ↦ absurd (d e) ]

  pub answer_why : (answer_of m lent_charges lent_credits).number ≢ 0 → Why (answer_of m lent_charges lent_credits)
  answer_why bad =
      elim answer_stage as (λ s. Why (answer_of m lent_charges lent_credits))
      [ passed q all ↦ absurd (bad (ap (λ (a : Answer). a.number) q)) | stopped d why ↦ why ]

  pub tables_accept : GoodInput m lent_charges lent_credits → judged (head_of m) m.tables lent_charges lent_credits ≡ accepted
  tables_accept = good_unrefused (head_of m) m.tables lent_charges lent_credits

  pub accepted_answer : Accepted m lent_charges lent_credits → answer_of m lent_charges lent_credits ≡ accepted
  unfolding answer_of divisions_in_turn
  accepted_answer a =
      then_on (tables_accept a.good)
      (then_on (services_accept m a.network_fine a.service_fine)
      (refuse_none (firm_refusal m) DIVISIONS (firm_place (zone_count m)) ((firm_exactly m).1 a.firm_fine)))
