-- What is promised of every settlement, and of every accepted month. Nothing else stands here; each proof puts together what the division, the groups, the
-- services and the tables promise.
-- Assumes nothing.
use mathlib.Core.Path.{◌≡◌, refl, sym, ap, ◌∙◌}
use mathlib.Core.Logic.{◌⊎◌, ◌↔◌, ◌≢◌, inl, inr}
use mathlib.Core.Bool.{true}
use Prim.Native.Nat.{ℕ, ◌+◌, ◌-◌, ◌<◌, ◌*◌, ◌≤◌}
use native.Mathlib.Nat.{add-zero, zero-add}
use native.Mathlib.Omega.{arith}
use mathlib.Core.List.{List, [], ◌∷◌}
use Rattle.lists.specs.Sums.{sum_to, at, total, when, sum_where}
use Rattle.lists.proofs.Sums.{sum_eq, when_eq, where_eq}
use Rattle.answer.specs.declared.Answer.{Answer}
use Rattle.answer.specs.Numbers.{BIG, BASE, DIVISIONS}
use Rattle.answer.specs.Turns.{accepted, refusal}
use Rattle.groups.specs.Groups.{weights_in, amount, group_refusal}
use Rattle.groups.proofs.Members.{listed_add_up, listed_none}
use Rattle.groups.proofs.Laws.{pots_divided, pot_divided, members_have_all, weightless_none_at_all}
use Rattle.service.specs.Service.{both_uses, zone_side, nonzone_side, zone_sides, nonzone_pot, zone_share, nonzone_share}
use Rattle.service.specs.Turn.{split_refusal, share_refusal}
use Rattle.service.specs.Turn as turn
use Rattle.division.specs.Limits.{pot_limit}
use Rattle.division.specs.Refused.{FineSize}
use Rattle.division.specs.Shares.{shares}
use Rattle.service.proofs.Promises as service
use Rattle.tables.specs.Shape.{charge_width, credit_width}
use Rattle.tables.specs.Columns.{zone_number, owner_number, owner_zone, owner_requirement, unit_owner, account_zone, zone_rate, account_number, load_account, load_day, load_contribution, reservation_account, reservation_reserved, reservation_curtailed, firm_day}
use Rattle.month.specs.Limits.{black_start, reactive}
use Rattle.month.specs.Quantities.{use_of}
use Rattle.pool.specs.Input.{Input, head_of, zone_count, owner_count, unit_count, account_count, load_count, reservation_count, firm_count}
use Rattle.pool.specs.Accounts.{contributions, reserved, curtailed, account_use, network_use, energy_use, contribution_on}
use Rattle.pool.specs.Network.{network_charge, charges_in, network_pots, network_credit, requirements, nonzone_credit, network_nonzone_refusal, rate}
use Rattle.pool.specs.Services.{credit_in, service_credit, zone_credits, zone_pot, service_in, service_charge}
use Rattle.pool.proofs.Parts as pool
use Rattle.firm.specs.Weeks.{week_of, weeks}
use Rattle.firm.specs.Firm.{terms_of, firm_charge, firm_pot, firm_credit, firm_refusal}
use Rattle.firm.specs.Settled.{Costable}
use Rattle.firm.proofs.Promises as firm-service
use Rattle.settlement.specs.Settled.{answer_of, charge_of, credit_of, Settled}
use Rattle.settlement.specs.Columns.{
  charged_network,
  charged_black_start,
  charged_reactive,
  charged_firm,
  credited_network,
  credited_nonzone,
  credited_black_start,
  credited_reactive,
  credited_firm,
}
use Rattle.settlement.specs.Accepted.{IsService, Accepted}
use Rattle.settlement.specs.Paid.{among_accounts, among_owners, WithoutRequirement, is_sharer, among_sharers, Parted, Paid, Credited}
use Rattle.settlement.proofs.Accepting.{zone_exactly, nonzone_exactly, firm_exactly, answer_accepted, accepted_answer}
use Rattle.settlement.proofs.Balance as balance
use Rattle.settlement.specs.Refused.{Refused, Places}
use Rattle.settlement.proofs.Refusing as refusing
use Rattle.settlement.proofs.Written as written
use Rattle.settlement.proofs.Keys.{no_entry_of}
use Rattle.settlement.proofs.Days as days
use Rattle.settlement.proofs.Ranges as ranges
use Rattle.settlement.specs.Before.{former_service}
use Rattle.settlement.specs.Firmless.{firmless}
use Rattle.settlement.proofs.Parts as parts
use Rattle.settlement.proofs.Before as before
use Rattle.settlement.proofs.Firmless as without

module _ (m : Input) (lent_charges lent_credits : ℕ) where
  -- a month is accepted, with 0, 0, 0, exactly where its input is good and every division is fine: no such month is refused
  pub accepted_exactly : (answer_of m lent_charges lent_credits ≡ accepted) ↔ Accepted m lent_charges lent_credits
  accepted_exactly = (
    (λ e. answer_accepted m lent_charges lent_credits (ap (λ (r : Answer). r.number) e)),
    accepted_answer m lent_charges lent_credits,
  )

  -- a month is refused with an answer exactly when that names the first rule of the tables that is broken or, by the paper's place,
  -- the first division that is not fine
  pub refused_exactly : (r : Answer) → Refused m lent_charges lent_credits r ↔ ((answer_of m lent_charges lent_credits ≡ r) × (r.number ≢ 0))
  refused_exactly = refusing.answer_exactly m lent_charges lent_credits

-- a network division is fine exactly where pot and weights are within their limits and a pot has a base
pub zone_fine_exactly : (m : Input) (z : ℕ)
    → (group_refusal (network_pots m) z ≡ 0) ↔ FineSize (charges_in m (zone_number m.tables.zones z)) (total (weights_in (network_pots m) z))
zone_fine_exactly = zone_exactly

pub nonzone_fine_exactly : (m : Input) → (network_nonzone_refusal m ≡ 0) ↔ FineSize (charges_in m 0) (total (requirements m))
nonzone_fine_exactly = nonzone_exactly

-- .. and so is the firm division ..
pub firm_fine_exactly : (m : Input) → (firm_refusal m ≡ 0) ↔ FineSize (firm_pot m) (total (requirements m))
firm_fine_exactly = firm_exactly

-- .. "the division comes last, at 5k+3": where a month is refused there, BIG comes from the pot alone, the owners' requirements having been
-- divided by before, and BASE from owners without requirement
module _ (m : Input) (lent_charges lent_credits : ℕ) where
  pub firm_big_by_the_pot : answer_of m lent_charges lent_credits ≡ refusal BIG DIVISIONS (5 * zone_count m + 3) → pot_limit < firm_pot m
  firm_big_by_the_pot e =
      let why = refusing.last_is_firm m lent_charges lent_credits _ ((refused_exactly m lent_charges lent_credits _).1 (e, omega arith)) refl refl in
      firm-service.firm_big_by_the_pot m why.0.nonzone_fine.weights_fit why.1

  pub firm_base_by_the_requirements : answer_of m lent_charges lent_credits ≡ refusal BASE DIVISIONS (5 * zone_count m + 3) → total (requirements m) ≡ 0
  firm_base_by_the_requirements e =
      let why = refusing.last_is_firm m lent_charges lent_credits _ ((refused_exactly m lent_charges lent_credits _).1 (e, omega arith)) refl refl in
      firm-service.firm_base_by_the_requirements m why.1

-- the places of the services' divisions are the paper's
pub places_are_the_papers : (m : Input) → Places m
places_are_the_papers = refusing.places

-- the words of the lent outputs after a settlement
module _ {m : Input} {charges charges_after credits credits_after : List ℕ} {r : Answer} (settled : Settled m charges charges_after credits credits_after r) where
  -- a refusal changes none
  pub refusal_changes_nothing : r.number ≢ 0 → (charges_after ≡ charges) × (credits_after ≡ credits)
  refusal_changes_nothing = written.refused_words settled

  -- acceptance writes each account's four charges and each owner's five credits ..
  pub charges_are_written : r.number ≡ 0 → (column a : ℕ) → column < charge_width → a < account_count m
      → at charges_after (a * charge_width + column) ≡ charge_of m column a
  charges_are_written = written.charge_word settled

  pub credits_are_written : r.number ≡ 0 → (column o : ℕ) → column < credit_width → o < owner_count m
      → at credits_after (o * credit_width + column) ≡ credit_of m column o
  credits_are_written = written.credit_word settled

  -- .. and no word behind them
  pub charges_behind_stay : r.number ≡ 0 → (k : ℕ) → account_count m * charge_width ≤ k → at charges_after k ≡ at charges k
  charges_behind_stay = written.behind_charges settled

  pub credits_behind_stay : r.number ≡ 0 → (k : ℕ) → owner_count m * credit_width ≤ k → at credits_after k ≡ at credits k
  credits_behind_stay = written.behind_credits settled

module _ {m : Input} {lent_charges lent_credits : ℕ} (all : Accepted m lent_charges lent_credits) where
  open m.tables use {zones, owners, accounts, loads, reservations, firm}

  -- an account's rate is its zone's, or the non-zone rate; its energy is that of its own reservation
  pub rate_is_its_zones : (a z : ℕ) → z < zone_count m → account_zone accounts a ≡ zone_number zones z → rate m a ≡ zone_rate zones z
  rate_is_its_zones = ranges.rate_of_zone m lent_charges lent_credits all.good

  pub rate_of_zone_0 : (a : ℕ) → account_zone accounts a ≡ 0 → rate m a ≡ m.nonzone
  rate_of_zone_0 = ranges.rate_at_the_border m lent_charges lent_credits all.good

  pub energy_is_its_reservations : (a r : ℕ) → r < reservation_count m → reservation_account reservations r ≡ account_number accounts a
      → (reserved m a ≡ reservation_reserved reservations r) × (curtailed m a ≡ reservation_curtailed reservations r)
  energy_is_its_reservations = ranges.reservation_of m lent_charges lent_credits all.good

  -- a load row's contribution is its account's on its day, and the days' contributions add up to the month's
  pub load_is_of_its_day : (a i : ℕ) → i < load_count m → load_account loads i ≡ account_number accounts a
      → contribution_on m a (load_day loads i) ≡ load_contribution loads i
  load_is_of_its_day a = days.load_on_its_day m a lent_charges lent_credits all.good

  pub contributions_day_by_day : (a : ℕ) → contributions m a ≡ sum_to m.days (λ d. contribution_on m a (d + 1))
  contributions_day_by_day a = days.day_by_day m a lent_charges lent_credits all.good

  -- every firm row can be charged: its day is one of a week, and all its entries are in range
  pub firm_rows_are_charged : Costable (terms_of (head_of m)) firm
  firm_rows_are_charged = (ranges.settleable m lent_charges lent_credits all.good).reservable.costable

  pub firm_days_have_weeks : (i : ℕ) → i < firm_count m → week_of m.weekday (firm_day firm i) < weeks
  firm_days_have_weeks i b =
      let can = firm_rows_are_charged in
      firm-service.week_is_one_of_six m.weekday (firm_day firm i) can.first_weekday can.last_weekday_lem (can.first_day i b) (can.last_day i b)

  -- an owner without requirement has no network credit and no firm credit
  pub no_requirement_no_credit : (o : ℕ) → o < owner_count m → owner_requirement owners o ≡ 0
      → (network_credit m o ≡ 0) × (nonzone_credit m o ≡ 0) × (firm_credit m o ≡ 0)
  unfolding network_credit nonzone_credit requirements network_nonzone_refusal
  no_requirement_no_credit o b e = (
    weightless_none_at_all (network_pots m) (parts.zones_unrefused all) o b e,
    listed_none (charges_in m 0) (owner_count m) (owner_requirement owners) ((nonzone_exactly m).1 all.network_fine.nonzone_fine) o b e,
    firm-service.no_requirement_no_credit m ((firm_exactly m).1 all.firm_fine) o b e,
  )

  -- in each zone the network charges of its accounts add up to what its owners have from it ..
  pub zone_charges_are_credits_from_it : (z : ℕ) → z < zone_count m
      → charges_in m (zone_number zones z) ≡ sum_to (owner_count m) (λ o. amount (network_pots m) z o)
  zone_charges_are_credits_from_it z b = sym (pot_divided (network_pots m) z (parts.zones_unrefused all z b))

  -- .. which is the network credit of each
  pub network_credit_is_from_own_zone : (o z : ℕ) → o < owner_count m → z < zone_count m → owner_zone owners o ≡ zone_number zones z
      → network_credit m o ≡ amount (network_pots m) z o
  network_credit_is_from_own_zone = parts.credit_from_own_zone all

  -- in each zone the network charges of its accounts add up to what its owners are credited: to the credits of the owners whose zone has
  -- this zone's number
  pub zone_charges_are_credits : (z : ℕ) → z < zone_count m
      → charges_in m (zone_number zones z) ≡ sum_where (owner_count m) (owner_zone owners) (network_credit m) (zone_number zones z)
  unfolding sum_where
  zone_charges_are_credits z b =
      sym (members_have_all (network_pots m) z (parts.zones_unrefused all z b))
      ∙ where_eq (owner_count m) (owner_zone owners) (amount (network_pots m) z) (zone_number zones z) (network_credit m)
      (λ o h e. sym (parts.credit_from_own_zone all o z h b e))

  -- all zones' network charges add up to all network credits
  pub all_zone_charges_are_credits : sum_to (zone_count m) (λ z. charges_in m (zone_number zones z)) ≡ sum_to (owner_count m) (network_credit m)
  unfolding network_credit
  all_zone_charges_are_credits = sym (pots_divided (network_pots m) (parts.zones_unrefused all))

  -- the network charges of zone 0 add up to all non-zone credits
  pub zone_0_charges_are_nonzone_credits : charges_in m 0 ≡ sum_to (owner_count m) (nonzone_credit m)
  unfolding nonzone_credit requirements network_nonzone_refusal
  zone_0_charges_are_nonzone_credits =
      sym (listed_add_up (charges_in m 0) (owner_count m) (owner_requirement owners) ((nonzone_exactly m).1 all.network_fine.nonzone_fine))

  -- over the pool the same holds for black start and for reactive
  pub service_charges_are_credits : (s : ℕ) → IsService s → sum_to (account_count m) (service_charge m s) ≡ sum_to (owner_count m) (service_credit m s)
  unfolding service_charge
  service_charges_are_credits s i =
      service.charges_are_pots (service_in m s) (all.service_fine s i)
      ∙ balance.pots_are_credits m lent_charges lent_credits all.good s
      ∙ sym (balance.owners_have_credits m lent_charges lent_credits all.good s)

  -- over the pool the firm charges add up to the firm credits
  pub firm_charges_are_credits : sum_to (account_count m) (firm_charge m) ≡ sum_to (owner_count m) (firm_credit m)
  firm_charges_are_credits = sym (firm-service.firm_balanced m ((firm_exactly m).1 all.firm_fine))

  -- all charges equal all credits
  pub all_charges_are_credits : sum_to charge_width (λ column. sum_to (account_count m) (charge_of m column)) ≡ sum_to credit_width (λ column. sum_to (owner_count m) (credit_of m column))
  unfolding sum_to charge_of credit_of
  all_charges_are_credits =
      omega (
        arith,
        balance.charges_by_zone m lent_charges lent_credits all.good,
        all_zone_charges_are_credits,
        zone_0_charges_are_nonzone_credits,
        service_charges_are_credits black_start (inl refl),
        service_charges_are_credits reactive (inr refl),
        firm_charges_are_credits,
      )

  module _ (s : ℕ) (i : IsService s) where
    -- each zone's pot is split without loss
    pub split_without_loss : (z : ℕ) → z < zone_count m → zone_side (service_in m s) z + nonzone_side (service_in m s) z ≡ zone_pot m s z
    split_without_loss = service.split_without_loss (service_in m s) (all.service_fine s i)

    -- in a zone with a requirement, its side is fully charged to that zone's accounts, and is all that these are charged
    pub zone_side_to_its_accounts : (z : ℕ) → z < zone_count m → ¬ WithoutRequirement m s (zone_number zones z)
        → sum_where (account_count m) (account_zone accounts) (service_charge m s) (zone_number zones z) ≡ zone_side (service_in m s) z
    unfolding sum_where
    zone_side_to_its_accounts z b required =
        where_eq (account_count m) (account_zone accounts) (service_charge m s) (zone_number zones z) (zone_share (service_in m s) z)
        (λ a h e. parts.pays_its_zone_side all s (all.service_fine s i) a z h b e required)
        ∙ service.zone_side_to_its_accounts (service_in m s) (all.service_fine s i) z b

    -- a zone without requirement has no side ..
    pub without_requirement_no_sides : (z : ℕ) → z < zone_count m → WithoutRequirement m s (zone_number zones z)
        → (zone_side (service_in m s) z ≡ 0) × (nonzone_side (service_in m s) z ≡ 0)
    without_requirement_no_sides = parts.no_sides all s (all.service_fine s i)

    -- .. so an account that has energy reserved alone there is charged nothing for the service
    pub reservations_are_free : (a z : ℕ) → a < account_count m → z < zone_count m → account_zone accounts a ≡ zone_number zones z
        → WithoutRequirement m s (zone_number zones z) → contributions m a ≡ 0 → service_charge m s a ≡ 0
    reservations_are_free = parts.reservations_are_free all s (all.service_fine s i)

    -- the non-zone sides of all zones are fully charged to the accounts of zone 0 and of zones without requirement, and are all that
    -- these are charged
    pub nonzone_sides_to_sharers : sum_to (account_count m) (λ a. when (is_sharer m s a) (service_charge m s a)) ≡ sum_to (zone_count m) (nonzone_side (service_in m s))
    unfolding nonzone_pot
    nonzone_sides_to_sharers =
        sum_eq (account_count m) (λ a. when (is_sharer m s a) (service_charge m s a)) (λ a. when (is_sharer m s a) (nonzone_share (service_in m s) a))
        (λ a b. when_eq (is_sharer m s a) (service_charge m s a) (nonzone_share (service_in m s) a) (parts.pays_the_nonzone_pot all s (all.service_fine s i) a b))
        ∙ parts.nonzone_pot_to_sharers all s (all.service_fine s i)

    -- an account that uses nothing is charged nothing for the service
    pub idle_account_is_free : (a : ℕ) → a < account_count m → account_use m a ≡ 0 → service_charge m s a ≡ 0
    unfolding service_charge
    idle_account_is_free a b e =
        let none = parts.parts_are_use m s a in
        service.idle_account_is_free (service_in m s) (all.service_fine s i) a b (omega (arith, none)) (omega (arith, none))

    -- the paper's words, "divided among that zone's accounts by use", where the zone has a requirement: its accounts as a list of
    -- their own ..
    pub charge_among_zone_accounts : (a z : ℕ) → a < account_count m → z < zone_count m → account_zone accounts a ≡ zone_number zones z
        → ¬ WithoutRequirement m s (zone_number zones z) → service_charge m s a ≡ among_accounts m (zone_side (service_in m s) z) (zone_number zones z) a
    charge_among_zone_accounts a z b h e required = ((parts.paid all a b).for_service s i).with_requirement z h e required

    -- .. and "those accounts share in the non-zone pot beside zone 0's": those who share as a list of their own
    pub charge_among_sharers : (a : ℕ) → a < account_count m → (account_zone accounts a ≡ 0) ⊎ WithoutRequirement m s (account_zone accounts a)
        → service_charge m s a ≡ among_sharers m s (nonzone_pot (service_in m s)) a
    charge_among_sharers a b who = parts.sharer_paid all s (all.service_fine s i) a b ((parts.sharer_exactly m s a).1 who)

    -- every account is one of the two: it shares in the non-zone pot, or its zone has a row and a requirement
    pub charged_one_way : (a : ℕ) → a < account_count m
        → (is_sharer m s a ≡ true) ⊎ ((z : ℕ) × (z < zone_count m) × (account_zone accounts a ≡ zone_number zones z) × ¬ WithoutRequirement m s (zone_number zones z))
    charged_one_way = parts.one_or_the_other all s (all.service_fine s i)

  -- "divided among its owners by requirement": the zone's owners as a list of their own
  pub credit_among_zone_owners : (o z : ℕ) → o < owner_count m → z < zone_count m → owner_zone owners o ≡ zone_number zones z
      → network_credit m o ≡ among_owners m (charges_in m (zone_number zones z)) (zone_number zones z) o
  credit_among_zone_owners o z b h e = (parts.credited all o b).of_its_zone z h e

  -- all that an account pays, and all that an owner has, in these words
  pub account_pays : (a : ℕ) → a < account_count m → Paid m a
  account_pays = parts.paid all

  pub owner_is_credited : (o : ℕ) → o < owner_count m → Credited m o
  owner_is_credited = parts.credited all

-- the words that were written for an accepted month
module _ {m : Input} {charges charges_after credits credits_after : List ℕ} {r : Answer} (settled : Settled m charges charges_after credits credits_after r)
    (fine : r.number ≡ 0) where
  open m.tables use {zones, owners, accounts}

  -- by their names they are what each account is charged and each owner credited
  pub written_charges : (a : ℕ) → a < account_count m
      → (charged_network charges_after a ≡ network_charge m a) × (charged_black_start charges_after a ≡ service_charge m black_start a)
      × (charged_reactive charges_after a ≡ service_charge m reactive a) × (charged_firm charges_after a ≡ firm_charge m a)
  unfolding charge_of
  written_charges a b =
      let word = written.charge_word settled fine in (word 0 a (omega arith) b, word 1 a (omega arith) b, word 2 a (omega arith) b, word 3 a (omega arith) b)

  pub written_credits : (o : ℕ) → o < owner_count m
      → (credited_network credits_after o ≡ network_credit m o) × (credited_nonzone credits_after o ≡ nonzone_credit m o)
      × (credited_black_start credits_after o ≡ service_credit m black_start o) × (credited_reactive credits_after o ≡ service_credit m reactive o)
      × (credited_firm credits_after o ≡ firm_credit m o)
  unfolding credit_of
  written_credits o b =
      let word = written.credit_word settled fine in
      (word 0 o (omega arith) b, word 1 o (omega arith) b, word 2 o (omega arith) b, word 3 o (omega arith) b, word 4 o (omega arith) b)

  -- their balance, in which nothing is spoken of but these words and the month's tables

  -- in each zone the network charges of the accounts whose zone has its number add up to the network credits of the owners whose zone has it
  pub written_zone_charges_are_credits : (z : ℕ) → z < zone_count m
      → sum_where (account_count m) (account_zone accounts) (charged_network charges_after) (zone_number zones z)
      ≡ sum_where (owner_count m) (owner_zone owners) (credited_network credits_after) (zone_number zones z)
  written_zone_charges_are_credits z b =
      written.charges_of_zone settled fine (zone_number zones z)
      ∙ zone_charges_are_credits (written.all settled fine) z b
      ∙ sym (written.credits_of_zone settled fine (zone_number zones z))

  -- the network charges of zone 0's accounts add up to the non-zone credits of all owners
  pub written_zone_0_charges_are_nonzone_credits :
      sum_where (account_count m) (account_zone accounts) (charged_network charges_after) 0 ≡ sum_to (owner_count m) (credited_nonzone credits_after)
  unfolding credit_of
  written_zone_0_charges_are_nonzone_credits =
      written.charges_of_zone settled fine 0
      ∙ zone_0_charges_are_nonzone_credits (written.all settled fine)
      ∙ sym (written.credits_of_column settled fine 1 (omega arith))

  -- over the pool the charges for black start are its credits ..
  pub written_black_start_charges_are_credits :
      sum_to (account_count m) (charged_black_start charges_after) ≡ sum_to (owner_count m) (credited_black_start credits_after)
  unfolding charge_of credit_of
  written_black_start_charges_are_credits =
      written.columns_balance settled fine 1 2 (omega arith) (omega arith) (service_charges_are_credits (written.all settled fine) black_start (inl refl))

  -- .. those for reactive ..
  pub written_reactive_charges_are_credits :
      sum_to (account_count m) (charged_reactive charges_after) ≡ sum_to (owner_count m) (credited_reactive credits_after)
  unfolding charge_of credit_of
  written_reactive_charges_are_credits =
      written.columns_balance settled fine 2 3 (omega arith) (omega arith) (service_charges_are_credits (written.all settled fine) reactive (inr refl))

  -- .. and the firm charges are the firm credits
  pub written_firm_charges_are_credits : sum_to (account_count m) (charged_firm charges_after) ≡ sum_to (owner_count m) (credited_firm credits_after)
  unfolding charge_of credit_of
  written_firm_charges_are_credits =
      written.columns_balance settled fine 3 4 (omega arith) (omega arith) (firm_charges_are_credits (written.all settled fine))

  -- all words that were written to the charges add up to the same as all that were written to the credits
  pub all_written_charges_are_credits : sum_to (account_count m * charge_width) (at charges_after) ≡ sum_to (owner_count m * credit_width) (at credits_after)
  all_written_charges_are_credits =
      written.all_charges_lem settled fine ∙ all_charges_are_credits (written.all settled fine) ∙ sym (written.all_credits_lem settled fine)

-- the network part of an account's use is 24 times its contributions, its energy part reserved less curtailed; they add up to its use
pub network_and_energy : (m : Input) (a : ℕ)
    → (network_use m a ≡ 24 * contributions m a) × (energy_use m a ≡ reserved m a - curtailed m a) × (network_use m a + energy_use m a ≡ account_use m a)
unfolding network_use energy_use reserved curtailed use_of
network_and_energy m a = (add-zero (24 * contributions m a), zero-add (reserved m a - curtailed m a), pool.network_and_energy_add_up m a)

-- a zone has no requirement of a service, no unit of it having a nonzero credit, exactly where the credits of its units add up to 0
pub without_requirement_exactly : (m : Input) (s zone : ℕ) → (zone_credits m s zone ≡ 0) ↔ WithoutRequirement m s zone
without_requirement_exactly = parts.requirement_exactly

-- what of an account's use is zone use and what is non-zone use; the two parts add up to its use
pub use_is_parted : (m : Input) (s a : ℕ) → Parted m s a
use_is_parted = parts.parted

pub parts_add_up : (m : Input) (s a : ℕ) → (service_in m s).zone_part a + (service_in m s).nonzone_part a ≡ account_use m a
parts_add_up = parts.parts_are_use

-- a zone's pot is divided in two by all zone parts and all non-zone parts, which add up to the use of all accounts, whatever the service
pub split_by_uses : (m : Input) (s z : ℕ)
    → (zone_side (service_in m s) z ∷ nonzone_side (service_in m s) z ∷ [])
    ≡ shares (zone_pot m s z) (sum_to (account_count m) (service_in m s).zone_part ∷ sum_to (account_count m) (service_in m s).nonzone_part ∷ [])
split_by_uses m s = service.split_by_uses (service_in m s)

pub all_use_is_parted : (m : Input) (s : ℕ) → total (both_uses (service_in m s)) ≡ sum_to (account_count m) (account_use m)
all_use_is_parted = before.all_use

-- the accounts that share in the non-zone pot are those of zone 0 and of zones without requirement
pub sharers_exactly : (m : Input) (s a : ℕ) → (is_sharer m s a ≡ true) ↔ ((account_zone m.tables.accounts a ≡ 0) ⊎ WithoutRequirement m s (account_zone m.tables.accounts a))
sharers_exactly = parts.sharer_exactly

-- "BASE as before", by the uses outside zone 0 and in it: a split is refused as it was, and of a zone's share, where its split is fine,
-- no BASE is new. A zone with a requirement divides its side by the same use as before
pub split_refused_as_before : (m : Input) (s z : ℕ) → split_refusal (service_in m s) z ≡ split_refusal (former_service m s) z
split_refused_as_before = before.same_split

pub share_base_as_before : (m : Input) (s z : ℕ) → zone_number m.tables.zones z ≢ 0 → split_refusal (service_in m s) z ≡ 0
    → share_refusal (service_in m s) z ≡ BASE → share_refusal (former_service m s) z ≡ BASE
share_base_as_before = before.same_base

pub zone_weights_are_use : (m : Input) (s z : ℕ) → zone_number m.tables.zones z ≢ 0 → ¬ WithoutRequirement m s (zone_number m.tables.zones z)
    → total (weights_in (zone_sides (service_in m s)) z)
    ≡ sum_where (account_count m) (account_zone m.tables.accounts) (account_use m) (zone_number m.tables.zones z)
zone_weights_are_use = before.weights_are_use

-- "A missing load day is zero"
pub missing_day_is_zero : (m : Input) (a day : ℕ)
    → ((i : ℕ) → i < load_count m → load_account m.tables.loads i ≡ account_number m.tables.accounts a → load_day m.tables.loads i ≢ day)
    → contribution_on m a day ≡ 0
missing_day_is_zero = days.missing_day

-- "an account with no reservation row has none"
pub no_reservation_no_energy : (m : Input) (a : ℕ)
    → ((r : ℕ) → r < reservation_count m → reservation_account m.tables.reservations r ≢ account_number m.tables.accounts a)
    → (reserved m a ≡ 0) × (curtailed m a ≡ 0)
unfolding reserved curtailed
no_reservation_no_energy m a none = (
  no_entry_of (reservation_count m) (reservation_account m.tables.reservations) (reservation_reserved m.tables.reservations) (account_number m.tables.accounts a) none,
  no_entry_of (reservation_count m) (reservation_account m.tables.reservations) (reservation_curtailed m.tables.reservations) (account_number m.tables.accounts a) none,
)

-- an owner without units has no service credit
pub no_units_no_credit : (m : Input) (s o : ℕ) → ((u : ℕ) → u < unit_count m → unit_owner m.tables.units u ≢ owner_number m.tables.owners o) → service_credit m s o ≡ 0
unfolding service_credit
no_units_no_credit m s o = no_entry_of (unit_count m) (unit_owner m.tables.units) (credit_in m s) (owner_number m.tables.owners o)

-- after a split that is fine, a service's share is never BIG
pub share_never_big : (m : Input) (s z : ℕ) → split_refusal (service_in m s) z ≡ 0 → share_refusal (service_in m s) z ≢ BIG
share_never_big m s = service.share_never_big (service_in m s)

-- after splits that are all fine, a service's non-zone pot is never BASE
pub nonzone_never_base : (m : Input) (s : ℕ) → ((z : ℕ) → z < zone_count m → split_refusal (service_in m s) z ≡ 0) → turn.nonzone_refusal (service_in m s) ≢ BASE
nonzone_never_base m s = service.nonzone_never_base (service_in m s)

-- firm service changes no other figure: the other charges and credits are those of the month without it, which has no firm charge
pub other_charges_stay : (m : Input) (column : ℕ) → column < 3 → (a : ℕ) → charge_of m column a ≡ charge_of (firmless m) column a
other_charges_stay = without.same_charges

pub other_credits_stay : (m : Input) (column : ℕ) → column < 4 → (o : ℕ) → credit_of m column o ≡ credit_of (firmless m) column o
other_credits_stay = without.same_credits

pub firmless_no_charge : (m : Input) (a : ℕ) → firm_charge (firmless m) a ≡ 0
firmless_no_charge = without.no_firm_charge
