-- The two parts of an account's use, and the divisions by them: who has a zone part and who a non-zone part, and that dividing by
-- parts is dividing among those accounts alone.
-- Assumes nothing.
use mathlib.Core.Path.{◌≡◌, refl, sym, ap, ◌∙◌, subst}
use mathlib.Core.Logic.{◌⊎◌, inl, inr, ◌↔◌, ⊎_elim, ◌≢◌}
use mathlib.Core.Bool.{true, false, ◌||◌, or-true}
use Prim.Native.Nat.{ℕ, ◌+◌, ◌<◌}
use native.Mathlib.Nat.{add-zero, zero-add}
use native.Mathlib.Omega.{arith}
use lib.Dec.{eqb}
use borrow.Author.Tests.{eq-eqb, ne_eqb, eqb-true, eqb-false}
use Rattle.lists.specs.Sums.{sum_to, at, when, count}
use Rattle.lists.proofs.Sums.{sum_eq, when_true, when_false, neither, either}
use Rattle.lists.proofs.Ranks.{true_or_false}
use Rattle.lists.proofs.Members.{kept_eq}
use Rattle.answer.proofs.Turns.{zero_or_not}
use Rattle.division.specs.Shares.{shares}
use Rattle.division.proofs.Laws.{share_within}
use Rattle.groups.specs.Groups.{weights_in, alone, amount, group_refusal}
use Rattle.groups.proofs.Members.{share_alone}
use Rattle.groups.proofs.Laws.{amount_alone, from_own_group}
use Rattle.service.specs.Service as service
use Rattle.service.specs.Turn as turn
use Rattle.service.proofs.Laws as laws
use Rattle.service.proofs.Promises as promises
use Rattle.tables.specs.declared.Table.TheVariants.{Zones, Accounts}
use Rattle.tables.specs.Columns.{zone_number, owner_zone, unit_zone, unit_service, account_zone}
use Rattle.month.specs.Months.{through, twelfth}
use Rattle.month.specs.Quantities as month
use Rattle.pool.specs.Input.{Input, zone_count, owner_count, unit_count, account_count}
use Rattle.pool.specs.Accounts.{contributions, account_use, network_use, energy_use}
use Rattle.pool.specs.Network.{network_charge, network_pots, network_credit, nonzone_credit}
use Rattle.pool.specs.Services.{unit_credit, credit_in, service_credit, zone_credits, service_in, service_charge}
use Rattle.pool.proofs.Parts.{network_and_energy_add_up, at_border, with_credits, without_credits, parts_add_up}
use Rattle.firm.specs.Firm.{firm_charge, firm_pot, firm_credit}
use Rattle.firm.proofs.Promises.{charged_by_own_rows}
use Rattle.settlement.specs.Accepted.{Accepted}
use Rattle.settlement.specs.Paid.{is_of, among_accounts, WithoutRequirement, is_sharer, sharer_use, among_sharers, Parted, ServicePaid, Paid, Credited}
use Rattle.settlement.proofs.Accepting.{zones_pass}
use Rattle.settlement.proofs.Keys.{distinct, when_none, none_of}
use Rattle.settlement.proofs.Ranges.{zones_ascend, rate_of_zone, rate_at_the_border}

module _ (m : Input) (s : ℕ) where
  open m.tables use {zones, units, accounts}

  -- the credits of a zone's units add up to 0 exactly where none of them has a credit
  pub requirement_exactly : (zone : ℕ) → (zone_credits m s zone ≡ 0) ↔ WithoutRequirement m s zone
  unfolding zone_credits credit_in
  requirement_exactly zone =
      let none = none_of (unit_count m) (unit_zone units) (credit_in m s) zone in (
        (λ nothing u b e f. sym (when_true (eqb (unit_service units u) s) (unit_credit m u) (eq-eqb (unit_service units u) s f)) ∙ none.0 nothing u b e),
        (λ without. none.1 (λ u b e. when_none (eqb (unit_service units u) s) (unit_credit m u) (λ f. without u b e (eqb-true (unit_service units u) s f)))),
      )

  -- where none has, and the split is fine, there are no sides
  pub sides_of_none : (z : ℕ) → turn.split_refusal (service_in m s) z ≡ 0 → WithoutRequirement m s (zone_number zones z)
      → (service.zone_side (service_in m s) z ≡ 0) × (service.nonzone_side (service_in m s) z ≡ 0)
  sides_of_none z fine without =
      let none = (requirement_exactly (zone_number zones z)).1 without in
      let whole = laws.sides_add_up (service_in m s) z fine in (omega (arith, none, whole), omega (arith, none, whole))

  credits_where_required : (zone : ℕ) → ¬ WithoutRequirement m s zone → zone_credits m s zone ≢ 0
  credits_where_required zone required none = required ((requirement_exactly zone).0 none)

  module _ (a : ℕ) where
    abbrev zone : ℕ
    zone = account_zone accounts a

    pub parted : Parted m s a
    parted =
        record {
          with_requirement = λ d required.
              let p = with_credits zone (zone_credits m s zone) (network_use m a) (energy_use m a) d (credits_where_required zone required) in
              (p.0 ∙ network_and_energy_add_up m a, p.1);
          without_requirement = λ d without.
              without_credits zone (zone_credits m s zone) (network_use m a) (energy_use m a) d ((requirement_exactly zone).1 without);
          in_zone_0 = λ e.
              let p = at_border zone (zone_credits m s zone) (network_use m a) (energy_use m a) e in (p.0, p.1 ∙ network_and_energy_add_up m a);
        }

    -- the two parts are the use
    pub parts_are_use : (service_in m s).zone_part a + (service_in m s).nonzone_part a ≡ account_use m a
    parts_are_use = parts_add_up zone (zone_credits m s zone) (network_use m a) (energy_use m a) ∙ network_and_energy_add_up m a

    -- an account that is no sharer has no non-zone part ..
    not_sharing : is_sharer m s a ≡ false → (service_in m s).nonzone_part a ≡ 0
    not_sharing apart =
        let tests = neither (eqb zone 0) (eqb (zone_credits m s zone) 0) apart in
        (with_credits zone (zone_credits m s zone) (network_use m a) (energy_use m a) (eqb-false zone 0 tests.0)
        (eqb-false (zone_credits m s zone) 0 tests.1)).1

    -- .. and that of a sharer is what it shares by
    sharing : is_sharer m s a ≡ true → (service_in m s).nonzone_part a ≡ sharer_use m a
    sharing shares-in =
        ⊎_elim
        (λ (e : zone ≡ 0). (parted.in_zone_0 e).1 ∙ sym (rw (eq-eqb zone 0 e)))
        (λ (d : zone ≢ 0).
        ⊎_elim
        (λ (t : eqb zone 0 ≡ true). absurd (d (eqb-true zone 0 t)))
        (λ (t : eqb (zone_credits m s zone) 0 ≡ true).
        (without_credits zone (zone_credits m s zone) (network_use m a) (energy_use m a) d (eqb-true (zone_credits m s zone) 0 t)).1 ∙ sym (rw (ne_eqb zone 0 d)))
        (either (eqb zone 0) (eqb (zone_credits m s zone) 0) shares-in))
        (zero_or_not zone)

    -- who shares, in the request's words
    pub sharer_exactly : (is_sharer m s a ≡ true) ↔ ((zone ≡ 0) ⊎ WithoutRequirement m s zone)
    sharer_exactly = (
      (λ shares-in.
          ⊎_elim (λ t. inl (eqb-true zone 0 t)) (λ t. inr ((requirement_exactly zone).0 (eqb-true (zone_credits m s zone) 0 t)))
          (either (eqb zone 0) (eqb (zone_credits m s zone) 0) shares-in)),
      (λ who.
          ⊎_elim (λ (e : zone ≡ 0). (rw (eq-eqb zone 0 e)))
          (λ (without : WithoutRequirement m s zone). ap (λ t. eqb zone 0 || t) (eq-eqb (zone_credits m s zone) 0 ((requirement_exactly zone).1 without)) ∙ or-true (eqb zone 0)) who),
    )

module _ {m : Input} {lent_charges lent_credits : ℕ} (all : Accepted m lent_charges lent_credits) where
  open m.tables use {zones, owners, accounts}

  -- no zone's number is 0, and no two zones have one number
  pub zone_not_zero : (z : ℕ) → z < zone_count m → zone_number zones z ≢ 0
  zone_not_zero z b e = omega (arith, (all.good.tables Zones z b).in_range.zone.least)

  pub zones_distinct : (z : ℕ) → z < zone_count m → (y : ℕ) → y < zone_count m → y ≢ z → zone_number zones y ≢ zone_number zones z
  zones_distinct z b y h d =
      distinct (zone_count m) (zone_number zones) (zones_ascend m lent_charges lent_credits all.good) y z h b d

  module _ (s : ℕ) (fine : turn.ServiceFine (service_in m s)) where
    -- a zone without requirement has no side to pay
    pub no_sides : (z : ℕ) → z < zone_count m → WithoutRequirement m s (zone_number zones z)
        → (service.zone_side (service_in m s) z ≡ 0) × (service.nonzone_side (service_in m s) z ≡ 0)
    no_sides z h = sides_of_none m s z (laws.splits_pass fine.zones_fine z h)

    -- what an account of zone z pays, where the zone has a requirement ..
    pub pays_its_zone_side : (a z : ℕ) → a < account_count m → z < zone_count m → account_zone accounts a ≡ zone_number zones z
        → ¬ WithoutRequirement m s (zone_number zones z) → service_charge m s a ≡ service.zone_share (service_in m s) z a
    unfolding service_charge
    pays_its_zone_side a z b h e required =
        promises.charge_in_a_zone (service_in m s) fine a z b h e (zones_distinct z h)
        ∙ ap (λ k. service.zone_share (service_in m s) z a + k)
        (promises.nonzone_sides_to_nobody_else (service_in m s) fine a b
        ((parted m s a).with_requirement (λ q. zone_not_zero z h (sym e ∙ q)) (λ without. required (subst (WithoutRequirement m s) e without))).1)
        ∙ add-zero (service.zone_share (service_in m s) z a)

    -- .. and where it has none
    pays_beside_zone_0 : (a z : ℕ) → a < account_count m → z < zone_count m → account_zone accounts a ≡ zone_number zones z
        → WithoutRequirement m s (zone_number zones z) → service_charge m s a ≡ service.nonzone_share (service_in m s) a
    unfolding service_charge service.zone_share amount
    pays_beside_zone_0 a z b h e without =
        let none = (no_sides z h without).0 in
        let at_most = share_within (service.zone_side (service_in m s) z) (weights_in (service.zone_sides (service_in m s)) z) (λ q. none) a in
        let nothing : service.zone_share (service_in m s) z a ≡ 0 = omega (arith, none, at_most) in
        promises.charge_in_a_zone (service_in m s) fine a z b h e (zones_distinct z h)
        ∙ ap (λ k. k + service.nonzone_share (service_in m s) a) nothing
        ∙ zero-add (service.nonzone_share (service_in m s) a)

    -- what an account of zone 0 pays
    pays_in_zone_0 : (a : ℕ) → a < account_count m → account_zone accounts a ≡ 0 → service_charge m s a ≡ service.nonzone_share (service_in m s) a
    unfolding service_charge
    pays_in_zone_0 a b e = promises.charge_at_the_border (service_in m s) fine a b (λ z h q. zone_not_zero z h (sym q ∙ e))

    -- so what a sharer pays
    pub pays_the_nonzone_pot : (a : ℕ) → a < account_count m → is_sharer m s a ≡ true → service_charge m s a ≡ service.nonzone_share (service_in m s) a
    pays_the_nonzone_pot a b shares-in =
        ⊎_elim
        (λ (e : account_zone accounts a ≡ 0). pays_in_zone_0 a b e)
        (λ (d : account_zone accounts a ≢ 0).
        let known = (all.good.tables Accounts a b).linked d in
        ⊎_elim
        (λ (e : account_zone accounts a ≡ 0). pays_in_zone_0 a b e)
        (λ (without : WithoutRequirement m s (account_zone accounts a)).
        pays_beside_zone_0 a known.0 b known.1 (sym known.2) (subst (WithoutRequirement m s) (sym known.2) without))
        ((sharer_exactly m s a).0 shares-in))
        (zero_or_not (account_zone accounts a))

    -- a zone's accounts, by use, and the sharers, as lists of their own
    zone_side_alone : (a z : ℕ) → a < account_count m → z < zone_count m → account_zone accounts a ≡ zone_number zones z
        → ¬ WithoutRequirement m s (zone_number zones z)
        → service.zone_share (service_in m s) z a ≡ among_accounts m (service.zone_side (service_in m s) z) (zone_number zones z) a
    zone_side_alone a z b h e required =
        promises.zone_share_among_its_accounts (service_in m s) fine z a h b e
        ∙ ap (λ l. at (shares (service.zone_side (service_in m s) z) l) (count a (is_of (account_zone accounts) (zone_number zones z))))
        (kept_eq (account_count m) (is_of (account_zone accounts) (zone_number zones z)) (service_in m s).zone_part (account_use m)
        (λ c l q.
        let same = eqb-true (account_zone accounts c) (zone_number zones z) q in
        ((parted m s c).with_requirement (λ o. zone_not_zero z h (sym same ∙ o)) (λ without. required (subst (WithoutRequirement m s) same without))).0))

    nonzone_pot_alone : (a : ℕ) → a < account_count m → is_sharer m s a ≡ true
        → service.nonzone_share (service_in m s) a ≡ among_sharers m s (service.nonzone_pot (service_in m s)) a
    unfolding service.nonzone_share turn.nonzone_refusal service.nonzone_parts
    nonzone_pot_alone a b shares-in =
        share_alone (account_count m) (service_in m s).nonzone_part (is_sharer m s) (λ c l q. not_sharing m s c q)
        (service.nonzone_pot (service_in m s)) (laws.nonzone_passes fine) a b shares-in
        ∙ ap (λ l. at (shares (service.nonzone_pot (service_in m s)) l) (count a (is_sharer m s)))
        (kept_eq (account_count m) (is_sharer m s) (service_in m s).nonzone_part (sharer_use m) (λ c l q. sharing m s c q))

    pub sharer_paid : (a : ℕ) → a < account_count m → is_sharer m s a ≡ true → service_charge m s a ≡ among_sharers m s (service.nonzone_pot (service_in m s)) a
    sharer_paid a b shares-in = pays_the_nonzone_pot a b shares-in ∙ nonzone_pot_alone a b shares-in

    service_paid : (a : ℕ) → a < account_count m → ServicePaid m s a
    service_paid a b =
        record {
          with_requirement = λ z h e required. pays_its_zone_side a z b h e required ∙ zone_side_alone a z b h e required;
          without_requirement = λ z h e without.
              sharer_paid a b ((sharer_exactly m s a).1 (inr (subst (WithoutRequirement m s) (sym e) without)));
          in_zone_0 = λ e. sharer_paid a b ((sharer_exactly m s a).1 (inl e));
        }

    -- an account that has reservations alone in a zone without requirement pays nothing
    pub reservations_are_free : (a z : ℕ) → a < account_count m → z < zone_count m → account_zone accounts a ≡ zone_number zones z
        → WithoutRequirement m s (zone_number zones z) → contributions m a ≡ 0 → service_charge m s a ≡ 0
    unfolding network_use month.use_of
    reservations_are_free a z b h e without none =
        let its = subst (WithoutRequirement m s) (sym e) without in
        pays_the_nonzone_pot a b ((sharer_exactly m s a).1 (inr its))
        ∙ promises.nonzone_sides_to_nobody_else (service_in m s) fine a b
        (((parted m s a).without_requirement (λ q. zone_not_zero z h (sym e ∙ q)) its).1 ∙ omega (arith, none))

    -- every account pays one or the other
    pub one_or_the_other : (a : ℕ) → a < account_count m
        → (is_sharer m s a ≡ true) ⊎ ((z : ℕ) × (z < zone_count m) × (account_zone accounts a ≡ zone_number zones z) × ¬ WithoutRequirement m s (zone_number zones z))
    one_or_the_other a b =
        ⊎_elim inl
        (λ (apart : is_sharer m s a ≡ false).
        let tests = neither (eqb (account_zone accounts a) 0) (eqb (zone_credits m s (account_zone accounts a)) 0) apart in
        let known = (all.good.tables Accounts a b).linked (eqb-false (account_zone accounts a) 0 tests.0) in
        inr (
          known.0,
          known.1,
          sym known.2,
          λ without.
              eqb-false (zone_credits m s (account_zone accounts a)) 0 tests.1
              ((requirement_exactly m s (account_zone accounts a)).1 (subst (WithoutRequirement m s) known.2 without)),
        ))
        (true_or_false (is_sharer m s a))

    -- all of the non-zone pot is the sharers'
    pub nonzone_pot_to_sharers : sum_to (account_count m) (λ a. when (is_sharer m s a) (service.nonzone_share (service_in m s) a)) ≡ service.nonzone_pot (service_in m s)
    nonzone_pot_to_sharers =
        sum_eq (account_count m) (λ a. when (is_sharer m s a) (service.nonzone_share (service_in m s) a)) (service.nonzone_share (service_in m s))
        (λ a b.
        ⊎_elim
        (λ (q : is_sharer m s a ≡ true). when_true (is_sharer m s a) (service.nonzone_share (service_in m s) a) q)
        (λ (q : is_sharer m s a ≡ false).
        when_false (is_sharer m s a) (service.nonzone_share (service_in m s) a) q
        ∙ sym (promises.nonzone_sides_to_nobody_else (service_in m s) fine a b (not_sharing m s a q)))
        (true_or_false (is_sharer m s a)))
        ∙ laws.nonzone_add_up (service_in m s) (laws.nonzone_passes fine)

  -- no network division of an accepted month is refused, so an owner's network credit is what it has from its own zone
  pub zones_unrefused : (z : ℕ) → z < zone_count m → group_refusal (network_pots m) z ≡ 0
  zones_unrefused = zones_pass m (zone_count m) all.network_fine.zones_fine

  pub credit_from_own_zone : (o z : ℕ) → o < owner_count m → z < zone_count m → owner_zone owners o ≡ zone_number zones z
      → network_credit m o ≡ amount (network_pots m) z o
  unfolding network_credit
  credit_from_own_zone o z b h e =
      from_own_group (network_pots m) zones_unrefused o z b h (eq-eqb (owner_zone owners o) (zone_number zones z) e) (zones_distinct z h)

  -- what an account pays and an owner has, in the paper's words
  pub paid : (a : ℕ) → a < account_count m → Paid m a
  unfolding network_charge firm_charge
  paid a b =
      record {
        for_network = record {
          in_a_zone = λ z h e. ap (month.charge_at_rate (contributions m a)) (rate_of_zone m lent_charges lent_credits all.good a z h e);
          in_zone_0 = λ e. ap (month.charge_at_rate (contributions m a)) (rate_at_the_border m lent_charges lent_credits all.good a e);
        };
        for_service = λ s i. service_paid s (all.service_fine s i) a b;
        for_firm_lem = charged_by_own_rows _ _ _;
      }

  pub credited : (o : ℕ) → o < owner_count m → Credited m o
  unfolding alone nonzone_credit service_credit credit_in unit_credit twelfth through firm_credit firm_pot
  credited o b =
      record {
        of_its_zone = λ z h e.
            credit_from_own_zone o z b h e
            ∙ amount_alone (network_pots m) z (zones_unrefused z h) o b (eq-eqb (owner_zone owners o) (zone_number zones z) e);
        of_zone_0 = refl;
        of_its_units = λ s. refl;
        of_firm = refl;
      }
