-- Where the money of a good month lies: every unit has one zone and one owner, every account one zone or zone 0, so sums over
-- zones and owners are sums over units and accounts.
-- Assumes nothing.
use mathlib.Core.Path.{◌≡◌, sym, ap, ap₂, ◌∙◌}
use mathlib.Core.Logic.{⊎_elim, ◌≢◌}
use Prim.Native.Nat.{ℕ, ◌+◌, ◌<◌}
use native.Mathlib.Nat.{zero-add}
use native.Mathlib.Omega.{arith}
use lib.Dec.{eqb}
use borrow.Author.Tests.{eq-eqb, ne_eqb}
use Rattle.lists.specs.Sums.{sum_to, when, sum_where}
use Rattle.lists.proofs.Sums.{sum_eq, sum_add, sum_swap}
use Rattle.answer.proofs.Turns.{zero_or_not}
use Rattle.tables.specs.declared.Table.TheVariants.{Zones, Owners, Units, Accounts}
use Rattle.tables.specs.Columns.{zone_number, owner_number, unit_owner, unit_zone, account_zone}
use Rattle.judgement.specs.Good.{Known}
use Rattle.pool.specs.Input.{Input, zone_count, owner_count, unit_count, account_count}
use Rattle.pool.specs.Network.{network_charge, charges_in}
use Rattle.pool.specs.Services.{credit_in, service_credit, zone_credits, zone_pot}
use Rattle.settlement.specs.Accepted.{GoodInput}
use Rattle.settlement.proofs.Keys.{row_of, no_row_of}
use Rattle.settlement.proofs.Ranges.{zones_ascend, owners_ascend}

-- what the rows of k numbers have, added up, is what each of n rows has as often as its number is one of them
by_number : (n k : ℕ) (number_of value number : ℕ → ℕ)
    → sum_to k (λ j. sum_where n number_of value (number j)) ≡ sum_to n (λ i. sum_to k (λ j. when (eqb (number_of i) (number j)) (value i)))
unfolding sum_where
by_number n k number_of value number = sum_swap k n (λ j i. when (eqb (number_of i) (number j)) (value i))

module _ (m : Input) (lent_charges lent_credits : ℕ) (good : GoodInput m lent_charges lent_credits) where
  open m.tables use {zones, owners, units, accounts}

  -- an amount of a zone that has a row is one zone's
  in_one_zone : (zone v : ℕ) → Known Zones zones zone → sum_to (zone_count m) (λ z. when (eqb zone (zone_number zones z)) v) ≡ v
  in_one_zone zone v known =
      row_of (zone_count m) (zone_number zones) (zones_ascend m lent_charges lent_credits good) zone known.0 v known.1 known.2

  -- .. and one of an owner that has a row is one owner's
  in_one_owner : (owner v : ℕ) → Known Owners owners owner → sum_to (owner_count m) (λ o. when (eqb owner (owner_number owners o)) v) ≡ v
  in_one_owner owner v known =
      row_of (owner_count m) (owner_number owners) (owners_ascend m lent_charges lent_credits good) owner known.0 v known.1 known.2

  -- a service's pots, and its credits, are its units' credits
  module _ (s : ℕ) where
    pub pots_are_credits : sum_to (zone_count m) (zone_pot m s) ≡ sum_to (unit_count m) (credit_in m s)
    unfolding zone_credits
    pots_are_credits =
        by_number (unit_count m) (zone_count m) (unit_zone units) (credit_in m s) (zone_number zones)
        ∙ sum_eq (unit_count m) _ (credit_in m s)
        (λ u b. in_one_zone (unit_zone units u) (credit_in m s u) (good.tables Units u b).linked.1)

    pub owners_have_credits : sum_to (owner_count m) (service_credit m s) ≡ sum_to (unit_count m) (credit_in m s)
    unfolding service_credit
    owners_have_credits =
        by_number (unit_count m) (owner_count m) (unit_owner units) (credit_in m s) (owner_number owners)
        ∙ sum_eq (unit_count m) _ (credit_in m s)
        (λ u b. in_one_owner (unit_owner units u) (credit_in m s u) (good.tables Units u b).linked.0)

  -- an account's amount is its zone's or zone 0's
  account_amount : (a v : ℕ) → a < account_count m
      → sum_to (zone_count m) (λ z. when (eqb (account_zone accounts a) (zone_number zones z)) v) + when (eqb (account_zone accounts a) 0) v ≡ v
  account_amount a v b =
      ⊎_elim
      (λ (e : account_zone accounts a ≡ 0).
      ap₂ ◌+◌
      (no_row_of (zone_count m) (zone_number zones) (account_zone accounts a) v
      (λ z l q. omega (arith, (good.tables Zones z l).in_range.zone.least)))
      (ap (λ t. when t v) (eq-eqb (account_zone accounts a) 0 e))
      ∙ zero-add v)
      (λ (d : account_zone accounts a ≢ 0).
      ap₂ ◌+◌ (in_one_zone (account_zone accounts a) v ((good.tables Accounts a b).linked d))
      (ap (λ t. when t v) (ne_eqb (account_zone accounts a) 0 d))
      ∙ omega arith)
      (zero_or_not (account_zone accounts a))

  -- all network charges are the zones' and zone 0's
  pub charges_by_zone : sum_to (account_count m) (network_charge m) ≡ sum_to (zone_count m) (λ z. charges_in m (zone_number zones z)) + charges_in m 0
  unfolding charges_in sum_where
  charges_by_zone =
      sym
      (ap (λ k. k + charges_in m 0) (by_number (account_count m) (zone_count m) (account_zone accounts) (network_charge m) (zone_number zones))
      ∙ sym (sum_add (account_count m) (λ a. sum_to (zone_count m) (λ z. when (eqb (account_zone accounts a) (zone_number zones z)) (network_charge m a)))
      (λ a. when (eqb (account_zone accounts a) 0) (network_charge m a)))
      ∙ sum_eq (account_count m) _ (network_charge m) (λ a b. account_amount a (network_charge m a) b))
