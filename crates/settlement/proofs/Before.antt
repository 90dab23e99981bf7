-- What zones without requirement do not change: a split is refused as by the uses of the paper's first words, and a share that has no
-- base has none by them either, since zone use only falls and a zone's side with it.
-- Assumes nothing.
use mathlib.Core.Path.{◌≡◌, refl, sym, ap, ◌∙◌, subst}
use mathlib.Core.Logic.{⊎_elim, ◌≢◌}
use mathlib.Core.Bool.{Bool, true, false, not}
use Prim.Native.Nat.{ℕ, ◌+◌, ◌≤◌}
use native.Mathlib.Nat.{le_trans, le_of_eq}
use native.Mathlib.Omega.{arith}
use lib.Dec.{eqb}
use borrow.Author.Tests.{ne_eqb}
use Rattle.lists.specs.Sums.{sum_to, total, when, sum_where}
use Rattle.lists.proofs.Sums.{sum_eq, sum_le, sum_add, where_eq}
use Rattle.lists.proofs.Entries.{total_listed}
use Rattle.answer.specs.Numbers.{BASE}
use Rattle.answer.proofs.Turns.{zero_or_not}
use Rattle.division.specs.Limits.{size_refusal}
use Rattle.groups.specs.Groups.{among, weights_in}
use Rattle.service.specs.Service.{Service, zone_use, nonzone_use, both_uses, zone_sides}
use Rattle.service.specs.Turn.{split_refusal, share_refusal}
use Rattle.service.proofs.Laws.{uses_add_up}
use Rattle.service.proofs.Splits.{no_larger_side}
use Rattle.service.proofs.Turns.{share_base, share_is}
use Rattle.tables.specs.Columns.{zone_number, account_zone}
use Rattle.pool.specs.Input.{Input, account_count}
use Rattle.pool.specs.Accounts.{account_use}
use Rattle.pool.specs.Services.{zone_pot, service_in}
use Rattle.settlement.specs.Paid.{WithoutRequirement}
use Rattle.settlement.specs.Before.{former_service}
use Rattle.settlement.proofs.Parts.{sides_of_none, parted, parts_are_use}

-- what both parts of all accounts add up to
use_of_parts : (v : Service) (used : ℕ → ℕ) → ((a : ℕ) → v.zone_part a + v.nonzone_part a ≡ used a) → total (both_uses v) ≡ sum_to v.accounts used
unfolding zone_use nonzone_use
use_of_parts v used parts =
    uses_add_up v
    ∙ sym (sum_add v.accounts v.zone_part v.nonzone_part)
    ∙ sum_eq v.accounts (λ a. v.zone_part a + v.nonzone_part a) used (λ a b. parts a)

in_or_out : (t : Bool) (u : ℕ) → when (not t) u + when t u ≡ u
in_or_out true u = omega arith
in_or_out false u = omega arith

module _ (m : Input) (s : ℕ) where
  open m.tables use {zones, accounts}

  -- all use, by its parts now and by those of the first words
  pub all_use : total (both_uses (service_in m s)) ≡ sum_to (account_count m) (account_use m)
  all_use = use_of_parts (service_in m s) (account_use m) (parts_are_use m s)

  former_use : total (both_uses (former_service m s)) ≡ sum_to (account_count m) (account_use m)
  former_use = use_of_parts (former_service m s) (account_use m) (λ a. in_or_out (eqb (account_zone accounts a) 0) (account_use m a))

  pub same_split : (z : ℕ) → split_refusal (service_in m s) z ≡ split_refusal (former_service m s) z
  unfolding split_refusal
  same_split z = ap (size_refusal (zone_pot m s z)) (all_use ∙ sym former_use)

  former_outside : (a : ℕ) → account_zone accounts a ≢ 0 → (former_service m s).zone_part a ≡ account_use m a
  former_outside a d = rw (ne_eqb (account_zone accounts a) 0 d)

  -- zone use only falls
  part_falls : (a : ℕ) → (service_in m s).zone_part a ≤ (former_service m s).zone_part a
  part_falls a =
      ⊎_elim
      (λ (e : account_zone accounts a ≡ 0). le_trans (le_of_eq ((parted m s a).in_zone_0 e).0) (omega arith))
      (λ (d : account_zone accounts a ≢ 0). omega (arith, parts_are_use m s a, former_outside a d))
      (zero_or_not (account_zone accounts a))

  use_falls : zone_use (service_in m s) ≤ zone_use (former_service m s)
  unfolding zone_use
  use_falls = sum_le (account_count m) (service_in m s).zone_part (former_service m s).zone_part (λ a b. part_falls a)

  module _ (z : ℕ) (named : zone_number zones z ≢ 0) where
    -- what the weights of a zone's share add up to, where a zone part of its accounts is their use
    weights_by : (part : ℕ → ℕ) → ((a : ℕ) → account_zone accounts a ≡ zone_number zones z → part a ≡ account_use m a)
        → total (among (account_count m) (account_zone accounts) part (zone_number zones z)) ≡ sum_where (account_count m) (account_zone accounts) (account_use m) (zone_number zones z)
    unfolding among sum_where
    weights_by part its =
        total_listed (account_count m) (λ a. when (eqb (account_zone accounts a) (zone_number zones z)) (part a))
        ∙ where_eq (account_count m) (account_zone accounts) part (zone_number zones z) (account_use m) (λ a b e. its a e)

    pub weights_are_use : ¬ WithoutRequirement m s (zone_number zones z)
        → total (weights_in (zone_sides (service_in m s)) z) ≡ sum_where (account_count m) (account_zone accounts) (account_use m) (zone_number zones z)
    unfolding weights_in
    weights_are_use required =
        weights_by (service_in m s).zone_part
        (λ a e. ((parted m s a).with_requirement (λ q. named (sym e ∙ q)) (λ without. required (subst (WithoutRequirement m s) e without))).0)

    former_weights : total (weights_in (zone_sides (former_service m s)) z) ≡ sum_where (account_count m) (account_zone accounts) (account_use m) (zone_number zones z)
    unfolding weights_in
    former_weights = weights_by (former_service m s).zone_part (λ a e. former_outside a (λ q. named (sym e ∙ q)))

    module _ (fine : split_refusal (service_in m s) z ≡ 0) where
      -- a share that has no base had none
      pub same_base : share_refusal (service_in m s) z ≡ BASE → share_refusal (former_service m s) z ≡ BASE
      same_base base =
          let why = share_base (service_in m s) z base in
          let former-fine = sym (same_split z) ∙ fine in
          let required : ¬ WithoutRequirement m s (zone_number zones z) = λ without. omega (arith, why.0, (sides_of_none m s z fine without).0) in
          let no_less = no_larger_side (service_in m s) (former_service m s) z refl (all_use ∙ sym former_use) use_falls fine former-fine in
          share_is (former_service m s) z former-fine (omega (arith, why.0, no_less)) (former_weights ∙ sym (weights_are_use required) ∙ why.1)
