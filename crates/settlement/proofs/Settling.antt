-- From the parts to the month: what the parts say of the columns that are lent to them is what the paper says of the month.
-- Assumes nothing.
use mathlib.Core.Path.{◌≡◌, refl, sym, ap, ap₂, ◌∙◌, subst}
use mathlib.Core.Bool.{Bool, true, false, cond}
use mathlib.Core.List.{List}
use Prim.Native.Nat.{ℕ, zero, suc, ◌+◌, ◌*◌, ◌≤◌, ◌<◌}
use native.Mathlib.Nat.{le_trans, le_of_eq, lt_of_le_of_lt, zero-add}
use native.Mathlib.Omega.{arith}
use lib.Dec.{eqb}
use lib.ListN.{length}
use borrow.Author.Tests.{eq-eqb}
use Rattle.lists.specs.Sums.{at, total}
use Rattle.lists.specs.Entries.{listed, put}
use Rattle.lists.proofs.Sums.{sum_at_most, where_eq}
use Rattle.lists.proofs.Entries.{length_listed, put_eq, put_long, at_put}
use Rattle.answer.specs.declared.Answer.{Answer}
use Rattle.answer.specs.Numbers.{DIVISIONS}
use Rattle.answer.specs.Turns.{refuse, ◌then◌}
use Rattle.answer.proofs.Turns.{then_none, refuse_number}
use Rattle.division.specs.Limits.{size_refusal}
use Rattle.division.specs.Shares.{shares}
use Rattle.groups.proofs.Same as groups
use Rattle.service.specs.Turn.{service_in_turn, Served}
use Rattle.service.proofs.Same as services
use Rattle.tables.specs.declared.Table.TheVariants.{Owners, Accounts}
use Rattle.tables.specs.Shape.{limit, charge_width, credit_width}
use Rattle.tables.specs.Columns.{zone_number, owner_requirement, account_zone}
use Rattle.month.specs.Limits.{black_start, reactive}
use Rattle.columns.specs.Blocks.{column_at, columns_from, with_columns, Zeros}
use Rattle.columns.proofs.Blocks.{column_zeros, columns_long, column_long, part_column, ColumnsLent, columns_lent, ColumnLent, column_lent}
use Rattle.pool.specs.Input.{Input, head_of, zone_count, owner_count, account_count}
use Rattle.pool.specs.Accounts.{contributions, network_use, energy_use}
use Rattle.pool.specs.Network.{rate, network_charge, charges_in, pots_among_owners, network_pots, network_credit, requirements, nonzone_credit, network_nonzone_refusal}
use Rattle.pool.specs.Services.{unit_credit, credit_in, service_credit, zone_credits, zone_part, nonzone_part, service_in, service_charge}
use Rattle.pool.specs.Filled.{accounts_input, most_charge, AccountsFilled}
use Rattle.pool.specs.Divided.{charges_from, Divisible, CreditColumns, NetworkCredited}
use Rattle.pool.proofs.Crediting.{credited_all}
use Rattle.pool.proofs.Parts.{network_and_energy_add_up}
use Rattle.services.specs.Settled.{units_input, Creditable, service_from, Usable, ServiceSettled}
use Rattle.firm.specs.Firm.{firm_charge, firm_pot, firm_credit, firm_refusal}
use Rattle.firm.specs.Settled.{firm_input, Reservable, FirmColumns, FirmSettled}
use Rattle.settlement.specs.Holds.{Holds}
use Rattle.settlement.specs.Settled.{black_start_place, reactive_place, firm_place, network_in_turn, divisions_in_turn, charge_of, credit_of}
use Rattle.settlement.specs.Steps.{Settleable, Working, BlockHolds, MonthDivided}

-- a column that n values were stored in holds them
pub holds : (n : ℕ) (f : ℕ → ℕ) (before column : List ℕ) → column ≡ put n f before → n ≤ length before → Holds n f column
holds n f before column e long =
    record {
      long = le_trans long (le_of_eq (sym (put_long n f before e)));
      words = λ i b. ap (λ l. at l i) e ∙ at_put n f before long i b;
    }

-- two blocks with all their columns
pub record Whole (accounts owners : List ℕ) : Type 0 where
  pub for_accounts_lem : length accounts ≡ charge_width * limit Accounts
  pub for_owners : length owners ≡ credit_width * limit Owners

pub first_long : {accounts owners : List ℕ} → Whole accounts owners → length (column_at (limit Accounts) 0 accounts) ≡ limit Accounts
first_long {accounts} whole = columns_long (limit Accounts) 0 accounts 1 (omega (arith, whole.for_accounts_lem))

-- a column that a call stores n values in, lent of a block ..
stored_lent : (stride c : ℕ) (block : List ℕ) → (c + 1) * stride ≤ length block → (n : ℕ) (f : ℕ → ℕ) {after : List ℕ}
    → after ≡ put n f (column_at stride c block) → ColumnLent stride c block after (with_columns stride c 1 after block)
stored_lent stride c block room n f {after} e =
    column_lent stride c block room after (put_long n f (column_at stride c block) e ∙ column_long stride c block room)

-- .. or leaves as it was
lent_or_left : (stride c : ℕ) (block : List ℕ) → (c + 1) * stride ≤ length block → (n : ℕ) (f : ℕ → ℕ) (fine : Bool) {after : List ℕ}
    → after ≡ cond fine (put n f (column_at stride c block)) (column_at stride c block) → ColumnLent stride c block after (with_columns stride c 1 after block)
lent_or_left stride c block room n f true e = stored_lent stride c block room n f e
lent_or_left stride c block room n f false {after} e =
    column_lent stride c block room after (ap length e ∙ column_long stride c block room)

-- what a call leaves in a column of charges and one of credits: a figure for each account, and for each owner, or the words that were there
record ColumnsLeft (m : Input) (charge credit : ℕ → ℕ) (charged credited : Bool) (charges charges_after credits credits_after : List ℕ) : Type 0 where
  charges_left : charges_after ≡ cond charged (put (account_count m) charge charges) charges
  credits_left : credits_after ≡ cond credited (put (owner_count m) credit credits) credits

-- two columns with the network part and the energy part of each account's use
pub record UsesHeld (m : Input) (networks energies : List ℕ) : Type 0 where
  pub network_held : Holds (account_count m) (network_use m) networks
  pub energy_held : Holds (account_count m) (energy_use m) energies

-- a column that is another holds the same
carried : {n : ℕ} {f : ℕ → ℕ} {column other : List ℕ} → column ≡ other → Holds n f other → Holds n f column
carried {n} {f} e = subst (Holds n f) (sym e)

-- .. and a column of a service that is another's name
named : (n : ℕ) (figure : ℕ → ℕ → ℕ) {column : List ℕ} {s k : ℕ} → s ≡ k → Holds n (figure s) column → Holds n (figure k) column
named n figure {column} = subst (λ s. Holds n (figure s) column)

module _ (m : Input) where
  open m.tables use {zones, owners, accounts}

  abbrev for_accounts : Input
  for_accounts = accounts_input m.nonzone m.tables

  abbrev for_units : Input
  for_units = units_input m.month m.tables

  abbrev for_firm : Input
  for_firm = firm_input (head_of m) m.tables

  -- the columns of the accounts
  module _ {charges charges_after networks networks_after energies energies_after : List ℕ}
      (filled : AccountsFilled for_accounts charges charges_after networks networks_after energies energies_after) where
    holds_charges : account_count m ≤ length charges → Holds (account_count m) (network_charge m) charges_after
    unfolding network_charge contributions rate
    holds_charges long = holds (account_count m) (network_charge for_accounts) charges charges_after filled.charged long

    holds_uses : account_count m ≤ length networks → account_count m ≤ length energies → UsesHeld m networks_after energies_after
    unfolding network_use energy_use contributions
    holds_uses long long₂ =
        record {
          network_held = holds (account_count m) (network_use for_accounts) networks networks_after filled.network_used long;
          energy_held = holds (account_count m) (energy_use for_accounts) energies energies_after filled.energy_used long₂;
        }

  module _ {network : List ℕ} (charges : Holds (account_count m) (network_charge m) network) where
    can_divide : Settleable m → Divisible m.tables network
    can_divide can =
        record {
          few_zones = can.creditable.few_zones;
          few_owners = can.few_owners;
          charges = record {
            long = charges.long;
            fits =
                lt_of_le_of_lt
                (sum_at_most (account_count m) (limit Accounts) most_charge (at network) can.fillable.few
                (λ a b. le_trans (le_of_eq (charges.words a b)) (can.charge_within a)))
                (omega arith);
          };
        }

    holds_zone : (zone : ℕ) → charges_from accounts network zone ≡ charges_in m zone
    unfolding charges_in
    holds_zone zone =
        where_eq (account_count m) (account_zone accounts) (at network) zone (network_charge m) (λ a b e. charges.words a b)

    same_pots : groups.Same (pots_among_owners zones owners (charges_from accounts network)) (network_pots m)
    same_pots =
        record {
          same_members = refl;
          same_group = λ i b. refl;
          same_weight = λ i b. refl;
          same_groups = refl;
          same_number = λ z b. refl;
          same_pot = λ z b. holds_zone (zone_number zones z);
        }

    -- the network divisions
    module _ {block block_after : List ℕ} {r : Answer} (divided : NetworkCredited m.tables network block block_after r) where
      network_answer : r ≡ network_in_turn m
      unfolding network_in_turn network_nonzone_refusal requirements
      network_answer =
          divided.answer
          ∙ ap₂ (λ (a : Answer) pot. a then refuse (size_refusal pot (total (listed (owner_count m) (owner_requirement owners)))) DIVISIONS (zone_count m))
          (groups.same_turn same_pots 0) (holds_zone 0)

      holds_network_credits : r.number ≡ 0 → owner_count m ≤ length (column_at (limit Owners) 0 block)
          → Holds (owner_count m) (network_credit m) (column_at (limit Owners) 0 block_after)
      unfolding network_credit
      holds_network_credits fine long =
          holds (owner_count m) (network_credit m) (column_at (limit Owners) 0 block) (column_at (limit Owners) 0 block_after)
          ((credited_all divided fine).0 ∙ put_eq (owner_count m) _ (network_credit m) _ (λ i b. groups.same_amounts same_pots i)) long

      holds_nonzone_credits : r.number ≡ 0 → owner_count m ≤ length (column_at (limit Owners) 1 block)
          → Holds (owner_count m) (nonzone_credit m) (column_at (limit Owners) 1 block_after)
      unfolding nonzone_credit requirements
      holds_nonzone_credits fine long =
          holds (owner_count m) (nonzone_credit m) (column_at (limit Owners) 1 block) (column_at (limit Owners) 1 block_after)
          ((credited_all divided fine).1
          ∙ ap₂ (λ n pot. put n (at (shares pot (listed (owner_count m) (owner_requirement owners)))) (column_at (limit Owners) 1 block))
          (length_listed (owner_count m) (owner_requirement owners)) (holds_zone 0))
          long

  -- a service
  module _ {networks energies : List ℕ} (used : UsesHeld m networks energies) where
    can_use : Settleable m → Usable m.tables networks energies
    can_use can =
        record {
          few = can.fillable.few;
          networks_long = used.network_held.long;
          energies_long = used.energy_held.long;
          within = λ a b.
              le_trans (le_of_eq (ap₂ ◌+◌ (used.network_held.words a b) (used.energy_held.words a b) ∙ network_and_energy_add_up m a)) (can.use_within a);
        }

    same_service : (s : ℕ) → services.Same (service_from for_units (at networks) (at energies) s) (service_in m s)
    unfolding zone_credits credit_in unit_credit
    same_service s =
        record {
          same_accounts = refl;
          same_zone = λ a b. refl;
          same_zone_part = λ a b. ap₂ (zone_part (account_zone accounts a) _) (used.network_held.words a b) (used.energy_held.words a b);
          same_nonzone_part = λ a b. ap₂ (nonzone_part (account_zone accounts a) _) (used.network_held.words a b) (used.energy_held.words a b);
          same_zones = refl;
          same_number = λ z b. refl;
          same_pot = λ z b. refl;
        }

    module _ (s place : ℕ) {charges charges_after credits credits_after : List ℕ} {r : Answer}
        (settled : ServiceSettled for_units (at networks) (at energies) s place charges charges_after credits credits_after r) where
      served : Served (service_in m s) place charges charges_after r
      served = services.same_served (same_service s) place charges charges_after r settled.served

      service_answer : r ≡ service_in_turn (service_in m s) place
      service_answer = served.answers

      service_left : ColumnsLeft m (service_charge m s) (service_credit m s) (eqb r.number 0) true charges charges_after credits credits_after
      unfolding service_charge service_credit credit_in unit_credit
      service_left = record { charges_left = served.lent; credits_left = settled.credited }

  -- firm service
  module _ {place : ℕ} {charges charges_after credits credits_after : List ℕ} {r : Answer}
      (settled : FirmSettled for_firm place charges charges_after credits credits_after r) where
    firm_answer : r ≡ refuse (firm_refusal m) DIVISIONS place
    unfolding firm_refusal firm_pot firm_charge requirements
    firm_answer = settled.answer

    firm_left : ColumnsLeft m (firm_charge m) (firm_credit m) true (eqb (firm_refusal m) 0) charges charges_after credits credits_after
    unfolding firm_charge firm_credit firm_pot firm_refusal requirements
    firm_left = record { charges_left = settled.charged; credits_left = settled.credited }

    firm_unrefused : r.number ≡ 0 → firm_refusal m ≡ 0
    firm_unrefused fine =
        sym (refuse_number (firm_refusal m) DIVISIONS place) ∙ ap (λ (a : Answer). a.number) (sym firm_answer) ∙ fine

  -- two blocks with all their columns, each of which has a word for each account, or owner
  module _ {account_block owner_block : List ℕ} (can : Settleable m) (whole : Whole account_block owner_block) where
    pub account_column : (c : ℕ) → c < charge_width → account_count m ≤ length (column_at (limit Accounts) c account_block)
    account_column c h =
        le_trans can.fillable.few
        (le_of_eq (sym (columns_long (limit Accounts) c account_block 1 (omega (arith, whole.for_accounts_lem, h)))))

    owner_column : (c : ℕ) → c < credit_width → owner_count m ≤ length (column_at (limit Owners) c owner_block)
    owner_column c h =
        le_trans can.few_owners (le_of_eq (sym (columns_long (limit Owners) c owner_block 1 (omega (arith, whole.for_owners, h)))))

    -- the network charges, lent as the first column of the accounts
    module _ {charges networks networks_after energies energies_after : List ℕ}
        (filled : AccountsFilled for_accounts (column_at (limit Accounts) 0 account_block) charges networks networks_after energies energies_after) where
      network_lent : ColumnLent (limit Accounts) 0 account_block charges (with_columns (limit Accounts) 0 1 charges account_block)
      network_lent =
          stored_lent (limit Accounts) 0 account_block (omega (arith, whole.for_accounts_lem)) (account_count m) (network_charge for_accounts) filled.charged

      filled_whole : Whole (with_columns (limit Accounts) 0 1 charges account_block) owner_block
      filled_whole = record { for_accounts_lem = network_lent.long ∙ whole.for_accounts_lem; for_owners = whole.for_owners }

      charged : Holds (account_count m) (network_charge m) (column_at (limit Accounts) 0 (with_columns (limit Accounts) 0 1 charges account_block))
      charged = carried network_lent.its (holds_charges filled (account_column 0 (omega arith)))

    -- the network credits, lent as the first two columns of the owners, the second of zeros
    credit_columns : Zeros owner_block → CreditColumns (columns_from (limit Owners) 0 2 owner_block)
    credit_columns zeros =
        record {
          long = columns_long (limit Owners) 0 owner_block 2 (omega (arith, whole.for_owners));
          zeros = λ i.
              ap (λ l. at l i) (part_column (limit Owners) 0 2 owner_block (omega (arith, whole.for_owners)) 1 (omega arith))
              ∙ column_zeros (limit Owners) 1 owner_block zeros i;
        }

    part_room : (c : ℕ) → c < 2 → owner_count m ≤ length (column_at (limit Owners) c (columns_from (limit Owners) 0 2 owner_block))
    part_room c h =
        le_trans (owner_column c (omega (arith, h)))
        (le_of_eq
        (ap (λ k. length (column_at (limit Owners) k owner_block)) (sym (zero-add c))
        ∙ ap length (sym (part_column (limit Owners) 0 2 owner_block (omega (arith, whole.for_owners)) c h))))

    module _ {network : List ℕ} (charges : Holds (account_count m) (network_charge m) network) {networkcredits : List ℕ} {r : Answer}
        (divided : NetworkCredited m.tables network (columns_from (limit Owners) 0 2 owner_block) networkcredits r) where
      network_credits_lent : ColumnsLent (limit Owners) 0 2 owner_block networkcredits (with_columns (limit Owners) 0 2 networkcredits owner_block)
      network_credits_lent =
          columns_lent (limit Owners) 0 2 owner_block (omega (arith, whole.for_owners)) networkcredits
          (divided.long ∙ columns_long (limit Owners) 0 owner_block 2 (omega (arith, whole.for_owners)))

      credited_whole : Whole account_block (with_columns (limit Owners) 0 2 networkcredits owner_block)
      credited_whole = record { for_accounts_lem = whole.for_accounts_lem; for_owners = network_credits_lent.long ∙ whole.for_owners }

      credits_of_zones : r.number ≡ 0
          → Holds (owner_count m) (network_credit m) (column_at (limit Owners) 0 (with_columns (limit Owners) 0 2 networkcredits owner_block))
      credits_of_zones fine =
          carried (network_credits_lent.inside 0 (omega arith)) (holds_network_credits charges divided fine (part_room 0 (omega arith)))

      credits_of_zone_0 : r.number ≡ 0
          → Holds (owner_count m) (nonzone_credit m) (column_at (limit Owners) 1 (with_columns (limit Owners) 0 2 networkcredits owner_block))
      credits_of_zone_0 fine =
          carried (network_credits_lent.inside 1 (omega arith)) (holds_nonzone_credits charges divided fine (part_room 1 (omega arith)))

    -- a call that is lent column c of the accounts and column d of the owners
    module _ (c d : ℕ) (h : c < charge_width) (k : d < credit_width) {charge credit : ℕ → ℕ} {charged? credited? : Bool} {charges credits : List ℕ}
        (left : ColumnsLeft m charge credit charged? credited? (column_at (limit Accounts) c account_block) charges (column_at (limit Owners) d owner_block) credits) where
      charges_lent : ColumnLent (limit Accounts) c account_block charges (with_columns (limit Accounts) c 1 charges account_block)
      charges_lent = lent_or_left (limit Accounts) c account_block (omega (arith, whole.for_accounts_lem, h)) (account_count m) charge charged? left.charges_left

      credits_lent : ColumnLent (limit Owners) d owner_block credits (with_columns (limit Owners) d 1 credits owner_block)
      credits_lent = lent_or_left (limit Owners) d owner_block (omega (arith, whole.for_owners, k)) (owner_count m) credit credited? left.credits_left

      left_whole : Whole (with_columns (limit Accounts) c 1 charges account_block) (with_columns (limit Owners) d 1 credits owner_block)
      left_whole = record { for_accounts_lem = charges_lent.long ∙ whole.for_accounts_lem; for_owners = credits_lent.long ∙ whole.for_owners }

      charges_hold : charged? ≡ true → Holds (account_count m) charge (column_at (limit Accounts) c (with_columns (limit Accounts) c 1 charges account_block))
      charges_hold e = carried charges_lent.its (holds (account_count m) charge (column_at (limit Accounts) c account_block) charges (left.charges_left ∙ (rw e)) (account_column c h))

      credits_hold : credited? ≡ true → Holds (owner_count m) credit (column_at (limit Owners) d (with_columns (limit Owners) d 1 credits owner_block))
      credits_hold e = carried credits_lent.its (holds (owner_count m) credit (column_at (limit Owners) d owner_block) credits (left.credits_left ∙ (rw e)) (owner_column d k))

-- A month that can be settled, with two new blocks, of which the accounts' first column is filled, and two columns with the parts of
-- the accounts' use, which were lent with a word for each account that there may be.
pub record Begun (m : Input) (accounts₀ owners₀ charges lent networks energies : List ℕ) : Type 0 where
  pub can : Settleable m
  pub new : Working accounts₀ owners₀
  pub filled : AccountsFilled (accounts_input m.nonzone m.tables) (column_at (limit Accounts) 0 accounts₀) charges lent networks lent energies
  pub room : account_count m ≤ length lent

-- new blocks are whole
pub new_whole : {accounts₀ owners₀ : List ℕ} → Working accounts₀ owners₀ → Whole accounts₀ owners₀
new_whole new = record { for_accounts_lem = new.for_accounts_lem; for_owners = new.for_owners }

-- The calls in turn, from there ..
module _ {m : Input} {accounts₀ owners₀ charges lent networks energies : List ℕ} (b : Begun m accounts₀ owners₀ charges lent networks energies) where
  abbrev accounts₁ : List ℕ
  accounts₁ = with_columns (limit Accounts) 0 1 charges accounts₀

  pub whole₁ : Whole accounts₁ owners₀
  whole₁ = filled_whole m b.can (new_whole b.new) b.filled

  network_charges : Holds (account_count m) (network_charge m) (column_at (limit Accounts) 0 accounts₁)
  network_charges = charged m b.can (new_whole b.new) b.filled

  used : UsesHeld m networks energies
  used = holds_uses m b.filled b.room b.room

  pub divisible : Divisible m.tables (column_at (limit Accounts) 0 accounts₁) × CreditColumns (columns_from (limit Owners) 0 2 owners₀)
  divisible = (can_divide m network_charges b.can, credit_columns m b.can whole₁ b.new.new)

  -- what a service asks for, with two columns of whole blocks
  pub servable : {account_block owner_block : List ℕ} → Whole account_block owner_block → (c d : ℕ) → c < charge_width → d < credit_width
      → (Creditable (units_input m.month m.tables) × Usable m.tables networks energies)
      × (account_count m ≤ length (column_at (limit Accounts) c account_block)) × (owner_count m ≤ length (column_at (limit Owners) d owner_block))
  servable whole c d h k =
      ((b.can.creditable, can_use m used b.can), account_column m b.can whole c h, owner_column m b.can whole d k)

  -- .. the network credits ..
  module _ {networkcredits : List ℕ} {first : Answer}
      (divided : NetworkCredited m.tables (column_at (limit Accounts) 0 accounts₁) (columns_from (limit Owners) 0 2 owners₀) networkcredits first) where
    abbrev owners₁ : List ℕ
    owners₁ = with_columns (limit Owners) 0 2 networkcredits owners₀

    pub whole₂ : Whole accounts₁ owners₁
    whole₂ = credited_whole m b.can whole₁ network_charges divided

    -- .. black start ..
    module _ {s place : ℕ} {blackstart blackstartcredits : List ℕ} {second : Answer}
        (served : ServiceSettled (units_input m.month m.tables) (at networks) (at energies) s place (column_at (limit Accounts) 1 accounts₁) blackstart (column_at (limit Owners) 2 owners₁) blackstartcredits second) where
      abbrev accounts₂ : List ℕ
      accounts₂ = with_columns (limit Accounts) 1 1 blackstart accounts₁

      abbrev owners₂ : List ℕ
      owners₂ = with_columns (limit Owners) 2 1 blackstartcredits owners₁

      left₂ : ColumnsLeft m (service_charge m s) (service_credit m s) (eqb second.number 0) true (column_at (limit Accounts) 1 accounts₁) blackstart (column_at (limit Owners) 2 owners₁) blackstartcredits
      left₂ = service_left m used s place served

      pub whole₃ : Whole accounts₂ owners₂
      whole₃ = left_whole m b.can whole₂ 1 2 (omega arith) (omega arith) left₂

      -- .. reactive ..
      module _ {s' place' : ℕ} {reactives reactivecredits : List ℕ} {third : Answer}
          (served-too : ServiceSettled (units_input m.month m.tables) (at networks) (at energies) s' place' (column_at (limit Accounts) 2 accounts₂) reactives (column_at (limit Owners) 3 owners₂) reactivecredits third) where
        abbrev accounts₃ : List ℕ
        accounts₃ = with_columns (limit Accounts) 2 1 reactives accounts₂

        abbrev owners₃ : List ℕ
        owners₃ = with_columns (limit Owners) 3 1 reactivecredits owners₂

        left₃ : ColumnsLeft m (service_charge m s') (service_credit m s') (eqb third.number 0) true (column_at (limit Accounts) 2 accounts₂) reactives (column_at (limit Owners) 3 owners₂) reactivecredits
        left₃ = service_left m used s' place' served-too

        pub whole₄ : Whole accounts₃ owners₃
        whole₄ = left_whole m b.can whole₃ 2 3 (omega arith) (omega arith) left₃

        blackstart_lent : ColumnLent (limit Accounts) 1 accounts₁ blackstart accounts₂
        blackstart_lent = charges_lent m b.can whole₂ 1 2 (omega arith) (omega arith) left₂

        reactive_lent : ColumnLent (limit Accounts) 2 accounts₂ reactives accounts₃
        reactive_lent = charges_lent m b.can whole₃ 2 3 (omega arith) (omega arith) left₃

        blackstart_credited : ColumnLent (limit Owners) 2 owners₁ blackstartcredits owners₂
        blackstart_credited = credits_lent m b.can whole₂ 1 2 (omega arith) (omega arith) left₂

        reactive_credited : ColumnLent (limit Owners) 3 owners₂ reactivecredits owners₃
        reactive_credited = credits_lent m b.can whole₃ 2 3 (omega arith) (omega arith) left₃

        -- the last column of the owners is still as it was
        last_zeros : Zeros (column_at (limit Owners) 4 owners₃)
        last_zeros i =
            ap (λ l. at l i)
            (reactive_credited.others 4 refl ∙ blackstart_credited.others 4 refl ∙ (network_credits_lent m b.can whole₁ network_charges divided).behind 2)
            ∙ column_zeros (limit Owners) 4 owners₀ b.new.new i

        -- what firm service asks for
        pub reservable : Reservable (firm_input (head_of m) m.tables)
            × FirmColumns (firm_input (head_of m) m.tables) (column_at (limit Accounts) 3 accounts₃) (column_at (limit Owners) 4 owners₃)
        reservable = (
          b.can.reservable,
          record {
            charges_long = account_column m b.can whole₄ 3 (omega arith);
            credits_long = owner_column m b.can whole₄ 4 (omega arith);
            zeros = last_zeros;
          },
        )

        -- .. and firm service
        module _ {place'' : ℕ} {firmcharges firmcredits : List ℕ} {fourth : Answer}
            (firm : FirmSettled (firm_input (head_of m) m.tables) place'' (column_at (limit Accounts) 3 accounts₃) firmcharges (column_at (limit Owners) 4 owners₃) firmcredits fourth) where
          abbrev accounts₄ : List ℕ
          accounts₄ = with_columns (limit Accounts) 3 1 firmcharges accounts₃

          abbrev owners₄ : List ℕ
          owners₄ = with_columns (limit Owners) 4 1 firmcredits owners₃

          left₄ : ColumnsLeft m (firm_charge m) (firm_credit m) true (eqb (firm_refusal m) 0) (column_at (limit Accounts) 3 accounts₃) firmcharges (column_at (limit Owners) 4 owners₃) firmcredits
          left₄ = firm_left m firm

          firm_lent : ColumnLent (limit Accounts) 3 accounts₃ firmcharges accounts₄
          firm_lent = charges_lent m b.can whole₄ 3 4 (omega arith) (omega arith) left₄

          firm_credited : ColumnLent (limit Owners) 4 owners₃ firmcredits owners₄
          firm_credited = credits_lent m b.can whole₄ 3 4 (omega arith) (omega arith) left₄

          module _ (its : s ≡ black_start) (its-too : s' ≡ reactive) where
            -- what the columns hold at the end, where nothing is refused
            charge_columns : second.number ≡ 0 → third.number ≡ 0 → BlockHolds (account_count m) charge_width (charge_of m) (limit Accounts) accounts₄
            unfolding charge_of
            charge_columns fine fine-too zero h =
                carried (firm_lent.others 0 refl ∙ reactive_lent.others 0 refl ∙ blackstart_lent.others 0 refl) network_charges
            charge_columns fine fine-too (suc zero) h =
                carried (firm_lent.others 1 refl ∙ reactive_lent.others 1 refl)
                (named (account_count m) (service_charge m) its (charges_hold m b.can whole₂ 1 2 (omega arith) (omega arith) left₂ (eq-eqb second.number 0 fine)))
            charge_columns fine fine-too (suc (suc zero)) h =
                carried (firm_lent.others 2 refl)
                (named (account_count m) (service_charge m) its-too (charges_hold m b.can whole₃ 2 3 (omega arith) (omega arith) left₃ (eq-eqb third.number 0 fine-too)))
            charge_columns fine fine-too (suc (suc (suc zero))) h = charges_hold m b.can whole₄ 3 4 (omega arith) (omega arith) left₄ refl
            charge_columns fine fine-too (suc (suc (suc (suc column)))) h = absurd (omega (arith, h))

            credit_columns_hold : first.number ≡ 0 → fourth.number ≡ 0 → BlockHolds (owner_count m) credit_width (credit_of m) (limit Owners) owners₄
            unfolding credit_of
            credit_columns_hold fine fine-too zero h =
                carried (firm_credited.others 0 refl ∙ reactive_credited.others 0 refl ∙ blackstart_credited.others 0 refl)
                (credits_of_zones m b.can whole₁ network_charges divided fine)
            credit_columns_hold fine fine-too (suc zero) h =
                carried (firm_credited.others 1 refl ∙ reactive_credited.others 1 refl ∙ blackstart_credited.others 1 refl)
                (credits_of_zone_0 m b.can whole₁ network_charges divided fine)
            credit_columns_hold fine fine-too (suc (suc zero)) h =
                carried (firm_credited.others 2 refl ∙ reactive_credited.others 2 refl)
                (named (owner_count m) (service_credit m) its (credits_hold m b.can whole₂ 1 2 (omega arith) (omega arith) left₂ refl))
            credit_columns_hold fine fine-too (suc (suc (suc zero))) h =
                carried (firm_credited.others 3 refl)
                (named (owner_count m) (service_credit m) its-too (credits_hold m b.can whole₃ 2 3 (omega arith) (omega arith) left₃ refl))
            credit_columns_hold fine fine-too (suc (suc (suc (suc zero)))) h =
                credits_hold m b.can whole₄ 3 4 (omega arith) (omega arith) left₄ (eq-eqb (firm_refusal m) 0 (firm_unrefused m firm fine-too))
            credit_columns_hold fine fine-too (suc (suc (suc (suc (suc column))))) h = absurd (omega (arith, h))

            -- all divisions of the month
            module _ {r : Answer} (there : place ≡ black_start_place (zone_count m)) (there-too : place' ≡ reactive_place (zone_count m))
                (there-last : place'' ≡ firm_place (zone_count m)) (answer : r ≡ (first then second then third then fourth)) where
              in_turn : (first then second then third then fourth) ≡ divisions_in_turn m
              unfolding divisions_in_turn
              in_turn =
                  let network-turn : first ≡ network_in_turn m = network_answer m network_charges divided in
                  let blackstart-turn : second ≡ service_in_turn (service_in m black_start) (black_start_place (zone_count m)) =
                  service_answer m used s place served ∙ ap₂ (λ k. service_in_turn (service_in m k)) its there in
                  let reactive-turn : third ≡ service_in_turn (service_in m reactive) (reactive_place (zone_count m)) =
                  service_answer m used s' place' served-too ∙ ap₂ (λ k. service_in_turn (service_in m k)) its-too there-too in
                  let firm-turn : fourth ≡ refuse (firm_refusal m) DIVISIONS (firm_place (zone_count m)) =
                  firm_answer m firm ∙ ap (refuse (firm_refusal m) DIVISIONS) there-last in
                  λ i. network-turn i then blackstart-turn i then reactive-turn i then firm-turn i

              pub month_divided : MonthDivided m accounts₄ owners₄ r
              month_divided =
                  record {
                    answer = answer ∙ in_turn;
                    columns = λ fine.
                        let all : ((first then second then third).number ≡ 0) × (fourth.number ≡ 0) =
                        then_none (first then second then third) fourth (ap (λ (a : Answer). a.number) (sym answer) ∙ fine) in
                        let more : ((first then second).number ≡ 0) × (third.number ≡ 0) = then_none (first then second) third all.0 in
                        let some : (first.number ≡ 0) × (second.number ≡ 0) = then_none first second more.0 in
                        record { charges = charge_columns some.1 more.1; credits = credit_columns_hold some.0 all.1 };
                  }
