-- What `network::credit` asks for and leaves: charges that can be divided among owners, and a block of two columns with what each
-- owner has of them.
-- Assumes nothing.
use Rattle.std.specs.Prelude.{◌≡◌, ℕ, ◌*◌, ◌≤◌, cond, List, eqb, length}
use Rattle.lists.specs.Sums.{sum_where, at, total}
use Rattle.lists.specs.Entries.{listed, put}
use Rattle.answer.specs.declared.Answer.{Answer}
use Rattle.answer.specs.Numbers.{DIVISIONS}
use Rattle.answer.specs.Turns.{refuse, ◌then◌}
use Rattle.division.specs.Limits.{size_refusal}
use Rattle.division.specs.Shares.{shares}
use Rattle.groups.specs.Groups.{Pots, amount_in_all, groups_in_turn}
use Rattle.tables.specs.declared.Table.TheVariants.{Zones, Owners, Accounts}
use Rattle.tables.specs.Shape.{limit, rows, Tables}
use Rattle.tables.specs.Columns.{owner_requirement, account_zone}
use Rattle.columns.specs.Columns.{Summable}
use Rattle.columns.specs.Blocks.{column_at, Zeros}
use Rattle.pool.specs.Network.{pots_among_owners}

-- the charges of a zone, and of zone 0 likewise, from a column of charges
abbrev pub charges_from : List ℕ → List ℕ → ℕ → ℕ
charges_from accounts network zone = sum_where (rows Accounts accounts) (account_zone accounts) (at network) zone

-- zones, owners and accounts that network charges can be divided with
pub record Divisible (t : Tables) (network : List ℕ) : Type 0 where
  pub few_zones : rows Zones t.zones ≤ limit Zones
  pub few_owners : rows Owners t.owners ≤ limit Owners
  pub charges : Summable (rows Accounts t.accounts) network

-- one of the two columns of a block with a word for each owner: their credits of the zones' charges, and of zone 0's
abbrev pub credit_column : ℕ → List ℕ → List ℕ
credit_column c block = column_at (limit Owners) c block

-- two such columns, the second of zeros
pub record CreditColumns (block : List ℕ) : Type 0 where
  pub long : length block ≡ 2 * limit Owners
  pub zeros : Zeros (credit_column 1 block)

-- the network divisions: of each zone's pot among its owners, and of one more among all; a refusal leaves its column as it was
pub record NetworkDivided (p : Pots) (nonzone : ℕ) (weights block block_after : List ℕ) (r : Answer) : Type 0 where
  pub answer : r ≡ (groups_in_turn p 0 then refuse (size_refusal nonzone (total weights)) DIVISIONS p.groups)
  pub credited : credit_column 0 block_after
      ≡ cond (eqb (groups_in_turn p 0).number 0) (put p.members (amount_in_all p) (credit_column 0 block)) (credit_column 0 block)
  pub nonzone_credited : credit_column 1 block_after
      ≡ cond (eqb (size_refusal nonzone (total weights)) 0) (put (length weights) (at (shares nonzone weights)) (credit_column 1 block)) (credit_column 1 block)
  pub long : length block_after ≡ length block

-- .. of a month, from its tables and a column of its charges
abbrev pub NetworkCredited : Tables → List ℕ → List ℕ → List ℕ → Answer → Type 0
NetworkCredited t network block block_after r =
    NetworkDivided (pots_among_owners t.zones t.owners (charges_from t.accounts network)) (charges_from t.accounts network 0)
    (listed (rows Owners t.owners) (owner_requirement t.owners)) block block_after r
