-- Pots that are divided each among the members of one group: a zone's pot among its owners, or among its accounts.
-- Assumes nothing.
use Rattle.std.specs.Prelude.{◌≡◌, ℕ, ◌+◌, ◌≤◌, Bool, List, eqb, length}
use Rattle.lists.specs.Sums.{sum_to, at, total, when}
use Rattle.lists.specs.Entries.{listed, kept}
use Rattle.answer.specs.declared.Answer.{Answer}
use Rattle.answer.specs.Numbers.{DIVISIONS}
use Rattle.answer.specs.Turns.{refuse, turns}
use Rattle.division.specs.Limits.{most_weights, size_refusal}
use Rattle.division.specs.Shares.{shares}
use Rattle.groups.specs.Columns.{ColumnWritten}

-- "divided among its owners by requirement", "among that zone's accounts by use": the weights of a group's members, and 0 for
-- all others, of so many with a group and a weight each
unfoldable pub among : ℕ → (ℕ → ℕ) → (ℕ → ℕ) → ℕ → List ℕ
among members group_of weight group = listed members (λ i. when (eqb (group_of i) group) (weight i))

-- One pot for each group: how many members there are in all, the group and the weight of each; how many groups there are, the
-- number and the pot of each.
pub record Pots : Type 0 where
  pub members : ℕ
  pub group_of : ℕ → ℕ
  pub weight : ℕ → ℕ
  pub groups : ℕ
  pub group_number : ℕ → ℕ
  pub pot : ℕ → ℕ

-- the weights by which the pot of group z is divided
unfoldable pub weights_in : Pots → ℕ → List ℕ
weights_in p z = among p.members p.group_of p.weight (p.group_number z)

-- whether i is a member of group z
abbrev pub is_member : Pots → ℕ → ℕ → Bool
is_member p z i = eqb (p.group_of i) (p.group_number z)

-- "its owners", "that zone's accounts": the weights of the members of group z, as a list of their own
unfoldable pub alone : Pots → ℕ → List ℕ
alone p z = kept p.members (is_member p z) p.weight

-- what member i has of the pot of group z
unfoldable pub amount : Pots → ℕ → ℕ → ℕ
amount p z i = at (shares (p.pot z) (weights_in p z)) i

-- what member i has in all
unfoldable pub amount_in_all : Pots → ℕ → ℕ
amount_in_all p i = sum_to p.groups (λ z. amount p z i)

-- "its divisions in turn, each BIG, then BASE": the number of group z's, 0 where it is fine
unfoldable pub group_refusal : Pots → ℕ → ℕ
group_refusal p z = size_refusal (p.pot z) (total (weights_in p z))

-- "For a division the table is 9 and the row its place": the groups' divisions stand one after the other from a place on
unfoldable pub groups_in_turn : Pots → ℕ → Answer
groups_in_turn p place = turns (λ z. refuse (group_refusal p z) DIVISIONS (place + z)) p.groups

-- the pots, the groups' numbers, the members' weights and the members' groups as plain lists
abbrev pub pots_of : List ℕ → List ℕ → List ℕ → List ℕ → Pots
pots_of pots numbers weights groups =
    record {
      members = length weights;
      group_of = at groups;
      weight = at weights;
      groups = length numbers;
      group_number = at numbers;
      pot = at pots;
    }

-- enough groups for the paper's 16 zones, and few enough that what a member has from all of them fits a word
abbrev pub most_groups : ℕ
most_groups = 64

-- Lists that go together: a group for each weight, at most 64 of them; a pot for each group's number, not too many.
pub record Together (pots numbers weights groups : List ℕ) : Type 0 where
  pub few_members : length weights ≤ most_weights
  pub group_each : length groups ≡ length weights
  pub few_groups : length numbers ≤ most_groups
  pub pot_each : length pots ≡ length numbers

-- What `each_group` answers and writes: what each member has in all.
abbrev pub Grouped : Pots → ℕ → List ℕ → List ℕ → Answer → Type 0
Grouped p place before after r = ColumnWritten p.members (amount_in_all p) (groups_in_turn p place) before after r
