-- What functions say among themselves while groups are gone through. A reader of the promises needs none of it.
-- Assumes nothing.
use Rattle.std.specs.Prelude.{◌≡◌, ℕ, ◌≤◌, ◌<◌, List, length}
use Rattle.lists.specs.Sums.{sum_to, at}
use Rattle.answer.specs.declared.Answer.{Answer}
use Rattle.division.specs.Limits.{most_weights}
use Rattle.groups.specs.Groups.{Pots, amount, amount_in_all, group_refusal, groups_in_turn}

-- The first z groups are divided: none was refused, and the column holds what each member has from them.
pub record Summed (p : Pots) (z : ℕ) (column : List ℕ) : Type 0 where
  pub few : p.members ≤ most_weights
  pub long : p.members ≤ length column
  pub fine : (y : ℕ) → y < z → group_refusal p y ≡ 0
  pub sums : (i : ℕ) → i < p.members → at column i ≡ sum_to z (λ y. amount p y i)

-- What a function that answers `answer` leaves in a column that was all zeros: f 0, f 1, .. f (n − 1). After a refusal nobody reads
-- it.
pub record ColumnMade (n : ℕ) (f : ℕ → ℕ) (answer : Answer) (after : List ℕ) (r : Answer) : Type 0 where
  pub answers : r ≡ answer
  pub long : r.number ≡ 0 → n ≤ length after
  pub values : r.number ≡ 0 → (i : ℕ) → i < n → at after i ≡ f i

-- What going through all groups leaves there: what each member has in all.
abbrev pub GoneThrough : Pots → ℕ → List ℕ → Answer → Type 0
GoneThrough p place after r = ColumnMade p.members (amount_in_all p) (groups_in_turn p place) after r
