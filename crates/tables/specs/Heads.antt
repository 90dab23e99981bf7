-- A head and its numbers, in the order of the first lines: `month`, `days`, `nonzone`, `daily`, `weekly`, `monthly`, `weekday`.
-- Assumes nothing.
use Rattle.std.specs.Prelude.{◌≡◌, List, [], ◌∷◌, ℕ}
use Rattle.lists.specs.Sums.{at}
use Rattle.tables.specs.declared.Head.{Head}

-- the head of so many numbers
abbrev pub head_read : List ℕ → Head
head_read ns =
    record {
      month = at ns 0;
      days = at ns 1;
      nonzone = at ns 2;
      daily = at ns 3;
      weekly = at ns 4;
      monthly = at ns 5;
      weekday = at ns 6;
    }

-- .. and the numbers of a head
abbrev pub numbers_of : Head → List ℕ
numbers_of head = head.month ∷ head.days ∷ head.nonzone ∷ head.daily ∷ head.weekly ∷ head.monthly ∷ head.weekday ∷ []

-- what a conversion gives, there and back
abbrev pub GivesHead : List ℕ → Head → Type 0
GivesHead ns head = head ≡ head_read ns

abbrev pub GivesNumbers : Head → List ℕ → Type 0
GivesNumbers head ns = ns ≡ numbers_of head
