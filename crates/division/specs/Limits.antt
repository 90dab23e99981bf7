-- The limits of a division and its refusals, in the order in which they are looked for.
-- Assumes nothing.
use Rattle.std.specs.Prelude.{ℕ, Bool, ◌&&◌, ◌||◌, List, ltb, eqb, length}
use Rattle.lists.specs.Sums.{total}
use Rattle.answer.specs.Numbers.{COUNT, ROOM, BIG, BASE}
use Rattle.answer.specs.Turns.{look}

-- "there are at most 64"
abbrev pub most_weights : ℕ
most_weights = 64

-- "A pot P is at most 10^11"
abbrev pub pot_limit : ℕ
pot_limit = 100_000_000_000

-- "weights add up to W, at most 10^13"
abbrev pub weight_limit : ℕ
weight_limit = 10_000_000_000_000

-- BIG: "P above 10^11 or W above 10^13"
abbrev pub is_big : ℕ → ℕ → Bool
is_big pot w = ltb pot_limit pot || ltb weight_limit w

-- BASE: "P above zero and W zero"
abbrev pub is_baseless : ℕ → ℕ → Bool
is_baseless pot w = ltb 0 pot && eqb w 0

-- BIG, then BASE
unfoldable pub size_refusal : ℕ → ℕ → ℕ
size_refusal pot w = look (is_big pot w) BIG (look (is_baseless pot w) BASE 0)

-- "The division alone looks at COUNT, ROOM, BIG, BASE": more than 64 weights; a lent output of fewer words than weights
unfoldable pub divide_refusal : ℕ → List ℕ → ℕ → ℕ
divide_refusal pot weights room =
    look (ltb most_weights (length weights)) COUNT
    (look (ltb room (length weights)) ROOM
    (size_refusal pot (total weights)))
