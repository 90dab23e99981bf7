-- What the private functions on the way to a verdict say of one another. A reader who wants to know what the crate promises
-- needs none of it.
-- Assumes nothing.
use Rattle.std.specs.Prelude.{◌≡◌, ℕ, ◌+◌, ◌-◌, ◌*◌, ◌<◌, min, List}
use Rattle.lists.specs.Sums.{at}

-- a number in two words of base 2^19
abbrev pub wide_value : ℕ → ℕ → ℕ
wide_value high low = high * 524288 + low

pub record WideProduct (factor number high low : ℕ) : Type 0 where
  pub value : wide_value high low ≡ factor * number
  pub low_fits : low < 524288

-- how high an amount stands over its exact share less a cent, in parts of the sum of the weights: 0 where it stands lower,
-- and never more than two cents
abbrev pub height : ℕ → List ℕ → ℕ → List ℕ → ℕ → ℕ
height pot weights sum amounts i = min (sum * (at amounts i + 1) - at weights i * pot) (2 * sum)
