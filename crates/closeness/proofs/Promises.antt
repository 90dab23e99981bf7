-- The closest lists of amounts are exactly the level ones, and in those each amount is less than a cent from its exact share.
-- Assumes nothing.
use mathlib.Core.Path.{◌≡◌}
use mathlib.Core.Bool.{true}
use mathlib.Core.List.{List}
use Prim.Native.Nat.{ℕ, ◌<◌}
use lib.ListN.{length}
use Rattle.lists.specs.Sums.{total}
use Rattle.closeness.specs.Closeness.{distance, Closest, level}
use Rattle.closeness.proofs.Level.{closest_if_level, within_a_cent}
use Rattle.closeness.proofs.Exchange.{level_if_closest}

-- no other list with that sum lies closer to the exact shares than one that passes the test
pub level_closest : (pot : ℕ) (weights amounts : List ℕ) → 0 < total weights → length amounts ≡ length weights
    → total amounts ≡ pot → level pot weights amounts ≡ true → Closest pot weights amounts
level_closest pot weights amounts some same whole = closest_if_level pot weights amounts some same whole

-- a list to which no other with that sum lies closer passes the test
pub closest_level : (pot : ℕ) (weights amounts : List ℕ) → 0 < total weights → length amounts ≡ length weights
    → total amounts ≡ pot → Closest pot weights amounts → level pot weights amounts ≡ true
closest_level pot weights amounts some same whole = level_if_closest pot weights amounts some same whole

-- each amount of a list that passes the test is less than one cent from its exact share
pub level_within_a_cent : (pot : ℕ) (weights amounts : List ℕ) → 0 < total weights → length amounts ≡ length weights
    → total amounts ≡ pot → level pot weights amounts ≡ true
    → (i : ℕ) → i < length weights → distance pot weights amounts i < total weights
level_within_a_cent pot weights amounts some same whole = within_a_cent pot weights amounts some same whole
