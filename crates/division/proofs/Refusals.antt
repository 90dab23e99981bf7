-- The refusals of a call, from the tests that the code makes in turn; a sum that stops at one above its limit is refused as
-- the whole sum is.
-- Assumes nothing.
use mathlib.Core.Path.{◌≡◌, sym, ap, ◌∙◌}
use mathlib.Core.Logic.{⊎_elim, ◌≢◌}
use mathlib.Core.Bool.{or-true}
use mathlib.Core.List.{List, ◌++◌}
use Prim.Native.Nat.{ℕ, ◌≤◌, ◌<◌, min}
use native.Mathlib.Nat.{min-eq_left, min-eq_right}
use native.Mathlib.Omega.{arith}
use lib.ListN.{length, drop}
use borrow.Author.Tests.{lt-ltb, le-ltb, eq-eqb, ne_eqb}
use Rattle.lists.specs.Sums.{total}
use Rattle.lists.specs.Entries.{put}
use Rattle.lists.proofs.Ranks.{lt_or_le}
use Rattle.lists.proofs.Entries.{put_listed}
use Rattle.answer.specs.Turns.{refuse, refusal}
use Rattle.answer.proofs.Turns.{zero_or_not, refuse_none, refuse_some}
use Rattle.division.specs.Limits.{most_weights, weight_limit, size_refusal, divide_refusal}
use Rattle.division.specs.Shares.{share, shares, memory}
use Rattle.division.proofs.Handed.{sized}

pub capped_size : (pot w : ℕ) → size_refusal pot (min w 10_000_000_000_001) ≡ size_refusal pot w
unfolding size_refusal
capped_size pot w =
    ⊎_elim
    (λ (over : weight_limit < w).
    ap (size_refusal pot) (min-eq_right over)
    ∙ simp (or-true, lt-ltb weight_limit w over))
    (λ (fits : w ≤ weight_limit). ap (size_refusal pot) (min-eq_left (let h : w ≤ 10_000_000_000_001 = omega arith in h)))
    (lt_or_le weight_limit w)

-- a capped sum that is not refused is the sum
pub capped_same : (pot w : ℕ) → size_refusal pot (min w 10_000_000_000_001) ≡ 0 → min w 10_000_000_000_001 ≡ w
capped_same pot w e = omega (arith, (sized pot w (sym (capped_size pot w) ∙ e)).weights_fit)

module _ (pot : ℕ) (weights : List ℕ) (room : ℕ) where
  pub too_many : most_weights < length weights → divide_refusal pot weights room ≡ 1
  unfolding divide_refusal
  too_many h = rw (lt-ltb most_weights (length weights) h)

  pub too_short : length weights ≤ most_weights → room < length weights → divide_refusal pot weights room ≡ 2
  unfolding divide_refusal
  too_short h k = rw (le-ltb most_weights (length weights) h, lt-ltb room (length weights) k)

  pub by_size : length weights ≤ most_weights → length weights ≤ room → divide_refusal pot weights room ≡ size_refusal pot (total weights)
  unfolding divide_refusal
  by_size h k = rw (le-ltb most_weights (length weights) h, le-ltb room (length weights) k)

-- the lent words of an accepted division begin with the shares, and those of a refused one are as they were
pub memory_accepted : (pot : ℕ) (weights out : List ℕ) → divide_refusal pot weights (length out) ≡ 0
    → memory pot weights out ≡ shares pot weights ++ drop (length weights) out
unfolding memory
memory_accepted pot weights out e = rw (eq-eqb (divide_refusal pot weights (length out)) 0 e)

pub memory_refused : (pot : ℕ) (weights out : List ℕ) → divide_refusal pot weights (length out) ≢ 0 → memory pot weights out ≡ out
unfolding memory
memory_refused pot weights out d = rw (ne_eqb (divide_refusal pot weights (length out)) 0 d)

-- the shares, stored at the front of the lent words
pub put_shares : (pot : ℕ) (weights out : List ℕ) → length weights ≤ length out
    → put (length weights) (share pot weights) out ≡ shares pot weights ++ drop (length weights) out
unfolding shares
put_shares pot weights out room = put_listed (length weights) (share pot weights) out room

-- the code's capped sum, where it is not refused
pub sum_is : (pot : ℕ) (weights : List ℕ) (sum : ℕ) → sum ≡ min (total weights) 10_000_000_000_001 → size_refusal pot sum ≡ 0
    → sum ≡ total weights
sum_is pot weights sum e f = e ∙ capped_same pot (total weights) (ap (size_refusal pot) (sym e) ∙ f)

-- a refusal of no table and no row, and acceptance as well
pub refuse_nowhere : (n : ℕ) → refuse n 0 0 ≡ record { number = n; table = 0; row = 0 }
refuse_nowhere n =
    ⊎_elim
    (λ (z : n ≡ 0). refuse_none n 0 0 z ∙ ap (λ k. refusal k 0 0) (sym z))
    (λ (d : n ≢ 0). refuse_some n 0 0 d)
    (zero_or_not n)
