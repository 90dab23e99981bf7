-- From what `divide` promises to a column with the shares added: the number goes by size alone, and the front of the words that
-- were lent to it are the shares.
-- Assumes nothing.
use mathlib.Core.Path.{◌≡◌, sym, ap, ap₂, ◌∙◌}
use mathlib.Core.Logic.{◌≢◌}
use mathlib.Core.List.{List}
use Prim.Native.Nat.{ℕ, ◌+◌, ◌≤◌, ◌<◌, ◌^◌}
use native.Mathlib.Omega.{arith}
use lib.ListN.{length, take, drop}
use lib.Seq.{take_at, get_or-take}
use borrow.Author.Tests.{ne_eqb}
use Rattle.lists.specs.Sums.{at, total}
use Rattle.lists.specs.Entries.{put}
use Rattle.lists.proofs.Entries.{take_put}
use Rattle.division.specs.Limits.{most_weights, size_refusal}
use Rattle.division.specs.Shares.{shares, Divided}
use Rattle.division.proofs.Laws.{length_shares, share_fits, by_size, memory_accepted}
use Rattle.groups.specs.Groups.{among}
use Rattle.groups.specs.Columns.{Addable, Added, MembersKept}

module _ {pot : ℕ} {weights lent after : List ℕ} {r : ℕ} (made : Divided pot weights lent after r)
    (few : length weights ≤ most_weights) (long : length weights ≤ length lent)
  where
    pub number_by_size : r ≡ size_refusal pot (total weights)
    number_by_size = made.number ∙ by_size pot weights (length lent) few long

    pub refused_adds_none : (column : List ℕ) → r ≢ 0 → Added pot weights column column r
    refused_adds_none column bad = record { number = number_by_size; lent = rw (ne_eqb r 0 bad) }

    module _ (fine : r ≡ 0) where
      front : take (length weights) after ≡ shares pot weights
      front =
          ap (take (length weights)) (made.lent ∙ memory_accepted pot weights lent (sym made.number ∙ fine))
          ∙ take_at (shares pot weights) (drop (length weights) lent) (length weights) (length_shares pot weights)

      -- each share stands in its word
      pub share_written : (i : ℕ) → i < length weights → at after i ≡ at (shares pot weights) i
      share_written i b = sym (get_or-take (length weights) after i 0 b) ∙ ap (λ l. at l i) front

      front_long : length (take (length weights) after) ≡ length weights
      front_long = ap length front ∙ length_shares pot weights

      pub ready_to_add : (column : List ℕ) → Addable (length weights) column
          → (i : ℕ) → i < length (take (length weights) after) → at column i + at (take (length weights) after) i < 2 ^ 64
      ready_to_add column a i b =
          let share : at (take (length weights) after) i ≡ at (shares pot weights) i = ap (λ l. at l i) front in
          omega (arith, a.room i (omega (arith, front_long)), share_fits pot weights (sym number_by_size ∙ fine) i)

      pub accepted_adds : (column added : List ℕ)
          → added ≡ put (length (take (length weights) after)) (λ i. at column i + at (take (length weights) after) i) column
          → Added pot weights column added 0
      accepted_adds column added e =
          record {
            number = sym fine ∙ number_by_size;
            lent = e ∙ ap₂ (λ n l. put n (λ i. at column i + at l i) column) front_long front;
          }

-- a group's weights, written over words that are lent and lent on by themselves
module _ {weights groups : List ℕ} {group : ℕ} {lent after : List ℕ} (kept : MembersKept weights groups group lent after)
    (long : length weights ≤ length lent)
  where
    pub kept_front : take (length weights) after ≡ among (length weights) (at groups) (at weights) group
    unfolding among
    kept_front = ap (take (length weights)) kept.lent ∙ take_put (length weights) _ lent long
