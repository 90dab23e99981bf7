-- What `deal` stores: once all weights are cut down and the cents left over handed out by their keys, each position has what it gets.
-- Assumes nothing.
use mathlib.Core.Path.{◌≡◌, sym, ap, ap₂, ◌∙◌}
use mathlib.Core.List.{List}
use Prim.Native.Nat.{ℕ, ◌+◌, ◌-◌, ◌^◌, ◌≤◌, ◌<◌}
use native.Mathlib.Nat.{le_of_eq, le_trans}
use native.Mathlib.Omega.{arith}
use lib.Dec.{ltb}
use lib.ListN.{length, take}
use lib.Seq.{get_or-take, length-take-le}
use Rattle.lists.specs.Sums.{at, bit, count}
use Rattle.lists.specs.Entries.{put}
use Rattle.lists.proofs.Sums.{sum_eq}
use Rattle.lists.proofs.Entries.{length_put, at_put, put_eq, put_over}
use Rattle.cents.specs.Dealt.{most, places, Base, cents_of, key_of, dealt}
use Rattle.cents.specs.Steps.{CutDown, larger, handed}
use Rattle.cents.proofs.Bounds.{cents_fit, rest_fits}

module _
    (pot : ℕ) (weights : List ℕ) (whole : ℕ) (out out' keys keys' : List ℕ) (given : ℕ) (base : Base pot weights whole)
    (few : length weights ≤ places) (room : length weights ≤ length out) (key-room : length weights ≤ length keys)
    (cut : CutDown pot weights whole out out' keys keys' given)
  where
    pub placed_long : length (take (length weights) keys') ≡ length weights
    placed_long =
        length-take-le (length weights) keys'
        (le_trans key-room (le_of_eq (sym (ap length cut.placed ∙ length_put (length weights) (key_of pot weights whole) keys))))

    key_at : (i : ℕ) → i < length weights → at (take (length weights) keys') i ≡ key_of pot weights whole i
    key_at i b =
        get_or-take (length weights) keys' i 0 b
        ∙ ap (λ l. at l i) cut.placed
        ∙ at_put (length weights) (key_of pot weights whole) keys key-room i b

    cents_at : (i : ℕ) → i < length weights → at out' i ≡ cents_of pot weights whole i
    cents_at i b = ap (λ l. at l i) cut.cents ∙ at_put (length weights) (cents_of pot weights whole) out room i b

    -- what `hand_out` asks of the words that it is lent
    pub ready : (length (take (length weights) keys') ≤ length out')
        × ((i : ℕ) → i < length (take (length weights) keys') → (at out' i ≤ most) × (at (take (length weights) keys') i < 2 ^ 63))
    ready = (
      rw placed_long (le_trans room (le_of_eq (sym (ap length cut.cents ∙ length_put (length weights) (cents_of pot weights whole) out)))),
      λ i h.
          let b : i < length weights = rw placed_long at h in (
            le_trans (le_of_eq (cents_at i b)) (le_trans (cents_fit pot weights whole base i b) base.pot_fits),
            omega (arith, key_at i b, rest_fits pot weights whole base i, base.whole_fits),
          ),
    )

    standing_is : (i : ℕ) → i < length weights
        → larger (take (length weights) keys') (at (take (length weights) keys') i)
        ≡ count (length weights) (λ j. ltb (key_of pot weights whole i) (key_of pot weights whole j))
    standing_is i b =
        ap (λ n. count n (λ j. ltb (at (take (length weights) keys') i) (at (take (length weights) keys') j))) placed_long
        ∙ sum_eq (length weights)
        (λ j. bit (ltb (at (take (length weights) keys') i) (at (take (length weights) keys') j)))
        (λ j. bit (ltb (key_of pot weights whole i) (key_of pot weights whole j)))
        (λ j h. ap₂ (λ x y. bit (ltb x y)) (key_at i b) (key_at j h))

    handed_is : (i : ℕ) → i < length weights → handed (pot - given) (take (length weights) keys') out' i ≡ dealt pot weights whole i
    unfolding dealt
    handed_is i b = ap₂ ◌+◌ (cents_at i b) (ap₂ (λ x y. bit (ltb x y)) (standing_is i b) (ap (λ k. pot - k) cut.given))

    pub dealt_out : (out'' : List ℕ)
        → out'' ≡ put (length (take (length weights) keys')) (handed (pot - given) (take (length weights) keys') out') out'
        → out'' ≡ put (length weights) (dealt pot weights whole) out
    dealt_out out'' e =
        e
        ∙ ap (λ n. put n (handed (pot - given) (take (length weights) keys') out') out') placed_long
        ∙ put_eq (length weights) (handed (pot - given) (take (length weights) keys') out') (dealt pot weights whole) out' handed_is
        ∙ ap (put (length weights) (dealt pot weights whole)) cut.cents
        ∙ put_over (length weights) (cents_of pot weights whole) (dealt pot weights whole) out room
