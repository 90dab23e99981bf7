-- What the crates above may cite of a division, and nothing else: how many shares there are, what they add up to, that a weight of 0
-- gets nothing, that dividing among some is dividing among those alone, that the shares are level, what is refused by count and by
-- size, and what a call leaves in the lent words.
-- Assumes nothing.
use mathlib.Core.Path.{◌≡◌, refl, sym, ap, ap₂, ◌∙◌, subst}
use mathlib.Core.Logic.{◌⊎◌, inl, inr, ⊎_elim, ◌↔◌, ◌≢◌}
use mathlib.Core.Bool.{Bool, true, false}
use mathlib.Core.List.{List}
use Prim.Native.Nat.{ℕ, ◌+◌, ◌*◌, ◌/◌, ◌≤◌, ◌<◌, min}
use native.Mathlib.Nat.{le_trans, zero-mul, zero-div, zero-sub}
use native.Mathlib.Omega.{arith}
use lib.Dec.{ltb}
use lib.ListN.{length, get_or-eq_default}
use borrow.Author.Tests.{le-ltb, lt-ltb, le-leb, ltb-false}
use Rattle.lists.specs.Sums.{sum_to, at, total, bit, count, rank}
use Rattle.lists.specs.Entries.{kept}
use Rattle.lists.proofs.Sums.{le_sum, sum_zero, every_from}
use Rattle.lists.proofs.Ranks.{lt_or_le, true_or_false}
use Rattle.lists.proofs.Entries.{length_listed, at_listed, total_listed}
use Rattle.lists.proofs.Members.{length_kept, place_below}
use Rattle.answer.specs.Numbers.{COUNT, BIG, BASE}
use Rattle.answer.proofs.Turns.{zero_or_not, look_none}
use Rattle.closeness.specs.Closeness.{level}
use Rattle.division.specs.Limits.{most_weights, pot_limit, weight_limit, size_refusal, divide_refusal}
use Rattle.division.specs.Shares.{quotient, remainder, leftover, comes_before, gets_cent, share, shares}
use Rattle.division.specs.Refused.{FineSize, SizeRefused, by_big, by_base}
use Rattle.division.proofs.Handed.{sized}
use Rattle.division.proofs.Parts.{exact, remainder_below, larger_gets, share_is, shares_sum, nothing_cut}
use Rattle.division.proofs.Refusals as refusals
use Rattle.division.proofs.Reasons as reasons
use Rattle.division.proofs.Members.{no_quotient, no_remainder, share_alone, total_kept}
-- the number of a call with the right counts, what it leaves in the lent words, and a sum that stops at one above its limit
pub use Rattle.division.proofs.Refusals.{by_size, capped_size, memory_accepted, memory_refused, sum_is}
-- sizes that are not refused, and why others are
pub use Rattle.division.proofs.Handed.{sized}
pub use Rattle.division.proofs.Reasons.{size_why, why_size, size_within, fits_size}

-- there are as many shares as weights
pub length_shares : (pot : ℕ) (weights : List ℕ) → length (shares pot weights) ≡ length weights
unfolding shares
length_shares pot weights = length_listed (length weights) (share pot weights)

-- each entry of the shares is that position's share
pub at_shares : (pot : ℕ) (weights : List ℕ) (i : ℕ) → i < length weights → at (shares pot weights) i ≡ share pot weights i
unfolding shares
at_shares pot weights i b = at_listed (length weights) (share pot weights) i b

-- of no pot every share is 0, whatever the weights
no_pot : (weights : List ℕ) (i : ℕ) → share 0 weights i ≡ 0
unfolding share quotient gets_cent leftover
no_pot weights i =
    ap₂ (λ q t. q + bit t)
    (ap (λ n. n / total weights) (zero-mul (at weights i)) ∙ zero-div (total weights))
    (ap (λ k. ltb (rank (length weights) (comes_before 0 weights) i) k) (zero-sub (sum_to (length weights) (quotient 0 weights)))
    ∙ le-ltb (rank (length weights) (comes_before 0 weights) i) 0 (omega arith))

pub share_of_none : (pot : ℕ) (weights : List ℕ) (i : ℕ) → pot ≡ 0 → share pot weights i ≡ 0
share_of_none pot weights i z = ap (λ p. share p weights i) z ∙ no_pot weights i

-- the shares add up to the pot, for weights that add up to more than zero, or no pot
pub shares_add_up : (pot : ℕ) (weights : List ℕ) → (total weights ≡ 0 → pot ≡ 0) → total (shares pot weights) ≡ pot
unfolding shares
shares_add_up pot weights base =
    total_listed (length weights) (share pot weights)
    ∙ ⊎_elim
    (λ (z : total weights ≡ 0).
    sum_zero (length weights) (share pot weights) (λ i b. share_of_none pot weights i (base z)) ∙ sym (base z))
    (λ (d : total weights ≢ 0). shares_sum pot weights (omega (arith, d)))
    (zero_or_not (total weights))

-- no share is above the pot
pub share_within : (pot : ℕ) (weights : List ℕ) → (total weights ≡ 0 → pot ≡ 0) → (i : ℕ) → at (shares pot weights) i ≤ pot
share_within pot weights base i =
    ⊎_elim
    (λ (b : i < length (shares pot weights)).
    subst (λ p. at (shares pot weights) i ≤ p) (shares_add_up pot weights base)
    (le_sum (length (shares pot weights)) (at (shares pot weights)) i b))
    (λ (o : length (shares pot weights) ≤ i).
    let none : at (shares pot weights) i ≡ 0 = get_or-eq_default (shares pot weights) 0 o in omega arith)
    (lt_or_le i (length (shares pot weights)))

-- a weight of zero gets nothing
pub no_weight_no_share : (pot : ℕ) (weights : List ℕ) → (total weights ≡ 0 → pot ≡ 0)
    → (i : ℕ) → i < length weights → at weights i ≡ 0 → at (shares pot weights) i ≡ 0
no_weight_no_share pot weights base i b z =
    at_shares pot weights i b
    ∙ ⊎_elim
    (λ (e : total weights ≡ 0). share_of_none pot weights i (base e))
    (λ (d : total weights ≢ 0).
    share_is pot weights i
    ∙ ap₂ (λ q t. q + bit t) (no_quotient pot weights i z)
    (nothing_cut pot weights (omega (arith, d)) i (no_remainder pot weights i z)))
    (zero_or_not (total weights))

-- weights of zero put in change nothing: a member's share is what it has where the members are divided among alone, at its
-- place among them
pub shares_among : (pot : ℕ) (weights : List ℕ) (member : ℕ → Bool) → (total weights ≡ 0 → pot ≡ 0)
    → ((i : ℕ) → i < length weights → member i ≡ false → at weights i ≡ 0)
    → (i : ℕ) → i < length weights → member i ≡ true
    → at (shares pot weights) i ≡ at (shares pot (kept (length weights) member (at weights))) (count i member)
shares_among pot weights member base others i b m =
    let alone = kept (length weights) member (at weights) in
    let within : count i member < length alone =
    subst (λ n. count i member < n) (sym (length_kept (length weights) member (at weights))) (place_below (length weights) member i b m) in
    at_shares pot weights i b
    ∙ ⊎_elim
    (λ (z : total weights ≡ 0). share_of_none pot weights i (base z) ∙ sym (share_of_none pot alone (count i member) (base z)))
    (λ (d : total weights ≢ 0). sym (share_alone pot weights member others (omega (arith, d)) i b m))
    (zero_or_not (total weights))
    ∙ sym (at_shares pot alone (count i member) within)

-- .. and the members' weights add up to the same
pub total_among : (weights : List ℕ) (member : ℕ → Bool) → ((i : ℕ) → i < length weights → member i ≡ false → at weights i ≡ 0)
    → total (kept (length weights) member (at weights)) ≡ total weights
total_among weights member others = total_kept 0 weights member others

-- the shares are level, since no position that gets no cent has a larger remainder than one that gets one: with q, r for quotient and remainder and b for the cent, w·b i + r j ≤ w·b j + r i + w
module _ (pot : ℕ) (weights : List ℕ) (positive : 0 < total weights) where
  cent : ℕ → ℕ
  cent i = bit (gets_cent pot weights i)

  scaled : (i : ℕ) → i < length weights
      → total weights * at (shares pot weights) i ≡ total weights * quotient pot weights i + total weights * cent i
  unfolding cent
  scaled i b =
      let s : at (shares pot weights) i ≡ quotient pot weights i + cent i = at_shares pot weights i b ∙ share_is pot weights i in
      omega (arith, ap (λ k. total weights * k) s)

  cents_level : (i j : ℕ) → i < length weights → j < length weights
      → total weights * cent i + remainder pot weights j ≤ total weights * cent j + remainder pot weights i + total weights
  unfolding cent
  cents_level i j bi bj =
      ⊎_elim
      (λ (gi : gets_cent pot weights i ≡ true).
      ⊎_elim
      (λ (gj : gets_cent pot weights j ≡ true). rw (gi, gj) (omega (arith, remainder_below pot weights positive j)))
      (λ (fj : gets_cent pot weights j ≡ false). rw (gi, fj) (omega (arith, larger_gets pot weights positive i j bj gi fj)))
      (true_or_false (gets_cent pot weights j)))
      (λ (fi : gets_cent pot weights i ≡ false). rw fi (omega (arith, remainder_below pot weights positive j)))
      (true_or_false (gets_cent pot weights i))

  -- so none stands more than a whole cent higher over its exact share than another
  pub none_ahead : (i j : ℕ) → i < length weights → j < length weights
      → total weights * at (shares pot weights) i + pot * at weights j ≤ total weights * at (shares pot weights) j + pot * at weights i + total weights
  none_ahead i j bi bj =
      omega (arith, scaled i bi, scaled j bj, exact pot weights positive i, exact pot weights positive j, cents_level i j bi bj)

  pub shares_level : level pot weights (shares pot weights) ≡ true
  unfolding level
  shares_level =
      every_from (length weights) _ (λ i bi. every_from (length weights) _ (λ j bj.
      le-leb (total weights * at (shares pot weights) i + pot * at weights j) (total weights * at (shares pot weights) j + pot * at weights i + total weights)
      (none_ahead i j bi bj)))

-- sizes are not refused exactly where they are fine
pub size_exactly : (pot w : ℕ) → (size_refusal pot w ≡ 0) ↔ FineSize pot w
size_exactly pot w = (sized pot w, reasons.fits_size pot w)

-- no share of sizes that are not refused is above the limit of a pot
pub share_fits : (pot : ℕ) (weights : List ℕ) → size_refusal pot (total weights) ≡ 0 → (i : ℕ) → at (shares pot weights) i ≤ pot_limit
share_fits pot weights e i =
    let known = sized pot (total weights) e in
    le_trans (share_within pot weights known.has_base i) known.pot_fits

-- a pot and a sum of weights within their limits are not BIG ..
pub never_big : (pot w : ℕ) → pot ≤ pot_limit → w ≤ weight_limit → (size_refusal pot w ≡ 0) ⊎ (size_refusal pot w ≡ BASE)
never_big pot w h k =
    ⊎_elim inl (λ (d : size_refusal pot w ≢ 0). inr (go (reasons.size_why pot w (size_refusal pot w) refl d))) (zero_or_not (size_refusal pot w))
  where
    go : {n : ℕ} → SizeRefused pot w n → n ≡ BASE
    go (by_big e over) = absurd (⊎_elim (λ (o : pot_limit < pot). omega arith) (λ (o : weight_limit < w). omega arith) over)
    go (by_base e fits some none) = e

-- .. and a pot that is zero where the weights add up to zero is not BASE
pub never_base : (pot w : ℕ) → (w ≡ 0 → pot ≡ 0) → (size_refusal pot w ≡ 0) ⊎ (size_refusal pot w ≡ BIG)
never_base pot w base =
    ⊎_elim inl (λ (d : size_refusal pot w ≢ 0). inr (go (reasons.size_why pot w (size_refusal pot w) refl d))) (zero_or_not (size_refusal pot w))
  where
    go : {n : ℕ} → SizeRefused pot w n → n ≡ BIG
    go (by_big e over) = e
    go (by_base e fits some none) = let zero : pot ≡ 0 = base none in absurd (omega arith)

-- what is known of a division that is not refused
pub divide_accepted : (pot : ℕ) (weights : List ℕ) (room : ℕ) → divide_refusal pot weights room ≡ 0
    → (length weights ≤ most_weights) × (length weights ≤ room) × FineSize pot (total weights)
unfolding divide_refusal
divide_accepted pot weights room e =
    let many = look_none (ltb most_weights (length weights)) 1 _ (λ q. omega arith) e in
    let short = look_none (ltb room (length weights)) 2 _ (λ q. omega arith) many.1 in
    (ltb-false most_weights (length weights) many.0, ltb-false room (length weights) short.0, sized pot (total weights) short.1)

-- more than 64 weights are COUNT, and of the room only as much counts as 64 weights can want
pub many_weights : (pot : ℕ) (weights : List ℕ) (room : ℕ) → most_weights < length weights → divide_refusal pot weights room ≡ COUNT
many_weights = refusals.too_many

pub enough_room : (pot : ℕ) (weights : List ℕ) (room : ℕ) → length weights ≤ most_weights
    → divide_refusal pot weights (min room most_weights) ≡ divide_refusal pot weights room
unfolding divide_refusal
enough_room pot weights room few =
    ⊎_elim
    (λ (short : room < length weights).
    rw (lt-ltb room (length weights) short, lt-ltb (min room most_weights) (length weights) (omega arith)))
    (λ (fits : length weights ≤ room).
    rw (le-ltb room (length weights) fits, le-ltb (min room most_weights) (length weights) (omega arith)))
    (lt_or_le room (length weights))

-- no refusal has a number above BASE
pub zero_or_within : (n : ℕ) → (n ≢ 0 → n ≤ BASE) → n ≤ BASE
zero_or_within n refused = ⊎_elim (λ (z : n ≡ 0). omega arith) refused (zero_or_not n)

pub divide_number : (pot : ℕ) (weights : List ℕ) (room : ℕ) → divide_refusal pot weights room ≤ BASE
divide_number pot weights room =
    let n = divide_refusal pot weights room in
    zero_or_within n (λ d. reasons.divide_within pot weights room n (reasons.divide_why pot weights room n (refl, d)))
