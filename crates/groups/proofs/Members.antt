-- Divisions by weights that are listed, and by those of a list's members taken out.
-- Assumes nothing.
use mathlib.Core.Path.{◌≡◌, sym, ap, ◌∙◌}
use mathlib.Core.Bool.{Bool, true, false}
use Prim.Native.Nat.{ℕ, ◌<◌}
use lib.ListN.{length}
use Rattle.lists.specs.Sums.{sum_to, at, total, count}
use Rattle.lists.specs.Entries.{listed, kept}
use Rattle.lists.proofs.Entries.{length_listed, at_listed}
use Rattle.lists.proofs.Members.{kept_eq}
use Rattle.division.specs.Limits.{size_refusal}
use Rattle.division.specs.Shares.{shares}
use Rattle.division.proofs.Laws.{length_shares, shares_add_up, no_weight_no_share, shares_among, total_among, sized}

-- a division that is not refused, by weights that are listed
module _ (pot n : ℕ) (weight : ℕ → ℕ) (fine : size_refusal pot (total (listed n weight)) ≡ 0) where
  -- nothing is lost ..
  pub listed_add_up : sum_to n (at (shares pot (listed n weight))) ≡ pot
  listed_add_up =
      ap (λ k. sum_to k (at (shares pot (listed n weight)))) (sym (length_shares pot (listed n weight) ∙ length_listed n weight))
      ∙ shares_add_up pot (listed n weight) (sized pot (total (listed n weight)) fine).has_base

  -- .. and a weight of 0 has no share
  pub listed_none : (i : ℕ) → i < n → weight i ≡ 0 → at (shares pot (listed n weight)) i ≡ 0
  listed_none i b e =
      no_weight_no_share pot (listed n weight) (sized pot (total (listed n weight)) fine).has_base i
      (rw length_listed b) (at_listed n weight i b ∙ e)

-- the members of a list of weights, where nobody else has a weight, and that list with the members taken out
module _ (n : ℕ) (weight : ℕ → ℕ) (member : ℕ → Bool) (others : (i : ℕ) → i < n → member i ≡ false → weight i ≡ 0) where
  others_zero : (i : ℕ) → i < length (listed n weight) → member i ≡ false → at (listed n weight) i ≡ 0
  others_zero i b m =
      let within : i < n = rw length_listed at b in
      at_listed n weight i within ∙ others i within m

  taken_out : kept (length (listed n weight)) member (at (listed n weight)) ≡ kept n member weight
  taken_out =
      ap (λ k. kept k member (at (listed n weight))) (length_listed n weight)
      ∙ kept_eq n member (at (listed n weight)) weight (λ i b m. at_listed n weight i b)

  -- the members' weights add up to the same ..
  pub total_alone : total (listed n weight) ≡ total (kept n member weight)
  total_alone = sym (total_among (listed n weight) member others_zero) ∙ ap total taken_out

  -- .. and each has the same share, at its place among them
  pub share_alone : (pot : ℕ) → size_refusal pot (total (listed n weight)) ≡ 0 → (i : ℕ) → i < n → member i ≡ true
      → at (shares pot (listed n weight)) i ≡ at (shares pot (kept n member weight)) (count i member)
  share_alone pot fine i b m =
      shares_among pot (listed n weight) member (sized pot (total (listed n weight)) fine).has_base others_zero i (rw length_listed b) m
      ∙ ap (λ l. at (shares pot l) (count i member)) taken_out
