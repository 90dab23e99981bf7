-- Why a division is refused: for each condition in turn, it holds and gives the number, or it does not and the next one is looked at.
-- Assumes nothing.
use mathlib.Core.Path.{◌≡◌, sym, ◌∙◌}
use mathlib.Core.Logic.{◌⊎◌, inl, inr, ⊎_elim, ◌≢◌}
use mathlib.Core.Bool.{or-true, and-false}
use mathlib.Core.List.{List}
use Prim.Native.Nat.{ℕ, ◌≤◌, ◌<◌}
use native.Mathlib.Omega.{arith}
use lib.Dec.{ltb}
use lib.ListN.{length}
use borrow.Author.Tests.{lt-ltb, le-ltb, eq-eqb, ne_eqb}
use Rattle.lists.specs.Sums.{total}
use Rattle.lists.proofs.Ranks.{lt_or_le}
use Rattle.answer.specs.Numbers.{BIG, BASE}
use Rattle.answer.proofs.Turns.{zero_or_not}
use Rattle.division.specs.Limits.{most_weights, pot_limit, weight_limit, size_refusal, divide_refusal}
use Rattle.division.specs.Refused.{
  FineSize,
  SizeRefused,
  by_big,
  by_base,
  DivideRefused,
  by_count,
  by_room,
  by_size,
}
use Rattle.division.proofs.Refusals as refusals

module _ (pot w : ℕ) where
  too_big : (pot_limit < pot) ⊎ (weight_limit < w) → size_refusal pot w ≡ BIG
  unfolding size_refusal
  too_big over =
      ⊎_elim (λ (h : pot_limit < pot). rw (lt-ltb pot_limit pot h)) (λ (h : weight_limit < w). simp (or-true, lt-ltb weight_limit w h)) over

  baseless : pot ≤ pot_limit → 0 < pot → w ≡ 0 → size_refusal pot w ≡ BASE
  unfolding size_refusal
  baseless fits some none =
      rw (le-ltb pot_limit pot fits, le-ltb weight_limit w (omega arith), lt-ltb 0 pot some, eq-eqb w 0 none)

  -- sizes within their limits are not refused
  pub fits_size : FineSize pot w → size_refusal pot w ≡ 0
  unfolding size_refusal
  fits_size fine =
      ⊎_elim
      (λ (e : w ≡ 0).
      simp (le-ltb pot_limit pot fine.pot_fits, le-ltb weight_limit w fine.weights_fit, le-ltb 0 pot (let none : pot ≡ 0 = fine.has_base e in omega arith)))
      (λ (d : w ≢ 0).
      simp (le-ltb pot_limit pot fine.pot_fits, le-ltb weight_limit w fine.weights_fit, ne_eqb w 0 d, and-false (ltb 0 pot)))
      (zero_or_not w)

module _ (pot w n : ℕ) where
  pub size_why : size_refusal pot w ≡ n → n ≢ 0 → SizeRefused pot w n
  size_why e d =
      ⊎_elim
      (λ (over : pot_limit < pot). by_big (sym e ∙ too_big pot w (inl over)) (inl over))
      (λ (p : pot ≤ pot_limit).
      ⊎_elim
      (λ (over : weight_limit < w). by_big (sym e ∙ too_big pot w (inr over)) (inr over))
      (λ (q : w ≤ weight_limit).
      ⊎_elim
      (λ (some : 0 < pot).
      ⊎_elim
      (λ (none : w ≡ 0). by_base (sym e ∙ baseless pot w p some none) p some none)
      (λ (base : w ≢ 0). absurd (d (sym e ∙ fits_size pot w (record { pot_fits = p; weights_fit = q; has_base = λ z. absurd (base z) }))))
      (zero_or_not w))
      (λ (no_pot : pot ≤ 0). absurd (d (sym e ∙ fits_size pot w (record { pot_fits = p; weights_fit = q; has_base = λ z. omega arith }))))
      (lt_or_le 0 pot))
      (lt_or_le weight_limit w))
      (lt_or_le pot_limit pot)

  pub why_size : SizeRefused pot w n → (size_refusal pot w ≡ n) × (n ≢ 0)
  why_size (by_big e over) = (too_big pot w over ∙ sym e, λ z. omega arith)
  why_size (by_base e fits some none) = (baseless pot w fits some none ∙ sym e, λ z. omega arith)

  pub size_within : SizeRefused pot w n → n ≤ BASE
  size_within (by_big e over) = omega arith
  size_within (by_base e fits some none) = omega arith

module _ (pot : ℕ) (weights : List ℕ) (room n : ℕ) where
  pub divide_why : (divide_refusal pot weights room ≡ n) × (n ≢ 0) → DivideRefused pot weights room n
  divide_why p =
      ⊎_elim
      (λ (many : most_weights < length weights). by_count (sym p.0 ∙ refusals.too_many pot weights room many) many)
      (λ (few : length weights ≤ most_weights).
      ⊎_elim
      (λ (short : room < length weights). by_room (sym p.0 ∙ refusals.too_short pot weights room few short) few short)
      (λ (fits : length weights ≤ room).
      by_size few fits (size_why pot (total weights) n (sym (refusals.by_size pot weights room few fits) ∙ p.0) p.1))
      (lt_or_le room (length weights)))
      (lt_or_le most_weights (length weights))

  pub why_divide : DivideRefused pot weights room n → (divide_refusal pot weights room ≡ n) × (n ≢ 0)
  why_divide (by_count e many) = (refusals.too_many pot weights room many ∙ sym e, λ z. omega arith)
  why_divide (by_room e few short) = (refusals.too_short pot weights room few short ∙ sym e, λ z. omega arith)
  why_divide (by_size few fits why) =
      let size = why_size pot (total weights) n why in (refusals.by_size pot weights room few fits ∙ size.0, size.1)

  pub divide_within : DivideRefused pot weights room n → n ≤ BASE
  divide_within (by_count e many) = omega arith
  divide_within (by_room e few short) = omega arith
  divide_within (by_size few fits why) = size_within pot (total weights) n why
