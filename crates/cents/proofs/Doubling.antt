-- Long division by doubling: with one binary digit more of the pot, quotient and rest are twice what they were, and the weight
-- where the digit is 1. Weight and whole are stretched by a factor that brings the whole close to 2^62, so that the top two
-- bits of a number tell how many wholes to take off it.
-- Assumes nothing.
use mathlib.Core.Path.{◌≡◌, refl, sym, ap, ◌∙◌}
use mathlib.Core.List.{[], ◌∷◌}
use Prim.Native.Nat.{ℕ, zero, suc, ◌+◌, ◌*◌, ◌/◌, ◌%◌, ◌-◌, ◌^◌, ◌≤◌, ◌<◌}
use native.Mathlib.Nat.{div-add-mod, div-add-mod', div-mul-le_self, mod-lt, div-eq_of_lt, mul-le-mul, mul-le-mul_left, mul-div-le, le_refl, le_trans, le_of_mul-le-mul_left, le_of_mul-le-mul_right, lt_of_mul-lt-mul_left, div-eq_of_eq-mul_right, mod-eq_of_lt}
use native.Mathlib.Omega.{arith}
use mathlib.Core.Logic.{⊎_elim}
use Rattle.lists.proofs.Ranks.{lt_or_le}
use lib.ListN.{get_or}
use lib.Bits.{bit_and, and_mask, and_zero_r}
use lib.Arith.{digits_div, digits_mod}
use lib.Count.{count_leading_zeros, leading_length}
use lib.Pow.{shr-shr, shr_le}
use Rattle.cents.specs.Dealt.{most}
use Rattle.cents.specs.Steps.{Steady, Doubled, TakenOff, Quotient}

-- a number without its lowest k digits is twice what it is without one more, and that digit
pub one_digit : (n k : ℕ) → n / 2 ^ k ≡ 2 * (n / 2 ^ (k + 1)) + n / 2 ^ k % 2
one_digit n k = sym (div-add-mod (n / 2 ^ k) 2) ∙ ap (λ m. 2 * m + n / 2 ^ k % 2) (shr-shr n k 1)

-- nothing is left of a number without all its digits
pub no_digits : (n : ℕ) → n < 2 ^ 64 → n / 2 ^ (64 - count_leading_zeros 64 n) ≡ 0
no_digits n h =
    let digits = leading_length 64 n h in
    let as_many : 64 - count_leading_zeros 64 n ≡ digits.0 = omega (arith, digits.1) in
    rw as_many (div-eq_of_lt digits.2)

-- a step takes off at most what there is, and what it leaves is hardly above a whole
module _ (cents rest digit gain whole added : ℕ) (steady : Steady cents rest digit gain whole) (is-added : added ≡ digit * gain) where
  pub added_fits : added ≤ whole
  added_fits =
      let most : digit * gain ≤ 1 * whole = mul-le-mul steady.one_digit steady.gain_fits in
      omega arith

  pub taken_within : (2 * rest + added) / 2 ^ 62 * whole ≤ 2 * rest + added
  taken_within = omega (arith, mul-le-mul_left ((2 * rest + added) / 2 ^ 62) steady.whole_fits)

  pub stepped : Doubled cents rest (digit * gain) whole (2 * cents + (2 * rest + added) / 2 ^ 62) (2 * rest + added - (2 * rest + added) / 2 ^ 62 * whole)
  stepped =
      record {
        adds_up = omega (arith, taken_within);
        rest_fits = omega (arith, added_fits, taken_within, mul-le-mul_left ((2 * rest + added) / 2 ^ 62) steady.whole_near);
      }

-- a mask of ones lets everything through, and one of zeros nothing
pub let_through : (digit gain : ℕ) → digit ≤ 1 → gain < 2 ^ 64 → bit_and gain (digit * (2 ^ 64 - 1)) ≡ digit * gain
let_through digit gain one fits =
    ⊎_elim
    (λ (none : digit < 1).
    let zero : digit ≡ 0 = omega arith in
    ap (λ d. bit_and gain (d * (2 ^ 64 - 1))) zero ∙ and_zero_r gain ∙ (let e : 0 ≡ digit * gain = omega (arith, ap (λ d. d * gain) zero) in e))
    (λ (some : 1 ≤ digit).
    let is_one : digit ≡ 1 = omega arith in
    ap (λ d. bit_and gain (d * (2 ^ 64 - 1))) is_one ∙ and_mask gain 64 ∙ mod-eq_of_lt fits
    ∙ (let e : gain ≡ digit * gain = omega (arith, ap (λ d. d * gain) is_one) in e))
    (lt_or_le digit 1)

-- the mask of a digit
pub mask_is : (digit : ℕ) → digit ≤ 1 → get_or (0 ∷ (2 ^ 64 - 1) ∷ []) digit 0 ≡ digit * (2 ^ 64 - 1)
mask_is zero one = refl
mask_is (suc zero) one = refl
mask_is (suc (suc n)) one = absurd (omega arith)

-- the factor brings the whole close to 2^62
pub record Stretch (factor whole : ℕ) : Type 0 where
  pub positive : 0 < factor
  pub fits : factor * whole ≤ 2 ^ 62
  pub near : 2 ^ 62 ≤ factor * whole + most

pub stretch : (whole : ℕ) → 0 < whole → whole ≤ most → Stretch (2 ^ 62 / whole) whole
stretch whole positive fits =
    let near : 2 ^ 62 ≤ 2 ^ 62 / whole * whole + most =
    omega (arith, div-add-mod' (2 ^ 62) whole, mod-lt (2 ^ 62) positive) in
    record {
      positive =
          ⊎_elim
          (λ (goes : 0 < 2 ^ 62 / whole). goes)
          (λ (none : 2 ^ 62 / whole ≤ 0).
          let nothing : 2 ^ 62 / whole * whole ≤ 0 * whole = mul-le-mul none (le_refl whole) in
          omega arith)
          (lt_or_le 0 (2 ^ 62 / whole));
      fits = div-mul-le_self (2 ^ 62) whole;
      near = near;
    }

-- where a long division stands after the digits `high` of the pot
pub record Passed (high weight whole cents rest : ℕ) : Type 0 where
  pub adds_up : cents * whole + rest ≡ high * weight
  pub rest_fits : rest < 2 ^ 62 + 3 * most

pub passed_none : (high weight whole : ℕ) → high ≡ 0 → Passed high weight whole 0 0
passed_none high weight whole none = record { adds_up = omega (arith, ap (λ k. k * weight) none); rest_fits = omega arith }

-- one digit more: the law of every step
pub passed_more : (pot left weight whole cents rest cents' rest' : ℕ) → 0 < left
    → Passed (pot / 2 ^ left) weight whole cents rest
    → Doubled cents rest (pot / 2 ^ (left - 1) % 2 * weight) whole cents' rest'
    → Passed (pot / 2 ^ (left - 1)) weight whole cents' rest'
passed_more pot left weight whole cents rest cents' rest' some passed stepped =
    let back : left - 1 + 1 ≡ left = omega arith in
    let next : pot / 2 ^ (left - 1) ≡ 2 * (pot / 2 ^ left) + pot / 2 ^ (left - 1) % 2 =
    one_digit pot (left - 1) ∙ ap (λ k. 2 * (pot / 2 ^ k) + pot / 2 ^ (left - 1) % 2) back in
    record {
      adds_up = omega (arith, ap (λ k. k * weight) next, passed.adds_up, stepped.adds_up);
      rest_fits = stepped.rest_fits;
    }

module _ (factor weight whole : ℕ) (wide : Stretch factor whole) (part : weight ≤ whole) where
  -- the quotient is never above the pot
  pub cents_fit : (pot high cents rest : ℕ) → pot ≤ most → high ≤ pot
      → Passed high (factor * weight) (factor * whole) cents rest
      → cents ≤ most
  cents_fit pot high cents rest pot_fits h passed =
      let most : high * (factor * weight) ≤ pot * (factor * whole) = mul-le-mul h (mul-le-mul_left factor part) in
      let below : cents * (factor * whole) ≤ pot * (factor * whole) = omega (arith, passed.adds_up) in
      let some : 0 < factor * whole = omega (arith, wide.near) in
      le_trans (le_of_mul-le-mul_right below some) pot_fits

  -- a step may be taken
  pub steady_at : (pot left cents rest : ℕ) → pot ≤ most
      → Passed (pot / 2 ^ left) (factor * weight) (factor * whole) cents rest
      → Steady cents rest (pot / 2 ^ (left - 1) % 2) (factor * weight) (factor * whole)
  steady_at pot left cents rest pot_fits passed =
      record {
        cents_fit = cents_fit pot (pot / 2 ^ left) cents rest pot_fits (shr_le pot left) passed;
        rest_fits = passed.rest_fits;
        one_digit = omega arith;
        gain_fits = mul-le-mul_left factor part;
        whole_fits = wide.fits;
        whole_near = wide.near;
      }

  -- the rest is a multiple of the factor, and hardly above the whole
  module _ (pot cents rest : ℕ) (passed : Passed pot (factor * weight) (factor * whole) cents rest) where
    all_passed : cents * whole + rest / factor ≡ pot * weight
    all_passed =
        let scaled : factor * (cents * whole) + rest ≡ factor * (pot * weight) = omega (arith, passed.adds_up) in
        let within : cents * whole ≤ pot * weight = le_of_mul-le-mul_left {k = factor} (omega arith) wide.positive in
        let over : cents * whole + (pot * weight - cents * whole) ≡ pot * weight = omega arith in
        let multiple : rest ≡ factor * (pot * weight - cents * whole) = omega (arith, ap (λ n. factor * n) over) in
        ap (λ n. cents * whole + n) (div-eq_of_eq-mul_right wide.positive multiple) ∙ over

    hardly_whole : whole ≤ most → rest / factor < whole + whole
    hardly_whole fits =
        lt_of_mul-lt-mul_left factor
        (omega (arith, passed.rest_fits, wide.near, mul-div-le rest factor))

    pub quotient_is : (cents' rest' : ℕ) → whole ≤ most → TakenOff cents (rest / factor) whole cents' rest' → Quotient pot weight whole cents' rest'
    quotient_is cents' rest' fits settled =
        let holds : cents' * whole + rest' ≡ pot * weight = settled.adds_up ∙ all_passed in
        let below : rest' < whole = settled.below (hardly_whole fits) in
        record {
          cents_are = sym (digits_div cents' below) ∙ ap (λ n. n / whole) holds;
          rest_is = sym (digits_mod cents' below) ∙ ap (λ n. n % whole) holds;
        }
