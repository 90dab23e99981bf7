-- Squares of distances without a subtraction: the square of a distance and twice the product are the two squares added up.
-- What becomes of such a square where one of the numbers moves then follows by multiplying out.
-- Assumes nothing.
use mathlib.Core.Path.{◌≡◌, subst}
use mathlib.Core.Logic.{⊎_elim}
use Prim.Native.Nat.{ℕ, zero, suc, ◌+◌, ◌-◌, ◌*◌, ◌≤◌, ◌<◌}
use native.Mathlib.Nat.{le_dest, le_of_lt, mul-le-mul_left, mul-le-mul_right, mul-lt-mul_of_pos_left, not-suc-le-zero}
use native.Mathlib.Omega.{arith}
use Rattle.lists.proofs.Ranks.{lt_or_le}
use Rattle.closeness.specs.Closeness.{apart}

pub apart_lt : (x y w : ℕ) → x < y + w → y < x + w → apart x y < w
unfolding apart
apart_lt x y w below above = omega arith

-- the square of how far x and y are apart
abbrev pub squared : ℕ → ℕ → ℕ
squared x y = apart x y * apart x y

squared_above : (y d : ℕ) → squared (y + d) y + 2 * ((y + d) * y) ≡ (y + d) * (y + d) + y * y
unfolding apart
squared_above y d = let e : apart (y + d) y ≡ d = omega arith in rw e (omega arith)

squared_below : (x d : ℕ) → squared x (x + d) + 2 * (x * (x + d)) ≡ x * x + (x + d) * (x + d)
unfolding apart
squared_below x d = let e : apart x (x + d) ≡ d = omega arith in rw e (omega arith)

squared_sum : (x y : ℕ) → squared x y + 2 * (x * y) ≡ x * x + y * y
squared_sum x y =
    ⊎_elim
    (λ (l : x < y).
    let more = le_dest (le_of_lt l) in
    subst (λ z. squared x z + 2 * (x * z) ≡ x * x + z * z) more.1 (squared_below x more.0))
    (λ (l : y ≤ x).
    let more = le_dest l in
    subst (λ z. squared z y + 2 * (z * y) ≡ z * z + y * y) more.1 (squared_above y more.0))
    (lt_or_le x y)

-- a multiple of w is 0 or at least w
whole_steps : (w d : ℕ) → w * (w * d) ≤ w * d * (w * d)
whole_steps w zero = omega arith
whole_steps w (suc d) = mul-le-mul_right (w * suc d) (let l : w ≤ w * suc d = omega arith in l)

-- from a to b the square of the distance of w · a from x grows by at least b − a times the slope w · (2 · (u − y) + w);
-- written without a subtraction
abbrev pub Supported : ℕ → ℕ → ℕ → ℕ → ℕ → ℕ → Type 0
Supported w u y x a b =
    squared (w * a) x + (w * (2 * u + w) * b + w * (2 * y) * a) ≤ squared (w * b) x + (w * (2 * u + w) * a + w * (2 * y) * b)

supported_above : (w u y x a d : ℕ) → u + x ≤ w * a + y → Supported w u y x a (a + d)
supported_above w u y x a d low =
    let scaled : w * d * (u + x) ≤ w * d * (w * a + y) = mul-le-mul_left (w * d) low in
    omega (arith, whole_steps w d, squared_sum (w * a) x, squared_sum (w * (a + d)) x)

supported_below : (w u y x b d : ℕ) → w * (b + d) + y ≤ u + x + w → Supported w u y x (b + d) b
supported_below w u y x b d near =
    let scaled : w * d * (w * (b + d) + y) ≤ w * d * (u + x + w) = mul-le-mul_left (w * d) near in
    omega (arith, whole_steps w d, squared_sum (w * b) x, squared_sum (w * (b + d)) x)

-- so it does to every b, where w · a stands above x at least as much as u above y, and at most w more
pub supported : (w u y x a b : ℕ) → u + x ≤ w * a + y → w * a + y ≤ u + x + w → Supported w u y x a b
supported w u y x a b low near =
    ⊎_elim
    (λ (l : a < b).
    let more = le_dest (le_of_lt l) in
    subst (λ z. Supported w u y x a z) more.1 (supported_above w u y x a more.0 low))
    (λ (l : b ≤ a).
    let more = le_dest l in
    subst (λ z. w * z + y ≤ u + x + w → Supported w u y x z b) more.1 (supported_below w u y x b more.0) near)
    (lt_or_le a b)

-- a unit that goes from a to b brings the two together closer to x and y, where w · a stands more than w further above x
-- than w · b above y
pub step_closer : (w a b x y : ℕ) → 0 < w → 0 < a → w * b + x + w < w * a + y
    → squared (w * (a - 1)) x + squared (w * (b + 1)) y < squared (w * a) x + squared (w * b) y
step_closer w zero b x y some holds far = absurd (not-suc-le-zero holds)
step_closer w (suc a) b x y some holds far =
    let scaled : w * (w * b + x + w) < w * (w * suc a + y) = mul-lt-mul_of_pos_left far some in
    let less : suc a - 1 ≡ a = omega arith in
    rw less
    (omega (arith, squared_sum (w * a) x, squared_sum (w * (b + 1)) y, squared_sum (w * suc a) x, squared_sum (w * b) y))
