-- `verdict::spread::product` meets its contract: the number is its high part times 2^19 and its low part.
-- Assumes nothing.
use mathlib.Core.Path.{ap}
use Prim.Native.Nat.{ℕ, ◌*◌, ◌/◌, ◌%◌, ◌≤◌}
use native.Mathlib.Nat.{mul-le-mul, div-add-mod'}
use native.Mathlib.Omega.{arith}
use Rattle.verdict.proofs.spread.product.Goals as goal

-- both parts of the product are far below 2^64
parts : (factor number : ℕ) → (factor ≤ 10_000_000_000_000) × (number ≤ 100_000_000_001)
    → (factor * (number / 524288) ≤ 10_000_000_000_000 * 200_000) × (factor * (number % 524288) ≤ 10_000_000_000_000 * 524288)
parts factor number h =
    let high : number / 524288 ≤ 200_000 = omega arith in
    let low : number % 524288 ≤ 524288 = omega arith in
    (mul-le-mul h.0 high, mul-le-mul h.0 low)

pub overflow_mul-part : goal.overflow_mul-part
overflow_mul-part c = omega (arith, parts c.args.factor c.args.number c.requires)

pub overflow_mul-result : goal.overflow_mul-result
overflow_mul-result c = omega (arith, parts c.args.factor c.args.number c.requires)

pub overflow_add-result : goal.overflow_add-result
overflow_add-result c = omega (arith, parts c.args.factor c.args.number c.requires)

pub returns : goal.returns
returns c = omega (arith, ap (λ k. c.args.factor * k) (div-add-mod' c.args.number 524288))
