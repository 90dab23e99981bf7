-- Numbers in bytes: reading bytes as numbers and writing them again, or the other way round, gives back what there was.
-- Assumes nothing.
use mathlib.Core.Path.{◌≡◌, sym, ap, ◌∙◌, subst}
use mathlib.Core.Logic.{⊎_elim}
use mathlib.Core.List.{List}
use Prim.Native.Nat.{ℕ, zero, suc, ◌+◌, ◌-◌, ◌*◌, ◌/◌, ◌%◌, ◌^◌, ◌<◌}
use native.Mathlib.Nat.{le_step, lt-suc_self, pow-suc, mod-one, mod-eq_of_lt, not-suc-le-zero, mul_comm, add-mul-div_right, add-mul-mod_self_right, zero-lt-suc, one-le-pow}
use native.Mathlib.Omega.{arith}
use lib.Arith.{mod-mul, digits_div, digits_lt}
use lib.Pow.{pow-add}
use lib.ListN.{length}
use lib.Seq.{ext_get_or}
use Rattle.lists.specs.Sums.{sum_to, at}
use Rattle.lists.proofs.Sums.{sum_eq, last_or_below}
use Rattle.lists.proofs.Entries.{length_listed, at_listed}
use Rattle.words.specs.Words.{number_from, numbers, byte_of, bytes_of}
use Rattle.words.specs.Steps.{number_in, byte_at}
use Rattle.words.proofs.Storing.{byte_at_lem}

-- a number for each word, eight bytes for each number
pub length_numbers : (bs : List ℕ) → length (numbers bs) ≡ length bs / 8
unfolding numbers
length_numbers bs = length_listed (length bs / 8) (number_in bs)

pub length_bytes : (ns : List ℕ) → length (bytes_of ns) ≡ 8 * length ns
unfolding bytes_of
length_bytes ns = length_listed (8 * length ns) (byte_at ns)

-- a number's digits to the base 256, the lowest n of them, make the number again
digits : (n number : ℕ) → sum_to n (λ k. number / 256 ^ k % 256 * 256 ^ k) ≡ number % 256 ^ n
unfolding sum_to
digits zero number = sym (mod-one number)
digits (suc n) number =
    let power : 0 < 256 ^ n = one-le-pow n 256 (zero-lt-suc 255) in
    let more : number % (256 * 256 ^ n) ≡ number / 256 ^ n % 256 * 256 ^ n + number % 256 ^ n = mod-mul number (zero-lt-suc 255) power in
    let base : 256 ^ suc n ≡ 256 * 256 ^ n = pow-suc 256 n ∙ mul_comm (256 ^ n) 256 in
    ap (λ s. s + number / 256 ^ n % 256 * 256 ^ n) (digits n number)
    ∙ (let e : number % 256 ^ n + number / 256 ^ n % 256 * 256 ^ n ≡ number / 256 ^ n % 256 * 256 ^ n + number % 256 ^ n = omega arith in e)
    ∙ sym more
    ∙ ap (λ m. number % m) (sym base)

-- numbers below 2^64 that are written as bytes and read again are the same
pub numbers_bytes : (ns : List ℕ) → ((i : ℕ) → i < length ns → at ns i < 2 ^ 64) → numbers (bytes_of ns) ≡ ns
unfolding numbers bytes_of number_from byte_of
numbers_bytes ns small =
    let long : length (bytes_of ns) / 8 ≡ length ns = ap (λ n. n / 8) (length_bytes ns) ∙ (let e : 8 * length ns / 8 ≡ length ns = omega arith in e) in
    ext_get_or 0 (numbers (bytes_of ns)) ns (length_numbers (bytes_of ns) ∙ long)
    (λ i h.
    let within : i < length (bytes_of ns) / 8 = subst (λ n. i < n) (length_numbers (bytes_of ns)) h in
    let b : i < length ns = subst (λ n. i < n) long within in
    at_listed (length (bytes_of ns) / 8) (number_in (bytes_of ns)) i within
    ∙ sum_eq 8 (λ k. at (bytes_of ns) (8 * i + k) * 256 ^ k) (λ k. at ns i / 256 ^ k % 256 * 256 ^ k)
    (λ k c.
    let inside : 8 * i + k < 8 * length ns = omega arith in
    ap (λ x. x * 256 ^ k) (at_listed (8 * length ns) (byte_at ns) (8 * i + k) inside ∙ byte_at_lem ns i k c))
    ∙ digits 8 (at ns i)
    ∙ mod-eq_of_lt (small i b))

-- digits below 256 are found again in the number that they make
module _ (digit : ℕ → ℕ) where
  made : ℕ → ℕ
  made n = sum_to n (λ k. digit k * 256 ^ k)

  below : (n : ℕ) → ((k : ℕ) → k < n → digit k < 256) → made n < 256 ^ n
  unfolding made sum_to
  below zero h = omega arith
  below (suc n) h =
      let less : made n < 256 ^ n = below n (λ k b. h k (le_step b)) in
      let top : digit n * 256 ^ n + made n < 256 * 256 ^ n = digits_lt (h n (lt-suc_self n)) less in
      let base : 256 ^ suc n ≡ 256 * 256 ^ n = pow-suc 256 n ∙ mul_comm (256 ^ n) 256 in
      omega arith

  found : (n : ℕ) → ((k : ℕ) → k < n → digit k < 256) → (j : ℕ) → j < n → made n / 256 ^ j % 256 ≡ digit j
  unfolding made sum_to
  found zero h j b = absurd (not-suc-le-zero b)
  found (suc n) h j b =
      ⊎_elim
      (λ (e : j ≡ n).
      let less : made n < 256 ^ n = below n (λ k c. h k (le_step c)) in
      let swap : made n + digit n * 256 ^ n ≡ digit n * 256 ^ n + made n = omega arith in
      rw e (ap (λ m. m / 256 ^ n % 256) swap ∙ ap (λ m. m % 256) (digits_div (digit n) less) ∙ mod-eq_of_lt (h n (lt-suc_self n))))
      (λ (c : j < n).
      let power : 0 < 256 ^ j = one-le-pow j 256 (zero-lt-suc 255) in
      let split : digit n * 256 ^ n ≡ digit n * 256 ^ (n - suc j) * 256 * 256 ^ j = shifted n j c in
      ap (λ m. (made n + m) / 256 ^ j % 256) split
      ∙ ap (λ m. m % 256) (add-mul-div_right (made n) (digit n * 256 ^ (n - suc j) * 256) power)
      ∙ add-mul-mod_self_right (made n / 256 ^ j) (digit n * 256 ^ (n - suc j)) 256
      ∙ found n (λ k d. h k (le_step d)) j c)
      (last_or_below n j b)
    where
      shifted : (n j : ℕ) → j < n → digit n * 256 ^ n ≡ digit n * 256 ^ (n - suc j) * 256 * 256 ^ j
      shifted n j c =
          let back : n ≡ n - suc j + suc j = omega arith in
          let power : 256 ^ n ≡ 256 ^ (n - suc j) * (256 ^ j * 256) =
          ap (λ k. 256 ^ k) back ∙ pow-add 256 (n - suc j) (suc j) ∙ ap (λ m. 256 ^ (n - suc j) * m) (pow-suc 256 j) in
          omega (arith, ap (λ m. digit n * m) power)

-- bytes in whole words that are read as numbers and written again are the same
pub bytes_numbers : (bs : List ℕ) → length bs % 8 ≡ 0 → ((j : ℕ) → j < length bs → at bs j < 256) → bytes_of (numbers bs) ≡ bs
unfolding numbers bytes_of number_from byte_of made
bytes_numbers bs whole small =
    let long : 8 * length (numbers bs) ≡ length bs = ap (λ n. 8 * n) (length_numbers bs) ∙ (let e : 8 * (length bs / 8) ≡ length bs = omega arith in e) in
    ext_get_or 0 (bytes_of (numbers bs)) bs (length_bytes (numbers bs) ∙ long)
    (λ j h.
    let within : j < 8 * length (numbers bs) = subst (λ n. j < n) (length_bytes (numbers bs)) h in
    let b : j < length bs = subst (λ n. j < n) long within in
    let word : j / 8 < length bs / 8 = omega arith in
    let place : 8 * (j / 8) + j % 8 ≡ j = omega arith in
    at_listed (8 * length (numbers bs)) (byte_at (numbers bs)) j within
    ∙ ap (λ n. byte_of n (j % 8)) (at_listed (length bs / 8) (number_in bs) (j / 8) word)
    ∙ found (λ k. at bs (8 * (j / 8) + k)) 8 (λ k c. small (8 * (j / 8) + k) (omega arith)) (j % 8) (omega arith)
    ∙ ap (at bs) place)
