-- Sums, counts, ranks and tests over the positions 0, 1, .. n − 1.
-- Assumes nothing.
use Rattle.std.specs.Prelude.{ℕ, zero, suc, ◌+◌, Bool, true, false, ◌&&◌, ◌||◌, List, ltb, eqb, length, get_or}

-- f 0 + f 1 + .. + f (n − 1)
unfoldable pub sum_to : ℕ → (ℕ → ℕ) → ℕ
sum_to zero f = 0
sum_to (suc n) f = sum_to n f + f n

-- 1 where a test holds, else 0
abbrev pub bit : Bool → ℕ
bit true = 1
bit false = 0

-- a number where a test holds, else 0: a sum with a condition is a sum of these
abbrev pub when : Bool → ℕ → ℕ
when true x = x
when false x = 0

-- of n rows with a number and a value each, the values of the rows that have one number, added up
unfoldable pub sum_where : ℕ → (ℕ → ℕ) → (ℕ → ℕ) → ℕ → ℕ
sum_where n number_of value number = sum_to n (λ i. when (eqb (number_of i) number) (value i))

-- at how many positions below n a test holds
abbrev pub count : ℕ → (ℕ → Bool) → ℕ
count n t = sum_to n (λ i. bit (t i))

-- whether a test holds at every position below n
unfoldable pub every : ℕ → (ℕ → Bool) → Bool
every zero t = true
every (suc n) t = every n t && t n

-- whether a test holds at some position below n
unfoldable pub any : ℕ → (ℕ → Bool) → Bool
any zero t = false
any (suc n) t = any n t || t n

-- the place of position i in an order of the positions below n: how many stand before it (`before j i`: j stands before i)
abbrev pub rank : ℕ → (ℕ → ℕ → Bool) → ℕ → ℕ
rank n before i = count n (λ j. before j i)

-- the order by what each position holds, largest first, lower position first among equals: position j comes before i
unfoldable pub largest_first : (ℕ → ℕ) → ℕ → ℕ → Bool
largest_first f j i = ltb (f i) (f j) || (eqb (f i) (f j) && ltb j i)

-- the entry at a position of a list, 0 past its end
abbrev pub at : List ℕ → ℕ → ℕ
at l i = get_or l i 0

-- all entries of a list added up
abbrev pub total : List ℕ → ℕ
total l = sum_to (length l) (at l)
