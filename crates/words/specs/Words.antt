-- Numbers in bytes: "eight bytes to a number, low byte first".
-- Assumes nothing.
use Rattle.std.specs.Prelude.{◌≡◌, ℕ, ◌+◌, ◌*◌, ◌/◌, ◌%◌, ◌^◌, Bool, not, ◌||◌, List, eqb, length}
use Rattle.lists.specs.Sums.{sum_to, at}
use Rattle.lists.specs.Entries.{listed}

-- bytes to a number
abbrev pub word_bytes : ℕ
word_bytes = 8

-- "a byte length that isn't a multiple of eight", of two slices
abbrev pub is_uneven : ℕ → ℕ → Bool
is_uneven these those = not (eqb (these % word_bytes) 0) || not (eqb (those % word_bytes) 0)

-- both slices of bytes are whole words
pub record WholeWords (these those : List ℕ) : Type 0 where
  pub these_whole : length these % word_bytes ≡ 0
  pub those_whole : length those % word_bytes ≡ 0

-- the number that eight bytes from a place on make
unfoldable pub number_from : List ℕ → ℕ → ℕ
number_from bytes place = sum_to word_bytes (λ k. at bytes (place + k) * 256 ^ k)

-- all numbers of a slice of bytes
unfoldable pub numbers : List ℕ → List ℕ
numbers bytes = listed (length bytes / word_bytes) (λ i. number_from bytes (word_bytes * i))

-- byte k of a number
unfoldable pub byte_of : ℕ → ℕ → ℕ
byte_of number k = number / 256 ^ k % 256

-- the bytes of a list of numbers
unfoldable pub bytes_of : List ℕ → List ℕ
bytes_of ns = listed (word_bytes * length ns) (λ j. byte_of (at ns (j / word_bytes)) (j % word_bytes))
