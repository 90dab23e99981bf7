-- What the functions between bytes and numbers say among themselves. A reader who wants to know what reading and writing promise
-- needs none of it.
-- Assumes nothing.
use Rattle.std.specs.Prelude.{ℕ, ◌*◌, ◌/◌, ◌%◌, List}
use Rattle.lists.specs.Sums.{at}
use Rattle.words.specs.Words.{word_bytes, number_from, byte_of}

-- the number of word i, of a slice of bytes
abbrev pub number_in : List ℕ → ℕ → ℕ
number_in bytes i = number_from bytes (word_bytes * i)

-- byte j of all bytes of a list of numbers
abbrev pub byte_at : List ℕ → ℕ → ℕ
byte_at ns j = byte_of (at ns (j / word_bytes)) (j % word_bytes)
