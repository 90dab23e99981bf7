-- "Numbers are decimal below 2^64, with no sign, space or needless zero in front."
-- Assumes nothing.
use Rattle.std.specs.Prelude.{ℕ, zero, suc, ◌+◌, ◌-◌, ◌*◌, ◌/◌, ◌%◌, ◌^◌, ◌<◌, Bool, cond, ◌&&◌, List, [], ◌∷◌, ◌++◌, leb, ltb, eqb}
use Rattle.lists.specs.Sums.{at}

-- what reading finds at the front of a text: a value and the rest of the text, or nothing that fits
pub data Found (A : Type 0) : Type 0 where
  found : A → List ℕ → Found A
  missing : Found A

-- the byte of the digit 0
abbrev pub zero_byte : ℕ
zero_byte = 48

-- the byte of a digit, and the digit of a byte
abbrev pub digit_byte : ℕ → ℕ
digit_byte digit = zero_byte + digit

abbrev pub digit_of : ℕ → ℕ
digit_of byte = byte - zero_byte

unfoldable pub is_digit : ℕ → Bool
is_digit byte = leb zero_byte byte && ltb byte (zero_byte + 10)

-- "below 2^64"
abbrev pub bound : ℕ
bound = 2 ^ 64

-- every number of a list is
abbrev pub Below : List ℕ → Type 0
Below ns = (i : ℕ) → at ns i < bound

-- a decimal whose digits so far are those of a number above 0: every further digit belongs to it
unfoldable pub digits_on : ℕ → List ℕ → Found ℕ
digits_on n [] = found n []
digits_on n (byte ∷ s) =
    let m : ℕ = n * 10 + digit_of byte in
    let more : Found ℕ = digits_on m s in
    cond (is_digit byte) (cond (ltb m bound) more missing) (found n (byte ∷ s))

-- the decimal at the front of a text: a digit 0 is a number by itself, and no other digit follows it
unfoldable pub first_number : List ℕ → Found ℕ
first_number [] = missing
first_number (byte ∷ s) =
    let more : Found ℕ = digits_on (digit_of byte) s in
    cond (is_digit byte) (cond (eqb byte zero_byte) (found 0 s) more) missing

-- the last digits of a number, at most as many as the first argument says, none of them needless
unfoldable pub digits : ℕ → ℕ → List ℕ
digits zero n = []
digits (suc most) n =
    let front : List ℕ = digits most (n / 10) in
    cond (ltb n 10) (digit_byte n ∷ []) (front ++ (digit_byte (n % 10) ∷ []))

-- the most digits that a number below 2^64 has
abbrev pub most_digits : ℕ
most_digits = 20

-- the decimal of a number below 2^64
unfoldable pub decimal : ℕ → List ℕ
decimal n = digits most_digits n
