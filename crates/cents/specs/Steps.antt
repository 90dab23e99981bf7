-- What the functions on the way to a pot dealt out say among themselves. A reader who wants to know what `deal` promises needs
-- none of it.
-- Assumes nothing.
use Rattle.std.specs.Prelude.{◌≡◌, ℕ, ◌+◌, ◌-◌, ◌*◌, ◌/◌, ◌%◌, ◌^◌, ◌≤◌, ◌<◌, List, ◌⊎◌, ltb, length, get_or, set}
use Rattle.lists.specs.Sums.{sum_to, at, bit, count}
use Rattle.lists.specs.Entries.{put}
use Rattle.cents.specs.Dealt.{most, places, cents_of, key_of}
use Rattle.cents.specs.declared.quotients.Part.{Part}

-- a step of a long division starts from a quotient and a rest such that nothing it computes leaves 64 bits: the whole is hardly
-- below 2^62, and the rest hardly above
pub record Steady (cents rest digit gain whole : ℕ) : Type 0 where
  pub cents_fit : cents ≤ most
  pub rest_fits : rest < 2 ^ 62 + 3 * most
  pub one_digit : digit ≤ 1
  pub gain_fits : gain ≤ whole
  pub whole_fits : whole ≤ 2 ^ 62
  pub whole_near : 2 ^ 62 ≤ whole + most

-- after a step everything is doubled and the gain is on top, and the rest is hardly above the whole again
pub record Doubled (cents rest gain whole cents' rest' : ℕ) : Type 0 where
  pub adds_up : cents' * whole + rest' ≡ 2 * (cents * whole + rest) + gain
  pub rest_fits : rest' < 2 ^ 62 + 3 * most

-- a last whole is taken off where it goes
pub record TakenOff (cents rest whole cents' rest' : ℕ) : Type 0 where
  pub adds_up : cents' * whole + rest' ≡ cents * whole + rest
  pub below : rest < whole + whole → rest' < whole

-- the part at a position of several, nothing past their end
abbrev pub part_at : List Part → ℕ → Part
part_at parts k = get_or parts k (record { cents = 0; rest = 0 })

-- the whole part of pot times weight over the whole, and the remainder
pub record Quotient (pot weight whole cents rest : ℕ) : Type 0 where
  pub cents_are : cents ≡ pot * weight / whole
  pub rest_is : rest ≡ pot * weight % whole

-- the same of each of several weights
abbrev pub Quotients : ℕ → List ℕ → ℕ → List Part → Type 0
Quotients pot weights whole parts =
    (k : ℕ) → k < length weights → Quotient pot (at weights k) whole (part_at parts k).cents (part_at parts k).rest

-- room for each weight's cents and key
pub record Room (weights out keys : List ℕ) : Type 0 where
  pub few : length weights ≤ places
  pub cents_room : length weights ≤ length out
  pub keys_room : length weights ≤ length keys

-- one position's cents and key are stored, and r cents given
pub record PartKept (cents rest i : ℕ) (out out' keys keys' : List ℕ) (r : ℕ) : Type 0 where
  pub stored : out' ≡ set out i cents
  pub placed : keys' ≡ set keys i (rest * 64 + (63 - i))
  pub given : r ≡ cents

-- after the weights below `from` those below `to` are done too, with r cents more
pub record Cut (pot : ℕ) (weights : List ℕ) (whole from to : ℕ) (out out' keys keys' : List ℕ) (r : ℕ) : Type 0 where
  pub given : sum_to from (cents_of pot weights whole) + r ≡ sum_to to (cents_of pot weights whole)
  pub cents : (l : List ℕ) → out ≡ put from (cents_of pot weights whole) l → out' ≡ put to (cents_of pot weights whole) l
  pub placed : (l : List ℕ) → keys ≡ put from (key_of pot weights whole) l → keys' ≡ put to (key_of pot weights whole) l

-- all weights are done, with r cents given
pub record CutDown (pot : ℕ) (weights : List ℕ) (whole : ℕ) (out out' keys keys' : List ℕ) (r : ℕ) : Type 0 where
  pub given : r ≡ sum_to (length weights) (cents_of pot weights whole)
  pub cents : out' ≡ put (length weights) (cents_of pot weights whole) out
  pub placed : keys' ≡ put (length weights) (key_of pot weights whole) keys

-- how many keys are larger than a number
abbrev pub larger : List ℕ → ℕ → ℕ
larger keys key = count (length keys) (λ j. ltb key (at keys j))

-- of all that may be keys, those from `high` on get one of the cents left, and those below `low` none
pub record Between (left : ℕ) (keys : List ℕ) (low high : ℕ) : Type 0 where
  pub some : (x : ℕ) → x < 2 ^ 63 → high ≤ x → larger keys x < left
  pub none : (x : ℕ) → x < 2 ^ 63 → x < low → left ≤ larger keys x

-- bounds between which a key no longer stands
pub record Settling (left : ℕ) (keys : List ℕ) (key low high : ℕ) : Type 0 where
  pub between : Between left keys low high
  pub settled : (key < low) ⊎ (high ≤ key)

-- a word, and one more where its key has fewer larger ones than there are cents left
abbrev pub handed : ℕ → List ℕ → List ℕ → ℕ → ℕ
handed left keys out i = at out i + bit (ltb (larger keys (at keys i)) left)
