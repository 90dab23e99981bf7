-- Reading and writing at a place of lent bytes: what a call answers and leaves, in terms of the text from there on.
-- Assumes nothing.
use Rattle.std.specs.Prelude.{◌≡◌, ◌≢◌, List, [], ◌++◌, ◌∷◌, ℕ, Option, None, Some, ◌+◌, ◌≤◌, min, length, drop}
use Rattle.std.proofs.lemmas.List.Edits.{sets}
use Rattle.text.specs.declared.number.Number.{Number}
use Rattle.text.specs.Numbers.{Found, found, missing}
use Rattle.text.specs.Lines.{equals, past}

-- a number that was read in the text s, with the offset behind it, or none
abbrev pub NumberAt : List ℕ → Found ℕ → Option Number → Type 0
NumberAt s o None = o ≡ missing
NumberAt s o (Some n) = (n.next ≤ length s) × (o ≡ found n.value (drop n.next s))

-- the offset behind some fields or a whole line that were read, or none
abbrev pub LineAt : List ℕ → Found (List ℕ) → Option ℕ → Type 0
LineAt s o None = o ≡ missing
LineAt s o (Some next) = (next ≤ length s) × ((ns : List ℕ) × (o ≡ found ns (drop next s)))

-- where a line ends that was to be read from an offset on, the offset itself where it doesn't fit (a line has bytes)
pub record EndAt (s : List ℕ) (at : ℕ) (o : Found (List ℕ)) (next : ℕ) : Type 0 where
  pub onward : at ≤ next
  pub inside : next ≢ at → next ≤ length s
  pub fits : next ≢ at → (ns : List ℕ) × (o ≡ found ns (drop next s))
  pub unfit : next ≡ at → o ≡ missing

-- a key with its equals sign: whatever is read behind it is read at the offset, and nothing where it doesn't stand there
abbrev pub KeyAt : List ℕ → List ℕ → List ℕ → Option ℕ → Type 0
KeyAt key s rest None = (go : List ℕ → Found (List ℕ)) → past (key ++ (equals ∷ [])) go rest ≡ missing
KeyAt key s rest (Some next) = (next ≤ length s) × ((go : List ℕ → Found (List ℕ)) → past (key ++ (equals ∷ [])) go rest ≡ go (drop next s))

-- the fields that were found, and the rest of the text; nothing where they are missing
abbrev pub fields_of : Found (List ℕ) → List ℕ
fields_of (found ns t) = ns
fields_of missing = []

abbrev pub rest_of : Found (List ℕ) → List ℕ
rest_of (found ns t) = t
rest_of missing = []

-- a lent list after some entries are stored in it, one after the other from a place on
unfoldable pub stored : List ℕ → ℕ → List ℕ → List ℕ
stored lent at entries = sets lent at entries

-- what a writer leaves: the bytes at their place, the rest untouched, and the place behind them
pub record PutAt (lent : List ℕ) (at : ℕ) (bytes : List ℕ) (next : ℕ) (after : List ℕ) : Type 0 where
  pub onward : next ≡ at + length bytes
  pub written : after ≡ stored lent at bytes

-- a size to which bytes were added, up to a cap
pub record Sized (before : ℕ) (bytes : List ℕ) (cap size : ℕ) : Type 0 where
  pub capped : size ≡ min (before + length bytes) cap

-- what a reader of fields leaves: the fields at their place, the rest untouched, and the offset behind them
pub record FieldsTaken (s : List ℕ) (o : Found (List ℕ)) (lent : List ℕ) (place next : ℕ) (after : List ℕ) : Type 0 where
  pub inside : next ≤ length s
  pub behind : rest_of o ≡ drop next s
  pub written : after ≡ stored lent place (fields_of o)
