-- A block: columns of one length, its stride, one behind the other, that are lent as one slice.
-- Assumes nothing.
use Rattle.std.specs.Prelude.{◌≡◌, ℕ, ◌*◌, List, ◌++◌, take, drop}
use Rattle.lists.specs.Sums.{at}

-- column c of a block
abbrev pub column_at : ℕ → ℕ → List ℕ → List ℕ
column_at stride c block = take stride (drop (c * stride) block)

-- n columns from column c on, which are a block by themselves ..
abbrev pub columns_from : ℕ → ℕ → ℕ → List ℕ → List ℕ
columns_from stride c n block = take (n * stride) (drop (c * stride) block)

-- .. and the block with other words in their place
abbrev pub with_columns : ℕ → ℕ → ℕ → List ℕ → List ℕ → List ℕ
with_columns stride c n part block = take (c * stride) block ++ (part ++ drop (n * stride) (drop (c * stride) block))

-- a column of zeros
abbrev pub Zeros : List ℕ → Type 0
Zeros column = (i : ℕ) → at column i ≡ 0
