-- The rows of a block laid end to end: the word of each row and column lies within the block.
-- Assumes nothing.
use mathlib.Core.Path.{◌≡◌, sym}
use mathlib.Core.List.{List}
use Prim.Native.Nat.{ℕ, ◌+◌, ◌*◌, ◌/◌, ◌%◌, ◌<◌}
use native.Mathlib.Nat.{lt_of_lt_of_le, div-lt_iff_lt-mul}
use Rattle.lists.specs.Sums.{at}
use Rattle.columns.proofs.Blocks.{column_word}
use Rattle.settlement.specs.Settled.{laid}
use Rattle.settlement.specs.Steps.{word_in, Layable}

module _ {width stride count : ℕ} {block out : List ℕ} (can : Layable width stride count block out) (k : ℕ) (b : k < count * width) where
  row_within : k / width < stride
  row_within = lt_of_lt_of_le ((div-lt_iff_lt-mul can.some_columns).1 b) can.few_rows

  pub word_laid : at block (k % width * stride + k / width) ≡ laid width (word_in stride block) k
  word_laid = sym (column_word stride (k % width) block (k / width) row_within)
