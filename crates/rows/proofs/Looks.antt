-- What a row's looks find, as the code finds it: the first row has none before it, a search ends where it finds a row.
-- Assumes nothing.
use mathlib.Core.Path.{◌≡◌, sym, ap}
use mathlib.Core.Bool.{Bool, true, false, not}
use mathlib.Core.List.{List}
use Prim.Native.Nat.{ℕ, ◌-◌, ◌<◌}
use native.Mathlib.Nat.{pos_of_ne-zero}
use borrow.Author.Tests.{lt-ltb, eq-eqb}
use Rattle.lists.specs.Sums.{any}
use Rattle.lists.proofs.Search.{any_at}
use Rattle.tables.specs.declared.Table.{Table}
use Rattle.tables.specs.Shape.{rows}
use Rattle.tables.specs.Columns.{entry}
use Rattle.rows.specs.Rows.{not_above, names, unknown, same_pair, taken}

pub first_row : (above : ℕ → ℕ → Bool) (i : ℕ) → i ≡ 0 → false ≡ not_above above i
unfolding not_above
first_row above i e = rw e

pub later_row : (above : ℕ → ℕ → Bool) (i : ℕ) → (i ≡ 0 → ⊥) → not (above (i - 1) i) ≡ not_above above i
unfolding not_above
later_row above i d = rw (lt-ltb 0 i (pos_of_ne-zero d))

pub row_found : (table : Table) (words : List ℕ) (x j : ℕ) → j < rows table words → entry table 0 words j ≡ x → false ≡ unknown table words x
unfolding unknown
row_found table words x j h e = sym (ap not (any_at (rows table words) (names table words x) j h (eq-eqb (entry table 0 words j) x e)))

pub row_missing : (table : Table) (words : List ℕ) (x : ℕ) → any (rows table words) (names table words x) ≡ false → true ≡ unknown table words x
unfolding unknown
row_missing table words x e = rw e

pub pair_found : (accounts : List ℕ) (i j : ℕ) → j < i → same_pair accounts j i ≡ true → true ≡ taken accounts i
unfolding taken
pair_found accounts i j h e = sym (any_at i (λ k. same_pair accounts k i) j h e)

pub pair_missing : (accounts : List ℕ) (i : ℕ) → any i (λ k. same_pair accounts k i) ≡ false → false ≡ taken accounts i
unfolding taken
pair_missing accounts i e = sym e
