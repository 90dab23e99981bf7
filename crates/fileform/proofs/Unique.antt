-- The contracts determine the answers: two answers, and two lent memories after, that one of them allows are equal. Those of
-- what measures first lines and rows and writes them are `sized_unique` and `put_at_unique` of `text`.
-- Assumes nothing.
use mathlib.Core.Path.{◌≡◌, refl, sym, ◌∙◌}
use mathlib.Core.List.{List, [], ◌∷◌}
use Prim.Native.Nat.{ℕ}
use lib.ListN.{drop}
use Rattle.std.specs.Prelude.{Option, None, Some}
use Rattle.text.specs.declared.number.Number.{Number}
use Rattle.text.specs.Numbers.{Found, found}
use Rattle.text.specs.Places.{FieldsTaken}
use Rattle.text.proofs.Numbers.{never}
use Rattle.text.proofs.Stores.{stored_none}
use Rattle.text.proofs.Unique.{line_at_unique, fields_taken_unique}
use Rattle.fileform.specs.declared.row.Counted.{Counted}
use Rattle.fileform.specs.Reading.{RowsRead}
use Rattle.fileform.specs.Calls.{OneTaken, CountedAt, RowsTaken}

-- `head::one_number`, `head::take_head`
pub one_taken_unique : (s : List ℕ) (o : Found (List ℕ)) (r q : Option Number) → OneTaken s o r → OneTaken s o q → r ≡ q
one_taken_unique s o None None a b = refl
one_taken_unique s o None (Some m) a b = absurd (never a b.1)
one_taken_unique s o (Some n) None a b = absurd (never b a.1)
one_taken_unique s o (Some n) (Some m) a b =
    let same : found (n.value ∷ []) (drop n.next s) ≡ found (m.value ∷ []) (drop m.next s) = sym a.1 ∙ b.1 in
    let value : n.value ≡ m.value = cc in
    let next : Some n.next ≡ Some m.next = line_at_unique s o (Some n.next) (Some m.next) (a.0, (n.value ∷ [], a.1)) (b.0, (m.value ∷ [], b.1)) in
    let behind : n.next ≡ m.next = cc in
    λ i. Some (record { value = value i; next = behind i })

-- `table::count_table`, `row::count_rows`
pub counted_at_unique : (s : List ℕ) (r : RowsRead) (c d : Counted) → CountedAt s r c → CountedAt s r d → c ≡ d
counted_at_unique s r c d a b =
    let count : c.count ≡ d.count = sym a.count_is ∙ b.count_is in
    let next : c.next ≡ d.next = (fields_taken_unique s (found [] r.rest) [] 0 c.next d.next [] [] (behind c a) (behind d b)).0 in
    λ i. record { count = count i; next = next i }
  where
    behind : (c : Counted) → CountedAt s r c → FieldsTaken s (found [] r.rest) [] 0 c.next []
    behind c a = record { inside = a.inside; behind = a.behind; written = sym (stored_none [] 0) }

-- `table::take_table`, `row::take_rows`
pub rows_taken_unique : (s : List ℕ) (r : RowsRead) (lent : List ℕ) (n m : ℕ) (after after' : List ℕ)
    → RowsTaken s r lent n after → RowsTaken s r lent m after' → (n ≡ m) × (after ≡ after')
rows_taken_unique s r lent n m after after' a b =
    fields_taken_unique s (found r.words r.rest) lent 0 n m after after' (row_taken_lem n after a) (row_taken_lem m after' b)
  where
    row_taken_lem : (n : ℕ) (after : List ℕ) → RowsTaken s r lent n after → FieldsTaken s (found r.words r.rest) lent 0 n after
    row_taken_lem n after a = record { inside = a.inside; behind = a.behind; written = a.written }
