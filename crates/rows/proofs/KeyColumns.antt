-- ORDER by the key columns: of two rows the first column in which they differ decides, and rows with the same key are not above
-- one another. And what the loop over the key columns has shown.
-- Assumes nothing.
use mathlib.Core.Path.{◌≡◌, refl, sym, ap, ap₂, subst, ◌∙◌}
use mathlib.Core.Logic.{⊎_elim, ◌≢◌}
use mathlib.Core.Bool.{Bool, true, false, not, ◌&&◌, and-false}
use mathlib.Core.List.{List}
use Prim.Native.Nat.{ℕ, ◌+◌, ◌-◌, ◌≤◌, ◌<◌}
use native.Mathlib.Nat.{le_of_eq, eq-or-lt_of_le}
use native.Mathlib.Numerals.{add-one}
use native.Mathlib.Omega.{arith}
use lib.Dec.{eqb, ltb}
use borrow.Author.Tests.{lt-ltb, le-ltb, eq-eqb, eqb-true}
use Rattle.lists.specs.Sums.{every}
use Rattle.lists.proofs.Sums.{every_at}
use Rattle.lists.proofs.Ranks.{lt_or_le, true_or_false}
use Rattle.lists.proofs.Search.{any_at, none_from}
use Rattle.tables.specs.declared.Table.{Table}
use Rattle.tables.specs.declared.Table.TheVariants.{Zones, Owners, Units, Accounts, Loads, Reservations, Firm}
use Rattle.tables.specs.Shape.{key_columns, width}
use Rattle.tables.specs.Columns.{entry}
use Rattle.rows.specs.Rows.{not_above, above, row_above}
use Rattle.rows.proofs.Looks.{later_row}

-- two rows, given by their columns: the first column in which they differ decides which is above
module _ (lower upper : ℕ → ℕ) where
  -- the first c columns are the same
  abbrev same_to : ℕ → Bool
  same_to c = every c (λ k. eqb (lower k) (upper k))

  same_start : same_to 0 ≡ true
  unfolding every
  same_start = refl

  same_more : (c : ℕ) → same_to c ≡ true → lower c ≡ upper c → same_to (c + 1) ≡ true
  unfolding every
  same_more c all e = ap same_to (add-one c) ∙ (rw (all, eq-eqb (lower c) (upper c) e))

  same_at : (c k : ℕ) → same_to c ≡ true → k < c → lower k ≡ upper k
  same_at c k all h = eqb-true (lower k) (upper k) (every_at c (λ m. eqb (lower m) (upper m)) all k h)

  abbrev larger_at : ℕ → Bool
  larger_at c = same_to c && ltb (lower c) (upper c)

  not_larger : (c : ℕ) → upper c ≤ lower c → larger_at c ≡ false
  not_larger c h = rw (le-ltb (lower c) (upper c) h) (and-false (same_to c))

  not_behind : (c k : ℕ) → c < k → lower c ≢ upper c → larger_at k ≡ false
  not_behind c k h d =
      ⊎_elim
      (λ (all : same_to k ≡ true). absurd (d (same_at k c all h)))
      (λ (other : same_to k ≡ false). rw other)
      (true_or_false (same_to k))

  first_differs : (n c : ℕ) → c < n → same_to c ≡ true → lower c ≢ upper c → ltb (lower c) (upper c) ≡ above n lower upper
  unfolding above
  first_differs n c h all d =
      ⊎_elim
      (λ (l : lower c < upper c).
      lt-ltb (lower c) (upper c) l ∙ sym (any_at n larger_at c h (rw (all, lt-ltb (lower c) (upper c) l))))
      (λ (l : upper c ≤ lower c).
      le-ltb (lower c) (upper c) l
      ∙ sym (none_from n larger_at
      (λ k b.
      ⊎_elim
      (λ (e : k < c). not_larger k (le_of_eq (sym (same_at c k all e))))
      (λ (e : c ≤ k).
      ⊎_elim
      (λ (q : c ≡ k). subst (λ m. larger_at m ≡ false) q (not_larger c l))
      (λ (q : c < k). not_behind c k q d)
      (eq-or-lt_of_le e))
      (lt_or_le k c))))
      (lt_or_le (lower c) (upper c))

  same_key : (n : ℕ) → same_to n ≡ true → false ≡ above n lower upper
  unfolding above
  same_key n all = sym (none_from n larger_at (λ k b. not_larger k (le_of_eq (sym (same_at n k all b)))))

-- a key column is a column
key_within : (table : Table) (c : ℕ) → c < key_columns table → c < width table
key_within Zones c h = omega arith
key_within Owners c h = omega arith
key_within Units c h = omega arith
key_within Accounts c h = omega arith
key_within Loads c h = omega arith
key_within Reservations c h = omega arith
key_within Firm c h = omega arith

-- row i of a table by its columns
abbrev columns : Table → List ℕ → ℕ → ℕ → ℕ
columns table words i c = entry table c words i

-- the loop over the key columns: those that it has passed are the same as those of the row before
pub record KeyPassed (table : Table) (words : List ℕ) (i keys c : ℕ) : Type 0 where
  pub all : keys ≡ key_columns table
  pub same : same_to (columns table words (i - 1)) (columns table words i) c ≡ true

pub key_start : (table : Table) (words : List ℕ) (i keys : ℕ) → keys ≡ key_columns table → KeyPassed table words i keys 0
key_start table words i keys e = record { all = e; same = same_start (columns table words (i - 1)) (columns table words i) }

-- of two numbers that differ one is not below the other exactly where that one is below it
turned : (a b : ℕ) → a ≢ b → ltb b a ≡ not (ltb a b)
turned a b d =
    ⊎_elim
    (λ (l : a < b). rw (lt-ltb a b l, le-ltb b a (omega arith)))
    (λ (l : b ≤ a). let m : b < a = omega arith in rw (le-ltb a b l, lt-ltb b a m))
    (lt_or_le a b)

module _ {table : Table} {words : List ℕ} {i keys c : ℕ} (passed : KeyPassed table words i keys c) where
  pub is_column : c < keys → c < width table
  is_column h = key_within table c (omega (arith, passed.all))

  pub key_more : (before here : ℕ) → before ≡ entry table c words (i - 1) → here ≡ entry table c words i → before ≡ here → KeyPassed table words i keys (c + 1)
  key_more before here p q e = record { all = passed.all; same = same_more (columns table words (i - 1)) (columns table words i) c passed.same (sym p ∙ e ∙ q) }

  pub row_decided : (before here : ℕ) → i ≢ 0 → c < keys → before ≡ entry table c words (i - 1) → here ≡ entry table c words i → before ≢ here
      → ltb here before ≡ not_above (row_above table words) i
  row_decided before here later h p q d =
      turned before here d
      ∙ ap₂ (λ a b. not (ltb a b)) p q
      ∙ ap not (first_differs (columns table words (i - 1)) (columns table words i) (key_columns table) c (omega (arith, passed.all)) passed.same (λ e. d (p ∙ e ∙ sym q)))
      ∙ later_row (row_above table words) i later

  pub row_again : i ≢ 0 → c ≡ keys → true ≡ not_above (row_above table words) i
  row_again later end =
      ap not (same_key (columns table words (i - 1)) (columns table words i) (key_columns table) (subst (λ n. same_to (columns table words (i - 1)) (columns table words i) n ≡ true) (end ∙ passed.all) passed.same))
      ∙ later_row (row_above table words) i later

-- what the loop over the key columns comes to
pub ruleset key_loop = (key_start, is_column, key_more, row_decided, row_again)
