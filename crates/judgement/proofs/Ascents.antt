-- Rows of which each stands above the one before stand above every earlier one. By induction on the later row; the order is transitive.
-- And a row stands above another by the first entry of the key in which the two differ.
-- Assumes nothing.
use mathlib.Core.Path.{◌≡◌, sym, subst, ◌∙◌}
use mathlib.Core.Logic.{◌⊎◌, inl, inr, ⊎_elim, ◌↔◌}
use Prim.Native.Nat.{ℕ, zero, suc, ◌+◌, ◌≤◌, ◌<◌}
use native.Mathlib.Nat.{not-suc-le-zero, le_of_suc-le, lt_trans, lt_of_lt_of_le, eq-or-lt_of_le}
use native.Mathlib.Numerals.{add-one}
use native.Mathlib.Omega.{arith}
use Rattle.lists.proofs.Sums.{last_or_below}
use Rattle.lists.proofs.Ranks.{lt_or_le}
use Rattle.tables.specs.declared.Table.{Table}
use Rattle.tables.specs.declared.Table.TheVariants.{Loads}
use Rattle.tables.specs.Shape.{key_columns, Tables, words_of}
use Rattle.tables.specs.Columns.{entry, load_account, load_day}
use Rattle.judgement.specs.Good.{Above}

module _ (A : ℕ → ℕ → Type 0) (transitive : (i j k : ℕ) → A i j → A j k → A i k) (n : ℕ) (steps : (i : ℕ) → i < n → (j : ℕ) → i ≡ j + 1 → A j i) where
  pub climb : (i j : ℕ) → i < j → j < n → A i j
  climb i zero h b = absurd (not-suc-le-zero h)
  climb i (suc j) h b =
      ⊎_elim
      (λ (e : i ≡ j). subst (λ k. A k (suc j)) (sym e) here)
      (λ (l : i < j). transitive i j (suc j) (climb i j l (le_of_suc-le b)) here)
      (last_or_below j i h)
    where
      here : A j (suc j)
      here = steps (suc j) b j (sym (add-one j))

-- of two columns by which rows stand above one another, the earlier one decides
pub above_transitive : (t : Tables) (table : Table) (i j k : ℕ) → Above t table i j → Above t table j k → Above t table i k
above_transitive t table i j k p q =
    ⊎_elim
    (λ (l : p.column < q.column). record {
      column = p.column;
      in_key = p.in_key;
      same_before = λ c h. p.same_before c h ∙ q.same_before c (lt_trans h l);
      larger = subst (λ x. entry table p.column (words_of t table) i < x) (q.same_before p.column l) p.larger;
    })
    (λ (l : q.column ≤ p.column).
    ⊎_elim
    (λ (e : q.column ≡ p.column). record {
      column = q.column;
      in_key = q.in_key;
      same_before = λ c h. p.same_before c (lt_of_lt_of_le h l) ∙ q.same_before c h;
      larger = lt_trans (subst (λ c. entry table c (words_of t table) i < entry table c (words_of t table) j) (sym e) p.larger) q.larger;
    })
    (λ (m : q.column < p.column). record {
      column = q.column;
      in_key = q.in_key;
      same_before = λ c h. p.same_before c (lt_trans h m) ∙ q.same_before c h;
      larger = subst (λ x. x < entry table q.column (words_of t table) k) (sym (p.same_before q.column m)) q.larger;
    })
    (eq-or-lt_of_le l))
    (lt_or_le p.column q.column)

-- two rows, given by their columns: by the first n columns in turn the second stands above the first. It has more in the first of
-- them, or the same there and stands above by the columns behind it
abbrev pub AboveBy : ℕ → (ℕ → ℕ) → (ℕ → ℕ) → Type 0
AboveBy zero lower upper = ⊥
AboveBy (suc zero) lower upper = lower 0 < upper 0
AboveBy (suc (suc n)) lower upper = (lower 0 < upper 0) ⊎ ((lower 0 ≡ upper 0) × AboveBy (suc n) (λ c. lower (suc c)) (λ c. upper (suc c)))

-- a column that decides is the first of them that differs
abbrev Decides : ℕ → (ℕ → ℕ) → (ℕ → ℕ) → ℕ → Type 0
Decides n lower upper column = (column < n) × ((c : ℕ) → c < column → lower c ≡ upper c) × (lower column < upper column)

decided : (n : ℕ) (lower upper : ℕ → ℕ) (column : ℕ) → Decides n lower upper column → AboveBy n lower upper
decided zero lower upper column d = absurd (not-suc-le-zero d.0)
decided (suc zero) lower upper zero d = d.2
decided (suc zero) lower upper (suc column) d = absurd (omega (arith, d.0))
decided (suc (suc n)) lower upper zero d = inl d.2
decided (suc (suc n)) lower upper (suc column) d =
    inr (d.1 0 (omega arith), decided (suc n) (λ c. lower (suc c)) (λ c. upper (suc c)) column (omega (arith, d.0), (λ c h. d.1 (suc c) (omega arith)), d.2))

decides : (n : ℕ) (lower upper : ℕ → ℕ) → AboveBy n lower upper → (column : ℕ) × Decides n lower upper column
decides zero lower upper r = absurd r
decides (suc zero) lower upper r = (0, (omega arith, (λ c h. absurd (not-suc-le-zero h)), r))
decides (suc (suc n)) lower upper (inl l) = (0, (omega arith, (λ c h. absurd (not-suc-le-zero h)), l))
decides (suc (suc n)) lower upper (inr r) =
    let behind = decides (suc n) (λ c. lower (suc c)) (λ c. upper (suc c)) r.1 in
    (suc behind.0, (omega (arith, behind.1.0), same behind.0 behind.1.1, behind.1.2))
  where
    same : (column : ℕ) → ((c : ℕ) → c < column → lower (suc c) ≡ upper (suc c)) → (c : ℕ) → c < suc column → lower c ≡ upper c
    same column rest zero h = r.0
    same column rest (suc c) h = rest c (omega arith)

-- a row stands above another by the entries of the key in turn ..
pub above_by_columns : (t : Tables) (table : Table) (j i : ℕ)
    → Above t table j i ↔ AboveBy (key_columns table) (λ c. entry table c (words_of t table) j) (λ c. entry table c (words_of t table) i)
above_by_columns t table j i = (
  (λ a. decided (key_columns table) _ _ a.column (a.in_key, a.same_before, a.larger)),
  λ r.
      let found = decides (key_columns table) _ _ r in
      record { column = found.0; in_key = found.1.0; same_before = found.1.1; larger = found.1.2 },
)

-- .. where the key is the first entry, by that one ..
pub first_above : (t : Tables) (table : Table) → key_columns table ≡ 1 → (j i : ℕ) → Above t table j i ↔ (entry table 0 (words_of t table) j < entry table 0 (words_of t table) i)
first_above t table one j i = rw one at (above_by_columns t table j i)

-- .. and a load by account, then day
pub load_above : (t : Tables) (j i : ℕ)
    → Above t Loads j i
    ↔ ((load_account t.loads j < load_account t.loads i)
    ⊎ ((load_account t.loads j ≡ load_account t.loads i) × (load_day t.loads j < load_day t.loads i)))
load_above t = above_by_columns t Loads
