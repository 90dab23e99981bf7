-- Each look finds its fault exactly where a table or a row breaks the rule.
-- Assumes nothing.
use mathlib.Core.Path.{◌≡◌, refl, sym, ap, subst, ◌∙◌}
use mathlib.Core.Logic.{⊎_elim, ◌≢◌}
use mathlib.Core.Bool.{Bool, true, false, not, cond, ◌&&◌, ◌||◌, and-eq-true_iff}
use mathlib.Core.List.{List}
use Prim.Native.Nat.{ℕ, ◌+◌, ◌-◌, ◌%◌, ◌<◌}
use native.Mathlib.Omega.{arith}
use lib.Dec.{ltb, eqb}
use lib.ListN.{length}
use borrow.Author.Tests.{lt-ltb, ltb-true, eqb-true, eqb-false, eq-eqb, ne_eqb, not-false}
use Rattle.lists.specs.Sums.{any, every}
use Rattle.lists.proofs.Sums.{every_at, every_from}
use Rattle.lists.proofs.Ranks.{equal_or_not, true_or_false}
use Rattle.lists.proofs.Search.{any_at, any_found, none_at, none_from}
use Rattle.answer.proofs.Turns.{zero_or_not}
use Rattle.tables.specs.declared.Table.{Table}
use Rattle.tables.specs.Shape.{key_columns, width, limit, rows, Tables, words_of}
use Rattle.tables.specs.Counts.{GoodCount}
use Rattle.tables.specs.Columns.{entry, account_customer, account_zone}
use Rattle.month.specs.Limits.{reactive, most_reserve, reserve_limit, monthly_term, last_first_day}
use Rattle.rows.specs.Rows.{outside, not_above, above, row_above, names, unknown, same_pair, taken}
use Rattle.judgement.specs.Good.{Within, Above, Known, OwnPair}
use Rattle.rows.proofs.Looks.{first_row, later_row, row_found}
use Rattle.tables.proofs.Tests.{Tests, reworded, both, at_least, equal}

-- where a rule is broken, its fault is there
pub faulty : {Rule : Type 0} {fault : Bool} → Tests Rule fault → ¬ Rule → fault ≡ true
faulty {Rule} {fault} test broken =
    ⊎_elim (λ (e : fault ≡ true). e) (λ (e : fault ≡ false). absurd (broken (test.holds e))) (true_or_false fault)

-- COUNT
pub count_tested : (t : Tables) (table : Table)
    → Tests (GoodCount t table) (not (eqb (length (words_of t table) % width table) 0) || ltb (limit table) (rows table (words_of t table)))
count_tested t table =
    reworded (λ p. record { whole = p.0; few = p.1 }) (λ r. (r.whole, r.few))
    (both (equal (length (words_of t table) % width table) 0) (at_least (rows table (words_of t table)) (limit table)))

-- RANGE
pub within : (low high x : ℕ) → Tests (Within low high x) (outside low high x)
within low high x =
    reworded (λ p. record { least = p.0; most = p.1 }) (λ r. (r.least, r.most)) (both (at_least low x) (at_least x high))

-- "The reserve credit is 0..10^10, and 0 for reactive"
pub reserve : (service x : ℕ) → Tests (Within 0 most_reserve x × (service ≡ reactive → x ≡ 0)) (outside 0 (reserve_limit service) x)
reserve service x = go (eqb service reactive) refl
  where
    go : (t : Bool) → eqb service reactive ≡ t → Tests (Within 0 most_reserve x × (service ≡ reactive → x ≡ 0)) (outside 0 (cond t 0 most_reserve) x)
    go true e = record {
      holds = λ f. let w : Within 0 0 x = (within 0 0 x).holds f in (omega arith, λ q. omega arith);
      kept = λ p. let z : x ≡ 0 = p.1 (eqb-true service reactive e) in (within 0 0 x).kept (omega arith);
    }
    go false e = record {
      holds = λ f. ((within 0 most_reserve x).holds f, λ q. absurd (eqb-false service reactive e q));
      kept = λ p. (within 0 most_reserve x).kept p.0;
    }

-- "first day (1 for monthly)", of one of the month's days
pub first_day : (term days x : ℕ) → Within 1 days x → Tests (term ≡ monthly_term → x ≡ 1) (outside 1 (last_first_day term days) x)
first_day term days x day = go (eqb term monthly_term) refl
  where
    go : (t : Bool) → eqb term monthly_term ≡ t → Tests (term ≡ monthly_term → x ≡ 1) (outside 1 (cond t 1 days) x)
    go true e = record {
      holds = λ f q. let w : Within 1 1 x = (within 1 1 x).holds f in omega arith;
      kept = λ r. let first : x ≡ 1 = r (eqb-true term monthly_term e) in (within 1 1 x).kept (omega arith);
    }
    go false e = record { holds = λ f q. absurd (eqb-false term monthly_term e q); kept = λ r. (within 1 days x).kept day }

-- ORDER: a row stands above the one before, where there is one
pub above_before : {A : ℕ → ℕ → Type 0} (above : ℕ → ℕ → Bool) → ((j i : ℕ) → Tests (A j i) (not (above j i))) → (i : ℕ) → Tests ((j : ℕ) → i ≡ j + 1 → A j i) (not_above above i)
above_before {A} above test i =
    ⊎_elim
    (λ (z : i ≡ 0). record { holds = λ e j q. absurd (omega arith); kept = λ r. sym (first_row above i z) })
    (λ (d : i ≢ 0). record {
      holds = λ e j q. subst (λ k. A k i) (omega arith) ((test (i - 1) i).holds (later_row above i d ∙ e));
      kept = λ r. sym (later_row above i d) ∙ (test (i - 1) i).kept (r (i - 1) (omega arith));
    })
    (zero_or_not i)

-- by the key columns
pub above_tested : (t : Tables) (table : Table) (j i : ℕ) → Tests (Above t table j i) (not (row_above table (words_of t table) j i))
unfolding above
above_tested t table j i = record {
  holds = λ e.
      let found = any_found (key_columns table) larger_at (not-false (any (key_columns table) larger_at) e) in
      let parts = (and-eq-true_iff (every found.0 same) (ltb (lower found.0) (upper found.0))).0 found.2 in
      record {
        column = found.0;
        in_key = found.1;
        same_before = λ c h. eqb-true (lower c) (upper c) (every_at found.0 same parts.0 c h);
        larger = ltb-true (lower found.0) (upper found.0) parts.1;
      };
  kept = λ a.
      ap not
      (any_at (key_columns table) larger_at a.column a.in_key
      ((and-eq-true_iff (every a.column same) (ltb (lower a.column) (upper a.column))).1
      (every_from a.column same (λ c h. eq-eqb (lower c) (upper c) (a.same_before c h)), lt-ltb (lower a.column) (upper a.column) a.larger)));
}
  where
    lower : ℕ → ℕ
    lower c = entry table c (words_of t table) j

    upper : ℕ → ℕ
    upper c = entry table c (words_of t table) i

    same : ℕ → Bool
    same c = eqb (lower c) (upper c)

    larger_at : ℕ → Bool
    larger_at c = every c same && ltb (lower c) (upper c)

-- LINK
pub known : (table : Table) (words : List ℕ) (x : ℕ) → Tests (Known table words x) (unknown table words x)
unfolding unknown
known table words x = record {
  holds = λ e.
      let found : (j : ℕ) × (j < rows table words) × (names table words x j ≡ true) =
      any_found (rows table words) (names table words x) (not-false (any (rows table words) (names table words x)) e) in
      (found.0, found.1, eqb-true (entry table 0 words found.0) x found.2);
  kept = λ k. sym (row_found table words x k.0 k.1 k.2);
}

-- "account zone 0 excepted"
pub unless_zero : {Rule : Type 0} {fault : Bool} (x : ℕ) → Tests Rule fault → Tests (x ≢ 0 → Rule) (not (eqb x 0) && fault)
unless_zero x test =
    ⊎_elim
    (λ (z : x ≡ 0). record { holds = λ e d. absurd (d z); kept = λ r. rw (eq-eqb x 0 z) })
    (λ (d : x ≢ 0). reworded (λ r n. r) (λ r. r d) (rw (ne_eqb x 0 d) test))
    (zero_or_not x)

-- PAIR
same_both : (a b c d : ℕ) → Tests (a ≡ b → c ≢ d) (eqb a b && eqb c d)
same_both a b c d =
    ⊎_elim
    (λ (p : a ≡ b). reworded (λ n q. n) (λ r. r p) (rw (eq-eqb a b p) (record { holds = eqb-false c d; kept = ne_eqb c d })))
    (λ (p : a ≢ b). record { holds = λ e q. absurd (p q); kept = λ r. rw (ne_eqb a b p) })
    (equal_or_not a b)

pub own_pair : (accounts : List ℕ) (i : ℕ) → Tests (OwnPair accounts i) (taken accounts i)
unfolding taken
own_pair accounts i = record {
  holds = λ e j h. (test j).holds (none_at i (λ k. same_pair accounts k i) e j h);
  kept = λ r. none_from i (λ k. same_pair accounts k i) (λ j h. (test j).kept (r j h));
}
  where
    test : (j : ℕ) → Tests (account_customer accounts j ≡ account_customer accounts i → account_zone accounts j ≢ account_zone accounts i) (same_pair accounts j i)
    test j = same_both (account_customer accounts j) (account_customer accounts i) (account_zone accounts j) (account_zone accounts i)
