-- The load rows of an account, each on a day of the month, are its days' contributions added up: loads strictly ascend by account, then
-- day, so a day has one row of an account at most.
-- Assumes nothing.
use mathlib.Core.Path.{◌≡◌, refl, sym, ◌∙◌}
use mathlib.Core.Logic.{◌≢◌, ⊎_elim}
use mathlib.Core.Bool.{Bool, true, false}
use Prim.Native.Nat.{ℕ, ◌+◌, ◌-◌, ◌<◌, ◌≤◌}
use native.Mathlib.Omega.{arith}
use lib.Dec.{eqb}
use borrow.Author.Tests.{eq-eqb, ne_eqb, eqb-true}
use Rattle.lists.specs.Sums.{sum_to, when, sum_where}
use Rattle.lists.proofs.Sums.{sum_eq, sum_zero, sum_one, sum_swap, when_true, when_false, when_zero}
use Rattle.lists.proofs.Ranks.{true_or_false, lt_or_le}
use Rattle.tables.specs.declared.Table.TheVariants.{Loads}
use Rattle.tables.specs.Columns.{account_number, load_account, load_day, load_contribution}
use Rattle.pool.specs.Input.{Input, load_count}
use Rattle.pool.specs.Accounts.{contributions, contribution_on}
use Rattle.settlement.specs.Accepted.{GoodInput}
use Rattle.settlement.proofs.Keys.{AscendsByDay, row_of}
use Rattle.settlement.proofs.Ranges.{loads_ascend}

-- a value on a day 1..days is what all days have of it, where it counts
over_days : (days day v : ℕ) → 1 ≤ day → day ≤ days → (t : Bool) → sum_to days (λ d. when t (when (eqb day (d + 1)) v)) ≡ when t v
over_days days day v least most true =
    row_of days (λ d. d + 1) (λ i j l b. omega arith) day (day - 1) v (omega arith) (omega arith)
over_days days day v least most false = sum_zero days (λ d. 0) (λ d b. refl)

module _ (m : Input) (a : ℕ) where
  open m.tables use {accounts, loads}

  -- a row that is not account a's, or on another day, has nothing on this day
  elsewhere : (day i : ℕ) → (load_account loads i ≡ account_number accounts a → load_day loads i ≢ day)
      → when (eqb (load_account loads i) (account_number accounts a)) (when (eqb (load_day loads i) day) (load_contribution loads i)) ≡ 0
  elsewhere day i other =
      ⊎_elim
      (λ (t : eqb (load_account loads i) (account_number accounts a) ≡ true).
      when_zero (eqb (load_account loads i) (account_number accounts a)) _
      (when_false (eqb (load_day loads i) day) (load_contribution loads i)
      (ne_eqb (load_day loads i) day (other (eqb-true (load_account loads i) (account_number accounts a) t)))))
      (λ (t : eqb (load_account loads i) (account_number accounts a) ≡ false).
      when_false (eqb (load_account loads i) (account_number accounts a)) _ t)
      (true_or_false (eqb (load_account loads i) (account_number accounts a)))

  pub missing_day : (day : ℕ) → ((i : ℕ) → i < load_count m → load_account loads i ≡ account_number accounts a → load_day loads i ≢ day)
      → contribution_on m a day ≡ 0
  unfolding contribution_on sum_where
  missing_day day none = sum_zero (load_count m) _ (λ i b. elsewhere day i (none i b))

  module _ (lent_charges lent_credits : ℕ) (good : GoodInput m lent_charges lent_credits) where
    pub day_by_day : contributions m a ≡ sum_to m.days (λ d. contribution_on m a (d + 1))
    unfolding contributions contribution_on sum_where
    day_by_day =
        sym
        (sum_swap m.days (load_count m)
        (λ d i. when (eqb (load_account loads i) (account_number accounts a)) (when (eqb (load_day loads i) (d + 1)) (load_contribution loads i)))
        ∙ sum_eq (load_count m) _ (λ i. when (eqb (load_account loads i) (account_number accounts a)) (load_contribution loads i))
        (λ i b.
        over_days m.days (load_day loads i) (load_contribution loads i) (good.tables Loads i b).in_range.day.least
        (good.tables Loads i b).in_range.day.most (eqb (load_account loads i) (account_number accounts a))))

    -- no two rows have one account and one day
    one_a_day : (i j : ℕ) → i < load_count m → j < load_count m → i ≢ j → load_account loads i ≡ load_account loads j → load_day loads i ≢ load_day loads j
    one_a_day i j b h d e same =
        ⊎_elim
        (λ (l : i < j). ⊎_elim (λ p. omega arith) (λ p. omega arith) (up i j l h))
        (λ (l : j ≤ i). let less : j < i = omega (arith, d) in ⊎_elim (λ p. omega arith) (λ p. omega arith) (up j i less b))
        (lt_or_le i j)
      where
        up : AscendsByDay (load_count m) (load_account loads) (load_day loads)
        up = loads_ascend m lent_charges lent_credits good

    pub load_on_its_day : (i : ℕ) → i < load_count m → load_account loads i ≡ account_number accounts a
        → contribution_on m a (load_day loads i) ≡ load_contribution loads i
    unfolding contribution_on sum_where
    load_on_its_day i b e =
        sum_one (load_count m)
        (λ j. when (eqb (load_account loads j) (account_number accounts a)) (when (eqb (load_day loads j) (load_day loads i)) (load_contribution loads j))) i b
        (λ j h d. elsewhere (load_day loads i) j (λ q. one_a_day j i h b d (q ∙ sym e)))
        ∙ when_true (eqb (load_account loads i) (account_number accounts a)) _ (eq-eqb (load_account loads i) (account_number accounts a) e)
        ∙ when_true (eqb (load_day loads i) (load_day loads i)) (load_contribution loads i) (eq-eqb (load_day loads i) (load_day loads i) refl)
