-- The figures of an accepted month, row by row in lent words, are its lines, and add up to its totals, which fit a word.
-- Assumes nothing.
use mathlib.Core.Path.{◌≡◌, refl, sym, ap₂, ◌∙◌}
use mathlib.Core.Logic.{inl, inr}
use mathlib.Core.Bool.{Bool, true, false}
use mathlib.Core.List.{List, [], ◌∷◌}
use Prim.Native.Nat.{ℕ, zero, suc, ◌+◌, ◌*◌, ◌/◌, ◌%◌, ◌≤◌, ◌<◌, ◌^◌}
use native.Mathlib.Nat.{mod-lt, div-lt_iff_lt-mul, le_trans, lt_of_le_of_lt, le_of_eq}
use native.Mathlib.Omega.{arith}
use lib.Dec.{eqb}
use lib.ListN.{length}
use Rattle.lists.specs.Sums.{sum_to, at, when}
use Rattle.lists.proofs.Sums.{sum_at_most}
use Rattle.lists.proofs.Entries.{listed_eq}
use Rattle.answer.specs.declared.Answer.{Answer}
use Rattle.division.specs.Limits.{pot_limit}
use Rattle.tables.specs.declared.Table.{Table}
use Rattle.tables.specs.declared.Table.TheVariants.{Owners, Units, Accounts}
use Rattle.tables.specs.Shape.{limit, rows, charge_width, credit_width, words_of}
use Rattle.tables.specs.Columns.{owner_number, unit_service, account_number}
use Rattle.month.specs.Limits.{black_start, reactive}
use Rattle.text.specs.Bytes.{bytes}
use Rattle.pool.specs.Input.{Input, owner_count, unit_count, account_count}
use Rattle.pool.specs.Network.{network_charge}
use Rattle.pool.specs.Services.{unit_credit, credit_in, service_charge}
use Rattle.pool.specs.Filled.{most_charge}
use Rattle.services.specs.Settled.{most_credit}
use Rattle.firm.specs.Firm.{firm_charge, firm_pot}
use Rattle.settlement.specs.Settled.{laid, answer_of, charge_of, credit_of, Settled}
use Rattle.settlement.specs.Columns.{figure_at}
use Rattle.settlement.specs.Accepted.{IsService, Accepted}
use Rattle.settlement.proofs.Balance as balance
use Rattle.settlement.proofs.Ranges.{charge_within, unit_credit_within}
use Rattle.settlement.proofs.Written as written
use Rattle.settlement.proofs.Promises as promises
use Rattle.statement_lines.specs.Lines.{with_number, rows_with, lines_text, month_lines}
use Rattle.statement_lines.specs.Calls.{Figured}
use Rattle.statement_text.specs.Statement.{all_charges, all_credits, statement_lines, settled_answer}

-- rows with the same figures are the same
rows_same : (n width : ℕ) (number : ℕ → ℕ) (figure figure' : ℕ → ℕ → ℕ)
    → ((column i : ℕ) → column < width → i < n → figure column i ≡ figure' column i)
    → rows_with n width number figure ≡ rows_with n width number figure'
unfolding rows_with
rows_same n width number figure figure' same =
    listed_eq (n * (width + 1)) (laid (width + 1) (with_number number figure)) (laid (width + 1) (with_number number figure'))
    (λ k b.
    by (k % (width + 1)) (k / (width + 1)) (mod-lt k (omega arith))
    ((div-lt_iff_lt-mul {k = width + 1} {x = k} {y = n} (omega arith)).1 b))
  where
    by : (column i : ℕ) → column < width + 1 → i < n → with_number number figure column i ≡ with_number number figure' column i
    by zero i h b = refl
    by (suc column) i h b = same column i (omega arith) b

when_within : (t : Bool) (x most : ℕ) → x ≤ most → when t x ≤ most
when_within true x most h = h
when_within false x most h = omega arith

module _ {m : Input} {lent_charges lent_credits : ℕ} (all : Accepted m lent_charges lent_credits) where
  few : (table : Table) → rows table (words_of m.tables table) ≤ limit table
  few table = (all.good.frame.counted table).few

  service_total : (s : ℕ) → IsService s → sum_to (account_count m) (service_charge m s) ≤ limit Units * most_credit
  unfolding credit_in
  service_total s i =
      le_trans
      (le_of_eq
      (promises.service_charges_are_credits all s i ∙ balance.owners_have_credits m lent_charges lent_credits all.good s))
      (sum_at_most (unit_count m) (limit Units) most_credit (credit_in m s) (few Units)
      (λ u b. when_within (eqb (unit_service m.tables.units u) s) (unit_credit m u) most_credit (unit_credit_within m lent_charges lent_credits all.good u b)))

  firm_total : sum_to (account_count m) (firm_charge m) ≤ pot_limit
  unfolding firm_pot
  firm_total = all.firm_fine.pot_fits

  -- the totals are equal, and below 2^64
  pub totals_equal : all_charges m ≡ all_credits m
  unfolding all_charges all_credits
  totals_equal = promises.all_charges_are_credits all

  pub charges_small : all_charges m < 2 ^ 64
  unfolding all_charges charge_of sum_to
  charges_small =
      omega (
        arith,
        sum_at_most (account_count m) (limit Accounts) most_charge (network_charge m) (few Accounts) (λ a b. charge_within m lent_charges lent_credits all.good a),
        service_total black_start (inl refl),
        service_total reactive (inr refl),
        firm_total,
      )

-- a month that was settled into outputs of full size
module _ {m : Input} {charges charges_after credits credits_after : List ℕ} {r : Answer} (settled : Settled m charges charges_after credits credits_after r)
    (e : length charges ≡ limit Accounts * charge_width) (f : length credits ≡ limit Owners * credit_width) where
  pub answer_is : r ≡ settled_answer m
  unfolding settled_answer
  answer_is = settled.answer ∙ ap₂ (answer_of m) e f

  module _ (z : r.number ≡ 0) where
    all : Accepted m (length charges) (length credits)
    all = written.all settled z

    pub accounts_figured : Figured Accounts charge_width m.tables.accounts charges_after
    unfolding all_charges
    accounts_figured =
        record {
          few = few all Accounts;
          figures_there = (written.charges_held settled z).long;
          fits = lt_of_le_of_lt (le_of_eq (written.all_charges_lem settled z)) (charges_small all);
        }

    pub owners_figured : Figured Owners credit_width m.tables.owners credits_after
    unfolding all_credits
    owners_figured =
        record {
          few = few all Owners;
          figures_there = (written.credits_held settled z).long;
          fits = lt_of_le_of_lt (le_of_eq (written.all_credits_lem settled z ∙ sym (totals_equal all))) (charges_small all);
        }

    pub settled_lines : month_lines m.tables.accounts charges_after m.tables.owners credits_after ≡ statement_lines m
    unfolding statement_lines all_charges all_credits
    settled_lines =
        ap₂ (λ x y. lines_text (account_count m) x (owner_count m) y (bytes "total")
        (sum_to (account_count m * charge_width) (at charges_after) ∷ sum_to (owner_count m * credit_width) (at credits_after) ∷ []))
        (rows_same (account_count m) charge_width (account_number m.tables.accounts) (figure_at charge_width charges_after) (charge_of m) (written.charge_word settled z))
        (rows_same (owner_count m) credit_width (owner_number m.tables.owners) (figure_at credit_width credits_after) (credit_of m) (written.credit_word settled z))
        ∙ ap₂ (λ x y. lines_text (account_count m) (rows_with (account_count m) charge_width (account_number m.tables.accounts) (charge_of m))
        (owner_count m) (rows_with (owner_count m) credit_width (owner_number m.tables.owners) (credit_of m)) (bytes "total") (x ∷ y ∷ []))
        (written.all_charges_lem settled z) (written.all_credits_lem settled z)
