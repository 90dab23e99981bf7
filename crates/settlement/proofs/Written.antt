-- The lent outputs after a settlement hold its figures, laid end to end: so each word is a figure, a column of words adds up to the
-- column of figures, and all words that were written add up to all figures.
-- Assumes nothing.
use mathlib.Core.Path.{◌≡◌, sym, ap, ap₂, ◌∙◌}
use mathlib.Core.Logic.{◌≢◌}
use mathlib.Core.List.{List}
use Prim.Native.Nat.{ℕ, zero, suc, ◌+◌, ◌*◌, ◌≤◌, ◌<◌}
use native.Mathlib.Nat.{add-zero, add-suc, add_assoc, suc-mul, zero-mul}
use native.Mathlib.Omega.{arith}
use lib.Arith.{digits_div, digits_mod, digits_lt}
use lib.ListN.{length}
use borrow.Author.Tests.{eq-eqb, ne_eqb}
use Rattle.lists.specs.Sums.{sum_to, sum_where, at}
use Rattle.lists.proofs.Sums.{sum_eq, sum_swap, where_eq}
use Rattle.lists.proofs.Entries.{put_ahead}
use Rattle.answer.specs.declared.Answer.{Answer}
use Rattle.tables.specs.Shape.{charge_width, credit_width}
use Rattle.tables.specs.Columns.{owner_zone, account_zone}
use Rattle.pool.specs.Input.{Input, owner_count, account_count}
use Rattle.pool.specs.Network.{charges_in, network_credit}
use Rattle.settlement.specs.Settled.{laid, charge_of, credit_of, charge_words, credit_words, Settled}
use Rattle.settlement.specs.Columns.{figure_at, charged_network, credited_network}
use Rattle.settlement.specs.Accepted.{Accepted}
use Rattle.settlement.specs.Holds.{Holds}
use Rattle.settlement.proofs.Settling.{holds}
use Rattle.settlement.proofs.Accepting.{answer_accepted}

-- a figure at its flat index
pub laid_at : (width : ℕ) (f : ℕ → ℕ → ℕ) (column i : ℕ) → column < width → laid width f (i * width + column) ≡ f column i
laid_at width f column i h = ap₂ f (digits_mod i h) (digits_div i h)

-- a sum over some positions, and then over others
sum_on : (m n : ℕ) (f : ℕ → ℕ) → sum_to (m + n) f ≡ sum_to m f + sum_to n (λ i. f (m + i))
unfolding sum_to
sum_on m zero f = ap (λ k. sum_to k f) (add-zero m) ∙ sym (add-zero (sum_to m f))
sum_on m (suc n) f =
    ap (λ k. sum_to k f) (add-suc m n)
    ∙ ap (λ s. s + f (m + n)) (sum_on m n f)
    ∙ add_assoc (sum_to m f) (sum_to n (λ i. f (m + i))) (f (m + n))

-- all figures laid end to end add up row by row, and so column by column
by_rows : (n width : ℕ) (f : ℕ → ℕ → ℕ) → sum_to (n * width) (laid width f) ≡ sum_to n (λ i. sum_to width (λ column. f column i))
unfolding sum_to
by_rows zero width f = ap (λ k. sum_to k (laid width f)) (zero-mul width)
by_rows (suc n) width f =
    ap (λ k. sum_to k (laid width f)) (suc-mul n width)
    ∙ sum_on (n * width) width (laid width f)
    ∙ ap₂ ◌+◌ (by_rows n width f)
    (sum_eq width (λ column. laid width f (n * width + column)) (λ column. f column n) (λ column h. laid_at width f column n h))

flat_sum : (n width : ℕ) (f : ℕ → ℕ → ℕ) → sum_to (n * width) (laid width f) ≡ sum_to width (λ column. sum_to n (f column))
flat_sum n width f = by_rows n width f ∙ sum_swap n width (λ i column. f column i)

-- words that hold figures laid end to end
module _ (n width : ℕ) (f : ℕ → ℕ → ℕ) (words : List ℕ) (held : Holds (n * width) (laid width f) words) where
  pub figures_held : (column i : ℕ) → column < width → i < n → figure_at width words column i ≡ f column i
  figures_held column i h b = held.words (i * width + column) (digits_lt b h) ∙ laid_at width f column i h

  column_held : (column : ℕ) → column < width → sum_to n (figure_at width words column) ≡ sum_to n (f column)
  column_held column h = sum_eq n (figure_at width words column) (f column) (λ i b. figures_held column i h b)

  where_held : (column : ℕ) → column < width → (number_of : ℕ → ℕ) (number : ℕ)
      → sum_where n number_of (figure_at width words column) number ≡ sum_where n number_of (f column) number
  where_held column h number_of number =
      where_eq n number_of (figure_at width words column) number (f column) (λ i b e. figures_held column i h b)

  pub sum_held : sum_to (n * width) (at words) ≡ sum_to width (λ column. sum_to n (f column))
  sum_held = sum_eq (n * width) (at words) (laid width f) held.words ∙ flat_sum n width f

module _ {m : Input} {charges charges_after credits credits_after : List ℕ} {r : Answer} (settled : Settled m charges charges_after credits credits_after r) where
  open m.tables use {owners, accounts}

  pub refused_words : r.number ≢ 0 → (charges_after ≡ charges) × (credits_after ≡ credits)
  refused_words bad =
      (settled.charges_lent ∙ (rw (ne_eqb r.number 0 bad)), settled.credits_lent ∙ (rw (ne_eqb r.number 0 bad)))

  module _ (fine : r.number ≡ 0) where
    pub all : Accepted m (length charges) (length credits)
    all = answer_accepted m (length charges) (length credits) (ap (λ (a : Answer). a.number) (sym settled.answer) ∙ fine)

    charges_are : charges_after ≡ charge_words m charges
    charges_are = settled.charges_lent ∙ (rw (eq-eqb r.number 0 fine))

    credits_are : credits_after ≡ credit_words m credits
    credits_are = settled.credits_lent ∙ (rw (eq-eqb r.number 0 fine))

    -- the words that were written
    pub charges_held : Holds (account_count m * charge_width) (laid charge_width (charge_of m)) charges_after
    unfolding charge_words
    charges_held =
        holds (account_count m * charge_width) (laid charge_width (charge_of m)) charges charges_after charges_are all.good.frame.roomy.charges_fit

    pub credits_held : Holds (owner_count m * credit_width) (laid credit_width (credit_of m)) credits_after
    unfolding credit_words
    credits_held =
        holds (owner_count m * credit_width) (laid credit_width (credit_of m)) credits credits_after credits_are all.good.frame.roomy.credits_fit

    pub charge_word : (column a : ℕ) → column < charge_width → a < account_count m → figure_at charge_width charges_after column a ≡ charge_of m column a
    charge_word = figures_held (account_count m) charge_width (charge_of m) charges_after charges_held

    pub credit_word : (column o : ℕ) → column < credit_width → o < owner_count m → figure_at credit_width credits_after column o ≡ credit_of m column o
    credit_word = figures_held (owner_count m) credit_width (credit_of m) credits_after credits_held

    -- .. and those behind them
    pub behind_charges : (k : ℕ) → account_count m * charge_width ≤ k → at charges_after k ≡ at charges k
    unfolding charge_words
    behind_charges k h = ap (λ l. at l k) charges_are ∙ put_ahead (account_count m * charge_width) (laid charge_width (charge_of m)) charges k h

    pub behind_credits : (k : ℕ) → owner_count m * credit_width ≤ k → at credits_after k ≡ at credits k
    unfolding credit_words
    behind_credits k h = ap (λ l. at l k) credits_are ∙ put_ahead (owner_count m * credit_width) (laid credit_width (credit_of m)) credits k h

    -- the network charges of a zone's accounts, and the network credits of its owners
    pub charges_of_zone : (zone : ℕ) → sum_where (account_count m) (account_zone accounts) (charged_network charges_after) zone ≡ charges_in m zone
    unfolding charges_in charge_of
    charges_of_zone zone =
        where_held (account_count m) charge_width (charge_of m) charges_after charges_held 0 (omega arith) (account_zone accounts) zone

    pub credits_of_zone : (zone : ℕ)
        → sum_where (owner_count m) (owner_zone owners) (credited_network credits_after) zone ≡ sum_where (owner_count m) (owner_zone owners) (network_credit m) zone
    unfolding credit_of
    credits_of_zone zone =
        where_held (owner_count m) credit_width (credit_of m) credits_after credits_held 0 (omega arith) (owner_zone owners) zone

    -- a column of charges, and of credits
    pub charges_of_column : (column : ℕ) → column < charge_width
        → sum_to (account_count m) (figure_at charge_width charges_after column) ≡ sum_to (account_count m) (charge_of m column)
    charges_of_column = column_held (account_count m) charge_width (charge_of m) charges_after charges_held

    pub credits_of_column : (column : ℕ) → column < credit_width
        → sum_to (owner_count m) (figure_at credit_width credits_after column) ≡ sum_to (owner_count m) (credit_of m column)
    credits_of_column = column_held (owner_count m) credit_width (credit_of m) credits_after credits_held

    -- where a column of charges comes to what one of credits does, so do the words
    pub columns_balance : (c d : ℕ) → c < charge_width → d < credit_width → sum_to (account_count m) (charge_of m c) ≡ sum_to (owner_count m) (credit_of m d)
        → sum_to (account_count m) (figure_at charge_width charges_after c) ≡ sum_to (owner_count m) (figure_at credit_width credits_after d)
    columns_balance c d h k same = charges_of_column c h ∙ same ∙ sym (credits_of_column d k)

    -- all of them
    pub all_charges_lem : sum_to (account_count m * charge_width) (at charges_after) ≡ sum_to charge_width (λ column. sum_to (account_count m) (charge_of m column))
    all_charges_lem = sum_held (account_count m) charge_width (charge_of m) charges_after charges_held

    pub all_credits_lem : sum_to (owner_count m * credit_width) (at credits_after) ≡ sum_to credit_width (λ column. sum_to (owner_count m) (credit_of m column))
    all_credits_lem = sum_held (owner_count m) credit_width (credit_of m) credits_after credits_held
