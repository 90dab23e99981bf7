-- A printed statement is read back to its lines, so that a text has lines in one way: whoever reads the statement of a month finds the
-- lines that it was made of, and the totals of these are the sums of the figures in them.
-- Assumes nothing.
use mathlib.Core.Path.{◌≡◌, refl, sym, ap, ◌∙◌, subst}
use mathlib.Core.Bool.{true}
use mathlib.Core.List.{List, [], ◌∷◌, ◌++◌, append_assoc, append-nil}
use Prim.Native.Nat.{ℕ, zero, suc, ◌+◌, ◌*◌, ◌/◌, ◌%◌, ◌≤◌, ◌<◌}
use native.Mathlib.Nat.{le_step, lt-suc_self, mod-lt, div-lt_iff_lt-mul, lt_of_le_of_lt, le_of_eq}
use native.Mathlib.Omega.{arith}
use lib.Arith.{digits_lt}
use lib.Dec.{lit<}
use lib.ListN.{length}
use Rattle.lists.specs.Sums.{sum_to, at}
use Rattle.lists.specs.Entries.{listed}
use Rattle.lists.proofs.Sums.{le_sum, sum_eq, sum_swap}
use Rattle.lists.proofs.Entries.{length_listed, at_listed}
use Rattle.answer.specs.declared.Answer.{Answer}
use Rattle.tables.specs.declared.Table.TheVariants.{Owners, Accounts}
use Rattle.tables.specs.Shape.{charge_width, credit_width}
use Rattle.tables.specs.Columns.{owner_number, account_number}
use Rattle.text.specs.Bytes.{bytes}
use Rattle.text.specs.Numbers.{Found, found, missing, bound, Below}
use Rattle.text.specs.Lines.{unlike, line, line_text}
use Rattle.text.proofs.Below.{below_none, below_cons, below_append}
use Rattle.text.proofs.Lines.{line_text_lem}
use Rattle.fileform.specs.Form.{Kind, plain_kind}
use Rattle.fileform.specs.Reading.{Outcome, got, refused, Rows, nth, table_lines}
use Rattle.fileform.specs.Writing.{rows_text, tables_text}
use Rattle.fileform.proofs.Forms.{differs, all_differ, no_row_end, tables_text_lem}
use Rattle.pool.specs.Input.{Input, owner_count, account_count}
use Rattle.settlement.specs.Settled.{laid, charge_of, credit_of}
use Rattle.settlement.specs.Columns.{figure_at}
use Rattle.settlement.specs.Accepted.{Accepted}
use Rattle.settlement.proofs.Written.{laid_at}
use Rattle.statement_lines.specs.Lines.{with_number, rows_with, lines_text, refuse_line}
use Rattle.statement_text.specs.Statement.{all_charges, all_credits, statement_lines, statement_of}
use Rattle.statement_text.specs.Printed.{Lines, Printed, figures_in, lines_of}
use Rattle.statement_text.proofs.Totals.{totals_equal, charges_small}
use Rattle.statement_text.proofs.Stating.{stated_as, fine}
use Rattle.statement_text.proofs.Sizes.{lines_no_refusal}

below_listed : (n : ℕ) (f : ℕ → ℕ) → ((i : ℕ) → i < n → f i < bound) → Below (listed n f)
unfolding listed
below_listed zero f h = below_none
below_listed (suc n) f h =
    below_append (listed n f) (f n ∷ []) (below_listed n f (λ i b. h i (le_step b))) (below_cons (f n) [] (h n (lt-suc_self n)) below_none)

module _ (count width : ℕ) (number : ℕ → ℕ) (figure : ℕ → ℕ → ℕ) where
  rows_length : length (rows_with count width number figure) ≡ count * (width + 1)
  unfolding rows_with
  rows_length = length_listed (count * (width + 1)) (laid (width + 1) (with_number number figure))

  rows_below : ((i : ℕ) → i < count → number i < bound) → ((column i : ℕ) → column < width → i < count → figure column i < bound)
      → Below (rows_with count width number figure)
  unfolding rows_with
  rows_below small fits =
      below_listed (count * (width + 1)) (laid (width + 1) (with_number number figure))
      (λ k b.
      by (k % (width + 1)) (k / (width + 1)) (mod-lt k (omega arith))
      ((div-lt_iff_lt-mul {k = width + 1} {x = k} {y = count} (omega arith)).1 b))
    where
      by : (column i : ℕ) → column < width + 1 → i < count → with_number number figure column i < bound
      by zero i h b = small i b
      by (suc column) i h b = fits column i (omega arith) b

  pub word_at : (column i : ℕ) → column < width + 1 → i < count → at (rows_with count width number figure) (i * (width + 1) + column) ≡ with_number number figure column i
  unfolding rows_with
  word_at column i h b =
      at_listed (count * (width + 1)) (laid (width + 1) (with_number number figure)) (i * (width + 1) + column) (digits_lt b h)
      ∙ laid_at (width + 1) (with_number number figure) column i h

  -- the figures in such rows are those that they were made of
  figures_of : figures_in width (record { count = count; words = rows_with count width number figure }) ≡ sum_to width (λ column. sum_to count (figure column))
  unfolding figures_in
  figures_of =
      sum_eq count
      (λ i. sum_to width (λ column. figure_at (width + 1) (rows_with count width number figure) (suc column) i))
      (λ i. sum_to width (λ column. figure column i))
      (λ i b. sum_eq width _ (λ column. figure column i) (λ column h. word_at (suc column) i (omega arith) b))
      ∙ sum_swap count width (λ i column. figure column i)

-- the kinds of a statement's lines, so many at most of each
abbrev charge_lines : ℕ → Kind
charge_lines most = plain_kind (bytes "charge") (charge_width + 1) most 7

abbrev credit_lines : ℕ → Kind
credit_lines most = plain_kind (bytes "credit") (credit_width + 1) most 8

abbrev kinds : ℕ → ℕ → List Kind
kinds most others = charge_lines most ∷ credit_lines others ∷ []

keys_differ : (most others : ℕ) → all_differ (kinds most others) (bytes "total") ≡ true
unfolding unlike differs all_differ
keys_differ most others = refl

abbrev rows_of : Lines → List Rows
rows_of l = l.charges ∷ l.credits ∷ []

abbrev totals_of : Lines → List ℕ
totals_of l = l.charge_total ∷ l.credit_total ∷ []

abbrev total_line : Lines → List ℕ
total_line l = line_text (bytes "total") (totals_of l)

module _ {text : List ℕ} {l : Lines} (p : Printed text l) (most others : ℕ) where
  lines_are : text ≡ tables_text (kinds most others) (rows_of l) ++ (total_line l ++ [])
  unfolding lines_text tables_text
  lines_are =
      let charges : List ℕ = rows_text (line_text (bytes "charge")) (charge_width + 1) l.charges.count l.charges.words in
      let credits : List ℕ = rows_text (line_text (bytes "credit")) (credit_width + 1) l.credits.count l.credits.words in
      p.text_is
      ∙ ap (λ k. charges ++ (credits ++ k)) (sym (append-nil (total_line l)))
      ∙ sym (append_assoc charges credits (total_line l ++ []))
      ∙ ap (λ k. (charges ++ k) ++ (total_line l ++ [])) (sym (append-nil credits))

  read_back : l.charges.count ≤ most → l.credits.count ≤ others → table_lines (kinds most others) text ≡ got (rows_of l) (total_line l ++ [])
  read_back few fewer =
      ap (table_lines (kinds most others)) lines_are
      ∙ tables_text_lem (kinds most others) (rows_of l) (bytes "total") (total_line l ++ []) (
        record { whole = p.charges_whole.whole; few = few; below = p.charges_whole.below },
        (record { whole = p.credits_whole.whole; few = fewer; below = p.credits_whole.below }, tt),
      )
      (keys_differ most others)
      (no_row_end (kinds most others) (rows_of l) (bytes "total") (totals_of l) [] (keys_differ most others))

abbrev gotten : Outcome (List Rows) → List Rows
gotten (got ts rest) = ts
gotten (refused a) = []

abbrev behind : Outcome (List Rows) → List ℕ
behind (got ts rest) = rest
behind (refused a) = []

-- the numbers of a line that was found
abbrev pub numbers : Found (List ℕ) → List ℕ
numbers missing = []
numbers (found ns rest) = ns

-- two readings of a text are the same
pub printed_once : {text : List ℕ} {l l' : Lines} → Printed text l → Printed text l' → l ≡ l'
printed_once {text} {l} {l'} p p' =
    let most : ℕ = l.charges.count + l'.charges.count in
    let others : ℕ = l.credits.count + l'.credits.count in
    let same : got (rows_of l) (total_line l ++ []) ≡ got (rows_of l') (total_line l' ++ []) =
    sym (read_back p most others (omega arith) (omega arith)) ∙ read_back p' most others (omega arith) (omega arith) in
    let totals : totals_of l ≡ totals_of l' =
    ap numbers
    (sym (line_text_lem (bytes "total") (totals_of l) [] p.totals_below)
    ∙ ap (λ o. line (bytes "total") 2 (behind o)) same
    ∙ line_text_lem (bytes "total") (totals_of l') [] p'.totals_below) in
    λ i.
    record {
      charges = nth (gotten (same i)) 0;
      credits = nth (gotten (same i)) 1;
      charge_total = at (totals i) 0;
      credit_total = at (totals i) 1;
    }

-- the totals of lines are the sums of their figures, and are equal
abbrev pub Totalled : Lines → Type 0
Totalled l =
    (l.charge_total ≡ figures_in charge_width l.charges) × (l.credit_total ≡ figures_in credit_width l.credits) × (l.charge_total ≡ l.credit_total)

module _ {m : Input} {lent_charges lent_credits : ℕ} (all : Accepted m lent_charges lent_credits) where
  -- a figure in a column is at most all of them
  within : (width count : ℕ) (figure : ℕ → ℕ → ℕ) → sum_to width (λ column. sum_to count (figure column)) < bound
      → (column i : ℕ) → column < width → i < count → figure column i < bound
  within width count figure small column i h b =
      lt_of_le_of_lt (le_sum count (figure column) i b) (lt_of_le_of_lt (le_sum width (λ c. sum_to count (figure c)) column h) small)

  credits_small : all_credits m < bound
  credits_small = lt_of_le_of_lt (le_of_eq (sym (totals_equal all))) (charges_small all)

  pub month_printed : Printed (statement_lines m) (lines_of m)
  unfolding statement_lines all_charges all_credits
  month_printed =
      record {
        text_is = refl;
        charges_whole =
            record {
              whole = rows_length (account_count m) charge_width (account_number m.tables.accounts) (charge_of m);
              below =
                  rows_below (account_count m) charge_width (account_number m.tables.accounts) (charge_of m)
                  (λ a b. lt_of_le_of_lt (all.good.tables Accounts a b).in_range.account.most (lit< tt))
                  (within charge_width (account_count m) (charge_of m) (charges_small all));
            };
        credits_whole =
            record {
              whole = rows_length (owner_count m) credit_width (owner_number m.tables.owners) (credit_of m);
              below =
                  rows_below (owner_count m) credit_width (owner_number m.tables.owners) (credit_of m)
                  (λ o b. lt_of_le_of_lt (all.good.tables Owners o b).in_range.owner.most (lit< tt))
                  (within credit_width (owner_count m) (credit_of m) credits_small);
            };
        totals_below = below_cons (all_charges m) (all_credits m ∷ []) (charges_small all) (below_cons (all_credits m) [] credits_small below_none);
      }

  month_totalled : Totalled (lines_of m)
  unfolding all_charges all_credits
  month_totalled = (
    sym (figures_of (account_count m) charge_width (account_number m.tables.accounts) (charge_of m)),
    sym (figures_of (owner_count m) credit_width (owner_number m.tables.owners) (credit_of m)),
    totals_equal all,
  )

-- no lines are read in a refusal's line, and in an accepted month's its own
pub refusal_unprinted : (a : Answer) (l : Lines) → ¬ Printed (refuse_line a) l
refusal_unprinted a l p = lines_no_refusal l.charges.count l.charges.words l.credits.count l.credits.words (totals_of l) a (sym p.text_is)

pub printed_totalled : (text : List ℕ) (l : Lines) → Printed (statement_of text) l → Totalled l
printed_totalled =
    stated_as (λ text. (l : Lines) → Printed text l → Totalled l)
    (λ a l p. absurd (refusal_unprinted a l p))
    (λ m z l p. subst Totalled (printed_once (month_printed (fine m z)) p) (month_totalled (fine m z)))
