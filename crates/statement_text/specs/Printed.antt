-- A statement as it is printed: what its lines say to whoever has the text alone.
-- Assumes nothing.
use Rattle.std.specs.Prelude.{◌≡◌, List, [], ◌∷◌, ℕ, suc, ◌+◌, ◌*◌, length}
use Rattle.lists.specs.Sums.{sum_to}
use Rattle.tables.specs.Shape.{charge_width, credit_width}
use Rattle.tables.specs.Columns.{owner_number, account_number}
use Rattle.text.specs.Bytes.{bytes}
use Rattle.text.specs.Numbers.{Below}
use Rattle.fileform.specs.Reading.{Rows}
use Rattle.pool.specs.Input.{Input, owner_count, account_count}
use Rattle.settlement.specs.Settled.{charge_of, credit_of}
use Rattle.settlement.specs.Columns.{figure_at}
use Rattle.statement_lines.specs.Lines.{rows_with, lines_text}
use Rattle.statement_text.specs.Statement.{all_charges, all_credits}

-- "account and three charges; owner and four credits; all charges and all credits", each row with "a last figure": the rows of both
-- kinds, and the numbers of `total`
pub record Lines : Type 0 where
  pub charges : Rows
  pub credits : Rows
  pub charge_total : ℕ
  pub credit_total : ℕ

-- whole rows of so many numbers, each "below 2^64"
pub record Whole (width : ℕ) (rows : Rows) : Type 0 where
  pub whole : length rows.words ≡ rows.count * width
  pub below : Below rows.words

-- "Whole output": a text has these lines and nothing else
pub record Printed (text : List ℕ) (l : Lines) : Type 0 where
  pub text_is :
      text
      ≡ lines_text l.charges.count l.charges.words l.credits.count l.credits.words (bytes "total") (l.charge_total ∷ l.credit_total ∷ [])
  pub charges_whole : Whole (charge_width + 1) l.charges
  pub credits_whole : Whole (credit_width + 1) l.credits
  pub totals_below : Below (l.charge_total ∷ l.credit_total ∷ [])

-- "all charges", "all credits": the figures in rows that have so many each, behind the row's number, added up line by line
unfoldable pub figures_in : ℕ → Rows → ℕ
figures_in width rows = sum_to rows.count (λ i. sum_to width (λ column. figure_at (width + 1) rows.words (suc column) i))

-- the lines of a month
abbrev pub lines_of : Input → Lines
lines_of m =
    record {
      charges = record { count = account_count m; words = rows_with (account_count m) charge_width (account_number m.tables.accounts) (charge_of m) };
      credits = record { count = owner_count m; words = rows_with (owner_count m) credit_width (owner_number m.tables.owners) (credit_of m) };
      charge_total = all_charges m;
      credit_total = all_credits m;
    }
