-- What is promised of every statement, beyond its definition. Nothing else stands here; the proofs cite `Totals`, `Stating`,
-- `Sizes`, `Printing` and `Telling`.
-- Assumes nothing.
use mathlib.Core.Path.{◌≡◌, ap, ◌∙◌}
use mathlib.Core.Logic.{◌≢◌}
use mathlib.Core.List.{List, [], ◌∷◌, ◌++◌}
use Prim.Native.Nat.{ℕ, ◌+◌, ◌≤◌, ◌<◌}
use native.Mathlib.Omega.{arith}
use lib.ListN.{length, take, drop}
use Rattle.answer.specs.declared.Answer.{Answer}
use Rattle.answer.specs.Turns.{refuse}
use Rattle.tables.specs.declared.Head.{Head}
use Rattle.tables.specs.Shape.{charge_width, credit_width, Tables}
use Rattle.judgement.specs.Good.{GoodMonth}
use Rattle.text.specs.Bytes.{bytes}
use Rattle.text.specs.Numbers.{digits, decimal, Below}
use Rattle.text.specs.Lines.{fields_text, line_text}
use Rattle.fileform.specs.Form.{month_form}
use Rattle.fileform.specs.Reading.{got, refused, Contents, reading}
use Rattle.fileform.specs.Writing.{ContentsFit}
use Rattle.filewrite.specs.Calls.{contents_of, month_text}
use Rattle.monthfile.proofs.Promises.{written_then_read}
use Rattle.pool.specs.Input.{Input, month_of}
use Rattle.statement_lines.specs.Lines.{refuse_line}
use Rattle.statement_text.specs.Statement.{
  all_charges,
  all_credits,
  statement_lines,
  settled_answer,
  settled_text,
  month_held,
  found_text,
  most_bytes,
  most_shown,
  statement_of,
}
use Rattle.statement_text.specs.Calls.{FileStated}
use Rattle.statement_text.specs.Printed.{Lines, Printed, figures_in, lines_of}
use Rattle.statement_text.specs.Told.{SameFigures}
use Rattle.statement_text.proofs.Totals as totals
use Rattle.statement_text.proofs.Stating as stating
use Rattle.statement_text.proofs.Sizes as sizes
use Rattle.statement_text.proofs.FileSizes as files
use Rattle.statement_text.proofs.Printing as printing
use Rattle.statement_text.proofs.Telling as telling

-- the two numbers of `total` are equal for every accepted month
pub totals_are_equal : (m : Input) → (settled_answer m).number ≡ 0 → all_charges m ≡ all_credits m
totals_are_equal m e = totals.totals_equal (stating.fine m e)

-- whatever text is stated: where its statement is lines of charges, lines of credits and a line of totals, the two numbers of `total`
-- are the sums of the figures in the lines above it ..
pub totals_are_of_the_lines : (text : List ℕ) (l : Lines) → Printed (statement_of text) l
    → (l.charge_total ≡ figures_in charge_width l.charges) × (l.credit_total ≡ figures_in credit_width l.credits)
totals_are_of_the_lines text l p = ((printing.printed_totalled text l p).0, (printing.printed_totalled text l p).1)

-- .. and they are equal
pub printed_totals_are_equal : (text : List ℕ) (l : Lines) → Printed (statement_of text) l → l.charge_total ≡ l.credit_total
printed_totals_are_equal text l p = (printing.printed_totalled text l p).2

-- an accepted month's statement is such lines: its accounts with their charges, its owners with their credits, and both totals ..
pub accepted_is_printed : (m : Input) → (settled_answer m).number ≡ 0 → Printed (statement_lines m) (lines_of m)
accepted_is_printed m e = printing.month_printed (stating.fine m e)

-- .. a refusal's line is not ..
pub refusal_is_no_lines : (a : Answer) (l : Lines) → ¬ Printed (refuse_line a) l
refusal_is_no_lines = printing.refusal_unprinted

-- .. and a text is lines in one way
pub lines_are_read_in_one_way : (text : List ℕ) (l l' : Lines) → Printed text l → Printed text l' → l ≡ l'
lines_are_read_in_one_way text l l' = printing.printed_once

-- two accepted months with the same statement have the same accounts with the same charges and the same owners with the same
-- credits: where a charge or a credit differs, so do the statements
pub statements_tell_figures_apart : (m m' : Input) → (settled_answer m).number ≡ 0 → (settled_answer m').number ≡ 0
    → statement_lines m ≡ statement_lines m' → SameFigures m m'
statements_tell_figures_apart m m' e e' = telling.same_statement (stating.fine m e) (stating.fine m' e')

-- an accepted month's statement is never the line of a refusal
pub accepted_is_no_refusal : (m : Input) (a : Answer) → statement_lines m ≢ refuse_line a
accepted_is_no_refusal = sizes.month_no_refusal

-- a file within the limit whose month is accepted has that month's lines: an accepted month is never refused
pub accepted_is_stated : (text : List ℕ) (c : Contents) (rest : List ℕ) → length text ≤ most_bytes → reading month_form text ≡ got c rest
    → (settled_answer (month_held c)).number ≡ 0 → statement_of text ≡ statement_lines (month_held c)
accepted_is_stated text c rest h e z = stating.short_text text h ∙ ap found_text e ∙ stating.settled_accepted (month_held c) z

-- "A refusal prints one line": a file within the limit that is refused has the line of its refusal ..
pub refused_file_is_told : (text : List ℕ) (a : Answer) → length text ≤ most_bytes → reading month_form text ≡ refused a → statement_of text ≡ refuse_line a
refused_file_is_told text a h e = stating.short_text text h ∙ ap found_text e

-- .. and so has one whose month is refused
pub refused_month_is_told : (text : List ℕ) (c : Contents) (rest : List ℕ) → length text ≤ most_bytes → reading month_form text ≡ got c rest
    → (settled_answer (month_held c)).number ≢ 0 → statement_of text ≡ refuse_line (settled_answer (month_held c))
refused_month_is_told text c rest h e d = stating.short_text text h ∙ ap found_text e ∙ stating.settled_refused (month_held c) d

-- two refusals with the same line are the same: number, table and row
pub lines_tell_refusals_apart : (a b : Answer) → Below (a.number ∷ a.table ∷ a.row ∷ []) → Below (b.number ∷ b.table ∷ b.row ∷ [])
    → refuse_line a ≡ refuse_line b → a ≡ b
lines_tell_refusals_apart = telling.same_refusal

-- "(more is 1,0,0)"
pub too_long_is_refused : (text : List ℕ) → most_bytes < length text → statement_of text ≡ bytes "refuse=1,0,0\n"
unfolding refuse refuse_line line_text fields_text decimal digits
too_long_is_refused text h = stating.long_text text h

-- the program's own call: where the first 65,537 bytes of a file are held, all of a shorter one, that file's statement is written, whole,
-- and whatever bytes the file has behind those change nothing
pub file_is_stated : (file held : List ℕ) (count : ℕ) (lent after : List ℕ) (r : ℕ) → FileStated held count lent after r
    → take count held ≡ take (most_bytes + 1) file
    → (r ≡ length (statement_of file)) × (after ≡ statement_of file ++ drop (length (statement_of file)) lent)
file_is_stated file held count lent after r stated e =
    let same : statement_of (take count held) ≡ statement_of file = ap statement_of e ∙ sizes.first_bytes_tell file in
    (stated.length_is ∙ ap length same, stated.stores ∙ ap (λ l. l ++ drop (length l) lent) same)

-- no statement has more than `most_shown` bytes, 12,144, so that no room of that size is too short
pub statement_is_short : (text : List ℕ) → length (statement_of text) ≤ most_shown
statement_is_short = sizes.statement_short

-- the file of a good month has 52,793 bytes at most, so that none is refused for its length
pub good_file_fits : {head : Head} {t : Tables} {lent_charges lent_credits : ℕ} → GoodMonth head t lent_charges lent_credits
    → (length (month_text head t) ≤ 52_793) × (length (month_text head t) ≤ most_bytes)
good_file_fits good = let short = files.file_short good in (short, omega (arith, short))

-- .. and its statement is that month's: lines where it is accepted, else the line of its refusal
pub good_file_is_stated : {head : Head} {t : Tables} {lent_charges lent_credits : ℕ} → GoodMonth head t lent_charges lent_credits
    → ContentsFit month_form (contents_of head t) → statement_of (month_text head t) ≡ settled_text (month_of head t)
good_file_is_stated {head} {t} good fit =
    stating.short_text (month_text head t) (good_file_fits good).1 ∙ ap found_text (written_then_read (contents_of head t) fit)
