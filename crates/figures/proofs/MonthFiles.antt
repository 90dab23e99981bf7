-- Case S of the paper reads and writes, and files bent at some place are refused there: antt computes each.
-- Assumes nothing.
use mathlib.Core.Path.{◌≡◌, refl}
use mathlib.Core.List.{List, [], ◌∷◌, ◌++◌}
use Prim.Native.Nat.{ℕ}
use Rattle.answer.specs.Numbers.{TEXT}
use Rattle.answer.specs.Turns.{refuse}
use Rattle.text.specs.Bytes.{bytes}
use Rattle.text.specs.Numbers.{is_digit, digits_on, first_number, digits, decimal}
use Rattle.text.specs.Lines.{past, field, fields, line, fields_text, line_text}
use Rattle.fileform.specs.Form.{month_form}
use Rattle.fileform.specs.Reading.{got, refused, row_lines, head_lines, table_lines, Contents, rows_in_all, ending, reading}
use Rattle.fileform.specs.Writing.{rows_text, heads_text, tables_text, file_text}

abbrev case_text : List ℕ
case_text = bytes "month=4\ndays=30\nnonzone=0\ndaily=0\nweekly=0\nmonthly=0\nweekday=1\nzone=1,365000\nowner=1,1,200\nowner=2,1,100\nunit=1,2,1,1,12000,0\naccount=1,70,1\naccount=2,71,0\nload=1,1,10\nload=1,2,10\nptp=2,480,0\nend=9\n"

abbrev case_contents : Contents
case_contents =
    record {
      head = 4 ∷ 30 ∷ 0 ∷ 0 ∷ 0 ∷ 0 ∷ 1 ∷ [];
      tables =
          record { count = 1; words = 1 ∷ 365000 ∷ [] }
          ∷ record { count = 2; words = 1 ∷ 1 ∷ 200 ∷ 2 ∷ 1 ∷ 100 ∷ [] }
          ∷ record { count = 1; words = 1 ∷ 2 ∷ 1 ∷ 1 ∷ 12000 ∷ 0 ∷ [] }
          ∷ record { count = 2; words = 1 ∷ 70 ∷ 1 ∷ 2 ∷ 71 ∷ 0 ∷ [] }
          ∷ record { count = 2; words = 1 ∷ 1 ∷ 10 ∷ 1 ∷ 2 ∷ 10 ∷ [] }
          ∷ record { count = 1; words = 2 ∷ 480 ∷ 0 ∷ [] }
          ∷ record { count = 0; words = [] }
          ∷ [];
    }

pub case_reads : reading month_form case_text ≡ got case_contents []
unfolding is_digit digits_on first_number past field fields line row_lines head_lines table_lines rows_in_all ending reading
case_reads = refl

pub case_writes : file_text month_form case_contents ≡ case_text
unfolding digits decimal fields_text line_text rows_text heads_text tables_text file_text rows_in_all
case_writes = refl

-- a last line without its line feed; a line that is missing; a needless zero; a byte behind `end`; a wrong number of rows
pub bent_no_feed : reading month_form (bytes "month=4") ≡ refused (refuse TEXT 0 0)
unfolding is_digit digits_on first_number past field fields line row_lines head_lines table_lines rows_in_all ending reading refuse
bent_no_feed = refl

pub bent_missing : reading month_form (bytes "month=4\n") ≡ refused (refuse TEXT 0 8)
unfolding is_digit digits_on first_number past field fields line row_lines head_lines table_lines rows_in_all ending reading refuse
bent_missing = refl

pub bent_zero : reading month_form (bytes "month=4\ndays=030\n") ≡ refused (refuse TEXT 0 8)
unfolding is_digit digits_on first_number past field fields line row_lines head_lines table_lines rows_in_all ending reading refuse
bent_zero = refl

pub bent_behind : reading month_form (case_text ++ bytes "\n") ≡ refused (refuse TEXT 0 198)
unfolding is_digit digits_on first_number past field fields line row_lines head_lines table_lines rows_in_all ending reading refuse
bent_behind = refl

pub bent_number : reading month_form (bytes "month=4\ndays=30\nnonzone=0\ndaily=0\nweekly=0\nmonthly=0\nweekday=1\nend=1\n") ≡ refused (refuse TEXT 0 63)
unfolding is_digit digits_on first_number past field fields line row_lines head_lines table_lines rows_in_all ending reading refuse
bent_number = refl

-- .. and no weekday line
pub bent_weekday : reading month_form (bytes "month=4\ndays=30\nnonzone=0\ndaily=0\nweekly=0\nmonthly=0\nzone=1,365000\nend=1\n") ≡ refused (refuse TEXT 0 53)
unfolding is_digit digits_on first_number past field fields line row_lines head_lines table_lines rows_in_all ending reading refuse
bent_weekday = refl

-- a file from before the four lines of firm service
pub bent_before : reading month_form (bytes "month=4\ndays=30\nnonzone=0\nzone=1,365000\nowner=1,1,200\nowner=2,1,100\nunit=1,2,1,1,12000,0\naccount=1,70,1\naccount=2,71,0\nload=1,1,10\nload=1,2,10\nptp=2,480,0\nend=9\n") ≡ refused (refuse TEXT 0 26)
unfolding is_digit digits_on first_number past field fields line row_lines head_lines table_lines rows_in_all ending reading refuse
bent_before = refl
