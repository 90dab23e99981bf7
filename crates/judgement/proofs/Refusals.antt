-- What a loop over the rows of a table has shown: every row that it has passed is fine, and the row where it stops is the first that is not.
-- Assumes nothing.
use mathlib.Core.Path.{◌≡◌, sym, ap, ◌∙◌}
use mathlib.Core.Logic.{◌≢◌}
use Prim.Native.Nat.{ℕ, ◌+◌, ◌≤◌, ◌<◌}
use native.Mathlib.Nat.{le_trans, not-suc-le-zero}
use borrow.Author.Count.{below_more}
use Rattle.std.specs.Prelude.{Result}
use Rattle.std.specs.Result.{IsErrAnd}
use Rattle.std.proofs.lemmas.Result.{err_from_is_err_and}
use Rattle.answer.specs.declared.Answer.{Answer}
use Rattle.answer.specs.declared.Part.{Part}
use Rattle.answer.specs.declared.Refusal.{Refusal}
use Rattle.answer.specs.declared.Refused.{Refused}
use Rattle.answer.specs.Numbers.{part_number}
use Rattle.answer.specs.Results.{refused_answer, result_answer, Says, Answers, Placed}
use Rattle.answer.specs.Turns.{accepted, refuse}
use Rattle.answer.proofs.Results.{refused_some, placed_answer}
use Rattle.answer.proofs.Turns.{first_none, first_at, refuse_number}
use Rattle.tables.specs.declared.Table.{Table}
use Rattle.tables.specs.Shape.{part, number, rows, Tables, words_of}
use Rattle.rows.specs.Rows.{row_of}
use Rattle.judgement.specs.Judgement.{rows_judged}

-- what a row's look answers at its place
pub row_answer : {A : Type 0} → (look : Result A Refusal) (r : Result A Refused) (p : Part) (table : Table) (i n : ℕ) → Placed look p i r → Says look n → p ≡ part table
    → result_answer r ≡ refuse n (number table) i
row_answer look r p table i n placed says its =
    ap result_answer placed
    ∙ placed_answer look p i
    ∙ ap (λ k. refuse k (part_number p) i) says
    ∙ ap (λ k. refuse n (part_number k) i) its

-- the rows before row i of a table are fine
pub record RowsFine (days : ℕ) (t : Tables) (table : Table) (i : ℕ) : Type 0 where
  pub fine : (j : ℕ) → j < i → row_of days t table j ≡ 0

pub rows_start : (days : ℕ) (t : Tables) (table : Table) → RowsFine days t table 0
rows_start days t table = record { fine = λ j h. absurd (not-suc-le-zero h) }

module _ {days : ℕ} {t : Tables} {table : Table} {i : ℕ} (before : RowsFine days t table i) where
  -- one more
  pub rows_more : accepted ≡ refuse (row_of days t table i) (number table) i → RowsFine days t table (i + 1)
  rows_more here =
      let its : row_of days t table i ≡ 0 = sym (ap (λ (a : Answer). a.number) here ∙ refuse_number (row_of days t table i) (number table) i) in
      record { fine = λ j h. below_more (λ k. row_of days t table k ≡ 0) i before.fine its j h }

  -- the first that is not fine ends the call with its refusal
  pub rows_stop : {A : Type 0} → i < rows table (words_of t table) → (r : Result A Refused) (e : Refused) → IsErrAnd r (λ x. x ≡ e)
      → refused_answer e ≡ refuse (row_of days t table i) (number table) i → Answers r (rows_judged days t table)
  unfolding rows_judged
  rows_stop h r e passed its =
      let up = err_from_is_err_and r passed in
      let bad : row_of days t table i ≢ 0 = λ z. refused_some e (ap (λ (a : Answer). a.number) its ∙ refuse_number (row_of days t table i) (number table) i ∙ z) in
      ap result_answer up.1 ∙ ap refused_answer up.2 ∙ its ∙ sym (first_at (number table) (row_of days t table) (rows table (words_of t table)) i h before.fine bad)

  -- all of them
  pub rows_end : rows table (words_of t table) ≤ i → accepted ≡ rows_judged days t table
  unfolding rows_judged
  rows_end h = sym (first_none (number table) (row_of days t table) (rows table (words_of t table)) (λ j b. before.fine j (le_trans b h)))
