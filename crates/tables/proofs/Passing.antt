-- A loop over the tables: every table before is fine, and the first that is not ends it, whatever is looked at in each.
-- Assumes nothing.
use mathlib.Core.Path.{◌≡◌, sym, ap, ◌∙◌}
use mathlib.Core.Logic.{◌≢◌}
use Prim.Native.Nat.{ℕ, ◌+◌, ◌≤◌, ◌<◌}
use native.Mathlib.Nat.{le_trans, not-suc-le-zero}
use Rattle.std.specs.Prelude.{Result}
use Rattle.std.specs.Result.{IsErrAnd}
use Rattle.std.proofs.lemmas.Result.{err_from_is_err_and}
use Rattle.answer.specs.declared.Answer.{Answer}
use Rattle.answer.specs.declared.Refused.{Refused}
use Rattle.answer.specs.Results.{refused_answer, result_answer, Answers}
use Rattle.answer.proofs.Results.{refused_some}
use Rattle.answer.specs.Turns.{accepted}
use borrow.Author.Count.{below_more}
use Rattle.answer.proofs.Turns.{turns_stop, turns_none}
use Rattle.tables.specs.declared.Table.{Table}
use Rattle.tables.specs.Shape.{table_count, table_at}
use Rattle.tables.specs.Counts.{tables_in_turn}

-- the first k tables are fine, where f is the answer for one
pub record TablesFine (f : Table → Answer) (k : ℕ) : Type 0 where
  pub fine : (i : ℕ) → i < k → f (table_at i) ≡ accepted

pub fine_start : (f : Table → Answer) → TablesFine f 0
fine_start f = record { fine = λ i h. absurd (not-suc-le-zero h) }

module _ {f : Table → Answer} {k : ℕ} (before : TablesFine f k) where
  -- one more
  pub fine_more : f (table_at k) ≡ accepted → TablesFine f (k + 1)
  fine_more here = record { fine = λ i h. below_more (λ n. f (table_at n) ≡ accepted) k before.fine here i h }

  -- the first that is not ends the call with its refusal
  pub fine_stop : {A : Type 0} → k < table_count → (r : Result A Refused) (e : Refused) → IsErrAnd r (λ x. x ≡ e)
      → refused_answer e ≡ f (table_at k) → Answers r (tables_in_turn f)
  unfolding tables_in_turn
  fine_stop h r e passed its =
      let up = err_from_is_err_and r passed in
      let bad : (f (table_at k)).number ≢ 0 = λ z. refused_some e (ap (λ (a : Answer). a.number) its ∙ z) in
      ap result_answer up.1 ∙ ap refused_answer up.2 ∙ its ∙ sym (turns_stop (λ i. f (table_at i)) table_count k h before.fine bad)

  -- all of them
  pub fine_end : table_count ≤ k → accepted ≡ tables_in_turn f
  unfolding tables_in_turn
  fine_end h = sym (turns_none (λ i. f (table_at i)) table_count (λ i b. before.fine i (le_trans b h)))
