-- What is shown is the statement of the text: of one that is too long, one that is refused, one whose month is accepted.
-- Assumes nothing.
use mathlib.Core.Path.{◌≡◌, sym, ap, ap₂, ◌∙◌, subst}
use mathlib.Core.Logic.{◌≢◌, ⊎_elim}
use mathlib.Core.List.{List}
use Prim.Native.Nat.{ℕ, ◌*◌, ◌≤◌, ◌<◌}
use lib.ListN.{length}
use borrow.Author.Tests.{lt-ltb, le-ltb, eq-eqb, ne_eqb}
use Rattle.lists.proofs.Ranks.{lt_or_le}
use Rattle.answer.specs.declared.Answer.{Answer}
use Rattle.answer.specs.declared.Refusal.TheVariants.{Count}
use Rattle.answer.specs.declared.Part.TheVariants.{Head}
use Rattle.answer.specs.declared.Refused.{Refused}
use Rattle.answer.specs.Numbers.{COUNT, HEAD}
use Rattle.answer.specs.Turns.{refuse}
use Rattle.answer.specs.Results.{refused_answer}
use Rattle.answer.proofs.Turns.{zero_or_not}
use Rattle.answer.proofs.Results.{refuse_refused}
use Rattle.tables.specs.declared.Table.TheVariants.{Owners, Accounts}
use Rattle.tables.specs.Shape.{limit, charge_width, credit_width}
use Rattle.fileform.specs.Form.{month_form}
use Rattle.fileform.specs.Reading.{Outcome, got, refused, Contents, reading}
use Rattle.pool.specs.Input.{Input}
use Rattle.settlement.specs.Settled.{Settled}
use Rattle.settlement.specs.Accepted.{Accepted}
use Rattle.settlement.proofs.Accepting.{answer_accepted}
use Rattle.statement_lines.specs.Lines.{refuse_line, month_lines}
use Rattle.statement_lines.specs.Calls.{Figured}
use Rattle.statement_text.specs.Statement.{statement_lines, settled_answer, month_held, settled_text, found_text, most_bytes, statement_of}
use Rattle.statement_text.proofs.Totals.{answer_is, accounts_figured, owners_figured, settled_lines}

pub settled_accepted : (m : Input) → (settled_answer m).number ≡ 0 → settled_text m ≡ statement_lines m
unfolding settled_text
settled_accepted m e = rw (eq-eqb (settled_answer m).number 0 e)

pub settled_refused : (m : Input) → (settled_answer m).number ≢ 0 → settled_text m ≡ refuse_line (settled_answer m)
unfolding settled_text
settled_refused m d = rw (ne_eqb (settled_answer m).number 0 d)

pub long_text : (text : List ℕ) → most_bytes < length text → statement_of text ≡ refuse_line (refuse COUNT HEAD 0)
unfolding statement_of
long_text text h = rw (lt-ltb most_bytes (length text) h)

pub long_refused : (text : List ℕ) → most_bytes < length text → {a : Answer} {r : Refused} → a ≡ refused_answer r
    → r ≡ record { refusal = Count; part = Head; row = 0 } → refuse_line a ≡ statement_of text
long_refused text h e f =
    ap refuse_line (e ∙ ap refused_answer f ∙ sym (refuse_refused (record { refusal = Count; part = Head; row = 0 }))) ∙ sym (long_text text h)

pub short_text : (text : List ℕ) → length text ≤ most_bytes → statement_of text ≡ found_text (reading month_form text)
unfolding statement_of
short_text text h = rw (le-ltb most_bytes (length text) h)

-- every statement is the line of a refusal or the lines of an accepted month, so that what is so of these is so of it
pub stated_as : (P : List ℕ → Type 0) → ((a : Answer) → P (refuse_line a)) → ((m : Input) → (settled_answer m).number ≡ 0 → P (statement_lines m))
    → (text : List ℕ) → P (statement_of text)
stated_as P refusal lines text =
    ⊎_elim
    (λ (h : most_bytes < length text). subst P (sym (long_text text h)) (refusal (refuse COUNT HEAD 0)))
    (λ (h : length text ≤ most_bytes). subst P (sym (short_text text h)) (by (reading month_form text)))
    (lt_or_le most_bytes (length text))
  where
    month : (m : Input) → P (settled_text m)
    month m =
        ⊎_elim
        (λ (z : (settled_answer m).number ≡ 0). subst P (sym (settled_accepted m z)) (lines m z))
        (λ (d : (settled_answer m).number ≢ 0). subst P (sym (settled_refused m d)) (refusal (settled_answer m)))
        (zero_or_not (settled_answer m).number)

    by : (o : Outcome Contents) → P (found_text o)
    by (refused a) = refusal a
    by (got c rest) = month (month_held c)

-- the month that was settled is stated: by the line of its refusal, or by its lines
module _ {m : Input} {charges charges_after credits credits_after : List ℕ} {r : Answer} (settled : Settled m charges charges_after credits credits_after r)
    (e : length charges ≡ limit Accounts * charge_width) (f : length credits ≡ limit Owners * credit_width) where
  number_is : r.number ≡ (settled_answer m).number
  number_is = ap (λ (a : Answer). a.number) (answer_is settled e f)

  pub month_refused : r.number ≢ 0 → refuse_line r ≡ settled_text m
  month_refused d = ap refuse_line (answer_is settled e f) ∙ sym (settled_refused m (λ z. d (number_is ∙ z)))

  -- .. where the words of its accounts and owners are at hand
  module _ (z : r.number ≡ 0) {accounts owners : List ℕ} (a : accounts ≡ m.tables.accounts) (o : owners ≡ m.tables.owners) where
    pub month_figured : Figured Accounts charge_width accounts charges_after × Figured Owners credit_width owners credits_after
    month_figured = (rw a (accounts_figured settled e f z), rw o (owners_figured settled e f z))

    pub month_stated : month_lines accounts charges_after owners credits_after ≡ settled_text m
    month_stated =
        ap₂ (λ x y. month_lines x charges_after y credits_after) a o ∙ settled_lines settled e f z ∙ sym (settled_accepted m (sym number_is ∙ z))

-- an accepted month is accepted with outputs lent at full size
pub fine : (m : Input) → (settled_answer m).number ≡ 0 → Accepted m (limit Accounts * charge_width) (limit Owners * credit_width)
unfolding settled_answer
fine m e = answer_accepted m (limit Accounts * charge_width) (limit Owners * credit_width) e
