-- A statement has its lines in one way, so that months with the same statement have the same figures; and so has a refusal's line its
-- numbers.
-- Assumes nothing.
use mathlib.Core.Path.{◌≡◌, sym, ap, ◌∙◌, subst}
use mathlib.Core.List.{[], ◌∷◌, ◌++◌}
use Prim.Native.Nat.{ℕ, suc, ◌+◌, ◌*◌, ◌<◌}
use native.Mathlib.Omega.{arith}
use Rattle.lists.specs.Sums.{at}
use Rattle.answer.specs.declared.Answer.{Answer}
use Rattle.text.specs.Bytes.{bytes}
use Rattle.text.specs.Numbers.{found, Below}
use Rattle.text.specs.Lines.{line}
use Rattle.text.proofs.Lines.{line_text_lem}
use Rattle.pool.specs.Input.{Input}
use Rattle.settlement.specs.Accepted.{Accepted}
use Rattle.statement_lines.specs.Lines.{with_number, rows_with, refuse_line}
use Rattle.statement_text.specs.Statement.{statement_lines}
use Rattle.statement_text.specs.Told.{SameRows, SameFigures}
use Rattle.statement_text.specs.Printed.{Lines, Printed, lines_of}
use Rattle.statement_text.proofs.Printing.{word_at, numbers, printed_once, month_printed}

-- rows that have the same words are the same rows
same_rows : (count count' width : ℕ) (number number' : ℕ → ℕ) (figure figure' : ℕ → ℕ → ℕ) → count ≡ count'
    → rows_with count width number figure ≡ rows_with count' width number' figure' → SameRows count count' width number number' figure figure'
same_rows count count' width number number' figure figure' as_many e =
    record {
      as_many = as_many;
      same_number = λ i b. same 0 i (omega arith) b;
      same_figure = λ column i h b. same (suc column) i (omega arith) b;
    }
  where
    same : (column i : ℕ) → column < width + 1 → i < count → with_number number figure column i ≡ with_number number' figure' column i
    same column i h b =
        sym (word_at count width number figure column i h b)
        ∙ ap (λ l. at l (i * (width + 1) + column)) e
        ∙ word_at count' width number' figure' column i h (let q : count ≡ count' = as_many in omega arith)

pub same_statement : {m m' : Input} {lent_charges lent_credits lent_charges' lent_credits' : ℕ} → Accepted m lent_charges lent_credits
    → Accepted m' lent_charges' lent_credits' → statement_lines m ≡ statement_lines m' → SameFigures m m'
same_statement {m} {m'} all all' e =
    let same : lines_of m ≡ lines_of m' = printed_once (month_printed all) (subst (λ text. Printed text (lines_of m')) (sym e) (month_printed all')) in
    record {
      charges = same_rows _ _ _ _ _ _ _ (ap (λ (l : Lines). l.charges.count) same) (ap (λ (l : Lines). l.charges.words) same);
      credits = same_rows _ _ _ _ _ _ _ (ap (λ (l : Lines). l.credits.count) same) (ap (λ (l : Lines). l.credits.words) same);
    }

-- the three numbers of a refusal's line are read back from it
refusal_back : (a : Answer) → Below (a.number ∷ a.table ∷ a.row ∷ [])
    → line (bytes "refuse") 3 (refuse_line a ++ []) ≡ found (a.number ∷ a.table ∷ a.row ∷ []) []
unfolding refuse_line
refusal_back a small = line_text_lem (bytes "refuse") (a.number ∷ a.table ∷ a.row ∷ []) [] small

pub same_refusal : (a b : Answer) → Below (a.number ∷ a.table ∷ a.row ∷ []) → Below (b.number ∷ b.table ∷ b.row ∷ [])
    → refuse_line a ≡ refuse_line b → a ≡ b
same_refusal a b small small' e =
    let same : (a.number ∷ a.table ∷ a.row ∷ []) ≡ (b.number ∷ b.table ∷ b.row ∷ []) =
    ap numbers (sym (refusal_back a small) ∙ ap (λ l. line (bytes "refuse") 3 (l ++ [])) e ∙ refusal_back b small') in
    λ i. record { number = at (same i) 0; table = at (same i) 1; row = at (same i) 2 }
