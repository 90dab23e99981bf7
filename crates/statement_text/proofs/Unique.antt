-- The contract determines the answer and the lent bytes: what it allows twice is the same, and so are two results.
-- Assumes nothing.
use Rattle.std.specs.Prelude.{Result}
use mathlib.Core.Path.{◌≡◌, sym, ◌∙◌}
use mathlib.Core.List.{List}
use Prim.Native.Nat.{ℕ}
use Rattle.answer.specs.declared.Refused.{Refused}
use Rattle.statement_lines.proofs.Unique.{shows_unique, shows_results_unique}
use Rattle.statement_text.specs.Statement.{statement_of}
use Rattle.statement_text.specs.Calls.{Shown, shown_of, Shows, FileStated}

pub statement_unique : (text lent after after' : List ℕ) (r r' : Shown) → Shows (statement_of text) lent after r → Shows (statement_of text) lent after' r'
    → (r ≡ r') × (after ≡ after')
statement_unique text = shows_unique (statement_of text)

pub statement_results_unique : (text lent after after' : List ℕ) (r s : Result ℕ Refused)
    → Shows (statement_of text) lent after (shown_of r) → Shows (statement_of text) lent after' (shown_of s) → (r ≡ s) × (after ≡ after')
statement_results_unique text = shows_results_unique (statement_of text)

pub file_stated_unique : (held : List ℕ) (count : ℕ) (lent after after' : List ℕ) (r r' : ℕ) → FileStated held count lent after r → FileStated held count lent after' r'
    → (r ≡ r') × (after ≡ after')
file_stated_unique held count lent after after' r r' a b = (a.length_is ∙ sym b.length_is, a.stores ∙ sym b.stores)
