-- The check of a division that anyone hands in.
-- Assumes nothing.
use Rattle.std.specs.Prelude.{◌≡◌, ℕ, Bool, true, false, Result, Ok, Err, ◌&&◌, ◌||◌, not, cond, List, ltb, eqb, length}
use Rattle.lists.specs.Sums.{total}
use Rattle.answer.specs.declared.Answer.{Answer}
use Rattle.answer.specs.declared.Refusal.{Refusal}
use Rattle.answer.specs.Numbers.{COUNT, HEAD, refusal_number}
use Rattle.answer.specs.Turns.{look}
use Rattle.closeness.specs.Closeness.{level}
use Rattle.division.specs.Limits.{most_weights, size_refusal}

-- "the check at COUNT, BIG, BASE": more than 64 weights; weights and amounts differ in number
unfoldable pub check_refusal : ℕ → List ℕ → List ℕ → ℕ
check_refusal pot weights amounts =
    look (ltb most_weights (length weights) || not (eqb (length weights) (length amounts))) COUNT
    (size_refusal pot (total weights))

-- the amounts add up to the pot and are level: no amount stands more than a cent higher over its exact share than another
-- (that these are the closest lists, by the sum of squares, is the theorem of `closeness`; of no weights every list is level, and "For
-- W and P both zero it says yes exactly when all amounts are zero" is then in the sum)
unfoldable pub passes : ℕ → List ℕ → List ℕ → Bool
passes pot weights amounts = eqb (total amounts) pot && level pot weights amounts

-- a list of amounts is a closest division, it is not, or the check is refused with a number
pub data Verdict : Type 0 where
  Yes : Verdict
  No : Verdict
  Refused : ℕ → Verdict

-- what the check answers: "A refused check says neither yes nor no"
unfoldable pub verdict : ℕ → List ℕ → List ℕ → Verdict
verdict pot weights amounts =
    cond (eqb (check_refusal pot weights amounts) 0)
    (cond (passes pot weights amounts) Yes No)
    (Refused (check_refusal pot weights amounts))

-- what a check can say: "A refused check says neither yes nor no"
pub data Saying : Type 0 where
  yes : Saying
  no : Saying
  neither : Saying

-- what an answer of the check stands for: what it says, and the paper's number, 0 where nothing is refused
pub record Meaning : Type 0 where
  pub says : Saying
  pub number : ℕ

-- "a definition gives this paper's number and values for each of its cases"
abbrev pub meaning : Verdict → Meaning
meaning Yes = record { says = yes; number = 0 }
meaning No = record { says = no; number = 0 }
meaning (Refused number) = record { says = neither; number = number }

-- "The answer is number, table, row": that of each case; "table and row are 0"
abbrev pub verdict_answer : Verdict → Answer
verdict_answer said = record { number = (meaning said).number; table = HEAD; row = 0 }

-- the verdict that a result stands for
abbrev pub verdict_of : Result Bool Refusal → Verdict
verdict_of (Ok true) = Yes
verdict_of (Ok false) = No
verdict_of (Err r) = Refused (refusal_number r)

-- the contract of `check`
abbrev pub Checked : ℕ → List ℕ → List ℕ → Result Bool Refusal → Type 0
Checked pot weights amounts r = verdict_of r ≡ verdict pot weights amounts
