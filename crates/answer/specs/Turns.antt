-- Looks that are taken in turn: the first one that finds a fault gives the answer.
-- Assumes nothing.
use Rattle.std.specs.Prelude.{ℕ, zero, suc, Bool, cond, eqb}
use Rattle.answer.specs.declared.Answer.{Answer}

-- a look: the refusal's number where its fault is there, else what the next look finds; behind the last one stands 0
abbrev pub look : Bool → ℕ → ℕ → ℕ
look fault number next = cond fault number next

-- "acceptance answers 0, 0, 0"
abbrev pub accepted : Answer
accepted = record { number = 0; table = 0; row = 0 }

-- "The answer is number, table, row"
abbrev pub refusal : ℕ → ℕ → ℕ → Answer
refusal number table row = record { number = number; table = table; row = row }

-- a refusal where there is a number, and acceptance where the number is 0
unfoldable pub refuse : ℕ → ℕ → ℕ → Answer
refuse number table row = cond (eqb number 0) accepted (refusal number table row)

infixl 20 ◌then◌
-- the first of two answers that refuses
unfoldable pub ◌then◌ : Answer → Answer → Answer
a then b = cond (eqb a.number 0) b a

-- answers in turn, of rows or of divisions: the first refusal of a 0, a 1, .. a (n − 1)
unfoldable pub turns : (ℕ → Answer) → ℕ → Answer
turns a zero = accepted
turns a (suc n) = turns a n then a n

-- the first refusal of the rows 0, 1, .. n − 1 of a table; f gives each row's number, 0 where the row is fine
unfoldable pub first : ℕ → (ℕ → ℕ) → ℕ → Answer
first table f n = turns (λ i. refuse (f i) table i) n
