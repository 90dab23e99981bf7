-- What the phone app's calls answer and leave in the lent bytes.
-- Assumes nothing.
use Rattle.std.specs.Prelude.{◌≡◌, ℕ, ◌+◌, ◌*◌, ◌/◌, cond, Bool, Result, List, ◌++◌, eqb, length, drop}
use Rattle.answer.specs.Numbers.{COUNT, HEAD}
use Rattle.answer.specs.Turns.{look}
use Rattle.division.specs.Limits.{divide_refusal}
use Rattle.division.specs.Shares.{shares}
use Rattle.answer.specs.declared.Refusal.{Refusal}
use Rattle.verdict.specs.Check.{verdict, Verdict, verdict_of, Saying, yes, no, neither, meaning}
use Rattle.tables.specs.Counts.{room_for}
use Rattle.text.specs.Places as places
use Rattle.statement_text.specs.Statement.{statement_of}
use Rattle.statement_text.specs.Calls.{fitting}
use Rattle.words.specs.Words.{word_bytes, is_uneven, numbers, bytes_of}

-- one word for an answer: the refusal's number in the low byte, the value above it. So packed by us: the paper leaves it open
abbrev pub word : ℕ → ℕ → ℕ
word number value = number + 256 * value

-- "a byte length that isn't a multiple of eight is COUNT", then what the division looks at
unfoldable pub host_divide_refusal : ℕ → List ℕ → List ℕ → ℕ
host_divide_refusal pot weights amounts =
    look (is_uneven (length weights) (length amounts)) COUNT (divide_refusal pot (numbers weights) (length amounts / word_bytes))

-- the lent bytes afterwards: on refusal as they were, else the shares' bytes and behind them the bytes that were there
unfoldable pub host_memory : ℕ → List ℕ → List ℕ → List ℕ
host_memory pot weights amounts =
    cond (eqb (host_divide_refusal pot weights amounts) 0)
    (bytes_of (shares pot (numbers weights)) ++ drop (length weights) amounts)
    amounts

-- What `noketualo_divide` answers and leaves in the lent bytes.
pub record HostDivided (pot : ℕ) (weights before after : List ℕ) (r : ℕ) : Type 0 where
  pub answer : r ≡ word (host_divide_refusal pot weights before) 0
  pub lent : after ≡ host_memory pot weights before

-- the value for what a check says, ours and not the paper's: 1 for yes, else 0
abbrev pub value_of : Saying → ℕ
value_of yes = 1
value_of no = 0
value_of neither = 0

-- one word for a check's answer
abbrev pub verdict_word : Verdict → ℕ
verdict_word said = word (meaning said).number (value_of (meaning said).says)

-- .. of what the check found
abbrev pub checked_word : Result Bool Refusal → ℕ
checked_word r = verdict_word (verdict_of r)

-- What `noketualo_check` answers.
unfoldable pub host_verdict : ℕ → List ℕ → List ℕ → ℕ
host_verdict pot weights amounts =
    look (is_uneven (length weights) (length amounts)) (word COUNT 0) (verdict_word (verdict pot (numbers weights) (numbers amounts)))

-- What `noketualo_statement`, a call of ours beside the paper's two, answers and leaves in the lent bytes: ROOM and nothing, or the statement and its length. A month that
-- is refused has a statement too, so the answer's number is then 0.
pub record HostStated (text before after : List ℕ) (r : ℕ) : Type 0 where
  pub answer : r ≡ word (room_for HEAD (length (statement_of text)) (length before)).number (length (fitting (statement_of text) (length before)))
  pub lent : after ≡ places.stored before 0 (fitting (statement_of text) (length before))
