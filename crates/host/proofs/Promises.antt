-- What is promised of the phone app's calls, beyond their definitions. Nothing else stands here; the proofs are in `Calls`,
-- `Reading`, `Judged` and `Stating`, and those about bytes in `words`.
-- Assumes nothing.
use mathlib.Core.Path.{◌≡◌, sym, subst}
use mathlib.Core.Logic.{◌⊎◌, ◌↔◌, ◌≢◌}
use mathlib.Core.List.{List, ◌++◌}
use Prim.Native.Nat.{ℕ, ◌/◌, ◌%◌, ◌^◌, ◌≤◌, ◌<◌}
use native.Mathlib.Nat.{le_trans}
use lib.ListN.{length, take, drop}
use Rattle.lists.specs.Sums.{at, total}
use Rattle.answer.specs.Numbers.{COUNT, ROOM}
use Rattle.closeness.specs.Closeness.{distance, Closest}
use Rattle.division.specs.Limits.{divide_refusal}
use Rattle.division.specs.Shares.{shares}
use Rattle.verdict.specs.Check.{verdict, meaning}
use Rattle.verdict.specs.Refused.{FineCheck}
use Rattle.statement_text.proofs.Promises.{statement_is_short}
use Rattle.verdict.proofs.Laws as verdicts
use Rattle.words.specs.Words.{numbers, bytes_of}
use Rattle.words.proofs.Whole.{uneven}
use Rattle.words.proofs.Digits as digits
use Rattle.statement_text.specs.Statement.{statement_of, most_shown}
use Rattle.host.specs.Calls.{word, host_divide_refusal, host_memory, HostDivided, value_of, host_verdict, HostStated}
use Rattle.host.specs.Refused.{HostCheckRefused}
use Rattle.host.proofs.Calls as calls
use Rattle.host.proofs.Reading as reading
use Rattle.host.proofs.Judged as judged
use Rattle.host.proofs.Stating as stating

-- numbers below 2^64 that are written as bytes and read again are the same numbers ..
pub numbers_of_bytes : (ns : List ℕ) → ((i : ℕ) → i < length ns → at ns i < 2 ^ 64) → numbers (bytes_of ns) ≡ ns
numbers_of_bytes = digits.numbers_bytes

-- .. and whole words of bytes that are read as numbers and written again are the same bytes
pub bytes_of_numbers : (bs : List ℕ) → length bs % 8 ≡ 0 → ((j : ℕ) → j < length bs → at bs j < 256) → bytes_of (numbers bs) ≡ bs
bytes_of_numbers = digits.bytes_numbers

-- the low byte of an answer is the refusal's number and the bits above it are the value
pub answer_in_parts : (number value : ℕ) → number < 256 → (word number value % 256 ≡ number) × (word number value / 256 ≡ value)
answer_in_parts = reading.answer_in_parts

-- where a division is accepted, the first bytes, as many as the weights have, read as the shares of the pot by the weights
pub shares_in_bytes : (pot : ℕ) (weights amounts : List ℕ) → host_divide_refusal pot weights amounts ≡ 0
    → numbers (take (length weights) (host_memory pot weights amounts)) ≡ shares pot (numbers weights)
shares_in_bytes = reading.shares_in_bytes

-- a refusal leaves the lent bytes as they were
pub refusal_leaves_bytes : (pot : ℕ) (weights amounts : List ℕ) → host_divide_refusal pot weights amounts ≢ 0
    → host_memory pot weights amounts ≡ amounts
refusal_leaves_bytes = reading.memory_refused

-- no byte behind the shares is touched, and none is added
pub bytes_behind_untouched : (pot : ℕ) (weights amounts : List ℕ)
    → (drop (length weights) (host_memory pot weights amounts) ≡ drop (length weights) amounts)
    × (length (host_memory pot weights amounts) ≡ length amounts)
bytes_behind_untouched = reading.untouched

-- "a byte length that isn't a multiple of eight is COUNT" for the division ..
pub uneven_divide_count : (pot : ℕ) (weights amounts : List ℕ) → (length weights % 8 ≢ 0) ⊎ (length amounts % 8 ≢ 0)
    → host_divide_refusal pot weights amounts ≡ COUNT
uneven_divide_count pot weights amounts d = calls.divide_uneven pot weights amounts (uneven weights amounts d)

-- .. and for the check, whose value is then 0
pub uneven_check_count : (pot : ℕ) (weights amounts : List ℕ) → (length weights % 8 ≢ 0) ⊎ (length amounts % 8 ≢ 0)
    → host_verdict pot weights amounts ≡ word COUNT 0
uneven_check_count = judged.uneven

-- of whole words a division is refused as that of the numbers
pub whole_words_divide : (pot : ℕ) (weights amounts : List ℕ) → length weights % 8 ≡ 0 → length amounts % 8 ≡ 0
    → host_divide_refusal pot weights amounts ≡ divide_refusal pot (numbers weights) (length amounts / 8)
whole_words_divide pot weights amounts e f = calls.refusal_even pot weights amounts (record { these_whole = e; those_whole = f })

-- the low byte of a division's answer is the refusal's number, 0 where it is accepted, and the bits above it are 0
pub divide_in_parts : (pot : ℕ) (weights before after : List ℕ) (r : ℕ) → HostDivided pot weights before after r
    → (r % 256 ≡ host_divide_refusal pot weights before) × (r / 256 ≡ 0)
divide_in_parts pot weights before after r d =
    subst (λ a. (a % 256 ≡ host_divide_refusal pot weights before) × (a / 256 ≡ 0)) (sym d.answer)
    (answer_in_parts (host_divide_refusal pot weights before) 0 (reading.number_fits pot weights before))

-- of whole words the low byte of a check's answer is the refusal's number, and the bits above it are 1 for yes and else 0
pub check_in_parts : (pot : ℕ) (weights amounts : List ℕ) → length weights % 8 ≡ 0 → length amounts % 8 ≡ 0
    → (host_verdict pot weights amounts % 256 ≡ (meaning (verdict pot (numbers weights) (numbers amounts))).number)
    × (host_verdict pot weights amounts / 256 ≡ value_of (meaning (verdict pot (numbers weights) (numbers amounts))).says)
check_in_parts pot weights amounts e f = reading.said_in_parts pot weights amounts (record { these_whole = e; those_whole = f })

-- the check's call is judged by the bytes' numbers: where nothing is refused, so for whole words of bytes, at most 64 weights, as
-- many amounts, a pot and weights within their limits and a sum above zero unless the pot is zero ..
module _ (pot : ℕ) (weights amounts : List ℕ) where
  -- .. the answer is 256, yes, exactly when the amounts add up to the pot and no list of whole numbers of the same length with
  -- that sum lies closer to the exact shares ..
  pub check_yes_exactly : (host_verdict pot weights amounts ≡ 256)
      ↔ ((length weights % 8 ≡ 0) × (length amounts % 8 ≡ 0) × FineCheck pot (numbers weights) (numbers amounts)
      × (total (numbers amounts) ≡ pot) × Closest pot (numbers weights) (numbers amounts))
  check_yes_exactly = judged.yes_exactly pot weights amounts

  -- .. and 0, no, exactly when they do not
  pub check_no_exactly : (host_verdict pot weights amounts ≡ 0)
      ↔ ((length weights % 8 ≡ 0) × (length amounts % 8 ≡ 0) × FineCheck pot (numbers weights) (numbers amounts)
      × (¬ ((total (numbers amounts) ≡ pot) × Closest pot (numbers weights) (numbers amounts))))
  check_no_exactly = judged.no_exactly pot weights amounts

  -- any other answer is the refusal's number: COUNT for an uneven length, else the first of COUNT, BIG, BASE that holds
  pub check_refused_exactly : (n : ℕ)
      → ((host_verdict pot weights amounts ≡ n) × (n ≢ 0) × (n ≢ 256)) ↔ HostCheckRefused pot weights amounts n
  check_refused_exactly = judged.refused_exactly pot weights amounts

  -- each amount that it passes is less than one cent from its exact share
  pub check_passed_within_a_cent : 0 < total (numbers weights) → host_verdict pot weights amounts ≡ 256
      → (i : ℕ) → i < length (numbers weights) → distance pot (numbers weights) (numbers amounts) i < total (numbers weights)
  check_passed_within_a_cent some e =
      verdicts.passed_within_a_cent pot (numbers weights) (numbers amounts) some (judged.says_yes pot weights amounts e)

-- "For W and P both zero it says yes exactly when all amounts are zero"
pub check_of_nothing : (weights amounts : List ℕ) → length weights % 8 ≡ 0 → length amounts % 8 ≡ 0 → FineCheck 0 (numbers weights) (numbers amounts)
    → total (numbers weights) ≡ 0 → (host_verdict 0 weights amounts ≡ 256) ↔ ((i : ℕ) → at (numbers amounts) i ≡ 0)
check_of_nothing weights amounts e f fine none =
    let zeros = verdicts.no_base_no_amounts (numbers weights) (numbers amounts) fine none in (
      (λ y. zeros.0 (judged.says_yes 0 weights amounts y)),
      λ z. judged.yes_said 0 weights amounts (record { these_whole = e; those_whole = f }) (zeros.1 z),
    )

-- the check's call passes the bytes of every division that the other call makes
pub divisions_pass : (pot : ℕ) (weights before after : List ℕ) (r : ℕ) → HostDivided pot weights before after r → r ≡ 0
    → host_verdict pot weights (take (length weights) after) ≡ 256
divisions_pass = judged.divisions_pass

-- where the lent bytes are enough for it, the statement stands first, and its length is the answer's value
pub statement_with_room : (text before after : List ℕ) (r : ℕ) → HostStated text before after r → length (statement_of text) ≤ length before
    → (r ≡ word 0 (length (statement_of text))) × (after ≡ statement_of text ++ drop (length (statement_of text)) before)
statement_with_room = stating.statement_with_room

-- where the lent bytes are too few for it, the answer is ROOM and nothing is written
pub statement_without_room : (text before after : List ℕ) (r : ℕ) → HostStated text before after r → length before < length (statement_of text)
    → (r ≡ word ROOM 0) × (after ≡ before)
statement_without_room = stating.statement_without_room

-- `most_shown` bytes, 12,144, are enough for every statement
pub always_room : (text before : List ℕ) → most_shown ≤ length before → length (statement_of text) ≤ length before
always_room text before room = le_trans (statement_is_short text) room
