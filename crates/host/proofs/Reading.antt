-- Reading what a call leaves: a share is at most the pot, so it fits a word, and its bytes read as the share; a refusal's number
-- fits a byte.
-- Assumes nothing.
use mathlib.Core.Path.{◌≡◌, refl, sym, ap, ◌∙◌, subst}
use mathlib.Core.Bool.{true, false, cond}
use mathlib.Core.Logic.{⊎_elim, ◌≢◌}
use mathlib.Core.List.{List, ◌++◌}
use Prim.Native.Nat.{ℕ, ◌+◌, ◌*◌, ◌/◌, ◌%◌, ◌≤◌, ◌<◌}
use native.Mathlib.Omega.{arith}
use lib.ListN.{length, take, drop, length-append, length-drop}
use lib.Seq.{take_at, drop_at}
use borrow.Author.Tests.{eq-eqb}
use Rattle.lists.proofs.Ranks.{true_or_false}
use Rattle.answer.proofs.Turns.{look_none, zero_or_not}
use Rattle.division.specs.Limits.{divide_refusal}
use Rattle.division.specs.Shares.{shares}
use Rattle.verdict.specs.Check.{verdict, meaning}
use Rattle.division.proofs.Laws as laws
use Rattle.verdict.proofs.Laws as verdicts
use Rattle.words.specs.Words.{is_uneven, WholeWords, numbers, bytes_of}
use Rattle.words.proofs.Whole.{whole_words}
use Rattle.words.proofs.Digits.{length_numbers, length_bytes, numbers_bytes}
use Rattle.host.specs.Calls.{word, host_divide_refusal, host_memory, value_of, host_verdict}
use Rattle.host.proofs.Calls as calls

pub answer_in_parts : (number value : ℕ) → number < 256 → (word number value % 256 ≡ number) × (word number value / 256 ≡ value)
answer_in_parts number value b = (omega arith, omega arith)

module _ (pot : ℕ) (weights amounts : List ℕ) where
  pub number_fits : host_divide_refusal pot weights amounts < 256
  number_fits =
      ⊎_elim
      (λ (odd : is_uneven (length weights) (length amounts) ≡ true). omega (arith, calls.divide_uneven pot weights amounts odd))
      (λ (even : is_uneven (length weights) (length amounts) ≡ false).
      omega (arith, calls.refusal_even pot weights amounts (whole_words weights amounts even), laws.divide_number pot (numbers weights) (length amounts / 8)))
      (true_or_false (is_uneven (length weights) (length amounts)))

  pub said_in_parts : WholeWords weights amounts
      → (host_verdict pot weights amounts % 256 ≡ (meaning (verdict pot (numbers weights) (numbers amounts))).number)
      × (host_verdict pot weights amounts / 256 ≡ value_of (meaning (verdict pot (numbers weights) (numbers amounts))).says)
  said_in_parts w =
      let said = verdict pot (numbers weights) (numbers amounts) in
      let small : (meaning said).number < 256 = omega (arith, verdicts.check_number pot (numbers weights) (numbers amounts)) in
      subst (λ r. (r % 256 ≡ (meaning said).number) × (r / 256 ≡ value_of (meaning said).says)) (calls.said pot weights amounts w said refl)
      (answer_in_parts (meaning said).number (value_of (meaning said).says) small)

  pub memory_refused : host_divide_refusal pot weights amounts ≢ 0 → host_memory pot weights amounts ≡ amounts
  memory_refused d = sym (calls.refused pot weights amounts (host_divide_refusal pot weights amounts) refl d).lent

  -- where a division is accepted
  module _ (e : host_divide_refusal pot weights amounts ≡ 0) where
    pub looked : (is_uneven (length weights) (length amounts) ≡ false) × (divide_refusal pot (numbers weights) (length amounts / 8) ≡ 0)
    unfolding host_divide_refusal
    looked = look_none (is_uneven (length weights) (length amounts)) 1 (divide_refusal pot (numbers weights) (length amounts / 8)) (λ q. omega arith) e

    pub whole : WholeWords weights amounts
    whole = whole_words weights amounts looked.0

    long : length (bytes_of (shares pot (numbers weights))) ≡ length weights
    long =
        length_bytes (shares pot (numbers weights))
        ∙ ap (λ n. 8 * n) (laws.length_shares pot (numbers weights) ∙ length_numbers weights)
        ∙ (let all : 8 * (length weights / 8) ≡ length weights = omega (arith, whole.these_whole) in all)

    memory_is : host_memory pot weights amounts ≡ bytes_of (shares pot (numbers weights)) ++ drop (length weights) amounts
    unfolding host_memory
    memory_is =
        ap (λ t. cond t (bytes_of (shares pot (numbers weights)) ++ drop (length weights) amounts) amounts)
        (eq-eqb (host_divide_refusal pot weights amounts) 0 e)

    first_bytes : take (length weights) (host_memory pot weights amounts) ≡ bytes_of (shares pot (numbers weights))
    first_bytes =
        ap (take (length weights)) memory_is
        ∙ take_at (bytes_of (shares pot (numbers weights))) (drop (length weights) amounts) (length weights) long

    pub as_many_bytes : length (take (length weights) (host_memory pot weights amounts)) ≡ length weights
    as_many_bytes = ap length first_bytes ∙ long

    pub shares_in_bytes : numbers (take (length weights) (host_memory pot weights amounts)) ≡ shares pot (numbers weights)
    shares_in_bytes =
        let good = laws.divide_accepted pot (numbers weights) (length amounts / 8) looked.1 in
        ap numbers first_bytes
        ∙ numbers_bytes (shares pot (numbers weights))
        (λ i b. let small = laws.share_within pot (numbers weights) good.2.has_base i in omega (arith, small, good.2.pot_fits))

    behind : drop (length weights) (host_memory pot weights amounts) ≡ drop (length weights) amounts
    behind =
        ap (drop (length weights)) memory_is
        ∙ drop_at (bytes_of (shares pot (numbers weights))) (drop (length weights) amounts) (length weights) long

    same_length : length (host_memory pot weights amounts) ≡ length amounts
    same_length =
        let room : length (numbers weights) ≤ length amounts / 8 =
        (laws.divide_accepted pot (numbers weights) (length amounts / 8) looked.1).1 in
        ap length memory_is
        ∙ length-append (bytes_of (shares pot (numbers weights))) (drop (length weights) amounts)
        ∙ (let sum : length (bytes_of (shares pot (numbers weights))) + length (drop (length weights) amounts) ≡ length amounts =
        omega (arith, long, length-drop (length weights) amounts, length_numbers weights, whole.these_whole) in sum)

  pub untouched :
      (drop (length weights) (host_memory pot weights amounts) ≡ drop (length weights) amounts)
      × (length (host_memory pot weights amounts) ≡ length amounts)
  untouched =
      ⊎_elim
      (λ (e : host_divide_refusal pot weights amounts ≡ 0). (behind e, same_length e))
      (λ (d : host_divide_refusal pot weights amounts ≢ 0). (ap (drop (length weights)) (memory_refused d), ap length (memory_refused d)))
      (zero_or_not (host_divide_refusal pot weights amounts))
