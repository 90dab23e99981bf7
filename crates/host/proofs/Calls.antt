-- The calls' answers, from the tests that the code makes in turn and from what `divide` and `check` say of the numbers. Of a
-- division only its contract and its laws are cited.
-- Assumes nothing.
use mathlib.Core.Path.{◌≡◌, sym, ap, ◌∙◌}
use mathlib.Core.Logic.{◌⊎◌, ⊎_elim, ◌≢◌}
use mathlib.Core.Bool.{true, cond}
use mathlib.Core.List.{List, ◌++◌, append_assoc}
use Prim.Native.Nat.{ℕ, ◌+◌, ◌*◌, ◌/◌, ◌≤◌, ◌<◌, min}
use native.Mathlib.Omega.{arith}
use lib.ListN.{length, take, drop}
use lib.Seq.{take_at}
use borrow.Author.Tests.{eq-eqb, ne_eqb}
use Rattle.division.specs.Limits.{most_weights, divide_refusal}
use Rattle.division.specs.Shares.{shares, Divided}
use Rattle.verdict.specs.Check.{verdict, Verdict, Refused}
use Rattle.division.proofs.Laws as laws
use Rattle.verdict.proofs.Laws as verdicts
use Rattle.words.specs.Words.{is_uneven, WholeWords, numbers, bytes_of}
use Rattle.words.proofs.Whole.{even}
use Rattle.words.proofs.Digits.{length_numbers}
use Rattle.host.specs.Calls.{host_divide_refusal, host_memory, HostDivided, verdict_word, host_verdict}

-- the first words that were loaded are the numbers, as many as there are
pub loaded_numbers : (bytes behind : List ℕ) {out : List ℕ} (count : ℕ) → out ≡ numbers bytes ++ behind → length bytes / 8 ≡ count
    → take count out ≡ numbers bytes
loaded_numbers bytes behind count loaded counted =
    ap (take count) loaded ∙ take_at (numbers bytes) behind count (length_numbers bytes ∙ counted)

module _ (pot : ℕ) (weights amounts : List ℕ) where
  -- of whole words the numbers are judged
  pub refusal_even : WholeWords weights amounts → host_divide_refusal pot weights amounts ≡ divide_refusal pot (numbers weights) (length amounts / 8)
  unfolding host_divide_refusal
  refusal_even w = ap (λ t. cond t 1 (divide_refusal pot (numbers weights) (length amounts / 8))) (even weights amounts w)

  -- a refusal answers its number and leaves the bytes
  pub refused : (number : ℕ) → host_divide_refusal pot weights amounts ≡ number → number ≢ 0 → HostDivided pot weights amounts amounts number
  unfolding host_memory
  refused number e d =
      record {
        answer = let z : number ≡ host_divide_refusal pot weights amounts + 256 * 0 = omega arith in z;
        lent = rw (ne_eqb (host_divide_refusal pot weights amounts) 0 (λ z. d (sym e ∙ z)));
      }

  pub divide_uneven : is_uneven (length weights) (length amounts) ≡ true → host_divide_refusal pot weights amounts ≡ 1
  unfolding host_divide_refusal
  divide_uneven e = ap (λ t. cond t 1 (divide_refusal pot (numbers weights) (length amounts / 8))) e

  pub divide_many : WholeWords weights amounts → most_weights < length weights / 8 → host_divide_refusal pot weights amounts ≡ 1
  divide_many w h = refusal_even w ∙ laws.many_weights pot (numbers weights) (length amounts / 8) (rw length_numbers h)

  pub check_uneven : is_uneven (length weights) (length amounts) ≡ true → 1 ≡ host_verdict pot weights amounts
  unfolding host_verdict
  check_uneven e = sym (ap (λ t. cond t 1 (verdict_word (verdict pot (numbers weights) (numbers amounts)))) e)

  -- the check's answer in one word
  pub said : WholeWords weights amounts → (v : Verdict) → v ≡ verdict pot (numbers weights) (numbers amounts)
      → verdict_word v ≡ host_verdict pot weights amounts
  unfolding host_verdict
  said w v e =
      ap verdict_word e
      ∙ sym (ap (λ t. cond t 1 (verdict_word (verdict pot (numbers weights) (numbers amounts)))) (even weights amounts w))

  pub check_many : WholeWords weights amounts → most_weights < length weights / 8 → 1 ≡ host_verdict pot weights amounts
  check_many w h = said w (Refused 1) (sym (verdicts.check_many_weights pot (numbers weights) (numbers amounts) (rw length_numbers h)))

  pub check_unlike : WholeWords weights amounts → length weights / 8 ≤ most_weights → length amounts ≢ length weights → 1 ≡ host_verdict pot weights amounts
  check_unlike w few d =
      said w (Refused 1)
      (sym (verdicts.check_unlike pot (numbers weights) (numbers amounts) (rw length_numbers few)
      (λ e. d (let words : length amounts / 8 ≡ length weights / 8 = sym (length_numbers amounts) ∙ e ∙ length_numbers weights in
      omega (arith, w.these_whole, w.those_whole)))))

  -- lengths that a call does not take: each of the two ways is COUNT, of a division ..
  pub divide_count : (is_uneven (length weights) (length amounts) ≡ true) ⊎ (WholeWords weights amounts × (most_weights < length weights / 8))
      → HostDivided pot weights amounts amounts 1
  divide_count why =
      ⊎_elim
      (λ (e : is_uneven (length weights) (length amounts) ≡ true). refused 1 (divide_uneven e) (λ z. omega arith))
      (λ (m : WholeWords weights amounts × (most_weights < length weights / 8)). refused 1 (divide_many m.0 m.1) (λ z. omega arith))
      why

  -- .. and of a check
  pub check_count : (is_uneven (length weights) (length amounts) ≡ true) ⊎ (WholeWords weights amounts × (most_weights < length weights / 8))
      → 1 ≡ host_verdict pot weights amounts
  check_count why =
      ⊎_elim
      (λ (e : is_uneven (length weights) (length amounts) ≡ true). check_uneven e)
      (λ (m : WholeWords weights amounts × (most_weights < length weights / 8)). check_many m.0 m.1)
      why

  -- what the division of the numbers leaves in as much room as 64 weights can want
  module _ (w : WholeWords weights amounts) (few : length weights / 8 ≤ most_weights) (room : ℕ) (is-room : room ≡ min (length amounts / 8) 64)
      (out out' : List ℕ) (long : length out ≡ room) (r : ℕ) (made : Divided pot (numbers weights) out out' r)
    where
      pub number_is : host_divide_refusal pot weights amounts ≡ r
      number_is =
          refusal_even w
          ∙ sym (laws.enough_room pot (numbers weights) (length amounts / 8) (rw length_numbers few))
          ∙ ap (divide_refusal pot (numbers weights)) (sym (long ∙ is-room))
          ∙ sym made.number

      pub fits : r ≡ 0 → 8 * (length weights / 8) ≤ length amounts
      fits e =
          let inside : length (numbers weights) ≤ length out = (laws.divide_accepted pot (numbers weights) (length out) (sym made.number ∙ e)).1 in
          let words : length (numbers weights) ≡ length weights / 8 = length_numbers weights in
          omega arith

      pub shares_first : r ≡ 0 → (rest : List ℕ) → take (length weights / 8) (out' ++ rest) ≡ shares pot (numbers weights)
      shares_first e rest =
          ap (λ l. take (length weights / 8) (l ++ rest)) (made.lent ∙ laws.memory_accepted pot (numbers weights) out (sym made.number ∙ e))
          ∙ ap (take (length weights / 8)) (append_assoc (shares pot (numbers weights)) (drop (length (numbers weights)) out) rest)
          ∙ take_at (shares pot (numbers weights)) (drop (length (numbers weights)) out ++ rest) (length weights / 8)
          (laws.length_shares pot (numbers weights) ∙ length_numbers weights)

      pub divided : r ≡ 0 → (after : List ℕ)
          → after ≡ bytes_of (shares pot (numbers weights)) ++ drop (8 * length (shares pot (numbers weights))) amounts
          → HostDivided pot weights amounts after 0
      unfolding host_memory
      divided e after stored =
          let accepted : host_divide_refusal pot weights amounts ≡ 0 = number_is ∙ e in
          let words : 8 * length (shares pot (numbers weights)) ≡ length weights =
          ap (λ n. 8 * n) (laws.length_shares pot (numbers weights) ∙ length_numbers weights)
          ∙ (let whole : 8 * (length weights / 8) ≡ length weights = omega (arith, w.these_whole) in whole) in
          record {
            answer = let z : 0 ≡ host_divide_refusal pot weights amounts + 256 * 0 = omega arith in z;
            lent =
                stored
                ∙ ap (λ n. bytes_of (shares pot (numbers weights)) ++ drop n amounts) words
                ∙ sym (ap (λ t. cond t (bytes_of (shares pot (numbers weights)) ++ drop (length weights) amounts) amounts) (eq-eqb (host_divide_refusal pot weights amounts) 0 accepted));
          }
