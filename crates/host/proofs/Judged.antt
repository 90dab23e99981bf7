-- What the check's call answers tells what the check says of the numbers: 256, 0 and the refusals' numbers, 1 to 9, all differ.
-- Assumes nothing.
use mathlib.Core.Path.{◌≡◌, refl, sym, ap, ◌∙◌, subst}
use mathlib.Core.Logic.{◌⊎◌, ⊎_elim, ◌↔◌, ◌≢◌}
use mathlib.Core.List.{List}
use Prim.Native.Nat.{ℕ, ◌/◌, ◌%◌, ◌≤◌}
use native.Mathlib.Omega.{arith}
use lib.ListN.{length, take}
use Rattle.lists.specs.Sums.{total}
use Rattle.answer.specs.Numbers.{BASE}
use Rattle.closeness.specs.Closeness.{Closest}
use Rattle.verdict.specs.Check.{Verdict, Yes, No, Refused, verdict, yes, no, neither, meaning}
use Rattle.verdict.specs.Refused.{FineCheck}
use Rattle.verdict.proofs.Laws as verdicts
use Rattle.words.specs.Words.{WholeWords, numbers}
use Rattle.words.proofs.Whole as lent
use Rattle.host.specs.Calls.{host_divide_refusal, host_memory, HostDivided, verdict_word, host_verdict}
use Rattle.host.specs.Refused.{HostCheckRefused, by_uneven, by_numbers}
use Rattle.host.proofs.Calls as calls
use Rattle.host.proofs.Reading as reading

-- the word of each thing that a check says ..
yes_word : (v : Verdict) → (meaning v).says ≡ yes → verdict_word v ≡ 256
yes_word Yes s = refl
yes_word No s = let z : ◌≡◌ {A = ℕ} 0 1 = cc in absurd (omega arith)
yes_word (Refused n) s = let z : ◌≡◌ {A = ℕ} 0 1 = cc in absurd (omega arith)

no_word : (v : Verdict) → (meaning v).says ≡ no → verdict_word v ≡ 0
no_word Yes s = let z : ◌≡◌ {A = ℕ} 0 1 = cc in absurd (omega arith)
no_word No s = refl
no_word (Refused n) s = let z : ◌≡◌ {A = ℕ} 0 1 = cc in absurd (omega arith)

neither_word : (v : Verdict) (n : ℕ) → ((meaning v).says ≡ neither) × ((meaning v).number ≡ n) → verdict_word v ≡ n
neither_word Yes n s = let z : ◌≡◌ {A = ℕ} 0 1 = cc in absurd (omega arith)
neither_word No n s = let z : ◌≡◌ {A = ℕ} 0 1 = cc in absurd (omega arith)
neither_word (Refused m) n s = omega arith

-- .. and back
word_yes : (v : Verdict) → (meaning v).number ≤ BASE → verdict_word v ≡ 256 → (meaning v).says ≡ yes
word_yes Yes small e = refl
word_yes No small e = absurd (omega arith)
word_yes (Refused n) small e = absurd (omega arith)

word_no : (v : Verdict) → ((meaning v).says ≡ neither → (meaning v).number ≢ 0) → verdict_word v ≡ 0 → (meaning v).says ≡ no
word_no Yes some e = absurd (omega arith)
word_no No some e = refl
word_no (Refused n) some e = absurd (some refl (omega arith))

word_neither : (v : Verdict) (n : ℕ) → verdict_word v ≡ n → n ≢ 0 → n ≢ 256 → ((meaning v).says ≡ neither) × ((meaning v).number ≡ n)
word_neither Yes n e d o = absurd (o (sym e))
word_neither No n e d o = absurd (d (sym e))
word_neither (Refused m) n e d o = (refl, omega arith)

module _ (pot : ℕ) (weights amounts : List ℕ) where
  pub uneven : (length weights % 8 ≢ 0) ⊎ (length amounts % 8 ≢ 0) → host_verdict pot weights amounts ≡ 1
  uneven d = sym (calls.check_uneven pot weights amounts (lent.uneven weights amounts d))

  -- an answer other than COUNT is of whole words
  whole : (n : ℕ) → host_verdict pot weights amounts ≡ n → n ≢ 1 → WholeWords weights amounts
  whole n e d = ⊎_elim (λ (w : WholeWords weights amounts). w) (λ o. absurd (d (sym e ∙ uneven o))) (lent.whole_or_not weights amounts)

  judged : WholeWords weights amounts → host_verdict pot weights amounts ≡ verdict_word (verdict pot (numbers weights) (numbers amounts))
  judged w = sym (calls.said pot weights amounts w (verdict pot (numbers weights) (numbers amounts)) refl)

  pub yes_exactly : (host_verdict pot weights amounts ≡ 256)
      ↔ ((length weights % 8 ≡ 0) × (length amounts % 8 ≡ 0) × FineCheck pot (numbers weights) (numbers amounts)
      × (total (numbers amounts) ≡ pot) × Closest pot (numbers weights) (numbers amounts))
  yes_exactly =
      let said = verdict pot (numbers weights) (numbers amounts) in (
        (λ e.
            let w = whole 256 e (λ q. omega arith) in
            let closest =
            (verdicts.yes_exactly pot (numbers weights) (numbers amounts)).0
            (word_yes said (verdicts.check_number pot (numbers weights) (numbers amounts)) (sym (judged w) ∙ e)) in
            (w.these_whole, w.those_whole, closest.0, closest.1, closest.2)),
        λ c.
            judged (record { these_whole = c.0; those_whole = c.1 })
            ∙ yes_word said ((verdicts.yes_exactly pot (numbers weights) (numbers amounts)).1 (c.2, c.3, c.4)),
      )

  pub no_exactly : (host_verdict pot weights amounts ≡ 0)
      ↔ ((length weights % 8 ≡ 0) × (length amounts % 8 ≡ 0) × FineCheck pot (numbers weights) (numbers amounts)
      × (¬ ((total (numbers amounts) ≡ pot) × Closest pot (numbers weights) (numbers amounts))))
  no_exactly =
      let said = verdict pot (numbers weights) (numbers amounts) in
      let some : (meaning said).says ≡ neither → (meaning said).number ≢ 0 =
      λ s.
      (verdicts.refused_number pot (numbers weights) (numbers amounts) (meaning said).number
      ((verdicts.refused_exactly pot (numbers weights) (numbers amounts) (meaning said).number).0 (s, refl))).0 in (
        (λ e.
            let w = whole 0 e (λ q. omega arith) in
            let other = (verdicts.no_exactly pot (numbers weights) (numbers amounts)).0 (word_no said some (sym (judged w) ∙ e)) in
            (w.these_whole, w.those_whole, other.0, other.1)),
        λ c.
            judged (record { these_whole = c.0; those_whole = c.1 })
            ∙ no_word said ((verdicts.no_exactly pot (numbers weights) (numbers amounts)).1 (c.2, c.3)),
      )

  -- so 256 is the check's yes to the numbers ..
  pub says_yes : host_verdict pot weights amounts ≡ 256 → (meaning (verdict pot (numbers weights) (numbers amounts))).says ≡ yes
  says_yes e =
      let c = yes_exactly.0 e in
      (verdicts.yes_exactly pot (numbers weights) (numbers amounts)).1 (c.2, c.3, c.4)

  pub yes_said : WholeWords weights amounts → (meaning (verdict pot (numbers weights) (numbers amounts))).says ≡ yes → host_verdict pot weights amounts ≡ 256
  yes_said w s = judged w ∙ yes_word (verdict pot (numbers weights) (numbers amounts)) s

  -- .. and any other answer but 0 a refusal
  refused_back : (n : ℕ) → HostCheckRefused pot weights amounts n → (host_verdict pot weights amounts ≡ n) × (n ≢ 0) × (n ≢ 256)
  refused_back n (by_uneven e d) = (uneven d ∙ sym e, (λ z. omega arith), λ z. omega arith)
  refused_back n (by_numbers e f why) =
      let fits = verdicts.refused_number pot (numbers weights) (numbers amounts) n why in
      let most : n ≤ BASE = fits.1 in (
        judged (record { these_whole = e; those_whole = f })
            ∙ neither_word (verdict pot (numbers weights) (numbers amounts)) n ((verdicts.refused_exactly pot (numbers weights) (numbers amounts) n).1 why),
        fits.0,
        λ z. omega arith,
      )

  pub refused_exactly : (n : ℕ) → ((host_verdict pot weights amounts ≡ n) × (n ≢ 0) × (n ≢ 256)) ↔ HostCheckRefused pot weights amounts n
  refused_exactly n = (
    (λ p.
        ⊎_elim
        (λ (w : WholeWords weights amounts).
        by_numbers w.these_whole w.those_whole
        ((verdicts.refused_exactly pot (numbers weights) (numbers amounts) n).0
        (word_neither (verdict pot (numbers weights) (numbers amounts)) n (sym (judged w) ∙ p.0) p.1 p.2)))
        (λ d. by_uneven (sym p.0 ∙ uneven d) d)
        (lent.whole_or_not weights amounts)),
    refused_back n,
  )

-- the first bytes that an accepted division leaves are as many as the weights', and read as the shares
pub divisions_pass : (pot : ℕ) (weights before after : List ℕ) (r : ℕ) → HostDivided pot weights before after r → r ≡ 0
    → host_verdict pot weights (take (length weights) after) ≡ 256
divisions_pass pot weights before after r d z =
    let accepted : host_divide_refusal pot weights before ≡ 0 = omega (arith, d.answer) in
    let first = take (length weights) (host_memory pot weights before) in
    let even = (reading.whole pot weights before accepted).these_whole in
    let shared : (meaning (verdict pot (numbers weights) (numbers first))).says ≡ yes =
    subst (λ l. (meaning (verdict pot (numbers weights) l)).says ≡ yes) (sym (reading.shares_in_bytes pot weights before accepted))
    (verdicts.divisions_pass pot (numbers weights) (length before / 8) (reading.looked pot weights before accepted).1) in
    ap (λ l. host_verdict pot weights (take (length weights) l)) d.lent
    ∙ judged pot weights first
    (record { these_whole = even; those_whole = ap (λ n. n % 8) (reading.as_many_bytes pot weights before accepted) ∙ even })
    ∙ yes_word (verdict pot (numbers weights) (numbers first)) shared
