-- Proofs of the promises: amounts pass exactly where they add up to the pot and no list with that sum lies closer.
-- Assumes nothing.
use mathlib.Core.Path.{◌≡◌, refl, sym, ap, ◌∙◌, subst}
use mathlib.Core.Logic.{◌⊎◌, inl, inr, ⊎_elim, ◌≢◌, ◌↔◌}
use mathlib.Core.Bool.{true, false, true≢false, ◌||◌, not}
use mathlib.Core.List.{List}
use Prim.Native.Nat.{ℕ, ◌+◌, ◌*◌, ◌≤◌, ◌<◌}
use native.Mathlib.Omega.{arith}
use lib.Dec.{ltb, eqb}
use lib.ListN.{length, take, drop, get_or-eq_default}
use lib.Seq.{take_at}
use borrow.Author.Tests.{le-leb, ltb-false, eqb-true, eqb-false, not-false}
use Rattle.lists.specs.Sums.{at, total}
use Rattle.lists.proofs.Sums.{le_sum, sum_zero, every_from, neither as neither-holds}
use Rattle.lists.proofs.Ranks.{lt_or_le, true_or_false}
use Rattle.answer.proofs.Turns.{look_none, zero_or_not}
use Rattle.closeness.specs.Closeness.{apart, distance, squares, Closest, level}
use Rattle.closeness.proofs.Promises.{level_closest, closest_level, level_within_a_cent}
use Rattle.division.specs.Limits.{most_weights, pot_limit, weight_limit, divide_refusal}
use Rattle.division.specs.Shares.{shares, Divided}
use Rattle.division.proofs.Laws as division
use Rattle.verdict.specs.Check.{check_refusal, passes, verdict, yes, no, neither, meaning}
use Rattle.verdict.specs.Refused.{FineCheck, CheckRefused}
use Rattle.verdict.proofs.Verdicts as verdicts
use Rattle.verdict.proofs.Reasons as reasons
use Rattle.verdict.proofs.Sayings as sayings

pub check_accepts : (pot : ℕ) (weights amounts : List ℕ) → (check_refusal pot weights amounts ≡ 0) ↔ FineCheck pot weights amounts
unfolding check_refusal
check_accepts pot weights amounts = (
  (λ e.
      let counts = look_none (ltb most_weights (length weights) || not (eqb (length weights) (length amounts))) 1 _ (λ q. omega arith) e in
      let fine = neither-holds (ltb most_weights (length weights)) (not (eqb (length weights) (length amounts))) counts.0 in
      record {
        few = ltb-false most_weights (length weights) fine.0;
        alike = eqb-true (length weights) (length amounts) (not-false (eqb (length weights) (length amounts)) fine.1);
        sizes = division.sized pot (total weights) counts.1;
      }),
  λ g. verdicts.by_size pot weights amounts g.few (sym g.alike) ∙ division.fits_size pot (total weights) g.sizes,
)

passes_parts : (pot : ℕ) (weights amounts : List ℕ) → passes pot weights amounts ≡ true → (total amounts ≡ pot) × (level pot weights amounts ≡ true)
passes_parts pot weights amounts p =
    ⊎_elim
    (λ (e : eqb (total amounts) pot ≡ true).
    let sum : total amounts ≡ pot = eqb-true (total amounts) pot e in
    (sum, sym (verdicts.right_sum pot weights amounts sum) ∙ p))
    (λ (f : eqb (total amounts) pot ≡ false). absurd (true≢false (sym p ∙ verdicts.wrong_sum pot weights amounts (eqb-false (total amounts) pot f))))
    (true_or_false (eqb (total amounts) pot))

-- where weights and pot are zero, every list is level and no list lies closer than another: all distances are zero
module _ (pot : ℕ) (weights amounts : List ℕ) (z : total weights ≡ 0) (p : pot ≡ 0) where
  no_part : (i : ℕ) → pot * at weights i ≡ 0
  no_part i = let none : pot * at weights i ≡ 0 * at weights i = ap (λ k. k * at weights i) p in omega arith

  no_amount : (i : ℕ) → total weights * at amounts i ≡ 0
  no_amount i = let none : total weights * at amounts i ≡ 0 * at amounts i = ap (λ w. w * at amounts i) z in omega arith

  level_of_none : level pot weights amounts ≡ true
  unfolding level
  level_of_none =
      every_from (length weights) _ (λ i bi. every_from (length weights) _ (λ j bj.
      le-leb (total weights * at amounts i + pot * at weights j) (total weights * at amounts j + pot * at weights i + total weights)
      (omega (arith, no_part j, no_amount i))))

  closest_of_none : Closest pot weights amounts
  unfolding squares distance apart
  closest_of_none =
      let none : squares pot weights amounts ≡ 0 =
      sum_zero (length weights) _
      (λ i b.
      let zero : distance pot weights amounts i ≡ 0 = omega (arith, no_part i, no_amount i) in
      ap (λ d. d * d) zero) in
      record { none_closer = λ others alike sum. omega (arith, none) }

-- the amounts of a check that is not refused pass exactly where they are a closest list
pub passes_exactly : (pot : ℕ) (weights amounts : List ℕ) → FineCheck pot weights amounts
    → (passes pot weights amounts ≡ true) ↔ ((total amounts ≡ pot) × Closest pot weights amounts)
passes_exactly pot weights amounts fine =
    ⊎_elim
    (λ (z : total weights ≡ 0). (
      (λ p. ((passes_parts pot weights amounts p).0, closest_of_none pot weights amounts z (fine.sizes.has_base z))),
      λ c. verdicts.right_sum pot weights amounts c.0 ∙ level_of_none pot weights amounts z (fine.sizes.has_base z),
    ))
    (λ (d : total weights ≢ 0).
    let some : 0 < total weights = omega (arith, d) in (
      (λ p.
          let both = passes_parts pot weights amounts p in
          (both.0, level_closest pot weights amounts some (sym fine.alike) both.0 both.1)),
      λ c. verdicts.right_sum pot weights amounts c.0 ∙ closest_level pot weights amounts some (sym fine.alike) c.0 c.1,
    ))
    (zero_or_not (total weights))

-- a check that is not refused says yes where they are one, and no where they are not
module _ (pot : ℕ) (weights amounts : List ℕ) (fine : FineCheck pot weights amounts) where
  accepted : check_refusal pot weights amounts ≡ 0
  accepted = (check_accepts pot weights amounts).1 fine

  pub fine_yes : ((meaning (verdict pot weights amounts)).says ≡ yes) ↔ ((total amounts ≡ pot) × Closest pot weights amounts)
  fine_yes = (
    (λ s. (passes_exactly pot weights amounts fine).0 (sayings.yes_passed pot weights amounts s).1),
    λ c. sayings.passed_says_yes pot weights amounts accepted ((passes_exactly pot weights amounts fine).1 c),
  )

  pub yes_or_no : ((meaning (verdict pot weights amounts)).says ≡ yes) ⊎ ((meaning (verdict pot weights amounts)).says ≡ no)
  yes_or_no =
      ⊎_elim
      (λ p. inl (sayings.passed_says_yes pot weights amounts accepted p))
      (λ f. inr (sayings.failed_says_no pot weights amounts accepted f))
      (true_or_false (passes pot weights amounts))

  pub fine_no : ((meaning (verdict pot weights amounts)).says ≡ no) ↔ (¬ ((total amounts ≡ pot) × Closest pot weights amounts))
  fine_no = (
    (λ s c. true≢false (sym ((passes_exactly pot weights amounts fine).1 c) ∙ (sayings.no_failed pot weights amounts s).1)),
    λ other. ⊎_elim (λ s. absurd (other (fine_yes.0 s))) (λ s. s) yes_or_no,
  )

-- plain conditions for a check that is not refused
pub within_limits : (pot : ℕ) (weights amounts : List ℕ) → length weights ≤ most_weights → length weights ≡ length amounts
    → pot ≤ pot_limit → total weights ≤ weight_limit → (total weights ≡ 0 → pot ≡ 0) → FineCheck pot weights amounts
within_limits pot weights amounts few alike pot_fits weights_fit base =
    record { few = few; alike = alike; sizes = record { pot_fits = pot_fits; weights_fit = weights_fit; has_base = base } }

-- it says neither, with a number, exactly where it is refused with that number
pub refused_exactly : (pot : ℕ) (weights amounts : List ℕ) (n : ℕ)
    → (((meaning (verdict pot weights amounts)).says ≡ neither) × ((meaning (verdict pot weights amounts)).number ≡ n))
    ↔ CheckRefused pot weights amounts n
refused_exactly pot weights amounts n = (
  (λ s.
      let number : check_refusal pot weights amounts ≡ n = sym (verdicts.its_number pot weights amounts) ∙ s.1 in
      reasons.check_why pot weights amounts n (number, λ z. sayings.neither_refused pot weights amounts s.0 (number ∙ z))),
  λ why.
      let number = reasons.why_check pot weights amounts n why in (
        sayings.refused_says_neither pot weights amounts (λ z. number.1 (sym number.0 ∙ z)),
        verdicts.its_number pot weights amounts ∙ number.0,
      ),
)

pub passed_within_a_cent : (pot : ℕ) (weights amounts : List ℕ) → 0 < total weights → (meaning (verdict pot weights amounts)).says ≡ yes
    → (i : ℕ) → i < length weights → distance pot weights amounts i < total weights
passed_within_a_cent pot weights amounts some s i b =
    let found = sayings.yes_passed pot weights amounts s in
    let both = passes_parts pot weights amounts found.1 in
    level_within_a_cent pot weights amounts some (sym ((check_accepts pot weights amounts).0 found.0).alike) both.0 both.1 i b

pub divisions_pass : (pot : ℕ) (weights : List ℕ) (room : ℕ) → divide_refusal pot weights room ≡ 0
    → (meaning (verdict pot weights (shares pot weights))).says ≡ yes
divisions_pass pot weights room e =
    let good = division.divide_accepted pot weights room e in
    sayings.passed_says_yes pot weights (shares pot weights)
    ((check_accepts pot weights (shares pot weights)).1
    (record { few = good.0; alike = sym (division.length_shares pot weights); sizes = good.2 }))
    (verdicts.right_sum pot weights (shares pot weights) (division.shares_add_up pot weights good.2.has_base)
    ∙ ⊎_elim
    (λ (z : total weights ≡ 0). level_of_none pot weights (shares pot weights) z (good.2.has_base z))
    (λ (d : total weights ≢ 0). division.shares_level pot weights (omega (arith, d)))
    (zero_or_not (total weights)))

-- the words that an accepted division leaves first are the shares
pub written_divisions_pass : (pot : ℕ) (weights before after : List ℕ) (r : ℕ) → Divided pot weights before after r
    → r ≡ 0 → (meaning (verdict pot weights (take (length weights) after))).says ≡ yes
written_divisions_pass pot weights before after r d e =
    let accepted : divide_refusal pot weights (length before) ≡ 0 = sym d.number ∙ e in
    let first : take (length weights) after ≡ shares pot weights =
    ap (take (length weights)) (d.lent ∙ division.memory_accepted pot weights before accepted)
    ∙ take_at (shares pot weights) (drop (length weights) before) (length weights) (division.length_shares pot weights) in
    subst (λ l. (meaning (verdict pot weights l)).says ≡ yes) (sym first) (divisions_pass pot weights (length before) accepted)

-- of no weights and no pot only zeros add up to the pot
pub no_base_no_amounts : (weights amounts : List ℕ) → FineCheck 0 weights amounts → total weights ≡ 0
    → ((meaning (verdict 0 weights amounts)).says ≡ yes) ↔ ((i : ℕ) → at amounts i ≡ 0)
no_base_no_amounts weights amounts fine z = (
  (λ s i.
      let sum : total amounts ≡ 0 = ((fine_yes 0 weights amounts fine).0 s).0 in
      ⊎_elim
      (λ (b : i < length amounts). let most : at amounts i ≤ total amounts = le_sum (length amounts) (at amounts) i b in omega arith)
      (λ (o : length amounts ≤ i). get_or-eq_default amounts 0 o)
      (lt_or_le i (length amounts))),
  λ none.
      (fine_yes 0 weights amounts fine).1
      (sum_zero (length amounts) (at amounts) (λ i b. none i), closest_of_none 0 weights amounts z refl),
)
