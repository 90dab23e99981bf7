-- From the columns to the lent words: what is written row by row is what the paper says, and so is what is left where a division
-- is refused.
-- Assumes nothing.
use mathlib.Core.Path.{◌≡◌, sym, ap, ◌∙◌, subst}
use mathlib.Core.Logic.{◌≢◌}
use mathlib.Core.List.{List}
use Prim.Native.Nat.{ℕ, ◌*◌, ◌/◌, ◌%◌, ◌<◌}
use native.Mathlib.Nat.{mod-lt, div-lt_iff_lt-mul}
use native.Mathlib.Omega.{arith}
use lib.ListN.{length}
use borrow.Author.Tests.{ne_eqb}
use Rattle.lists.specs.Entries.{put}
use Rattle.lists.proofs.Entries.{put_eq}
use Rattle.answer.specs.declared.Answer.{Answer}
use Rattle.answer.specs.Turns.{accepted}
use Rattle.answer.proofs.Turns.{then_first, then_second}
use Rattle.tables.specs.declared.Head.{Head}
use Rattle.tables.specs.declared.Table.TheVariants.{Owners, Accounts}
use Rattle.tables.specs.Shape.{limit, charge_width, credit_width, Tables}
use Rattle.month.specs.declared.Month.{Month}
use Rattle.judgement.specs.Judgement as outcome
use Rattle.judgement.specs.Judgement.{judged, month_in, judged_as}
use Rattle.judgement.proofs.Judging.{judged_good}
use Rattle.judgement.proofs.Outcomes.{good_told, refused_told}
use Rattle.pool.specs.Input.{Input, month_of, owner_count, account_count}
use Rattle.settlement.specs.Accepted.{GoodInput}
use Rattle.settlement.specs.Settled.{laid, divisions_in_turn, answer_of, charge_of, credit_of, charge_words, credit_words, Settled}
use Rattle.settlement.specs.Steps.{month_with, Settleable, BlockHolds, MonthDivided, word_in, GoodSettled}
use Rattle.settlement.proofs.Ranges.{settleable}

-- what is laid out of a block that holds figures is the figures, laid end to end; how many rows there are comes from a call
laid_out : (n width stride : ℕ) (figure : ℕ → ℕ → ℕ) → 0 < width → (block before : List ℕ) {found : ℕ} {after : List ℕ} → found ≡ n
    → BlockHolds n width figure stride block → after ≡ put (found * width) (laid width (word_in stride block)) before
    → after ≡ put (n * width) (laid width figure) before
laid_out n width stride figure some block before {found} e hold written =
    written
    ∙ ap (λ k. put (k * width) (laid width (word_in stride block)) before) e
    ∙ put_eq (n * width) (laid width (word_in stride block)) (laid width figure) before
    (λ k b. (hold (k % width) (mod-lt k some)).words (k / width) ((div-lt_iff_lt-mul some).1 b))

-- so what is left in the lent words of an accepted month is what the paper says
pub settled_accepted : (m : Input) {accounts owners charges credits : List ℕ} {r : Answer} → MonthDivided m accounts owners r → r ≡ accepted
    → {charges_after credits_after : List ℕ} {accountcount ownercount : ℕ} → accountcount ≡ account_count m → ownercount ≡ owner_count m
    → charges_after ≡ put (accountcount * charge_width) (laid charge_width (word_in (limit Accounts) accounts)) charges
    → credits_after ≡ put (ownercount * credit_width) (laid credit_width (word_in (limit Owners) owners)) credits
    → GoodSettled m charges charges_after credits credits_after accepted
unfolding charge_words credit_words
settled_accepted m {accounts} {owners} {charges} {credits} divided fine e f charged credited =
    let held = divided.columns (ap (λ (a : Answer). a.number) fine) in
    record {
      answer = sym fine ∙ divided.answer;
      charges_lent = laid_out (account_count m) charge_width (limit Accounts) (charge_of m) (omega arith) accounts charges e held.charges charged;
      credits_lent = laid_out (owner_count m) credit_width (limit Owners) (credit_of m) (omega arith) owners credits f held.credits credited;
    }

-- the whole answer: what the judgement refuses, and what comes of a month that it hands on
module _ (head : Head) (t : Tables) (charges credits : List ℕ) where
  abbrev judgement : Answer
  judgement = judged head t (length charges) (length credits)

  pub all_refused : {r : Answer} → judged_as head t (length charges) (length credits) ≡ outcome.Refused r → Settled (month_of head t) charges charges credits credits r
  unfolding answer_of
  all_refused {r} e =
      let told = refused_told (month_in head) judgement r e in
      let bad : r.number ≢ 0 = λ z. told.0 (ap (λ (a : Answer). a.number) told.1 ∙ z) in
      record {
        answer = sym told.1 ∙ sym (then_first judgement (divisions_in_turn (month_of head t)) told.0);
        charges_lent = rw (ne_eqb r.number 0 bad);
        credits_lent = rw (ne_eqb r.number 0 bad);
      }

  module _ (month : Month) (handed : judged_as head t (length charges) (length credits) ≡ outcome.Good month) where
    told : (judgement.number ≡ 0) × (month ≡ month_in head)
    told = good_told (month_in head) month judgement handed

    same_month : month_with month head t ≡ month_of head t
    same_month = ap (λ k. month_with k head t) told.1

    pub handed_on : GoodInput (month_of head t) (length charges) (length credits)
    handed_on = judged_good head t (length charges) (length credits) told.0

    pub can_settle : Settleable (month_with month head t)
    can_settle = subst Settleable (sym same_month) (settleable (month_of head t) (length charges) (length credits) handed_on)

    pub all_settled : {charges_after credits_after : List ℕ} {r : Answer} → GoodSettled (month_with month head t) charges charges_after credits credits_after r
        → Settled (month_of head t) charges charges_after credits credits_after r
    unfolding answer_of
    all_settled {charges_after} {credits_after} {r} settled =
        let s : GoodSettled (month_of head t) charges charges_after credits credits_after r =
        subst (λ m. GoodSettled m charges charges_after credits credits_after r) same_month settled in
        record {
          answer = s.answer ∙ sym (then_second judgement (divisions_in_turn (month_of head t)) told.0);
          charges_lent = s.charges_lent;
          credits_lent = s.credits_lent;
        }
