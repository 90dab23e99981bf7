-- Pots that agree in every member and every group have the same amounts and the same answer. So what a call says of lists that
-- were filled from a month it says of the month.
-- Assumes nothing.
use mathlib.Core.Path.{◌≡◌, ap, ap₂, ◌∙◌}
use mathlib.Core.Bool.{cond}
use mathlib.Core.List.{List}
use Prim.Native.Nat.{ℕ, ◌+◌, ◌<◌}
use lib.Dec.{eqb}
use Rattle.lists.specs.Sums.{sum_to, at, total, when}
use Rattle.lists.specs.Entries.{listed, put}
use Rattle.lists.proofs.Sums.{sum_eq}
use Rattle.lists.proofs.Entries.{length_listed, at_listed, listed_eq, put_eq}
use Rattle.answer.specs.declared.Answer.{Answer}
use Rattle.answer.specs.Numbers.{DIVISIONS}
use Rattle.answer.specs.Turns.{refuse, turns}
use Rattle.answer.proofs.Turns.{turns_eq}
use Rattle.division.specs.Limits.{size_refusal}
use Rattle.division.specs.Shares.{shares}
use Rattle.groups.specs.Groups.{among, Pots, weights_in, amount, amount_in_all, group_refusal, groups_in_turn, pots_of}
use Rattle.groups.specs.Columns.{ColumnWritten}

-- what is written, where the values and the answer are the same
pub same_written : {n : ℕ} {f : ℕ → ℕ} {answer : Answer} {before after : List ℕ} {r : Answer} → ColumnWritten n f answer before after r
    → {m : ℕ} {g : ℕ → ℕ} {other : Answer} → n ≡ m → ((i : ℕ) → i < n → f i ≡ g i) → answer ≡ other → ColumnWritten m g other before after r
same_written {n} {f} {answer} {before} {after} {r} w {m} {g} {other} e v a =
    record {
      answers = w.answers ∙ a;
      lent = w.lent ∙ ap (λ l. cond (eqb r.number 0) l before) (put_eq n f g before v ∙ ap (λ k. put k g before) e);
    }

pub record Same (p q : Pots) : Type 0 where
  pub same_members : p.members ≡ q.members
  pub same_group : (i : ℕ) → i < p.members → p.group_of i ≡ q.group_of i
  pub same_weight : (i : ℕ) → i < p.members → p.weight i ≡ q.weight i
  pub same_groups : p.groups ≡ q.groups
  pub same_number : (z : ℕ) → z < p.groups → p.group_number z ≡ q.group_number z
  pub same_pot : (z : ℕ) → z < p.groups → p.pot z ≡ q.pot z

module _ {p q : Pots} (s : Same p q) where
  pub same_weights : (z : ℕ) → z < p.groups → weights_in p z ≡ weights_in q z
  unfolding weights_in among
  same_weights z b =
      listed_eq p.members _ (λ i. when (eqb (q.group_of i) (q.group_number z)) (q.weight i))
      (λ i h. ap₂ when (ap₂ eqb (s.same_group i h) (s.same_number z b)) (s.same_weight i h))
      ∙ ap (λ n. listed n (λ i. when (eqb (q.group_of i) (q.group_number z)) (q.weight i))) s.same_members

  pub same_amount : (z i : ℕ) → z < p.groups → amount p z i ≡ amount q z i
  unfolding amount
  same_amount z i b = ap₂ (λ pot l. at (shares pot l) i) (s.same_pot z b) (same_weights z b)

  pub same_amounts : (i : ℕ) → amount_in_all p i ≡ amount_in_all q i
  unfolding amount_in_all
  same_amounts i =
      sum_eq p.groups (λ z. amount p z i) (λ z. amount q z i) (λ z b. same_amount z i b)
      ∙ ap (λ n. sum_to n (λ z. amount q z i)) s.same_groups

  pub same_refusal : (z : ℕ) → z < p.groups → group_refusal p z ≡ group_refusal q z
  unfolding group_refusal
  same_refusal z b = ap₂ (λ pot l. size_refusal pot (total l)) (s.same_pot z b) (same_weights z b)

  pub same_turn : (place : ℕ) → groups_in_turn p place ≡ groups_in_turn q place
  unfolding groups_in_turn
  same_turn place =
      turns_eq _ (λ z. refuse (group_refusal q z) DIVISIONS (place + z)) p.groups
      (λ z b. ap (λ n. refuse n DIVISIONS (place + z)) (same_refusal z b))
      ∙ ap (turns (λ z. refuse (group_refusal q z) DIVISIONS (place + z))) s.same_groups

-- the lists that a caller fills from its pots
pub filled : (p : Pots)
    → Same
    (pots_of (listed p.groups p.pot) (listed p.groups p.group_number) (listed p.members p.weight)
    (listed p.members p.group_of))
    p
filled p =
    record {
      same_members = length_listed p.members p.weight;
      same_group = λ i b. at_listed p.members p.group_of i (rw length_listed at b);
      same_weight = λ i b. at_listed p.members p.weight i (rw length_listed at b);
      same_groups = length_listed p.groups p.group_number;
      same_number = λ z b. at_listed p.groups p.group_number z (rw length_listed at b);
      same_pot = λ z b. at_listed p.groups p.pot z (rw length_listed at b);
    }
