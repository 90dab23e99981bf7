-- What follows from the definitions of the groups, for crates above to cite: an accepted pot is divided without loss among its
-- group's members, and dividing among a group is dividing among its members alone.
-- Assumes nothing.
use mathlib.Core.Path.{◌≡◌, sym, ap, ◌∙◌}
use mathlib.Core.Logic.{⊎_elim, ◌≢◌}
use mathlib.Core.Bool.{true, false}
use Prim.Native.Nat.{ℕ, ◌+◌, ◌<◌}
use borrow.Author.Tests.{ne_eqb, eqb-true}
use Rattle.lists.specs.Sums.{sum_to, at, total, when, count}
use Rattle.lists.specs.Entries.{kept}
use Rattle.lists.proofs.Sums.{sum_eq, sum_zero, sum_swap, sum_one, when_true, when_false, when_zero}
use Rattle.lists.proofs.Ranks.{true_or_false}
use Rattle.lists.proofs.Members.{kept_eq}
use Rattle.answer.specs.declared.Answer.{Answer}
use Rattle.answer.specs.Numbers.{DIVISIONS}
use Rattle.answer.specs.Turns.{accepted, refuse, turns}
use Rattle.answer.proofs.Turns.{refuse_none, refuse_some, refuse_number, turns_none, turns_all, turns_refused, StoppedAt}
use Rattle.division.specs.Limits.{size_refusal}
use Rattle.division.specs.Shares.{shares}
use Rattle.groups.specs.Groups.{among, Pots, weights_in, is_member, alone, amount, amount_in_all, group_refusal, groups_in_turn}
use Rattle.groups.proofs.Members.{listed_add_up, listed_none, total_alone, share_alone}

-- one group's division that is not refused
module _ (p : Pots) (z : ℕ) (fine : group_refusal p z ≡ 0) where
  -- its pot is fully divided
  pub pot_divided : sum_to p.members (amount p z) ≡ p.pot z
  unfolding group_refusal amount weights_in among
  pot_divided = listed_add_up (p.pot z) p.members _ fine

  -- who is no member of the group has nothing from it
  pub others_none : (i : ℕ) → i < p.members → is_member p z i ≡ false → amount p z i ≡ 0
  unfolding group_refusal amount weights_in among
  others_none i b m = listed_none (p.pot z) p.members _ fine i b (when_false (is_member p z i) (p.weight i) m)

  -- who has no weight has nothing
  pub weightless_none : (i : ℕ) → i < p.members → p.weight i ≡ 0 → amount p z i ≡ 0
  unfolding group_refusal amount weights_in among
  weightless_none i b e = listed_none (p.pot z) p.members _ fine i b (when_zero (is_member p z i) (p.weight i) e)

  -- the group's members have all of its pot
  pub members_have_all : sum_to p.members (λ i. when (is_member p z i) (amount p z i)) ≡ p.pot z
  members_have_all =
      sum_eq p.members (λ i. when (is_member p z i) (amount p z i)) (amount p z)
      (λ i b.
      ⊎_elim
      (λ (m : is_member p z i ≡ true). when_true (is_member p z i) (amount p z i) m)
      (λ (m : is_member p z i ≡ false). when_zero (is_member p z i) (amount p z i) (others_none i b m) ∙ sym (others_none i b m))
      (true_or_false (is_member p z i)))
      ∙ pot_divided

-- dividing among a group is dividing among its members alone
module _ (p : Pots) (z : ℕ) where
  masked : ℕ → ℕ
  masked i = when (is_member p z i) (p.weight i)

  not_members : (i : ℕ) → i < p.members → is_member p z i ≡ false → masked i ≡ 0
  unfolding masked
  not_members i b m = when_false (is_member p z i) (p.weight i) m

  unmasked : kept p.members (is_member p z) masked ≡ alone p z
  unfolding masked alone
  unmasked =
      kept_eq p.members (is_member p z) masked p.weight (λ i b m. when_true (is_member p z i) (p.weight i) m)

  -- the paper's words: a member's amount is its share where the group's members are a list of their own, at its place there ..
  pub amount_alone : group_refusal p z ≡ 0 → (i : ℕ) → i < p.members → is_member p z i ≡ true
      → amount p z i ≡ at (shares (p.pot z) (alone p z)) (count i (is_member p z))
  unfolding group_refusal amount weights_in among masked
  amount_alone fine i b m =
      share_alone p.members masked (is_member p z) not_members (p.pot z) fine i b m
      ∙ ap (λ l. at (shares (p.pot z) l) (count i (is_member p z))) unmasked

  -- .. and the division is refused as that one is
  pub refusal_alone : group_refusal p z ≡ size_refusal (p.pot z) (total (alone p z))
  unfolding group_refusal weights_in among masked
  refusal_alone =
      ap (size_refusal (p.pot z)) (total_alone p.members masked (is_member p z) not_members ∙ ap total unmasked)

-- all groups' divisions
module _ (p : Pots) (fine : (z : ℕ) → z < p.groups → group_refusal p z ≡ 0) where
  -- what all have is all pots
  pub pots_divided : sum_to p.members (amount_in_all p) ≡ sum_to p.groups p.pot
  unfolding amount_in_all
  pots_divided =
      sum_swap p.members p.groups (λ i z. amount p z i)
      ∙ sum_eq p.groups (λ z. sum_to p.members (amount p z)) p.pot (λ z b. pot_divided p z (fine z b))

  -- a member of group z, where no other group has its number, has what it has from its own group
  pub from_own_group : (i z : ℕ) → i < p.members → z < p.groups → is_member p z i ≡ true
      → ((y : ℕ) → y < p.groups → y ≢ z → p.group_number y ≢ p.group_number z) → amount_in_all p i ≡ amount p z i
  unfolding amount_in_all
  from_own_group i z b l m distinct =
      sum_one p.groups (λ y. amount p y i) z l
      (λ y h d.
      others_none p y (fine y h) i b
      (ne_eqb (p.group_of i) (p.group_number y)
      (λ e. distinct y h d (sym e ∙ eqb-true (p.group_of i) (p.group_number z) m))))

  -- who has no weight, and who is in no group, has nothing
  pub weightless_none_at_all : (i : ℕ) → i < p.members → p.weight i ≡ 0 → amount_in_all p i ≡ 0
  unfolding amount_in_all
  weightless_none_at_all i b e = sum_zero p.groups (λ z. amount p z i) (λ z h. weightless_none p z (fine z h) i b e)

  pub groupless_none : (i : ℕ) → i < p.members → ((z : ℕ) → z < p.groups → is_member p z i ≡ false) → amount_in_all p i ≡ 0
  unfolding amount_in_all
  groupless_none i b none = sum_zero p.groups (λ z. amount p z i) (λ z h. others_none p z (fine z h) i b (none z h))

-- nothing is refused exactly where no group's division is ..
pub accepted_all : (p : Pots) (place : ℕ) → (groups_in_turn p place).number ≡ 0 → (z : ℕ) → z < p.groups → group_refusal p z ≡ 0
unfolding groups_in_turn
accepted_all p place e z b =
    sym (refuse_number (group_refusal p z) DIVISIONS (place + z))
    ∙ turns_all (λ y. refuse (group_refusal p y) DIVISIONS (place + y)) p.groups e z b

pub all_accepted : (p : Pots) (place : ℕ) → ((z : ℕ) → z < p.groups → group_refusal p z ≡ 0) → groups_in_turn p place ≡ accepted
unfolding groups_in_turn
all_accepted p place fine =
    turns_none (λ y. refuse (group_refusal p y) DIVISIONS (place + y)) p.groups
    (λ y b. refuse_none (group_refusal p y) DIVISIONS (place + y) (fine y b))

-- .. and a refusal is that of the first group whose division is
pub record RefusedGroup (p : Pots) (place : ℕ) (r : Answer) : Type 0 where
  pub group : ℕ
  pub one_of_them : group < p.groups
  pub its_number : r.number ≡ group_refusal p group
  pub its_table : r.table ≡ DIVISIONS
  pub its_place : r.row ≡ place + group
  pub earlier_fine : (y : ℕ) → y < group → group_refusal p y ≡ 0

pub refused_at : (p : Pots) (place : ℕ) → (groups_in_turn p place).number ≢ 0 → RefusedGroup p place (groups_in_turn p place)
unfolding groups_in_turn
refused_at p place bad =
    let stopped : StoppedAt judge p.groups (turns judge p.groups) = turns_refused judge p.groups bad in
    let z : ℕ = stopped.turn in
    let number : (turns judge p.groups).number ≡ group_refusal p z =
    ap (λ (a : Answer). a.number) stopped.its ∙ refuse_number (group_refusal p z) DIVISIONS (place + z) in
    let whole : turns judge p.groups ≡ record { number = group_refusal p z; table = DIVISIONS; row = place + z } =
    stopped.its ∙ refuse_some (group_refusal p z) DIVISIONS (place + z) (λ e. bad (number ∙ e)) in
    record {
      group = z;
      one_of_them = stopped.within;
      its_number = number;
      its_table = ap (λ (a : Answer). a.table) whole;
      its_place = ap (λ (a : Answer). a.row) whole;
      earlier_fine = λ y b. sym (refuse_number (group_refusal p y) DIVISIONS (place + y)) ∙ stopped.earlier y b;
    }
  where
    judge : ℕ → Answer
    judge y = refuse (group_refusal p y) DIVISIONS (place + y)
