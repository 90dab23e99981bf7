-- The loop over the groups: at its start nothing is divided, each turn adds one group's shares, a refusal is the first one, and
-- at the end the column holds what each member has in all.
-- Assumes nothing.
use Rattle.std.specs.Prelude.{Result, Err}
use mathlib.Core.Path.{◌≡◌, sym, ap, ◌∙◌}
use mathlib.Core.Logic.{⊎_elim}
use mathlib.Core.List.{List}
use Prim.Native.Nat.{ℕ, ◌+◌, ◌*◌, ◌≤◌, ◌<◌}
use native.Mathlib.Nat.{le_trans, le_of_eq, le_antisymm}
use native.Mathlib.Numerals.{add-one}
use native.Mathlib.Omega.{arith}
use lib.ListN.{length, replicate, get_or-replicate}
use borrow.Author.Tests.{eq-eqb}
use Rattle.lists.specs.Sums.{sum_to, at}
use Rattle.lists.specs.Entries.{put}
use Rattle.lists.proofs.Sums.{last_or_below, sum_none, sum_suc, sum_le, sum_const}
use Rattle.lists.proofs.Entries.{length_listed, length_put, at_put}
use Rattle.answer.specs.declared.Refusal.{Refusal}
use Rattle.answer.specs.declared.Refused.{Refused}
use Rattle.answer.specs.declared.Part.TheVariants.{Divisions}
use Rattle.answer.specs.Numbers.{DIVISIONS}
use Rattle.answer.specs.Turns.{accepted, refuse}
use Rattle.answer.specs.Results.{refused_answer, result_number, place_result}
use Rattle.answer.proofs.Results.{refused_some}
use Rattle.answer.proofs.Turns.{refuse_none, refuse_number, turns_none, turns_stop}
use Rattle.division.specs.Limits.{most_weights, pot_limit}
use Rattle.division.proofs.Laws.{share_fits}
use Rattle.groups.specs.Groups.{Pots, among, weights_in, amount, amount_in_all, group_refusal, groups_in_turn, most_groups}
use Rattle.groups.specs.Columns.{Addable, Added}
use Rattle.groups.specs.Steps.{Summed, GoneThrough}
use Rattle.groups.proofs.Placing.{placed_some, placed_refuses}

pub length_weights : (p : Pots) (z : ℕ) → length (weights_in p z) ≡ p.members
unfolding weights_in among
length_weights p z = length_listed p.members _

-- no amount of a group that is not refused is above the limit of a pot
pub amount_fits : (p : Pots) (z : ℕ) → group_refusal p z ≡ 0 → (i : ℕ) → amount p z i ≤ pot_limit
unfolding group_refusal amount
amount_fits p z e i = share_fits (p.pot z) (weights_in p z) e i

-- a column of zeros
pub summed_none : (p : Pots) → p.members ≤ most_weights → Summed p 0 (replicate most_weights 0)
summed_none p few =
    record {
      few = few;
      long = few;
      fine = λ y b. absurd (omega arith);
      sums = λ i b. get_or-replicate most_weights i 0 0 (le_trans b few) ∙ sym (sum_none (λ y. amount p y i));
    }

module _ {p : Pots} {z : ℕ} {column : List ℕ} (s : Summed p z column) where
  -- there is room for one pot more
  pub summed_room : z ≤ most_groups → Addable p.members column
  summed_room h =
      record {
        few = s.few;
        long = s.long;
        room = λ i b.
            let most : sum_to z (λ y. amount p y i) ≤ z * pot_limit =
            le_trans
            (sum_le z (λ y. amount p y i) (λ y. pot_limit) (λ y l. amount_fits p y (s.fine y l) i))
            (le_of_eq (sum_const z pot_limit)) in
            omega (arith, s.sums i b);
      }

  -- one group more, whose shares are added
  pub summed_more : (after : List ℕ) (number : ℕ) → Added (p.pot z) (weights_in p z) column after number → number ≡ 0
      → Summed p (z + 1) after
  unfolding group_refusal amount
  summed_more after number a e =
      let stored : after ≡ put p.members (λ i. at column i + amount p z i) column =
      a.lent ∙ (rw (eq-eqb number 0 e)) ∙ ap (λ n. put n (λ i. at column i + amount p z i) column) (length_weights p z) in
      record {
        few = s.few;
        long = le_trans s.long (le_of_eq (sym (ap length stored ∙ length_put p.members _ column)));
        fine = λ y b.
            ⊎_elim
            (λ (q : y ≡ z). ap (group_refusal p) q ∙ sym a.number ∙ e)
            (λ (l : y < z). s.fine y l)
            (last_or_below z y (rw add-one at b));
        sums = λ i b.
            ap (λ l. at l i) stored
            ∙ at_put p.members _ column s.long i b
            ∙ ap (λ n. n + amount p z i) (s.sums i b)
            ∙ sym (sum_suc z (λ y. amount p y i));
      }

  none_before : (place : ℕ) → (y : ℕ) → y < z → refuse (group_refusal p y) DIVISIONS (place + y) ≡ accepted
  none_before place y b = refuse_none (group_refusal p y) DIVISIONS (place + y) (s.fine y b)

  -- group z is the first that is refused
  pub summed_stop : (place : ℕ) → z < p.groups → (after : List ℕ) (divided : Result (Unit {0}) Refusal) (r : Refused)
      → Added (p.pot z) (weights_in p z) column after (result_number divided)
      → Err r ≡ place_result divided Divisions (place + z) → GoneThrough p place after (refused_answer r)
  unfolding groups_in_turn group_refusal
  summed_stop place b after divided r a e =
      let bad = placed_some divided Divisions (place + z) r e in
      record {
        answers =
            placed_refuses divided Divisions (place + z) r e
            ∙ ap (λ n. refuse n DIVISIONS (place + z)) a.number
            ∙ sym
            (turns_stop (λ y. refuse (group_refusal p y) DIVISIONS (place + y)) p.groups z b (none_before place)
            (λ o. bad (a.number ∙ sym (refuse_number (group_refusal p z) DIVISIONS (place + z)) ∙ o)));
        long = λ o. absurd (refused_some r o);
        values = λ o. absurd (refused_some r o);
      }

  -- all groups are divided
  pub summed_all : (place : ℕ) → p.groups ≤ z → z ≤ p.groups → GoneThrough p place column accepted
  unfolding groups_in_turn amount_in_all
  summed_all place h k =
      let e : z ≡ p.groups = le_antisymm k h in
      record {
        answers = sym (turns_none (λ y. refuse (group_refusal p y) DIVISIONS (place + y)) p.groups (λ y b. none_before place y (rw e b)));
        long = λ n. s.long;
        values = λ n i b. s.sums i b ∙ ap (λ k. sum_to k (λ y. amount p y i)) e;
      }
