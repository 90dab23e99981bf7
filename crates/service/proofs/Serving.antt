-- The non-zone pot's division after the zones, and the charges that come of both.
-- Assumes nothing.
use Rattle.std.specs.Prelude.{Ok, Err}
use mathlib.Core.Path.{◌≡◌, refl, sym, ap, ap₂, ◌∙◌, subst}
use mathlib.Core.List.{List}
use Prim.Native.Nat.{ℕ, ◌+◌, ◌≤◌, ◌<◌}
use native.Mathlib.Nat.{le_trans, le_of_eq}
use lib.ListN.{length}
use borrow.Author.Tests.{eq-eqb}
use Rattle.lists.specs.Sums.{at, total}
use Rattle.lists.specs.Entries.{listed, put}
use Rattle.lists.proofs.Entries.{listed_at, length_listed, length_put, at_put}
use Rattle.answer.specs.declared.Answer.{Answer}
use Rattle.answer.specs.declared.Refused.{Refused}
use Rattle.answer.specs.Results.{refused_answer}
use Rattle.answer.proofs.Results.{refused_some}
use Rattle.answer.specs.Numbers.{DIVISIONS}
use Rattle.answer.specs.Turns.{refuse, turns}
use Rattle.answer.proofs.Turns.{then_first, then_second, refuse_number}
use Rattle.division.specs.Limits.{size_refusal}
use Rattle.division.specs.Shares.{shares}
use Rattle.groups.specs.Groups.{amount_in_all, most_groups}
use Rattle.groups.specs.Columns.{Addable, Added}
use Rattle.groups.proofs.Summing.{summed_room}
use Rattle.service.specs.Service.{Service, nonzone_pot, nonzone_parts, nonzone_share, account_charge}
use Rattle.service.specs.Turn.{nonzone_refusal, nonzone_place, zone_turn, service_in_turn}
use Rattle.service.specs.Steps.{Charged, AllZones, AllCharged}

-- the list of non-zone parts, where there is one for each account
pub parts_are : (s : Service) (parts : List ℕ) → length parts ≡ s.accounts → at parts ≡ s.nonzone_part → parts ≡ nonzone_parts s
unfolding nonzone_parts
parts_are s parts e f = sym (listed_at parts) ∙ ap₂ listed e f

-- a zone is refused
pub zone_stops : {s : Service} {place : ℕ} {sums : List ℕ} (r : Refused) → AllZones s place sums (Err r) → AllCharged s place sums (refused_answer r)
unfolding service_in_turn
zone_stops {s} {place} {sums} r zones =
    record {
      answers =
          zones.answer
          ∙ sym
          (then_first (turns (zone_turn s place) s.zones) _
          (λ e. refused_some r (ap (λ (a : Answer). a.number) zones.answer ∙ e)));
      long = λ o. absurd (refused_some r o);
      values = λ o. absurd (refused_some r o);
    }

-- the zones are charged, and their non-zone sides are `nonzone`
module _ {s : Service} {place : ℕ} {sums : List ℕ} {nonzone : ℕ} (zones : AllZones s place sums (Ok nonzone)) where
  all : Charged s s.zones nonzone sums
  all = zones.charged nonzone refl

  pub room_for_nonzone : (n : ℕ) → n ≡ s.accounts → s.zones ≤ most_groups → Addable n sums
  room_for_nonzone n e h = subst (λ k. Addable k sums) (sym e) (summed_room all.summed h)

  module _ (parts : List ℕ) (p : parts ≡ nonzone_parts s) (after : List ℕ) (refusal : ℕ) (a : Added nonzone parts sums after refusal)
    where
      as_many : length parts ≡ s.accounts
      unfolding nonzone_parts
      as_many = ap length p ∙ length_listed s.accounts s.nonzone_part

      pot_is : nonzone ≡ nonzone_pot s
      unfolding nonzone_pot
      pot_is = all.nonzone_sides

      number_is : refusal ≡ nonzone_refusal s
      unfolding nonzone_refusal
      number_is = a.number ∙ ap₂ (λ q l. size_refusal q (total l)) pot_is p

      added : refusal ≡ 0 → after ≡ put s.accounts (λ i. at sums i + at (shares nonzone parts) i) sums
      added none =
          a.lent
          ∙ (rw (eq-eqb refusal 0 none))
          ∙ ap (λ n. put n (λ i. at sums i + at (shares nonzone parts) i) sums) as_many

      charged : refusal ≡ 0 → (i : ℕ) → i < s.accounts → at after i ≡ account_charge s i
      unfolding account_charge nonzone_share amount_in_all
      charged none i b =
          ap (λ l. at l i) (added none)
          ∙ at_put s.accounts _ sums all.summed.long i b
          ∙ ap₂ ◌+◌ (all.summed.sums i b) (ap₂ (λ q l. at (shares q l) i) pot_is p)

      -- the non-zone pot's division has the answer
      pub nonzone_ends : (answer : Answer) → answer ≡ refuse refusal DIVISIONS (nonzone_place place s)
          → AllCharged s place after answer
      unfolding service_in_turn
      nonzone_ends answer e =
          let number : answer.number ≡ refusal =
          ap (λ (q : Answer). q.number) e ∙ refuse_number refusal DIVISIONS (nonzone_place place s) in
          record {
            answers =
                e
                ∙ ap (λ n. refuse n DIVISIONS (nonzone_place place s)) number_is
                ∙ sym (then_second (turns (zone_turn s place) s.zones) _ (ap (λ (q : Answer). q.number) (sym zones.answer)));
            long = λ o.
                le_trans all.summed.long
                (le_of_eq (sym (ap length (added (sym number ∙ o)) ∙ length_put s.accounts _ sums)));
            values = λ o. charged (sym number ∙ o);
          }
