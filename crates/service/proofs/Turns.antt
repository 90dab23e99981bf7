-- A service is accepted exactly where every division of it is fine, and a refusal is that of the first that is not.
-- Assumes nothing.
use mathlib.Core.Path.{◌≡◌, refl, sym, ap, ◌∙◌, subst}
use mathlib.Core.Logic.{◌⊎◌, ◌↔◌, ⊎_elim, ◌≢◌}
use Prim.Native.Nat.{ℕ, ◌<◌}
use native.Mathlib.Omega.{arith}
use Rattle.lists.specs.Sums.{total}
use Rattle.answer.specs.declared.Answer.{Answer}
use Rattle.answer.specs.Numbers.{BIG, BASE, DIVISIONS}
use Rattle.answer.specs.Turns.{accepted, refuse, turns}
use Rattle.answer.specs.Turns as answer
use Rattle.answer.proofs.Turns.{zero_or_not, then_first, then_second, then_none, refuse_none, refuse_some, refuse_number, turns_none, turns_all, turns_stop, turns_refused, StoppedAt}
use Rattle.division.specs.Limits.{pot_limit, weight_limit}
use Rattle.division.specs.Refused.{SizeRefused, by_big, by_base}
use Rattle.division.proofs.Laws.{size_why, why_size}
use Rattle.groups.specs.Groups.{weights_in, group_refusal}
use Rattle.service.specs.Service.{Service, both_uses, zone_side, zone_sides, nonzone_pot, nonzone_parts}
use Rattle.service.specs.Turn.{
  split_refusal,
  share_refusal,
  nonzone_refusal,
  split_place,
  share_place,
  nonzone_place,
  zone_turn,
  service_in_turn,
  ServiceFine,
  FineBefore,
  RefusedAt,
  at_split,
  at_share,
  at_nonzone,
}
use Rattle.service.proofs.Charging.{fine_turn, turn_fine}
use Rattle.service.proofs.Laws.{split_exactly, share_exactly, nonzone_exactly, splits_pass, shares_pass, nonzone_passes, zone_side_fits, share_fine_or_base, nonzone_fine_or_big}

-- what a number of a division says in plain words
only_big : {pot w n : ℕ} → SizeRefused pot w n → n ≡ BIG → (pot_limit < pot) ⊎ (weight_limit < w)
only_big (by_big e over) q = over
only_big (by_base e fits some none) q = absurd (omega arith)

only_base : {pot w n : ℕ} → SizeRefused pot w n → n ≡ BASE → (0 < pot) × (w ≡ 0)
only_base (by_big e over) q = absurd (omega arith)
only_base (by_base e fits some none) q = (some, none)

module _ (s : Service) where
  split_why : (z : ℕ) → split_refusal s z ≢ 0 → SizeRefused (s.pot z) (total (both_uses s)) (split_refusal s z)
  unfolding split_refusal
  split_why z d = size_why (s.pot z) (total (both_uses s)) _ refl d

  split_is : (z n : ℕ) → SizeRefused (s.pot z) (total (both_uses s)) n → split_refusal s z ≡ n
  unfolding split_refusal
  split_is z n why = (why_size (s.pot z) (total (both_uses s)) n why).0

  -- a share has no base exactly where there is a zone side and no zone part to divide it by
  pub share_base : (z : ℕ) → share_refusal s z ≡ BASE → (0 < zone_side s z) × (total (weights_in (zone_sides s) z) ≡ 0)
  unfolding share_refusal group_refusal
  share_base z e = only_base (size_why (zone_side s z) (total (weights_in (zone_sides s) z)) BASE e (omega arith)) refl

  pub share_is : (z : ℕ) → split_refusal s z ≡ 0 → 0 < zone_side s z → total (weights_in (zone_sides s) z) ≡ 0 → share_refusal s z ≡ BASE
  unfolding share_refusal group_refusal
  share_is z fine some none =
      (why_size (zone_side s z) (total (weights_in (zone_sides s) z)) BASE (by_base refl (zone_side_fits s z fine) some none)).0

  nonzone_big : nonzone_refusal s ≡ BIG → (pot_limit < nonzone_pot s) ⊎ (weight_limit < total (nonzone_parts s))
  unfolding nonzone_refusal
  nonzone_big e = only_big (size_why (nonzone_pot s) (total (nonzone_parts s)) BIG e (omega arith)) refl

  nonzone_is : (pot_limit < nonzone_pot s) ⊎ (weight_limit < total (nonzone_parts s)) → nonzone_refusal s ≡ BIG
  unfolding nonzone_refusal
  nonzone_is over = (why_size (nonzone_pot s) (total (nonzone_parts s)) BIG (by_big refl over)).0

module _ (s : Service) (place : ℕ) where
  -- zones whose turns pass are fine, and the other way round
  turns_fine : (z : ℕ) → ((y : ℕ) → y < z → (zone_turn s place y).number ≡ 0) → FineBefore s z
  turns_fine z pass =
      record {
        splits = λ y b. (split_exactly s y).0 (fine_turn s place y (pass y b)).0;
        shares = λ y b. (share_exactly s y).0 (fine_turn s place y (pass y b)).1;
      }

  zones_fine : (turns (zone_turn s place) s.zones).number ≡ 0 → FineBefore s s.zones
  zones_fine e = turns_fine s.zones (turns_all (zone_turn s place) s.zones e)

  zones_pass : (z : ℕ) → FineBefore s z → (y : ℕ) → y < z → zone_turn s place y ≡ accepted
  zones_pass z before y b = turn_fine s place y (splits_pass before y b) (shares_pass before y b)

  pub accepted_fine : (service_in_turn s place).number ≡ 0 → ServiceFine s
  unfolding service_in_turn
  accepted_fine e =
      let parts = then_none (turns (zone_turn s place) s.zones) (refuse (nonzone_refusal s) DIVISIONS (nonzone_place place s)) e in
      record {
        zones_fine = zones_fine parts.0;
        nonzone_fine = (nonzone_exactly s).0 (sym (refuse_number (nonzone_refusal s) DIVISIONS (nonzone_place place s)) ∙ parts.1);
      }

  pub fine_accepted : ServiceFine s → service_in_turn s place ≡ accepted
  unfolding service_in_turn
  fine_accepted a =
      then_second (turns (zone_turn s place) s.zones) _
      (ap (λ (r : Answer). r.number) (turns_none (zone_turn s place) s.zones (zones_pass s.zones a.zones_fine)))
      ∙ refuse_none (nonzone_refusal s) DIVISIONS (nonzone_place place s) (nonzone_passes a)

  -- the two divisions of a zone that is refused
  zone_refused : (z : ℕ) → z < s.zones → FineBefore s z → (r : Answer) → r ≡ zone_turn s place z → r.number ≢ 0 → RefusedAt s place r
  unfolding zone_turn
  zone_refused z b before r e bad =
      ⊎_elim
      (λ (fine : split_refusal s z ≡ 0).
      let share : r ≡ refuse (share_refusal s z) DIVISIONS (share_place place z) =
      e ∙ then_second (refuse (split_refusal s z) DIVISIONS (split_place place z)) _
      (refuse_number (split_refusal s z) DIVISIONS (split_place place z) ∙ fine) in
      let number : share_refusal s z ≢ 0 =
      λ o. bad (ap (λ (a : Answer). a.number) share ∙ refuse_number (share_refusal s z) DIVISIONS (share_place place z) ∙ o) in
      ⊎_elim
      (λ (o : share_refusal s z ≡ 0). absurd (number o))
      (λ (o : share_refusal s z ≡ BASE).
      let why = share_base s z o in
      at_share z b before ((split_exactly s z).0 fine) why.0 why.1
      (share ∙ ap (λ n. refuse n DIVISIONS (share_place place z)) o ∙ refuse_some BASE DIVISIONS (share_place place z) (omega arith)))
      (share_fine_or_base s z fine))
      (λ (o : split_refusal s z ≢ 0).
      at_split z (split_refusal s z) b before (split_why s z o)
      (e
      ∙ then_first (refuse (split_refusal s z) DIVISIONS (split_place place z)) _
      (λ n. o (sym (refuse_number (split_refusal s z) DIVISIONS (split_place place z)) ∙ n))
      ∙ refuse_some (split_refusal s z) DIVISIONS (split_place place z) o))
      (zero_or_not (split_refusal s z))

  pub refused_where : (service_in_turn s place).number ≢ 0 → RefusedAt s place (service_in_turn s place)
  unfolding service_in_turn
  refused_where bad =
      ⊎_elim
      (λ (fine : (turns (zone_turn s place) s.zones).number ≡ 0).
      let before : FineBefore s s.zones = zones_fine fine in
      let last : service_in_turn s place ≡ refuse (nonzone_refusal s) DIVISIONS (nonzone_place place s) =
      then_second (turns (zone_turn s place) s.zones) _ fine in
      let number : nonzone_refusal s ≢ 0 =
      λ o. bad (ap (λ (a : Answer). a.number) last ∙ refuse_number (nonzone_refusal s) DIVISIONS (nonzone_place place s) ∙ o) in
      ⊎_elim
      (λ (o : nonzone_refusal s ≡ 0). absurd (number o))
      (λ (o : nonzone_refusal s ≡ BIG).
      at_nonzone before (nonzone_big s o)
      (last ∙ ap (λ n. refuse n DIVISIONS (nonzone_place place s)) o ∙ refuse_some BIG DIVISIONS (nonzone_place place s) (omega arith)))
      (nonzone_fine_or_big s (splits_pass before)))
      (λ (o : (turns (zone_turn s place) s.zones).number ≢ 0).
      let stopped : StoppedAt (zone_turn s place) s.zones (turns (zone_turn s place) s.zones) =
      turns_refused (zone_turn s place) s.zones o in
      zone_refused stopped.turn stopped.within
      (turns_fine stopped.turn stopped.earlier)
      (service_in_turn s place)
      (then_first (turns (zone_turn s place) s.zones) _ o ∙ stopped.its)
      bad)
      (zero_or_not (turns (zone_turn s place) s.zones).number)

  -- a reason that is so is what is answered: the zones before pass, and the division that it names does not
  zone_stops : (z : ℕ) → z < s.zones → FineBefore s z → (r : Answer) → zone_turn s place z ≡ r → r.number ≢ 0 → service_in_turn s place ≡ r
  unfolding service_in_turn
  zone_stops z b before r e d =
      let stop : turns (zone_turn s place) s.zones ≡ r =
      turns_stop (zone_turn s place) s.zones z b (zones_pass z before) (λ o. d (ap (λ (a : Answer). a.number) (sym e) ∙ o)) ∙ e in
      then_first (turns (zone_turn s place) s.zones) _ (λ o. d (ap (λ (a : Answer). a.number) (sym stop) ∙ o)) ∙ stop

  split_stops : (z n : ℕ) → split_refusal s z ≡ n → n ≢ 0 → zone_turn s place z ≡ answer.refusal n DIVISIONS (split_place place z)
  unfolding zone_turn
  split_stops z n e d =
      then_first (refuse (split_refusal s z) DIVISIONS (split_place place z)) _
      (λ o. d (sym e ∙ sym (refuse_number (split_refusal s z) DIVISIONS (split_place place z)) ∙ o))
      ∙ ap (λ k. refuse k DIVISIONS (split_place place z)) e
      ∙ refuse_some n DIVISIONS (split_place place z) d

  share_stops : (z n : ℕ) → split_refusal s z ≡ 0 → share_refusal s z ≡ n → n ≢ 0 → zone_turn s place z ≡ answer.refusal n DIVISIONS (share_place place z)
  unfolding zone_turn
  share_stops z n fine e d =
      then_second (refuse (split_refusal s z) DIVISIONS (split_place place z)) _
      (refuse_number (split_refusal s z) DIVISIONS (split_place place z) ∙ fine)
      ∙ ap (λ k. refuse k DIVISIONS (share_place place z)) e
      ∙ refuse_some n DIVISIONS (share_place place z) d

  nonzone_stops : FineBefore s s.zones → nonzone_refusal s ≡ BIG → service_in_turn s place ≡ answer.refusal BIG DIVISIONS (nonzone_place place s)
  unfolding service_in_turn
  nonzone_stops before e =
      then_second (turns (zone_turn s place) s.zones) _
      (ap (λ (a : Answer). a.number) (turns_none (zone_turn s place) s.zones (zones_pass s.zones before)))
      ∙ ap (λ k. refuse k DIVISIONS (nonzone_place place s)) e
      ∙ refuse_some BIG DIVISIONS (nonzone_place place s) (omega arith)

  where_refused : (r : Answer) → RefusedAt s place r → (service_in_turn s place ≡ r) × (r.number ≢ 0)
  where_refused r (at_split z n b before why e) =
      let d : n ≢ 0 = (why_size (s.pot z) (total (both_uses s)) n why).1 in
      let bad : r.number ≢ 0 = λ o. d (sym (ap (λ (a : Answer). a.number) e) ∙ o) in
      (zone_stops z b before r (split_stops z n (split_is s z n why) d ∙ sym e) bad, bad)
  where_refused r (at_share z b before fine some none e) =
      let bad : r.number ≢ 0 = λ o. omega (arith, ap (λ (a : Answer). a.number) e) in
      let passed : split_refusal s z ≡ 0 = (split_exactly s z).1 fine in
      (zone_stops z b before r (share_stops z BASE passed (share_is s z passed some none) (omega arith) ∙ sym e) bad, bad)
  where_refused r (at_nonzone before over e) =
      (nonzone_stops before (nonzone_is s over) ∙ sym e, λ o. omega (arith, ap (λ (a : Answer). a.number) e))

  pub refused_exactly : (r : Answer) → RefusedAt s place r ↔ ((service_in_turn s place ≡ r) × (r.number ≢ 0))
  refused_exactly r = (
    where_refused r,
    λ p. subst (RefusedAt s place) p.0 (refused_where (λ z. p.1 (ap (λ (a : Answer). a.number) (sym p.0) ∙ z))),
  )
