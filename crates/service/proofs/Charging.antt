-- One zone's split and share, and the loop over the zones: at its start nothing is charged, each turn charges one zone, and a
-- refusal is the first one.
-- Assumes nothing.
use Rattle.std.specs.Prelude.{Result, Ok, Err}
use mathlib.Core.Path.{◌≡◌, refl, sym, ap, ap₂, ◌∙◌, subst, subst₂}
use mathlib.Core.Logic.{⊎_elim}
use mathlib.Core.List.{List, [], ◌∷◌}
use Prim.Native.Nat.{ℕ, ◌+◌, ◌*◌, ◌≤◌, ◌<◌, min}
use native.Mathlib.Nat.{le_trans, le_of_eq, le_antisymm, min-eq_left, le_of_suc-le-suc}
use native.Mathlib.Numerals.{add-one}
use native.Mathlib.Omega.{arith}
use lib.ListN.{length}
use Rattle.lists.specs.Sums.{sum_to, at, total}
use Rattle.lists.proofs.Sums.{last_or_below, sum_none, sum_suc, sum_le, sum_const}
use Rattle.answer.specs.declared.Answer.{Answer}
use Rattle.answer.specs.Numbers.{DIVISIONS, refusal_number}
use Rattle.answer.specs.declared.Refusal.{Refusal}
use Rattle.answer.specs.declared.Part.TheVariants.{Divisions}
use Rattle.answer.specs.declared.Refused.{Refused}
use Rattle.answer.specs.Turns.{accepted, refuse, ◌then◌}
use Rattle.answer.specs.Results.{Answers, refused_answer, result_number, place_result}
use Rattle.answer.proofs.Results.{refused_some}
use Rattle.answer.proofs.Turns.{then_first, then_second, then_none, refuse_none, refuse_number, turns_none, turns_stop}
use Rattle.division.specs.Limits.{pot_limit, size_refusal}
use Rattle.division.specs.Shares.{shares}
use Rattle.division.proofs.Laws.{share_fits}
use Rattle.groups.specs.Groups.{among, weights_in, group_refusal}
use Rattle.groups.specs.Columns.{Added}
use Rattle.groups.specs.Steps.{Summed}
use Rattle.groups.proofs.Placing.{placed_found, placed_refuses}
use Rattle.groups.proofs.Summing.{summed_more}
use Rattle.service.specs.Service.{Service, service_of, zone_use, nonzone_use, both_uses, zone_side, nonzone_side, zone_sides}
use Rattle.service.specs.Turn.{split_refusal, share_refusal, split_place, share_place, zone_turn, ServiceTogether}
use Rattle.service.specs.Steps.{Split, OneZone, Charged, AllZones}
use Rattle.service.specs.declared.Sides.{Sides}

-- a pot in two: refused, or with both sides
pub split_none : {pot : ℕ} {uses : List ℕ} (r : Refusal) → refusal_number r ≡ size_refusal pot (total uses) → Split pot uses (Err r)
split_none r e = record { number = e; zone_side_lem = λ s o. cc; nonzone_side_lem = λ s o. cc }

pub split_cut : {pot : ℕ} {uses : List ℕ} (sides : Sides) → 0 ≡ size_refusal pot (total uses)
    → sides.zone ≡ at (shares pot uses) 0 → sides.nonzone ≡ at (shares pot uses) 1 → Split pot uses (Ok sides)
split_cut sides e zone nonzone =
    record {
      number = e;
      zone_side_lem = λ s o. let same : sides ≡ s = cc in ap (λ (x : Sides). x.zone) (sym same) ∙ zone;
      nonzone_side_lem = λ s o. let same : sides ≡ s = cc in ap (λ (x : Sides). x.nonzone) (sym same) ∙ nonzone;
    }

-- one zone, whose split is `cut`
module _ {pot : ℕ} {uses : List ℕ} {cut : Result Sides Refusal} (split : Split pot uses cut) (weights : List ℕ) (place : ℕ) where
  split_turn : Answer
  split_turn = refuse (size_refusal pot (total uses)) DIVISIONS place

  share_turn : Answer
  share_turn = refuse (size_refusal (at (shares pot uses) 0) (total weights)) DIVISIONS (place + 1)

  -- the split is refused
  pub split_refused : (column : List ℕ) (r : Refused) → Err r ≡ place_result cut Divisions place
      → OneZone pot uses weights place column column (Err r)
  unfolding split_turn share_turn
  split_refused column r e =
      let whole = placed_refuses cut Divisions place r e ∙ ap (λ n. refuse n DIVISIONS place) split.number in
      record {
        answer = whole ∙ sym (then_first split_turn share_turn (λ o. refused_some r (ap (λ (a : Answer). a.number) whole ∙ o)));
        added = λ nonzone o. cc;
        nonzone_side_lem = λ nonzone o. cc;
      }

  -- the split is fine: the share answers
  module _ (sides : Sides) (found : Ok sides ≡ place_result cut Divisions place) (before after : List ℕ) (shared : Result (Unit {0}) Refusal)
      (a : Added sides.zone weights before after (result_number shared))
    where
      the_cut : cut ≡ Ok sides
      the_cut = placed_found cut Divisions place sides found

      to_share : (split_turn then share_turn) ≡ refuse (result_number shared) DIVISIONS (place + 1)
      unfolding split_turn share_turn
      to_share =
          then_second split_turn share_turn
          (refuse_number (size_refusal pot (total uses)) DIVISIONS place ∙ sym split.number ∙ ap result_number the_cut)
          ∙ ap (λ n. refuse n DIVISIONS (place + 1)) (sym (a.number ∙ ap (λ side. size_refusal side (total weights)) (split.zone_side_lem sides the_cut)))

      pub share_refused : (r : Refused) → Err r ≡ place_result shared Divisions (place + 1)
          → OneZone pot uses weights place before after (Err r)
      unfolding split_turn share_turn
      share_refused r e =
          record {
            answer = placed_refuses shared Divisions (place + 1) r e ∙ sym to_share;
            added = λ nonzone o. cc;
            nonzone_side_lem = λ nonzone o. cc;
          }

      pub split_shared : (x : Unit {0}) → Ok x ≡ place_result shared Divisions (place + 1)
          → OneZone pot uses weights place before after (Ok sides.nonzone)
      unfolding split_turn share_turn
      split_shared x e =
          let fine : result_number shared ≡ 0 = ap result_number (placed_found shared Divisions (place + 1) x e) in
          record {
            answer = sym (to_share ∙ refuse_none (result_number shared) DIVISIONS (place + 1) fine);
            added = λ nonzone o. subst₂ (λ side n. Added side weights before after n) (split.zone_side_lem sides the_cut) fine a;
            nonzone_side_lem = λ nonzone o. let same : sides.nonzone ≡ nonzone = cc in sym same ∙ split.nonzone_side_lem sides the_cut;
          }

-- one zone of a service
abbrev pub Zone : Service → ℕ → ℕ → List ℕ → List ℕ → Result ℕ Refused → Type 0
Zone s place z before after r = OneZone (s.pot z) (both_uses s) (weights_in (zone_sides s) z) (split_place place z) before after r

-- .. by the two uses that the code adds up
module _ {pots numbers zoneparts nonzoneparts zones : List ℕ} (t : ServiceTogether pots numbers zoneparts nonzoneparts zones)
    {zone nonzone : ℕ} (e : zone ≡ min (total zoneparts) 18_446_744_073_709_551_615)
    (f : nonzone ≡ min (total nonzoneparts) 18_446_744_073_709_551_615)
  where
    uses_are : (zone ∷ nonzone ∷ []) ≡ both_uses (service_of pots numbers zoneparts nonzoneparts zones)
    unfolding both_uses zone_use nonzone_use
    uses_are =
        ap₂ (λ x y. x ∷ y ∷ [])
        (e ∙ min-eq_left (le_of_suc-le-suc t.zone_use_lem))
        (f ∙ min-eq_left (le_of_suc-le-suc t.nonzone_use_lem) ∙ ap (λ n. sum_to n (at nonzoneparts)) t.both_parts)

    pub zone_by_uses : (place z : ℕ) (before after : List ℕ) (r : Result ℕ Refused)
        → OneZone (at pots z) (zone ∷ nonzone ∷ []) (among (length zoneparts) (at zones) (at zoneparts) (at numbers z)) (place + 2 * z) before after r
        → Zone (service_of pots numbers zoneparts nonzoneparts zones) place z before after r
    unfolding weights_in
    zone_by_uses place z before after r o =
        subst
        (λ u. OneZone (at pots z) u (among (length zoneparts) (at zones) (at zoneparts) (at numbers z)) (place + 2 * z) before after r)
        uses_are o

zone_answer : (s : Service) (place z : ℕ) (before after : List ℕ) (r : Result ℕ Refused) → Zone s place z before after r
    → Answers r (zone_turn s place z)
unfolding zone_turn split_refusal share_refusal group_refusal zone_side
zone_answer s place z before after r o = o.answer

pub charged_none : (s : Service) (column : List ℕ) → Summed (zone_sides s) 0 column → Charged s 0 0 column
charged_none s column start =
    record { summed = start; splits = λ y b. absurd (omega arith); nonzone_sides = sym (sum_none (nonzone_side s)) }

-- a zone whose two divisions are fine
pub fine_turn : (s : Service) (place z : ℕ) → (zone_turn s place z).number ≡ 0 → (split_refusal s z ≡ 0) × (share_refusal s z ≡ 0)
unfolding zone_turn
fine_turn s place z e =
    let parts = then_none (refuse (split_refusal s z) DIVISIONS (split_place place z)) (refuse (share_refusal s z) DIVISIONS (share_place place z)) e in (
      sym (refuse_number (split_refusal s z) DIVISIONS (split_place place z)) ∙ parts.0,
      sym (refuse_number (share_refusal s z) DIVISIONS (share_place place z)) ∙ parts.1,
    )

pub turn_fine : (s : Service) (place z : ℕ) → split_refusal s z ≡ 0 → share_refusal s z ≡ 0 → zone_turn s place z ≡ accepted
unfolding zone_turn
turn_fine s place z e f =
    then_second (refuse (split_refusal s z) DIVISIONS (split_place place z)) (refuse (share_refusal s z) DIVISIONS (share_place place z))
    (refuse_number (split_refusal s z) DIVISIONS (split_place place z) ∙ e)
    ∙ refuse_none (share_refusal s z) DIVISIONS (share_place place z) f

nonzone_side_fits : (s : Service) (z : ℕ) → split_refusal s z ≡ 0 → nonzone_side s z ≤ pot_limit
unfolding split_refusal nonzone_side
nonzone_side_fits s z e = share_fits (s.pot z) (both_uses s) e 1

module _ {s : Service} {z nonzone : ℕ} {column : List ℕ} (so_far : Charged s z nonzone column) where
  -- the non-zone sides so far leave room for one more
  pub nonzone_fits : nonzone ≤ z * pot_limit
  nonzone_fits =
      le_trans (le_of_eq so_far.nonzone_sides)
      (le_trans (sum_le z (nonzone_side s) (λ y. pot_limit) (λ y b. nonzone_side_fits s y (so_far.splits y b)))
      (le_of_eq (sum_const z pot_limit)))

  fine_before : (place y : ℕ) → y < z → zone_turn s place y ≡ accepted
  unfolding share_refusal
  fine_before place y b = turn_fine s place y (so_far.splits y b) (so_far.summed.fine y b)

  -- zone z is charged, and its non-zone side is `side`
  module _ (place : ℕ) (after : List ℕ) (side : ℕ) (one : Zone s place z column after (Ok side)) where
    turn_passes : (split_refusal s z ≡ 0) × (share_refusal s z ≡ 0)
    turn_passes = fine_turn s place z (ap (λ (a : Answer). a.number) (sym (zone_answer s place z column after (Ok side) one)))

    pub charged_more : Charged s (z + 1) (nonzone + side) after
    unfolding nonzone_side zone_side
    charged_more =
        record {
          summed = summed_more so_far.summed after 0 (one.added side refl) refl;
          splits = λ y b.
              ⊎_elim
              (λ (q : y ≡ z). ap (split_refusal s) q ∙ turn_passes.0)
              (λ (l : y < z). so_far.splits y l)
              (last_or_below z y (rw add-one at b));
          nonzone_sides = ap₂ ◌+◌ so_far.nonzone_sides (one.nonzone_side_lem side refl) ∙ sym (sum_suc z (nonzone_side s));
        }

    pub nonzone_next : side ≤ pot_limit
    unfolding nonzone_side
    nonzone_next = le_trans (le_of_eq (one.nonzone_side_lem side refl)) (nonzone_side_fits s z turn_passes.0)

  -- zone z is the first that is refused
  pub charged_stop : (place : ℕ) (after : List ℕ) (r : Refused) → Zone s place z column after (Err r) → z < s.zones
      → AllZones s place after (Err r)
  charged_stop place after r one b =
      let turn : refused_answer r ≡ zone_turn s place z = zone_answer s place z column after (Err r) one in
      record {
        answer =
            turn
            ∙ sym
            (turns_stop (zone_turn s place) s.zones z b (fine_before place)
            (λ e. refused_some r (ap (λ (a : Answer). a.number) turn ∙ e)));
        charged = λ n e. cc;
      }

  pub charged_all : (place : ℕ) → s.zones ≤ z → z ≤ s.zones → AllZones s place column (Ok nonzone)
  charged_all place h k =
      let e : z ≡ s.zones = le_antisymm k h in
      record {
        answer = sym (turns_none (zone_turn s place) s.zones (λ y b. fine_before place y (rw e b)));
        charged = λ n o. subst₂ (λ k m. Charged s k m column) e (let same : nonzone ≡ n = cc in same) so_far;
      }
