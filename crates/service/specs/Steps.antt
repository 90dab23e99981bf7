-- What functions say among themselves while a service is charged. A reader of the promises needs none of it.
-- Assumes nothing.
use Rattle.std.specs.Prelude.{◌≡◌, List, ℕ, ◌+◌, ◌<◌, Result, Ok}
use Rattle.lists.specs.Sums.{sum_to, at, total}
use Rattle.answer.specs.declared.Answer.{Answer}
use Rattle.answer.specs.declared.Refusal.{Refusal}
use Rattle.answer.specs.declared.Refused.{Refused}
use Rattle.answer.specs.Numbers.{DIVISIONS}
use Rattle.answer.specs.Turns.{refuse, ◌then◌, turns}
use Rattle.answer.specs.Results.{Says, Answers}
use Rattle.division.specs.Limits.{size_refusal}
use Rattle.division.specs.Shares.{shares}
use Rattle.groups.specs.Columns.{Added}
use Rattle.groups.specs.Steps.{Summed, ColumnMade}
use Rattle.service.specs.Service.{Service, nonzone_side, zone_sides, account_charge}
use Rattle.service.specs.Turn.{split_refusal, zone_turn, service_in_turn}
use Rattle.service.specs.declared.Sides.{Sides}

-- a pot in two by two uses
pub record Split (pot : ℕ) (uses : List ℕ) (r : Result Sides Refusal) : Type 0 where
  pub number : Says r (size_refusal pot (total uses))
  pub zone_side_lem : (s : Sides) → r ≡ Ok s → s.zone ≡ at (shares pot uses) 0
  pub nonzone_side_lem : (s : Sides) → r ≡ Ok s → s.nonzone ≡ at (shares pot uses) 1

-- one zone: its pot in two by two uses, its zone side by its accounts' weights, added to the column; the answer is the non-zone side
pub record OneZone (pot : ℕ) (uses weights : List ℕ) (place : ℕ) (before after : List ℕ) (r : Result ℕ Refused) : Type 0 where
  pub answer :
      Answers r
      (refuse (size_refusal pot (total uses)) DIVISIONS place
      then refuse (size_refusal (at (shares pot uses) 0) (total weights)) DIVISIONS (place + 1))
  pub added : (nonzone : ℕ) → r ≡ Ok nonzone → Added (at (shares pot uses) 0) weights before after 0
  pub nonzone_side_lem : (nonzone : ℕ) → r ≡ Ok nonzone → nonzone ≡ at (shares pot uses) 1

-- The first z zones are charged: none was refused, the column holds what each account pays of their zone sides, and the non-zone
-- sides are added up.
pub record Charged (s : Service) (z : ℕ) (nonzone : ℕ) (column : List ℕ) : Type 0 where
  pub summed : Summed (zone_sides s) z column
  pub splits : (y : ℕ) → y < z → split_refusal s y ≡ 0
  pub nonzone_sides : nonzone ≡ sum_to z (nonzone_side s)

-- All zones, charged to a column of zeros.
pub record AllZones (s : Service) (place : ℕ) (after : List ℕ) (r : Result ℕ Refused) : Type 0 where
  pub answer : Answers r (turns (zone_turn s place) s.zones)
  pub charged : (nonzone : ℕ) → r ≡ Ok nonzone → Charged s s.zones nonzone after

-- The whole service, charged to a column of zeros.
abbrev pub AllCharged : Service → ℕ → List ℕ → Answer → Type 0
AllCharged s place after r = ColumnMade s.accounts (account_charge s) (service_in_turn s place) after r
