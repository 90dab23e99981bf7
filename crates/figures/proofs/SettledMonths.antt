-- Case S and figure B1 of the paper, and figures of zones without requirement and of firm service, as tables of numbers, computed from
-- the definitions.
-- Assumes nothing.
use mathlib.Core.Path.{◌≡◌, refl}
use mathlib.Core.List.{List, [], ◌∷◌, ◌++◌}
use Prim.Native.Nat.{ℕ, ◌^◌}
use Rattle.lists.specs.Sums.{sum_to, sum_where, largest_first, every, any}
use Rattle.lists.specs.Entries.{listed, put}
use Rattle.answer.specs.Turns.{◌then◌, accepted, refuse, first, turns}
use Rattle.division.specs.Limits.{size_refusal}
use Rattle.division.specs.Shares.{quotient, remainder, leftover, comes_before, gets_cent, share, shares}
use Rattle.groups.specs.Groups as groups
use Rattle.service.specs.Service as service
use Rattle.service.specs.Turn as turn
use Rattle.month.specs.Months.{is_month, through, twelfth}
use Rattle.month.specs.Quantities as month
use Rattle.month.specs.Limits.{black_start, reactive}
use Rattle.rows.specs.Rows as rows
use Rattle.tables.specs.declared.Head.{Head}
use Rattle.tables.specs.Shape.{tables_of}
use Rattle.tables.specs.Counts as counts
use Rattle.judgement.specs.Judgement as judgement
use Rattle.pool.specs.Input.{Input, month_of, plain_head, account_count}
use Rattle.pool.specs.Accounts.{contributions, network_use, energy_use}
use Rattle.pool.specs.Network as network
use Rattle.pool.specs.Services as services
use Rattle.firm.specs.Weeks.{week_of, highest}
use Rattle.firm.specs.Firm as firm
use Rattle.settlement.specs.Settled.{network_in_turn, divisions_in_turn, answer_of, charge_of, credit_of, charge_words, credit_words}

-- case S with rows of firm service
abbrev case_s_with : Head → List ℕ → Input
case_s_with head firm =
    month_of head
    (tables_of
    (1 ∷ 365000 ∷ [])
    (1 ∷ 1 ∷ 200 ∷ 2 ∷ 1 ∷ 100 ∷ [])
    (1 ∷ 2 ∷ 1 ∷ 1 ∷ 12000 ∷ 0 ∷ [])
    (1 ∷ 70 ∷ 1 ∷ 2 ∷ 71 ∷ 0 ∷ [])
    (1 ∷ 1 ∷ 10 ∷ 1 ∷ 2 ∷ 10 ∷ [])
    (2 ∷ 480 ∷ 0 ∷ [])
    firm)

abbrev case_s : Input
case_s = case_s_with (plain_head 4 30 0) []

-- uses of 300 and 100 in zone 1, 200 in zone 2, 100 at the border; for both services pots of 1,000 and 500
abbrev case_b1 : Input
case_b1 =
    month_of (plain_head 2 29 7)
    (tables_of
    (1 ∷ 0 ∷ 2 ∷ 0 ∷ [])
    (1 ∷ 1 ∷ 0 ∷ [])
    (1 ∷ 1 ∷ 1 ∷ 1 ∷ 12000 ∷ 0 ∷ 2 ∷ 1 ∷ 2 ∷ 1 ∷ 4800 ∷ 100 ∷ 3 ∷ 1 ∷ 1 ∷ 2 ∷ 12000 ∷ 0 ∷ 4 ∷ 1 ∷ 2 ∷ 2 ∷ 6000 ∷ 0 ∷ [])
    (1 ∷ 70 ∷ 1 ∷ 2 ∷ 71 ∷ 1 ∷ 3 ∷ 72 ∷ 2 ∷ 4 ∷ 73 ∷ 0 ∷ [])
    []
    (1 ∷ 300 ∷ 0 ∷ 2 ∷ 150 ∷ 50 ∷ 3 ∷ 200 ∷ 0 ∷ 4 ∷ 100 ∷ 0 ∷ [])
    [])

-- a month of two zones, with rates of 0 and one owner
abbrev case_of : ℕ → ℕ → List ℕ → List ℕ → List ℕ → List ℕ → Input
case_of month days units accounts loads reservations =
    month_of (plain_head month days 0) (tables_of (1 ∷ 0 ∷ 2 ∷ 0 ∷ []) (1 ∷ 1 ∷ 0 ∷ []) units accounts loads reservations [])

-- zone 2 has no unit: account 1 in zone 1 with a load of 10, account 2 in zone 2 with a load of 10 and 120 reserved, account 3 at the
-- border with 240 reserved
abbrev case_unitless : Input
case_unitless =
    case_of 4 30 (1 ∷ 1 ∷ 1 ∷ 1 ∷ 12000 ∷ 0 ∷ []) (1 ∷ 1 ∷ 1 ∷ 2 ∷ 2 ∷ 2 ∷ 3 ∷ 3 ∷ 0 ∷ []) (1 ∷ 1 ∷ 10 ∷ 2 ∷ 1 ∷ 10 ∷ []) (2 ∷ 120 ∷ 0 ∷ 3 ∷ 240 ∷ 0 ∷ [])

-- zone 1 is idle, and account 2 in zone 2, which has no unit, has a load of 10, or 10 reserved
abbrev case_idle : List ℕ → List ℕ → Input
case_idle = case_of 4 30 (1 ∷ 1 ∷ 1 ∷ 1 ∷ 12000 ∷ 0 ∷ []) (1 ∷ 1 ∷ 1 ∷ 2 ∷ 2 ∷ 2 ∷ [])

-- zone 2 has a unit of 1 a year, in a month and its days, and each zone a load of 10
abbrev case_one_a_year : ℕ → ℕ → Input
case_one_a_year month days =
    case_of month days (1 ∷ 1 ∷ 1 ∷ 1 ∷ 12000 ∷ 0 ∷ 2 ∷ 1 ∷ 2 ∷ 1 ∷ 1 ∷ 0 ∷ []) (1 ∷ 1 ∷ 1 ∷ 2 ∷ 2 ∷ 2 ∷ []) (1 ∷ 1 ∷ 10 ∷ 2 ∷ 1 ∷ 10 ∷ []) []

-- zones 1 and 2 have units of 10^12 a year and a load of 1, zone 3 has no unit and a load of 10^6
abbrev case_large : Input
case_large =
    month_of (plain_head 4 30 0)
    (tables_of
    (1 ∷ 0 ∷ 2 ∷ 0 ∷ 3 ∷ 0 ∷ [])
    (1 ∷ 1 ∷ 0 ∷ [])
    (1 ∷ 1 ∷ 1 ∷ 1 ∷ 10 ^ 12 ∷ 0 ∷ 2 ∷ 1 ∷ 2 ∷ 1 ∷ 10 ^ 12 ∷ 0 ∷ [])
    (1 ∷ 1 ∷ 1 ∷ 2 ∷ 2 ∷ 2 ∷ 3 ∷ 3 ∷ 3 ∷ [])
    (1 ∷ 1 ∷ 1 ∷ 2 ∷ 1 ∷ 1 ∷ 3 ∷ 1 ∷ 10 ^ 6 ∷ [])
    []
    [])

-- April from a Wednesday on, daily 1,005, weekly 3,000, monthly 9,000: account 1 in zone 1 with daily rows on days 1, 2, 5 and 6, which
-- the rows of the argument stand among, a MISO row, a weekly and a monthly row, account 2 at the border with days 1, 4 and 6
abbrev case_firm : List ℕ → Input
case_firm among =
    month_of (record { month = 4; days = 30; nonzone = 0; daily = 1005; weekly = 3000; monthly = 9000; weekday = 3 })
    (tables_of
    (1 ∷ 0 ∷ [])
    (1 ∷ 1 ∷ 200 ∷ 2 ∷ 1 ∷ 100 ∷ [])
    []
    (1 ∷ 70 ∷ 1 ∷ 2 ∷ 71 ∷ 0 ∷ [])
    []
    []
    ((1 ∷ 1 ∷ 0 ∷ 1 ∷ 15 ∷ 1 ∷ 1 ∷ 0 ∷ 2 ∷ 15 ∷ [])
    ++ (among
    ++ (1 ∷ 1 ∷ 0 ∷ 5 ∷ 15 ∷ 1 ∷ 1 ∷ 0 ∷ 6 ∷ 15 ∷ 1 ∷ 1 ∷ 1 ∷ 3 ∷ 10 ^ 6 ∷ 1 ∷ 2 ∷ 0 ∷ 28 ∷ 3 ∷ 1 ∷ 3 ∷ 0 ∷ 1 ∷ 7 ∷ 2 ∷ 1 ∷ 0 ∷ 1 ∷ 1 ∷ 2 ∷ 1 ∷ 0 ∷ 4 ∷ 1 ∷ 2 ∷ 1 ∷ 0 ∷ 6 ∷ 1 ∷ []))))

-- case S with a rate of 0, no unit, both requirements 0, a monthly rate of 1,000 and one monthly row
abbrev case_firm_base : Input
case_firm_base =
    month_of (record { month = 4; days = 30; nonzone = 0; daily = 0; weekly = 0; monthly = 1000; weekday = 1 })
    (tables_of
    (1 ∷ 0 ∷ [])
    (1 ∷ 1 ∷ 0 ∷ 2 ∷ 1 ∷ 0 ∷ [])
    []
    (1 ∷ 70 ∷ 1 ∷ 2 ∷ 71 ∷ 0 ∷ [])
    (1 ∷ 1 ∷ 10 ∷ 1 ∷ 2 ∷ 10 ∷ [])
    (2 ∷ 480 ∷ 0 ∷ [])
    (1 ∷ 3 ∷ 0 ∷ 1 ∷ 1 ∷ []))

-- what a month's accounts are charged for black start
abbrev charged : Input → List ℕ
charged m = listed (account_count m) (services.service_charge m black_start)

record Figures : Type 0 where
  S_charges : charge_words case_s (9 ∷ 9 ∷ 9 ∷ 9 ∷ 9 ∷ 9 ∷ 9 ∷ 9 ∷ 9 ∷ []) ≡ (2000 ∷ 500 ∷ 0 ∷ 0 ∷ 0 ∷ 500 ∷ 0 ∷ 0 ∷ 9 ∷ [])
  S_credits : credit_words case_s (9 ∷ 9 ∷ 9 ∷ 9 ∷ 9 ∷ 9 ∷ 9 ∷ 9 ∷ 9 ∷ 9 ∷ []) ≡ (1333 ∷ 0 ∷ 0 ∷ 0 ∷ 0 ∷ 667 ∷ 0 ∷ 1000 ∷ 0 ∷ 0 ∷ [])
  S_answer : answer_of case_s 8 10 ≡ accepted
  S_room : answer_of case_s 8 9 ≡ record { number = 2; table = 8; row = 0 }
  B1_charges : charge_words case_b1 (0 ∷ 0 ∷ 0 ∷ 0 ∷ 0 ∷ 0 ∷ 0 ∷ 0 ∷ 0 ∷ 0 ∷ 0 ∷ 0 ∷ 0 ∷ 0 ∷ 0 ∷ 0 ∷ []) ≡ (0 ∷ 643 ∷ 643 ∷ 0 ∷ 0 ∷ 214 ∷ 214 ∷ 0 ∷ 0 ∷ 429 ∷ 429 ∷ 0 ∷ 0 ∷ 214 ∷ 214 ∷ 0 ∷ [])
  B1_credits : credit_words case_b1 (0 ∷ 0 ∷ 0 ∷ 0 ∷ 0 ∷ []) ≡ (0 ∷ 0 ∷ 1500 ∷ 1500 ∷ 0 ∷ [])
  B1_answer : answer_of case_b1 16 5 ≡ accepted
  B1_splits : listed 2 (service.zone_side (services.service_in case_b1 black_start)) ≡ (857 ∷ 429 ∷ [])
  B1_nonzone : listed 2 (service.nonzone_side (services.service_in case_b1 reactive)) ≡ (143 ∷ 71 ∷ [])
  unitless_answer : answer_of case_unitless 12 5 ≡ accepted
  unitless_uses : service.both_uses (services.service_in case_unitless black_start) ≡ (360 ∷ 480 ∷ [])
  unitless_sides : service.zone_side (services.service_in case_unitless black_start) 0 ∷ service.nonzone_pot (services.service_in case_unitless black_start) ∷ [] ≡ (429 ∷ 571 ∷ [])
  unitless_charged : charged case_unitless ≡ (429 ∷ 286 ∷ 285 ∷ [])
  idle_answer : answer_of (case_idle (2 ∷ 1 ∷ 10 ∷ []) []) 8 5 ≡ accepted
  idle_charged : charged (case_idle (2 ∷ 1 ∷ 10 ∷ []) []) ≡ (0 ∷ 1000 ∷ [])
  idle_reserved_answer : answer_of (case_idle [] (2 ∷ 10 ∷ 0 ∷ [])) 8 5 ≡ record { number = 9; table = 9; row = 4 }
  one_a_year_april_answer : answer_of (case_one_a_year 4 30) 8 5 ≡ accepted
  one_a_year_april_charged : charged (case_one_a_year 4 30) ≡ (500 ∷ 500 ∷ [])
  one_a_year_december_answer : answer_of (case_one_a_year 12 31) 8 5 ≡ accepted
  one_a_year_december_charged : charged (case_one_a_year 12 31) ≡ (1000 ∷ 1 ∷ [])
  large_answer : answer_of case_large 12 5 ≡ record { number = 8; table = 9; row = 10 }
  firm_answer : answer_of (case_firm []) 8 10 ≡ accepted
  firm_charges : listed 2 (firm.firm_charge (case_firm [])) ≡ (13208 ∷ 302 ∷ [])
  firm_credits : listed 2 (firm.firm_credit (case_firm [])) ≡ (9007 ∷ 4503 ∷ [])
  firm_more : listed 2 (firm.firm_charge (case_firm (1 ∷ 1 ∷ 0 ∷ 3 ∷ 20 ∷ []))) ≡ (14708 ∷ 302 ∷ [])
  firm_monthly_day : answer_of (case_s_with (plain_head 4 30 0) (1 ∷ 3 ∷ 0 ∷ 2 ∷ 1 ∷ [])) 8 10 ≡ record { number = 4; table = 10; row = 0 }
  firm_unknown : answer_of (case_s_with (plain_head 4 30 0) (3 ∷ 1 ∷ 0 ∷ 1 ∷ 1 ∷ [])) 8 10 ≡ record { number = 6; table = 10; row = 0 }
  firm_equal : answer_of (case_s_with (plain_head 4 30 0) (1 ∷ 1 ∷ 0 ∷ 1 ∷ 1 ∷ 1 ∷ 1 ∷ 0 ∷ 1 ∷ 1 ∷ [])) 8 10 ≡ record { number = 5; table = 10; row = 1 }
  firm_weekday : answer_of (case_s_with (record { month = 4; days = 30; nonzone = 0; daily = 0; weekly = 0; monthly = 0; weekday = 8 }) []) 8 10 ≡ record { number = 4; table = 0; row = 0 }
  firm_base : answer_of case_firm_base 8 10 ≡ record { number = 9; table = 9; row = 8 }

figures : Figures
unfolding sum_to sum_where largest_first every listed put refuse ◌then◌ first size_refusal quotient remainder leftover comes_before gets_cent share shares turns groups.among groups.weights_in groups.amount groups.amount_in_all groups.group_refusal groups.groups_in_turn service.zone_use service.nonzone_use service.both_uses service.zone_side service.nonzone_side service.zone_share service.nonzone_pot service.nonzone_parts service.nonzone_share service.account_charge turn.split_refusal turn.share_refusal turn.nonzone_refusal turn.zone_turn turn.service_in_turn is_month through twelfth month.use_of month.nearest month.charge_at_rate any rows.row_number rows.not_above rows.above rows.unknown rows.taken rows.zone_outside rows.row_of rows.owner_outside rows.unit_outside rows.account_outside rows.load_outside rows.reservation_outside rows.firm_outside week_of highest firm.cost_at firm.cost_of_week firm.is_in_week firm.is_alone firm.added_in firm.highest_in firm.week_cost firm.row_cost firm.firm_cost firm.firm_charge firm.firm_pot firm.firm_credit firm.firm_refusal counts.tables_in_turn counts.counted counts.counts_in_turn counts.room_for judgement.head_outside judgement.head_looked judgement.rows_judged judgement.judged contributions network_use energy_use network.rate_of network.rate network.network_charge network.charges_in network.requirements network.network_credit network.nonzone_credit network.network_nonzone_refusal services.unit_credit services.credit_in services.service_credit services.zone_credits services.zone_part services.nonzone_part services.service_charge network_in_turn divisions_in_turn answer_of charge_of credit_of charge_words credit_words
figures =
    record {
      S_charges = refl;
      S_credits = refl;
      S_answer = refl;
      S_room = refl;
      B1_charges = refl;
      B1_credits = refl;
      B1_answer = refl;
      B1_splits = refl;
      B1_nonzone = refl;
      unitless_answer = refl;
      unitless_uses = refl;
      unitless_sides = refl;
      unitless_charged = refl;
      idle_answer = refl;
      idle_charged = refl;
      idle_reserved_answer = refl;
      one_a_year_april_answer = refl;
      one_a_year_april_charged = refl;
      one_a_year_december_answer = refl;
      one_a_year_december_charged = refl;
      large_answer = refl;
      firm_answer = refl;
      firm_charges = refl;
      firm_credits = refl;
      firm_more = refl;
      firm_monthly_day = refl;
      firm_unknown = refl;
      firm_equal = refl;
      firm_weekday = refl;
      firm_base = refl;
    }
