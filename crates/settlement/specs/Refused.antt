-- Why a settlement is refused, and where: in each case all that is looked at earlier is fine, and the row is the paper's.
-- Assumes nothing.
use Rattle.std.specs.Prelude.{◌≡◌, ℕ, ◌+◌, ◌*◌, ◌<◌}
use Rattle.lists.specs.Sums.{total}
use Rattle.answer.specs.declared.Answer.{Answer}
use Rattle.answer.specs.Numbers.{DIVISIONS}
use Rattle.answer.specs.Turns.{refusal}
use Rattle.division.specs.Refused.{SizeRefused}
use Rattle.groups.specs.Groups.{weights_in}
use Rattle.service.specs.Turn as service
use Rattle.tables.specs.Columns.{zone_number}
use Rattle.month.specs.Limits.{black_start, reactive}
use Rattle.judgement.specs.Refused as judgement
use Rattle.pool.specs.Input.{Input, head_of, zone_count}
use Rattle.pool.specs.Network.{charges_in, network_pots, requirements}
use Rattle.pool.specs.Services.{service_in}
use Rattle.firm.specs.Firm.{firm_pot}
use Rattle.settlement.specs.Settled.{black_start_place, reactive_place}
use Rattle.settlement.specs.Accepted.{GoodInput, ZonesFine, NetworkFine, ServicesFine}

module _ (m : Input) (lent_charges lent_credits : ℕ) where
  pub data Refused (r : Answer) : Type 0 where
    -- an input that the tables' rules refuse
    by_tables : judgement.Refused (head_of m) m.tables lent_charges lent_credits r → Refused r
    -- "network zones 0..k-1", "each BIG, then BASE"
    at_zone : GoodInput m lent_charges lent_credits → (z n : ℕ) → z < zone_count m → ZonesFine m z
        → SizeRefused (charges_in m (zone_number m.tables.zones z)) (total (weights_in (network_pots m) z)) n → r ≡ refusal n DIVISIONS z → Refused r
    -- "network non-zone k"
    at_nonzone : GoodInput m lent_charges lent_credits → (n : ℕ) → ZonesFine m (zone_count m)
        → SizeRefused (charges_in m 0) (total (requirements m)) n → r ≡ refusal n DIVISIONS (zone_count m) → Refused r
    -- at a division of black start, whose places start at k+1
    in_black_start : GoodInput m lent_charges lent_credits → NetworkFine m
        → service.RefusedAt (service_in m black_start) (black_start_place (zone_count m)) r → Refused r
    -- at a division of reactive, whose places start at 3k+2
    in_reactive : GoodInput m lent_charges lent_credits → NetworkFine m → service.ServiceFine (service_in m black_start)
        → service.RefusedAt (service_in m reactive) (reactive_place (zone_count m)) r → Refused r
    -- "the division comes last, at 5k+3"
    at_firm : GoodInput m lent_charges lent_credits → (n : ℕ) → NetworkFine m → ServicesFine m
        → SizeRefused (firm_pot m) (total (requirements m)) n → r ≡ refusal n DIVISIONS (5 * zone_count m + 3) → Refused r

-- "black start zone i split k+1+2i and share k+2+2i, its non-zone 3k+1, reactive split 3k+2+2i, share 3k+3+2i, non-zone 5k+2"
pub record Places (m : Input) : Type 0 where
  pub black_start_split : (i : ℕ) → service.split_place (black_start_place (zone_count m)) i ≡ zone_count m + 1 + 2 * i
  pub black_start_share : (i : ℕ) → service.share_place (black_start_place (zone_count m)) i ≡ zone_count m + 2 + 2 * i
  pub black_start_nonzone : service.nonzone_place (black_start_place (zone_count m)) (service_in m black_start) ≡ 3 * zone_count m + 1
  pub reactive_split : (i : ℕ) → service.split_place (reactive_place (zone_count m)) i ≡ 3 * zone_count m + 2 + 2 * i
  pub reactive_share : (i : ℕ) → service.share_place (reactive_place (zone_count m)) i ≡ 3 * zone_count m + 3 + 2 * i
  pub reactive_nonzone : service.nonzone_place (reactive_place (zone_count m)) (service_in m reactive) ≡ 5 * zone_count m + 2
