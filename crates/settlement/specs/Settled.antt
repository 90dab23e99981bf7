-- The answer of a settlement, and the words that it writes.
-- Assumes nothing.
use Rattle.std.specs.Prelude.{◌≡◌, ℕ, ◌+◌, ◌*◌, ◌/◌, ◌%◌, cond, List, [], ◌∷◌, eqb, length, get_or}
use Rattle.lists.specs.Entries.{put}
use Rattle.answer.specs.declared.Answer.{Answer}
use Rattle.answer.specs.Numbers.{DIVISIONS}
use Rattle.answer.specs.Turns.{refuse, ◌then◌}
use Rattle.groups.specs.Groups as groups
use Rattle.service.specs.Turn as service
use Rattle.tables.specs.Shape.{charge_width, credit_width}
use Rattle.month.specs.Limits.{black_start, reactive}
use Rattle.judgement.specs.Judgement.{judged}
use Rattle.pool.specs.Input.{Input, head_of, zone_count, owner_count, account_count}
use Rattle.pool.specs.Network.{network_charge, network_pots, network_credit, nonzone_credit, network_nonzone_refusal}
use Rattle.pool.specs.Services.{service_in, service_charge, service_credit}
use Rattle.firm.specs.Firm.{firm_charge, firm_credit, firm_refusal}

-- "with k zones, network zones 0..k-1, network non-zone k ..": where each kind of division starts
abbrev pub network_place : ℕ
network_place = 0

abbrev pub network_nonzone_place : ℕ → ℕ
network_nonzone_place k = k

-- ".. black start zone i split k+1+2i and share k+2+2i, its non-zone 3k+1, reactive split 3k+2+2i, share 3k+3+2i, non-zone 5k+2"
abbrev pub black_start_place : ℕ → ℕ
black_start_place k = k + 1

abbrev pub reactive_place : ℕ → ℕ
reactive_place k = 3 * k + 2

-- "the division comes last, at 5k+3"
abbrev pub firm_place : ℕ → ℕ
firm_place k = 5 * k + 3

-- a row's figures in the order of its columns, whatever their number: what the function at a column's place in a list says of the row
abbrev pub figure_of : List (ℕ → ℕ) → ℕ → ℕ → ℕ
figure_of figures column i = get_or figures column (λ j. 0) i

-- "rows laid end to end": the word at k of rows that are so wide
abbrev pub laid : ℕ → (ℕ → ℕ → ℕ) → ℕ → ℕ
laid width figure k = figure (k % width) (k / width)

module _ (m : Input) where
  -- "network zones 0..k-1, network non-zone k"
  unfoldable pub network_in_turn : Answer
  network_in_turn =
      groups.groups_in_turn (network_pots m) network_place then refuse (network_nonzone_refusal m) DIVISIONS (network_nonzone_place (zone_count m))

  -- "then its divisions in turn"
  unfoldable pub divisions_in_turn : Answer
  divisions_in_turn =
      network_in_turn
      then service.service_in_turn (service_in m black_start) (black_start_place (zone_count m))
      then service.service_in_turn (service_in m reactive) (reactive_place (zone_count m))
      then refuse (firm_refusal m) DIVISIONS (firm_place (zone_count m))

  -- "A settlement looks at COUNT .. in a row RANGE, ORDER, LINK, PAIR, then its divisions in turn"; the arguments are the lengths
  -- of the lent outputs
  unfoldable pub answer_of : ℕ → ℕ → Answer
  answer_of lent_charges lent_credits =
      judged (head_of m) m.tables lent_charges lent_credits then divisions_in_turn

  -- "every account row's three charges (network, black start, reactive)" and the firm one, the "last figure": `charge_of column a`
  unfoldable pub charge_of : ℕ → ℕ → ℕ
  charge_of = figure_of (network_charge m ∷ service_charge m black_start ∷ service_charge m reactive ∷ firm_charge m ∷ [])

  -- "every owner's four credits (network, non-zone network, black start, reactive)" and the firm one: `credit_of column o`
  unfoldable pub credit_of : ℕ → ℕ → ℕ
  credit_of = figure_of (network_credit m ∷ nonzone_credit m ∷ service_credit m black_start ∷ service_credit m reactive ∷ firm_credit m ∷ [])

  -- "writes only the rows named": the lent words after an acceptance
  unfoldable pub charge_words : List ℕ → List ℕ
  charge_words lent = put (account_count m * charge_width) (laid charge_width charge_of) lent

  unfoldable pub credit_words : List ℕ → List ℕ
  credit_words lent = put (owner_count m * credit_width) (laid credit_width credit_of) lent

-- What `settle` answers and leaves in the lent words: "A refusal writes to no lent memory; acceptance answers 0, 0, 0 and writes
-- only the rows named".
pub record Settled (m : Input) (charges charges_after credits credits_after : List ℕ) (r : Answer) : Type 0 where
  pub answer : r ≡ answer_of m (length charges) (length credits)
  pub charges_lent : charges_after ≡ cond (eqb r.number 0) (charge_words m charges) charges
  pub credits_lent : credits_after ≡ cond (eqb r.number 0) (credit_words m credits) credits
