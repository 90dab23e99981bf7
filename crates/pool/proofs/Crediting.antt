-- The network divisions in turn: over lists that were filled from the tables and a column of charges, into the two columns of a
-- block.
-- Assumes nothing.
use mathlib.Core.Path.{◌≡◌, refl, sym, ap, ap₂, ◌∙◌}
use mathlib.Core.Bool.{Bool, true, false, cond}
use mathlib.Core.List.{List}
use Prim.Native.Nat.{ℕ, ◌+◌, ◌*◌, ◌≤◌}
use native.Mathlib.Nat.{le_trans, le_of_eq, zero-add}
use native.Mathlib.Omega.{arith}
use lib.Dec.{eqb}
use lib.ListN.{length, take}
use borrow.Author.Tests.{eq-eqb}
use Rattle.std.specs.Prelude.{Result, Ok, Err}
use Rattle.std.specs.Result.{result_and}
use Rattle.lists.specs.Sums.{at, total}
use Rattle.lists.specs.Entries.{put}
use Rattle.lists.proofs.Entries.{length_put, put_eq}
use Rattle.answer.specs.declared.Answer.{Answer}
use Rattle.answer.specs.declared.Refused.{Refused}
use Rattle.answer.specs.Numbers.{DIVISIONS}
use Rattle.answer.specs.Turns.{refuse, ◌then◌}
use Rattle.answer.specs.Results.{refused_answer, result_answer}
use Rattle.answer.proofs.Turns.{accepted_then, then_first, then_none, refuse_number}
use Rattle.answer.proofs.Results.{refused_some}
use Rattle.division.specs.Limits.{size_refusal}
use Rattle.division.specs.Shares.{shares}
use Rattle.groups.specs.Groups.{Pots, amount_in_all, groups_in_turn, pots_of, Grouped, Together}
use Rattle.groups.specs.Columns.{Addable, Added}
use Rattle.groups.proofs.Same.{Same, same_turn, same_amounts, filled}
use Rattle.tables.specs.declared.Table.TheVariants.{Zones, Owners}
use Rattle.tables.specs.Shape.{limit, rows, Tables}
use Rattle.tables.specs.Columns.{zone_number, owner_zone, owner_requirement}
use Rattle.columns.specs.Blocks.{with_columns, Zeros}
use Rattle.columns.proofs.Fronts.{Front}
use Rattle.columns.proofs.Blocks.{ColumnLent, columns_long, column_lent}
use Rattle.pool.specs.Network.{pots_among_owners}
use Rattle.pool.specs.Divided.{charges_from, Divisible, credit_column, CreditColumns, NetworkDivided, NetworkCredited}

-- the fronts of columns that are divided by, filled from the tables and a column of charges
pub record Lists (t : Tables) (network : List ℕ) (zonecount ownercount : ℕ) (pots numbers requirements ownerzones : List ℕ) : Type 0 where
  pub pots_front : Front (rows Zones t.zones) (λ z. charges_from t.accounts network (zone_number t.zones z)) zonecount pots
  pub numbers_front : Front (rows Zones t.zones) (zone_number t.zones) zonecount numbers
  pub requirements_front : Front (rows Owners t.owners) (owner_requirement t.owners) ownercount requirements
  pub ownerzones_front : Front (rows Owners t.owners) (owner_zone t.owners) ownercount ownerzones

module _ {t : Tables} {network : List ℕ} {zonecount ownercount : ℕ} {pots numbers requirements ownerzones : List ℕ}
    (lists : Lists t network zonecount ownercount pots numbers requirements ownerzones) where
  pub together : Divisible t network
      → Together (take zonecount pots) (take zonecount numbers) (take ownercount requirements) (take ownercount ownerzones)
  together can =
      record {
        few_members = omega (arith, lists.requirements_front.long, lists.requirements_front.counted, can.few_owners);
        group_each = sym lists.ownerzones_front.long ∙ lists.requirements_front.long;
        few_groups = omega (arith, lists.numbers_front.long, lists.numbers_front.counted, can.few_zones);
        pot_each = sym lists.pots_front.long ∙ lists.numbers_front.long;
      }

-- of two results the first that refuses counts: so it answers
pub and_answer : {A B : Type 0} → (r : Result A Refused) (s : Result B Refused) → result_answer (result_and r s) ≡ (result_answer r then result_answer s)
and_answer (Ok x) s = sym (accepted_then (result_answer s))
and_answer (Err e) s = sym (then_first (refused_answer e) (result_answer s) (refused_some e))

-- what is written or left as it was has the same length
either_long : (test : Bool) (written before : List ℕ) → length written ≡ length before → length (cond test written before) ≡ length before
either_long true written before e = e
either_long false written before e = refl

-- a block whose first column has come back
abbrev half_of : List ℕ → List ℕ → List ℕ
half_of credits block = with_columns (limit Owners) 0 1 credits block

-- the two calls: the first column is lent, and then the second
module _ {block : List ℕ} (two : CreditColumns block) (p : Pots) {credits : List ℕ} {zones : Answer} (grouped : Grouped p 0 (credit_column 0 block) credits zones) where
  first : ColumnLent (limit Owners) 0 block credits (half_of credits block)
  first =
      column_lent (limit Owners) 0 block (omega (arith, two.long)) credits
      (ap length grouped.lent ∙ either_long (eqb zones.number 0) _ (credit_column 0 block) (length_put p.members (amount_in_all p) (credit_column 0 block))
      ∙ columns_long (limit Owners) 0 block 1 (omega (arith, two.long)))

  pub half_long : length (half_of credits block) ≡ 2 * limit Owners
  half_long = first.long ∙ two.long

  half_zeros : Zeros (credit_column 1 (half_of credits block))
  half_zeros i = ap (λ l. at l i) (first.others 1 refl) ∙ two.zeros i

  second_long : length (credit_column 1 (half_of credits block)) ≡ limit Owners
  second_long = ap length (first.others 1 refl) ∙ columns_long (limit Owners) 1 block 1 (omega (arith, two.long))

  pub second_addable : {n : ℕ} → n ≤ limit Owners → Addable n (credit_column 1 (half_of credits block))
  second_addable few = record { few = few; long = le_trans few (le_of_eq (sym second_long)); room = λ i b. omega (arith, half_zeros i) }

  module _ {nonzone : ℕ} {weights nonzonecredits : List ℕ} {number : ℕ} (added : Added nonzone weights (credit_column 1 (half_of credits block)) nonzonecredits number) where
    second : ColumnLent (limit Owners) 1 (half_of credits block) nonzonecredits (with_columns (limit Owners) 1 1 nonzonecredits (half_of credits block))
    second =
        column_lent (limit Owners) 1 (half_of credits block) (omega (arith, half_long)) nonzonecredits
        (ap length added.lent ∙ either_long (eqb number 0) _ (credit_column 1 (half_of credits block)) (length_put (length weights) _ (credit_column 1 (half_of credits block))) ∙ second_long)

    module _ {last r : Answer} (refused : last ≡ refuse number DIVISIONS p.groups) (both : r ≡ (zones then last)) where
      pub network_divided : NetworkDivided p nonzone weights block (with_columns (limit Owners) 1 1 nonzonecredits (half_of credits block)) r
      network_divided =
          record {
            answer = both ∙ ap₂ ◌then◌ grouped.answers (refused ∙ ap (λ n. refuse n DIVISIONS p.groups) added.number);
            credited =
                second.others 0 refl ∙ first.its ∙ grouped.lent
                ∙ ap (λ (a : Answer). cond (eqb a.number 0) (put p.members (amount_in_all p) (credit_column 0 block)) (credit_column 0 block)) grouped.answers;
            nonzone_credited =
                second.its ∙ added.lent
                ∙ ap₂ (λ n l. cond (eqb n 0) l (credit_column 1 (half_of credits block))) added.number
                (put_eq (length weights) _ (at (shares nonzone weights)) (credit_column 1 (half_of credits block))
                (λ i b. ap (λ n. n + at (shares nonzone weights) i) (half_zeros i) ∙ zero-add (at (shares nonzone weights) i)))
                ∙ ap (λ l. cond (eqb (size_refusal nonzone (total weights)) 0) (put (length weights) (at (shares nonzone weights)) l) l) (first.others 1 refl);
            long = second.long ∙ first.long;
          }

-- where nothing is refused both columns are written
module _ {p : Pots} {nonzone : ℕ} {weights block block_after : List ℕ} {r : Answer} (divided : NetworkDivided p nonzone weights block block_after r) where
  pub credited_all : r.number ≡ 0
      → (credit_column 0 block_after ≡ put p.members (amount_in_all p) (credit_column 0 block))
      × (credit_column 1 block_after ≡ put (length weights) (at (shares nonzone weights)) (credit_column 1 block))
  credited_all fine =
      let second : Answer = refuse (size_refusal nonzone (total weights)) DIVISIONS p.groups in
      let accepted : ((groups_in_turn p 0).number ≡ 0) × (second.number ≡ 0) =
      then_none (groups_in_turn p 0) second (ap (λ (a : Answer). a.number) (sym divided.answer) ∙ fine) in (
        divided.credited ∙ (rw (eq-eqb (groups_in_turn p 0).number 0 accepted.0)),
        divided.nonzone_credited
            ∙ (rw (eq-eqb (size_refusal nonzone (total weights)) 0 (sym (refuse_number (size_refusal nonzone (total weights)) DIVISIONS p.groups) ∙ accepted.1))),
      )

  network_same : {q : Pots} → Same p q → NetworkDivided q nonzone weights block block_after r
  network_same {q} s =
      record {
        answer =
            divided.answer
            ∙ ap₂ (λ (a : Answer) k. a then refuse (size_refusal nonzone (total weights)) DIVISIONS k) (same_turn s 0) s.same_groups;
        credited =
            divided.credited
            ∙ ap₂ (λ (a : Answer) l. cond (eqb a.number 0) l (credit_column 0 block)) (same_turn s 0)
            (put_eq p.members (amount_in_all p) (amount_in_all q) (credit_column 0 block) (λ i b. same_amounts s i) ∙ ap (λ n. put n (amount_in_all q) (credit_column 0 block)) s.same_members);
        nonzone_credited = divided.nonzone_credited;
        long = divided.long;
      }

-- the network divisions of lists that were filled from the tables and a column of charges
module _ {t : Tables} {network : List ℕ} {zonecount ownercount : ℕ} {pots numbers requirements ownerzones : List ℕ}
    (lists : Lists t network zonecount ownercount pots numbers requirements ownerzones) where
  pub network_credited : {nonzone : ℕ} {block block_after : List ℕ} {r : Answer} → nonzone ≡ charges_from t.accounts network 0
      → NetworkDivided
      (pots_of (take zonecount pots) (take zonecount numbers) (take ownercount requirements) (take ownercount ownerzones))
      nonzone (take ownercount requirements) block block_after r
      → NetworkCredited t network block block_after r
  network_credited e d =
      network_same
      (rw (lists.pots_front.holds, lists.numbers_front.holds, lists.requirements_front.holds, lists.ownerzones_front.holds, e) at d)
      (filled (pots_among_owners t.zones t.owners (charges_from t.accounts network)))
