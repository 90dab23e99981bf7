-- An answer passes, and what it looked at is good; or it stops, and says why. Stages that are taken in turn make one stage.
-- Assumes nothing.
use mathlib.Core.Path.{◌≡◌, refl, sym, ap, subst, ◌∙◌}
use mathlib.Core.Logic.{⊎_elim, ◌≢◌}
use mathlib.Core.Bool.{Bool, true, false}
use Prim.Native.Nat.{ℕ, zero, suc, ◌≤◌, ◌<◌}
use native.Mathlib.Nat.{le_refl, le_antisymm, le_of_suc-le, not-suc-le-zero}
use Rattle.lists.proofs.Sums.{last_or_below}
use Rattle.lists.proofs.Ranks.{lt_or_le}
use Rattle.answer.specs.declared.Answer.{Answer}
use Rattle.answer.specs.Turns.{look, accepted, refuse, ◌then◌, refusal, turns}
use Rattle.answer.proofs.Turns.{zero_or_not, then_first, then_second, refuse_none, refuse_some, refuse_number, turns_all}
use Rattle.tables.specs.declared.Table.{Table}
use Rattle.tables.specs.Shape.{table_count, table_at, place_of}
use Rattle.tables.specs.Counts.{tables_in_turn}
use Rattle.tables.proofs.Places.{table_placed, place_below, place_at}
use Rattle.tables.proofs.Tests.{Tests, breaks}

pub data Stage (Good : Type 0) (Bad : Answer → Type 0) (a : Answer) : Type 0 where
  passed : a ≡ accepted → Good → Stage Good Bad a
  stopped : a.number ≢ 0 → Bad a → Stage Good Bad a

-- what is good, in other words
pub passed_on : {G H : Type 0} {B : Answer → Type 0} {a : Answer} → (G → H) → Stage G B a → Stage H B a
passed_on f (passed e g) = passed e (f g)
passed_on f (stopped d w) = stopped d w

-- a second stage is looked at where the first has passed
pub then_stage : {G H : Type 0} {B : Answer → Type 0} {a b : Answer} → Stage G B a → (G → Stage H B b) → Stage H B (a then b)
then_stage {G} {H} {B} {a} {b} (passed e g) next =
    subst (Stage H B) (sym (then_second a b (ap (λ (r : Answer). r.number) e))) (next g)
then_stage {G} {H} {B} {a} {b} (stopped d w) next = subst (Stage H B) (sym (then_first a b d)) (stopped d w)

-- a number at a place
pub refuse_stage : {G : Type 0} {B : Answer → Type 0} (n table row : ℕ) → (n ≡ 0 → G) → (n ≢ 0 → B (refusal n table row)) → Stage G B (refuse n table row)
refuse_stage {G} {B} n table row good bad =
    ⊎_elim
    (λ (z : n ≡ 0). passed (refuse_none n table row z) (good z))
    (λ (d : n ≢ 0).
    stopped (λ z. d (sym (refuse_number n table row) ∙ z)) (subst B (sym (refuse_some n table row d)) (bad d)))
    (zero_or_not n)

-- one look
pub look_stage : {G : Type 0} {B : Answer → Type 0} {fault : Bool} (n table row : ℕ) → n ≢ 0 → Tests G fault → (¬ G → B (refusal n table row)) → Stage G B (refuse (look fault n 0) table row)
look_stage {fault = true} n table row d test bad = refuse_stage n table row (λ z. absurd (d z)) (λ e. bad (breaks test refl))
look_stage {fault = false} n table row d test bad = refuse_stage 0 table row (λ z. test.holds refl) (λ e. absurd (e refl))

-- a table is known by its place
pub same_place : (a b : Table) → place_of a ≡ place_of b → a ≡ b
same_place a b e = sym (table_placed a) ∙ ap table_at e ∙ table_placed b

-- there is one first table that breaks a rule
pub first_broken : (G : Table → Type 0) (x y : Table) → ((earlier : Table) → place_of earlier < place_of x → G earlier) → ¬ G x
    → ((earlier : Table) → place_of earlier < place_of y → G earlier) → ¬ G y → x ≡ y
first_broken G x y before bad before' bad' =
    ⊎_elim
    (λ (l : place_of x < place_of y). absurd (bad (before' x l)))
    (λ (m : place_of y ≤ place_of x).
    ⊎_elim
    (λ (l : place_of y < place_of x). absurd (bad' (before y l)))
    (λ (n : place_of x ≤ place_of y). same_place x y (le_antisymm n m))
    (lt_or_le (place_of y) (place_of x)))
    (lt_or_le (place_of x) (place_of y))

abbrev Upto : (Table → Type 0) → ℕ → Type 0
Upto G k = (earlier : Table) → place_of earlier < k → G earlier

-- the tables in turn, where each stage may rest on all the tables before
module _ (G : Table → Type 0) (B : Answer → Type 0) (f : Table → Answer) (stage : (table : Table) → Upto G (place_of table) → Stage (G table) B (f table)) where
  one_more : (table : Table) → Upto G (place_of table) → G table → Upto G (suc (place_of table))
  one_more table before here earlier h =
      ⊎_elim
      (λ (e : place_of earlier ≡ place_of table). subst G (sym (same_place earlier table e)) here)
      (λ (l : place_of earlier < place_of table). before earlier l)
      (last_or_below (place_of table) (place_of earlier) h)

  next : (table : Table) → Upto G (place_of table) → Stage (Upto G (suc (place_of table))) B (f table)
  next table before = passed_on (one_more table before) (stage table before)

  -- the first k tables
  first_tables : (k : ℕ) → k ≤ table_count → Stage (Upto G k) B (turns (λ i. f (table_at i)) k)
  unfolding turns
  first_tables zero h = passed refl (λ earlier l. absurd (not-suc-le-zero l))
  first_tables (suc k) h =
      let here : place_of (table_at k) ≡ k = place_at k h in
      then_stage (first_tables k (le_of_suc-le h)) (λ before.
      subst (λ n. Stage (Upto G (suc n)) B (f (table_at k))) here (next (table_at k) (subst (Upto G) (sym here) before)))

  pub in_turn_stage : Stage ((table : Table) → G table) B (tables_in_turn f)
  unfolding tables_in_turn
  in_turn_stage = passed_on (λ all table. all table (place_below table)) (first_tables table_count (le_refl table_count))

-- where nothing is refused in turn, no table is
pub in_turn_all : (f : Table → Answer) → (tables_in_turn f).number ≡ 0 → (table : Table) → (f table).number ≡ 0
unfolding tables_in_turn
in_turn_all f e table =
    ap (λ t. (f t).number) (sym (table_placed table)) ∙ turns_all (λ k. f (table_at k)) table_count e (place_of table) (place_below table)
