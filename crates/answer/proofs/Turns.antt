-- What "the first refusal in turn" means: nothing is refused exactly where every look is fine, and a refusal is that of the
-- first look that is not. By induction on how many looks there are, adding the last one.
-- Assumes nothing.
use mathlib.Core.Path.{◌≡◌, refl, sym, ap, ap₂, ◌∙◌, subst}
use mathlib.Core.Logic.{◌⊎◌, ⊎_elim, ◌≢◌}
use mathlib.Core.Bool.{Bool, true, false}
use Prim.Native.Nat.{ℕ, zero, suc, ◌+◌, ◌<◌}
use native.Mathlib.Nat.{not-suc-le-zero, le_step, lt-suc_self}
use native.Mathlib.Numerals.{add-one}
use borrow.Author.Tests.{eq-eqb, ne_eqb}
use Rattle.lists.proofs.Sums.{last_or_below}
use Rattle.lists.proofs.Ranks.{equal_or_not}
use Rattle.answer.specs.declared.Answer.{Answer}
use Rattle.answer.specs.Turns.{look, accepted, refusal, refuse, ◌then◌, turns, first}

-- a number is 0 or not
pub zero_or_not : (n : ℕ) → (n ≡ 0) ⊎ (n ≢ 0)
zero_or_not n = equal_or_not n 0

-- a look that finds a fault gives its number; one that finds none leaves the answer to the next
pub look_fault : (fault : Bool) (number next : ℕ) → fault ≡ true → look fault number next ≡ number
look_fault fault number next e = rw e

pub look_fine : (fault : Bool) (number next : ℕ) → fault ≡ false → look fault number next ≡ next
look_fine fault number next e = rw e

-- where a look and all behind it find nothing, its fault is not there, and the next find nothing
pub look_none : (fault : Bool) (number next : ℕ) → number ≢ 0 → look fault number next ≡ 0 → (fault ≡ false) × (next ≡ 0)
look_none true number next d e = absurd (d e)
look_none false number next d e = (refl, e)

-- the first of two answers where it refuses, and the second where it does not
pub then_first : (a b : Answer) → a.number ≢ 0 → (a then b) ≡ a
unfolding ◌then◌
then_first a b d = rw (ne_eqb a.number 0 d)

pub then_second : (a b : Answer) → a.number ≡ 0 → (a then b) ≡ b
unfolding ◌then◌
then_second a b e = rw (eq-eqb a.number 0 e)

-- nothing refused so far leaves the answer to what follows
pub accepted_then : (a : Answer) → (accepted then a) ≡ a
accepted_then a = then_second accepted a refl

-- in turn: what is accepted leaves the answer to what follows, what is refused stays
pub then_on : {a b r : Answer} → a ≡ accepted → b ≡ r → (a then b) ≡ r
then_on {a} {b} e f = then_second a b (ap (λ (k : Answer). k.number) e) ∙ f

pub then_stays : {a r : Answer} → r.number ≢ 0 → (b : Answer) → a ≡ r → (a then b) ≡ r
then_stays {a} d b e = then_first a b (λ z. d (ap (λ (k : Answer). k.number) (sym e) ∙ z)) ∙ e

pub then_none : (a b : Answer) → (a then b).number ≡ 0 → (a.number ≡ 0) × (b.number ≡ 0)
then_none a b e =
    ⊎_elim
    (λ (z : a.number ≡ 0). (z, ap (λ (r : Answer). r.number) (sym (then_second a b z)) ∙ e))
    (λ (d : a.number ≢ 0). absurd (d (ap (λ (r : Answer). r.number) (sym (then_first a b d)) ∙ e)))
    (zero_or_not a.number)

pub refuse_none : (n table row : ℕ) → n ≡ 0 → refuse n table row ≡ accepted
unfolding refuse
refuse_none n table row e = rw (eq-eqb n 0 e)

pub refuse_some : (n table row : ℕ) → n ≢ 0 → refuse n table row ≡ refusal n table row
unfolding refuse
refuse_some n table row d = rw (ne_eqb n 0 d)

pub refuse_number : (n table row : ℕ) → (refuse n table row).number ≡ n
refuse_number n table row =
    ⊎_elim
    (λ (e : n ≡ 0). ap (λ (r : Answer). r.number) (refuse_none n table row e) ∙ sym e)
    (λ (d : n ≢ 0). ap (λ (r : Answer). r.number) (refuse_some n table row d))
    (zero_or_not n)

-- the same answers in turn give the same
pub turns_eq : (a b : ℕ → Answer) (n : ℕ) → ((i : ℕ) → i < n → a i ≡ b i) → turns a n ≡ turns b n
unfolding turns
turns_eq a b zero e = refl
turns_eq a b (suc n) e = ap₂ ◌then◌ (turns_eq a b n (λ i h. e i (le_step h))) (e n (lt-suc_self n))

pub turns_suc : (a : ℕ → Answer) (n : ℕ) → turns a (n + 1) ≡ (turns a n then a n)
unfolding turns
turns_suc a n = rw add-one

-- nothing is refused where every answer is the accepted one
pub turns_none : (a : ℕ → Answer) (n : ℕ) → ((i : ℕ) → i < n → a i ≡ accepted) → turns a n ≡ accepted
unfolding turns
turns_none a zero h = refl
turns_none a (suc n) h =
    ap (λ (r : Answer). r then a n) (turns_none a n (λ i b. h i (le_step b)))
    ∙ accepted_then (a n)
    ∙ h n (lt-suc_self n)

-- where nothing is refused, no answer is a refusal
pub turns_all : (a : ℕ → Answer) (n : ℕ) → (turns a n).number ≡ 0 → (i : ℕ) → i < n → (a i).number ≡ 0
unfolding turns
turns_all a zero e i h = absurd (not-suc-le-zero h)
turns_all a (suc n) e i h =
    let parts : ((turns a n).number ≡ 0) × ((a n).number ≡ 0) = then_none (turns a n) (a n) e in
    ⊎_elim
    (λ (q : i ≡ n). ap (λ k. (a k).number) q ∙ parts.1)
    (λ (b : i < n). turns_all a n parts.0 i b)
    (last_or_below n i h)

-- the first answer that refuses is the one given
pub turns_stop : (a : ℕ → Answer) (n i : ℕ) → i < n → ((j : ℕ) → j < i → a j ≡ accepted) → (a i).number ≢ 0 → turns a n ≡ a i
unfolding turns
turns_stop a zero i h fine bad = absurd (not-suc-le-zero h)
turns_stop a (suc n) i h fine bad =
    ⊎_elim
    (λ (q : i ≡ n).
    then_second (turns a n) (a n) (ap (λ (r : Answer). r.number) (turns_none a n (λ j b. fine j (rw q b))))
    ∙ ap a (sym q))
    (λ (b : i < n).
    let before : turns a n ≡ a i = turns_stop a n i b fine bad in
    then_first (turns a n) (a n) (λ z. bad (ap (λ (r : Answer). r.number) (sym before) ∙ z)) ∙ before)
    (last_or_below n i h)

-- what a refusal says: it is one of the answers, and none before it refuses
pub record StoppedAt (a : ℕ → Answer) (n : ℕ) (r : Answer) : Type 0 where
  pub turn : ℕ
  pub within : turn < n
  pub its : r ≡ a turn
  pub earlier : (j : ℕ) → j < turn → (a j).number ≡ 0

pub turns_refused : (a : ℕ → Answer) (n : ℕ) → (turns a n).number ≢ 0 → StoppedAt a n (turns a n)
unfolding turns
turns_refused a zero d = absurd (d refl)
turns_refused a (suc n) d =
    ⊎_elim
    (λ (z : (turns a n).number ≡ 0).
    record { turn = n; within = lt-suc_self n; its = then_second (turns a n) (a n) z; earlier = turns_all a n z })
    (λ (e : (turns a n).number ≢ 0).
    let before : StoppedAt a n (turns a n) = turns_refused a n e in
    record {
      turn = before.turn;
      within = le_step before.within;
      its = then_first (turns a n) (a n) e ∙ before.its;
      earlier = before.earlier;
    })
    (zero_or_not (turns a n).number)

-- the rows of a table in turn: where each is fine, nothing is refused ..
pub first_none : (table : ℕ) (f : ℕ → ℕ) (n : ℕ) → ((i : ℕ) → i < n → f i ≡ 0) → first table f n ≡ accepted
unfolding first
first_none table f n h = turns_none _ n (λ i b. refuse_none (f i) table i (h i b))

-- .. and where nothing is refused, each is fine
pub first_all : (table : ℕ) (f : ℕ → ℕ) (n : ℕ) → (first table f n).number ≡ 0 → (i : ℕ) → i < n → f i ≡ 0
unfolding first
first_all table f n e i h = sym (refuse_number (f i) table i) ∙ turns_all (λ k. refuse (f k) table k) n e i h

-- what a refusal says: its row is one of them, the number is that row's, and every row before it is fine
pub record RefusedAt (table : ℕ) (f : ℕ → ℕ) (n : ℕ) (a : Answer) : Type 0 where
  pub at_table : a.table ≡ table
  pub at_row : a.row < n
  pub its_number : f a.row ≡ a.number
  pub earlier_fine : (i : ℕ) → i < a.row → f i ≡ 0

pub first_refused : (table : ℕ) (f : ℕ → ℕ) (n : ℕ) → (first table f n).number ≢ 0 → RefusedAt table f n (first table f n)
unfolding first
first_refused table f n d =
    let stopped = turns_refused (λ i. refuse (f i) table i) n d in
    let row : ℕ = stopped.turn in
    let bad : f row ≢ 0 = λ e. d (ap (λ (r : Answer). r.number) stopped.its ∙ refuse_number (f row) table row ∙ e) in
    subst (RefusedAt table f n) (sym (stopped.its ∙ refuse_some (f row) table row bad))
    (record {
      at_table = refl;
      at_row = stopped.within;
      its_number = refl;
      earlier_fine = λ i b. sym (refuse_number (f i) table i) ∙ stopped.earlier i b;
    })

pub first_suc : (table : ℕ) (f : ℕ → ℕ) (n : ℕ) → first table f (n + 1) ≡ (first table f n then refuse (f n) table n)
unfolding first
first_suc table f n = turns_suc _ n

-- the first row that is refused gives the answer
pub first_at : (table : ℕ) (f : ℕ → ℕ) (n i : ℕ) → i < n → ((j : ℕ) → j < i → f j ≡ 0) → f i ≢ 0 → first table f n ≡ refuse (f i) table i
unfolding first
first_at table f n i h fine bad =
    turns_stop _ n i h (λ j b. refuse_none (f j) table j (fine j b)) (λ z. bad (sym (refuse_number (f i) table i) ∙ z))
