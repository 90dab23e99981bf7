-- Several weights divided at once: the parts below a position are a step ahead of those from it on, until all are.
-- Assumes nothing.
use mathlib.Core.Path.{◌≡◌, sym, ◌∙◌, subst}
use mathlib.Core.Logic.{⊎_elim}
use mathlib.Core.List.{List}
use Prim.Native.Nat.{ℕ, ◌+◌, ◌-◌, ◌*◌, ◌/◌, ◌≤◌, ◌<◌}
use native.Mathlib.Nat.{ne_of_lt, le-div_iff_mul-le}
use native.Mathlib.Numerals.{add-one}
use native.Mathlib.Omega.{arith}
use lib.ListN.{length, set, replicate, take, drop, length-set, length-replicate, length-take, length-drop}
use lib.Seq.{get_or-take}
use Rattle.std.proofs.lemmas.List.{get_or-replicate, get_or-drop, get_or-set_same, get_or-set_other}
use Rattle.lists.specs.Sums.{at}
use Rattle.lists.proofs.Sums.{last_or_below}
use Rattle.cents.specs.declared.quotients.Part.{Part}
use Rattle.cents.specs.Steps.{Quotient, Quotients, part_at}
use Rattle.cents.proofs.Doubling.{Passed}

-- where the long division of weight k stands after the digits `high` of the pot
abbrev pub stands : List ℕ → ℕ → ℕ → ℕ → ℕ → Part → Type 0
stands weights factor whole high k part = Passed high (factor * at weights k) (factor * whole) part.cents part.rest

-- of n parts those below k are done, and the others still to do
pub record Worked (before after : ℕ → Part → Type 0) (n k : ℕ) (parts : List Part) : Type 0 where
  pub long : length parts ≡ n
  pub done : (j : ℕ) → j < k → after j (part_at parts j)
  pub left : (j : ℕ) → k ≤ j → j < n → before j (part_at parts j)

-- all of them alike, to begin with
pub worked_none : {before after : ℕ → Part → Type 0} (n : ℕ) (part : Part) → ((j : ℕ) → before j part)
    → Worked before after n 0 (replicate n part)
worked_none {before} n part all =
    record {
      long = length-replicate n part;
      done = λ j b. absurd (omega arith);
      left = λ j h b. subst (before j) (sym (get_or-replicate n j part _ b)) (all j);
    }

-- one part more
pub worked_on : {before after : ℕ → Part → Type 0} {n k : ℕ} {parts : List Part} {part : Part} → k < n
    → Worked before after n k parts → after k part → Worked before after n (k + 1) (set parts k part)
worked_on {before} {after} {n} {k} {parts} {part} within worked one =
    record {
      long = length-set parts k part ∙ worked.long;
      done = λ j b.
          ⊎_elim
          (λ (e : j ≡ k). rw e (subst (after k) (sym (get_or-set_same parts k part _ (omega (arith, worked.long)))) one))
          (λ (l : j < k). subst (after j) (sym (get_or-set_other parts k j part _ (ne_of_lt l))) (worked.done j l))
          (last_or_below k j (rw add-one at b));
      left = λ j h b.
          subst (before j) (sym (get_or-set_other parts k j part _ (λ e. let s : j ≡ k = e in omega arith))) (worked.left j (omega arith) b);
    }

-- n weights from a position on
module _ (weights : List ℕ) (from n : ℕ) (inside : from + n ≤ length weights) where
  pub stretch_long : length (take (from + n - from) (drop from weights)) ≡ n
  stretch_long = simp (length-take, length-drop) (omega arith)

  pub stretch_at : (k : ℕ) → k < n → at (take (from + n - from) (drop from weights)) k ≡ at weights (from + k)
  stretch_at k b =
      let within : k < from + n - from = omega arith in
      get_or-take (from + n - from) (drop from weights) k 0 within ∙ get_or-drop from weights k 0

  -- each weight's quotient, by its own position
  pub quotient_at : (pot whole : ℕ) (parts : List Part) → Quotients pot (take (from + n - from) (drop from weights)) whole parts
      → (k : ℕ) → k < n → Quotient pot (at weights (from + k)) whole (part_at parts k).cents (part_at parts k).rest
  quotient_at pot whole parts quotients k b = rw (stretch_at k b) at (quotients k (rw stretch_long b))

-- n at a time, as long as there are n
pub times_within : (m n k : ℕ) → 0 < n → k < m / n → k * n + n ≤ m
times_within m n k some h = omega (arith, (le-div_iff_mul-le {x = k + 1} {y = m} some).0 (omega arith))
