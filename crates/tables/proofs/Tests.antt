-- A test for a fault says whether a rule holds: the fault is not there exactly where the rule holds.
-- Assumes nothing.
use mathlib.Core.Path.{◌≡◌, refl, sym, ◌∙◌}
use mathlib.Core.Bool.{Bool, true, false, true≢false, not, ◌||◌}
use Prim.Native.Nat.{ℕ, ◌≤◌, ◌<◌}
use lib.Dec.{ltb, eqb}
use borrow.Author.Tests.{ltb-true, ltb-false, lt-ltb, le-ltb, eqb-true, eq-eqb, not-false}

pub record Tests (Rule : Type 0) (fault : Bool) : Type 0 where
  pub holds : fault ≡ false → Rule
  pub kept : Rule → fault ≡ false

-- the rule is broken where the fault is there
pub breaks : {Rule : Type 0} {fault : Bool} → Tests Rule fault → fault ≡ true → ¬ Rule
breaks test e rule = true≢false (sym e ∙ test.kept rule)

-- a rule said in other words
pub reworded : {Rule Rule' : Type 0} {fault : Bool} → (Rule → Rule') → (Rule' → Rule) → Tests Rule fault → Tests Rule' fault
reworded there back test = record { holds = λ e. there (test.holds e); kept = λ r. test.kept (back r) }

-- a rule that nothing can break
pub no_rule : Tests (Unit {0}) false
no_rule = record { holds = λ e. tt; kept = λ r. refl }

-- a second rule, tested where the first holds
pub also : {P Q : Type 0} {s t : Bool} → Tests P s → (P → Tests Q t) → Tests (P × Q) (s || t)
also {s = true} p q = record { holds = λ e. absurd (true≢false e); kept = λ r. absurd (true≢false (p.kept r.0)) }
also {s = false} p q = let rule = p.holds refl in record { holds = λ e. (rule, (q rule).holds e); kept = λ r. (q rule).kept r.1 }

-- two rules, and a fault of either
pub both : {P Q : Type 0} {s t : Bool} → Tests P s → Tests Q t → Tests (P × Q) (s || t)
both p q = also p (λ rule. q)

-- a number is at least another
pub at_least : (a b : ℕ) → Tests (a ≤ b) (ltb b a)
at_least a b = record { holds = ltb-false b a; kept = le-ltb b a }

-- it is another
pub equal : (a b : ℕ) → Tests (a ≡ b) (not (eqb a b))
equal a b = record { holds = λ e. eqb-true a b (not-false (eqb a b) e); kept = λ q. rw (eq-eqb a b q) }

-- it is less
pub less : (a b : ℕ) → Tests (a < b) (not (ltb a b))
less a b = record { holds = λ e. ltb-true a b (not-false (ltb a b) e); kept = λ l. rw (lt-ltb a b l) }
