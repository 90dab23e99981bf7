-- Laws of a test that holds at some position: it does not fail at every one.
-- Assumes nothing.
use mathlib.Core.Path.{◌≡◌, refl, sym, ap, ◌∙◌}
use mathlib.Core.Logic.{⊎_elim}
use mathlib.Core.Bool.{Bool, true, false, not, true≢false, ◌&&◌, ◌||◌}
use Prim.Native.Nat.{ℕ, zero, suc, ◌<◌}
use native.Mathlib.Nat.{le_step, lt-suc_self}
use borrow.Author.Tests.{not-true, not-false}
use Rattle.lists.specs.Sums.{every, any}
use Rattle.lists.proofs.Sums.{every_at, every_from}
use Rattle.lists.proofs.Ranks.{true_or_false}

-- a test that does not hold everywhere fails somewhere
pub some_failing : (n : ℕ) (t : ℕ → Bool) → every n t ≡ false → (i : ℕ) × (i < n) × (t i ≡ false)
unfolding every
some_failing zero t e = absurd (true≢false e)
some_failing (suc n) t e =
    ⊎_elim
    (λ (all : every n t ≡ true). (n, lt-suc_self n, ap (λ s. s && t n) (sym all) ∙ e))
    (λ (earlier : every n t ≡ false). let found = some_failing n t earlier in (found.0, le_step found.1, found.2))
    (true_or_false (every n t))

one_more : (s t : Bool) → (not s || t) ≡ not (s && not t)
one_more true true = refl
one_more true false = refl
one_more false t = refl

-- a test holds somewhere exactly where it does not fail everywhere
any_every : (n : ℕ) (t : ℕ → Bool) → any n t ≡ not (every n (λ i. not (t i)))
unfolding any every
any_every zero t = refl
any_every (suc n) t = ap (λ s. s || t n) (any_every n t) ∙ one_more (every n (λ i. not (t i))) (t n)

-- where the test holds at no position, it fails at each
pub none_at : (n : ℕ) (t : ℕ → Bool) → any n t ≡ false → (i : ℕ) → i < n → t i ≡ false
none_at n t e i h =
    not-true (t i) (every_at n (λ k. not (t k)) (not-false (every n (λ k. not (t k))) (sym (any_every n t) ∙ e)) i h)

-- .. and the other way round
pub none_from : (n : ℕ) (t : ℕ → Bool) → ((i : ℕ) → i < n → t i ≡ false) → any n t ≡ false
none_from n t h = any_every n t ∙ ap not (every_from n (λ i. not (t i)) (λ i b. ap not (h i b)))

-- a position at which the test holds is enough
pub any_at : (n : ℕ) (t : ℕ → Bool) (i : ℕ) → i < n → t i ≡ true → any n t ≡ true
any_at n t i h e =
    ⊎_elim
    (λ (some : any n t ≡ true). some)
    (λ (none : any n t ≡ false). absurd (true≢false (sym e ∙ none_at n t none i h)))
    (true_or_false (any n t))

-- where the test holds at some position, here is one
pub any_found : (n : ℕ) (t : ℕ → Bool) → any n t ≡ true → (i : ℕ) × (i < n) × (t i ≡ true)
any_found n t e =
    let found = some_failing n (λ i. not (t i)) (not-true (every n (λ i. not (t i))) (sym (any_every n t) ∙ e)) in
    (found.0, found.1, not-false (t found.0) found.2)
