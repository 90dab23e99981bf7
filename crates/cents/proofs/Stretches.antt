-- Cutting down one weight after the other: each stretch of weights goes on from where the one before left off.
-- Assumes nothing.
use mathlib.Core.Path.{◌≡◌, sym, ap, ap₂, ◌∙◌}
use mathlib.Core.List.{List}
use Prim.Native.Nat.{ℕ, ◌+◌, ◌*◌, ◌-◌, ◌≤◌}
use native.Mathlib.Nat.{le_trans, le_of_eq, zero-add}
use native.Mathlib.Omega.{arith}
use lib.ListN.{length, set, length-set}
use Rattle.lists.specs.Sums.{sum_to, at}
use Rattle.lists.specs.Entries.{put}
use Rattle.lists.proofs.Sums.{sum_none, sum_suc}
use Rattle.lists.proofs.Entries.{put_none, put_suc}
use Rattle.cents.specs.Dealt.{most, places, Base, cents_of, key_of}
use Rattle.cents.specs.Steps.{Room, Quotient, PartKept, Cut, CutDown}
use Rattle.cents.proofs.Bounds.{given_fits}

-- what is kept takes no room away
pub room_on : {weights out out' keys keys' : List ℕ} {cents rest i r : ℕ} → Room weights out keys
    → PartKept cents rest i out out' keys keys' r → Room weights out' keys'
room_on room kept =
    record {
      few = room.few;
      cents_room = le_trans room.cents_room (le_of_eq (sym (ap length kept.stored ∙ simp length-set)));
      keys_room = le_trans room.keys_room (le_of_eq (sym (ap length kept.placed ∙ simp length-set)));
    }

module _ (pot : ℕ) (weights : List ℕ) (whole : ℕ) where
  pub cut_on : {a b c : ℕ} {out₁ out₂ out₃ keys₁ keys₂ keys₃ : List ℕ} {r s : ℕ}
      → Cut pot weights whole a b out₁ out₂ keys₁ keys₂ r
      → Cut pot weights whole b c out₂ out₃ keys₂ keys₃ s
      → Cut pot weights whole a c out₁ out₃ keys₁ keys₃ (r + s)
  cut_on one two =
      record {
        given = omega (arith, one.given, two.given);
        cents = λ l e. two.cents l (one.cents l e);
        placed = λ l e. two.placed l (one.placed l e);
      }

  pub cut_next : (i next : ℕ) {out out' keys keys' : List ℕ} {cents rest r : ℕ} → next ≡ i + 1
      → Quotient pot (at weights i) whole cents rest → PartKept cents rest i out out' keys keys' r
      → Cut pot weights whole i next out out' keys keys' r
  cut_next i next is-next part kept =
      record {
        given =
            ap (λ n. sum_to i (cents_of pot weights whole) + n) (kept.given ∙ part.cents_are)
            ∙ sym (sum_suc i (cents_of pot weights whole))
            ∙ ap (λ n. sum_to n (cents_of pot weights whole)) (sym is-next);
        cents = λ l e.
            kept.stored
            ∙ ap₂ (λ o n. set o i n) e part.cents_are
            ∙ sym (put_suc i (cents_of pot weights whole) l)
            ∙ ap (λ n. put n (cents_of pot weights whole) l) (sym is-next);
        placed = λ l e.
            kept.placed
            ∙ ap₂ (λ o n. set o i n) e (ap (λ n. n * 64 + (63 - i)) part.rest_is)
            ∙ sym (put_suc i (key_of pot weights whole) l)
            ∙ ap (λ n. put n (key_of pot weights whole) l) (sym is-next);
      }

  pub cut_to : {a b c : ℕ} {out out' keys keys' : List ℕ} {r : ℕ} → b ≡ c
      → Cut pot weights whole a b out out' keys keys' r → Cut pot weights whole a c out out' keys keys' r
  cut_to e cut = rw (sym e) cut

  pub cut_all : (out out' keys keys' : List ℕ) (r : ℕ)
      → Cut pot weights whole 0 (length weights) out out' keys keys' r → CutDown pot weights whole out out' keys keys' r
  cut_all out out' keys keys' r cut =
      record {
        given = sym (zero-add r) ∙ ap (λ n. n + r) (sym (sum_none (cents_of pot weights whole))) ∙ cut.given;
        cents = cut.cents out (sym (put_none (cents_of pot weights whole) out));
        placed = cut.placed keys (sym (put_none (key_of pot weights whole) keys));
      }

  module _ (base : Base pot weights whole) where
    -- no more than 64 times the largest pot is given out
    pub given_small : {from : ℕ} (n : ℕ) {out out' keys keys' : List ℕ} {r : ℕ} → n ≤ length weights → length weights ≤ 64
        → Cut pot weights whole from n out out' keys keys' r → r ≤ places * most
    given_small n h few cut =
        let most : sum_to n (cents_of pot weights whole) ≤ n * most = given_fits pot weights whole base n h in
        omega (arith, cut.given)
