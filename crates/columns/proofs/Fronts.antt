-- The front of a column, which holds n values, lent by itself.
-- Assumes nothing.
use mathlib.Core.Path.{◌≡◌, sym, ap, ◌∙◌}
use mathlib.Core.List.{List}
use Prim.Native.Nat.{ℕ, ◌≤◌}
use native.Mathlib.Nat.{le_trans, le_of_eq}
use lib.ListN.{length, take}
use lib.Seq.{length-take-le}
use Rattle.lists.specs.Entries.{listed, put}
use Rattle.lists.proofs.Entries.{put_long, take_put}

-- `count` is how many the code counted
pub record Front (n : ℕ) (f : ℕ → ℕ) (count : ℕ) (column : List ℕ) : Type 0 where
  pub counted : count ≡ n
  pub within : count ≤ length column
  pub long : count ≡ length (take count column)
  pub holds : take count column ≡ listed n f

module _ (n : ℕ) (f : ℕ → ℕ) {column : List ℕ} {count : ℕ} (counted : count ≡ n) (long : n ≤ length column) (holds : take n column ≡ listed n f) where
  made : Front n f count column
  made =
      let within : count ≤ length column = le_trans (le_of_eq counted) long in
      record {
        counted = counted;
        within = within;
        long = sym (length-take-le count column within);
        holds = ap (λ k. take k column) counted ∙ holds;
      }

-- of a column that n values were stored in
pub stored_front : (n : ℕ) (f : ℕ → ℕ) (before : List ℕ) {column : List ℕ} {count : ℕ} → column ≡ put n f before → n ≤ length before → count ≡ n
    → Front n f count column
stored_front n f before stored long counted =
    made n f counted (le_trans long (le_of_eq (sym (put_long n f before stored)))) (ap (take n) stored ∙ take_put n f before long)
