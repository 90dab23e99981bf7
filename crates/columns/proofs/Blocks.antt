-- A block's columns, word by word and lent: the columns that were lent are what the call left, every other one and the block's
-- length are as before.
-- Assumes nothing.
use mathlib.Core.Path.{◌≡◌, refl, sym, ap, ap₂, ◌∙◌}
use mathlib.Core.Logic.{⊎_elim}
use mathlib.Core.Bool.{false}
use mathlib.Core.List.{List, ◌++◌}
use Prim.Native.Nat.{ℕ, zero, suc, ◌+◌, ◌*◌, ◌-◌, ◌/◌, ◌%◌, ◌≤◌, ◌<◌}
use native.Mathlib.Nat.{lt_of_lt_of_le, le_of_eq, zero-mul, add-mul, mul-le-mul_right, eq-or-lt_of_le, div-add-mod', mod-lt, div-lt_iff_lt-mul}
use native.Mathlib.Omega.{arith}
use lib.Dec.{eqb}
use lib.ListN.{length, take, drop, length-append, length-take, length-drop, take-append-drop, replicate, get_or-eq_default}
use lib.Seq.{length-take-le, take_all, take-append-le, drop-append-le, drop-append-add, get_or-take, get_or-drop, ext_get_or}
use borrow.Author.Tests.{eqb-false}
use Rattle.lists.specs.Sums.{at}
use Rattle.lists.proofs.Ranks.{lt_or_le}
use Rattle.columns.specs.Blocks.{column_at, columns_from, with_columns, Zeros}

-- new words are zeros
pub new_zeros : (n : ℕ) → Zeros (replicate n 0)
new_zeros zero i = refl
new_zeros (suc n) zero = refl
new_zeros (suc n) (suc i) = new_zeros n i

module _ (stride c : ℕ) (block : List ℕ) where
  -- a word of a column
  pub column_word : (i : ℕ) → i < stride → at (column_at stride c block) i ≡ at block (c * stride + i)
  column_word i b = get_or-take stride (drop (c * stride) block) i 0 b ∙ get_or-drop (c * stride) block i 0

  pub column_zeros : Zeros block → Zeros (column_at stride c block)
  column_zeros zeros i =
      ⊎_elim
      (λ (b : i < stride). column_word i b ∙ zeros (c * stride + i))
      (λ (b : stride ≤ i).
      let short : length (column_at stride c block) ≤ i = omega (arith, length-take stride (drop (c * stride) block)) in
      get_or-eq_default (column_at stride c block) 0 short)
      (lt_or_le i stride)

  -- columns that lie in a block have its stride
  pub columns_long : (n : ℕ) → (c + n) * stride ≤ length block → length (columns_from stride c n block) ≡ n * stride
  columns_long n h =
      length-take-le (n * stride) (drop (c * stride) block)
      (omega (arith, length-drop (c * stride) block, add-mul c n stride))

  -- .. and so one of them
  pub column_long : (c + 1) * stride ≤ length block → length (column_at stride c block) ≡ stride
  column_long h =
      let one : stride ≡ 1 * stride = omega arith in
      ap (λ k. length (take k (drop (c * stride) block))) one ∙ columns_long 1 h ∙ sym one

-- a column in front does not see what stands behind
front_column : (stride d : ℕ) (l r : List ℕ) → (d + 1) * stride ≤ length l → column_at stride d (l ++ r) ≡ column_at stride d l
front_column stride d l r h =
    ap (take stride) (drop-append-le (d * stride) l r (omega (arith, add-mul d 1 stride)))
    ∙ take-append-le stride (drop (d * stride) l) r (omega (arith, length-drop (d * stride) l, add-mul d 1 stride))

-- .. and a column behind not what stands in front
behind_column : (stride c d : ℕ) (l r : List ℕ) → length l ≡ c * stride → column_at stride (c + d) (l ++ r) ≡ column_at stride d r
behind_column stride c d l r e =
    ap (λ k. take stride (drop k (l ++ r))) (add-mul c d stride ∙ ap (λ k. k + d * stride) (sym e))
    ∙ ap (take stride) (drop-append-add l r (d * stride))

-- a block of which n columns, from column c on, were lent and came back as `part`
pub record ColumnsLent (stride c n : ℕ) (before part after : List ℕ) : Type 0 where
  pub long : length after ≡ length before
  pub inside : (d : ℕ) → d < n → column_at stride (c + d) after ≡ column_at stride d part
  pub front : (d : ℕ) → d < c → column_at stride d after ≡ column_at stride d before
  pub behind : (d : ℕ) → column_at stride (c + (n + d)) after ≡ column_at stride (c + (n + d)) before

module _ (stride c n : ℕ) (block : List ℕ) (room : (c + n) * stride ≤ length block) where
  sum : (c + n) * stride ≡ c * stride + n * stride
  sum = add-mul c n stride

  first_long : length (take (c * stride) block) ≡ c * stride
  first_long = length-take-le (c * stride) block (omega (arith, sum))

  part_long : length (columns_from stride c n block) ≡ n * stride
  part_long = columns_long stride c block n room

  -- the part that is lent is a block by itself
  pub part_column : (d : ℕ) → d < n → column_at stride d (columns_from stride c n block) ≡ column_at stride (c + d) block
  part_column d b =
      let rest = drop (c * stride) block in
      sym (front_column stride d (take (n * stride) rest) (drop (n * stride) rest) (omega (arith, part_long, mul-le-mul_right {m = d + 1} {n = n} stride (omega arith))))
      ∙ ap (column_at stride d) (take-append-drop (n * stride) rest)
      ∙ sym (behind_column stride c d (take (c * stride) block) rest first_long)
      ∙ ap (column_at stride (c + d)) (take-append-drop (c * stride) block)

  pub columns_lent : (part : List ℕ) → length part ≡ n * stride → ColumnsLent stride c n block part (with_columns stride c n part block)
  columns_lent part e =
      let first = take (c * stride) block in
      let rest = drop (c * stride) block in
      let last = drop (n * stride) rest in
      record {
        long =
            length-append first (part ++ last)
            ∙ ap₂ ◌+◌ first_long (length-append part last ∙ ap (λ k. k + length last) (e ∙ sym part_long) ∙ sym (length-append (take (n * stride) rest) last))
            ∙ ap (λ k. c * stride + k) (ap length (take-append-drop (n * stride) rest))
            ∙ omega (arith, length-drop (c * stride) block, sum);
        inside = λ d b.
            behind_column stride c d first (part ++ last) first_long
            ∙ front_column stride d part last (omega (arith, mul-le-mul_right {m = d + 1} {n = n} stride (omega arith)));
        front = λ d b.
            let there : (d + 1) * stride ≤ length first = omega (arith, first_long, mul-le-mul_right {m = d + 1} {n = c} stride (omega arith)) in
            front_column stride d first (part ++ last) there
            ∙ sym (front_column stride d first rest there)
            ∙ ap (column_at stride d) (take-append-drop (c * stride) block);
        behind = λ d.
            behind_column stride c (n + d) first (part ++ last) first_long
            ∙ behind_column stride n d part last e
            ∙ sym (behind_column stride n d (take (n * stride) rest) last part_long)
            ∙ ap (column_at stride (n + d)) (take-append-drop (n * stride) rest)
            ∙ sym (behind_column stride c (n + d) first rest first_long)
            ∙ ap (column_at stride (c + (n + d))) (take-append-drop (c * stride) block);
      }

-- the same of one column
pub record ColumnLent (stride c : ℕ) (before column after : List ℕ) : Type 0 where
  pub long : length after ≡ length before
  pub its : column_at stride c after ≡ column
  pub others : (d : ℕ) → eqb d c ≡ false → column_at stride d after ≡ column_at stride d before

module _ (stride c : ℕ) (block : List ℕ) (room : (c + 1) * stride ≤ length block) where
  pub column_lent : (column : List ℕ) → length column ≡ stride → ColumnLent stride c block column (with_columns stride c 1 column block)
  column_lent column e =
      let l : ColumnsLent stride c 1 block column (with_columns stride c 1 column block) = columns_lent stride c 1 block room column (omega arith) in
      record {
        long = l.long;
        its =
            ap (λ k. column_at stride k (with_columns stride c 1 column block)) (omega arith)
            ∙ l.inside 0 (omega arith)
            ∙ ap (λ k. take stride (drop k column)) (zero-mul stride)
            ∙ take_all stride column (omega arith);
        others = λ d b.
            ⊎_elim
            (λ (h : d < c). l.front d h)
            (λ (h : c ≤ d).
            ⊎_elim
            (λ (e : c ≡ d). absurd (eqb-false d c b (sym e)))
            (λ (h : c < d).
            let there : d ≡ c + (1 + (d - (c + 1))) = omega arith in
            ap (λ k. column_at stride k (with_columns stride c 1 column block)) there
            ∙ l.behind (d - (c + 1))
            ∙ ap (λ k. column_at stride k block) (sym there))
            (eq-or-lt_of_le h))
            (lt_or_le d c);
      }

-- blocks that agree in each of their columns are the same
pub same_columns : (stride n : ℕ) (l m : List ℕ) → length l ≡ n * stride → length m ≡ n * stride
    → ((c : ℕ) → c < n → column_at stride c l ≡ column_at stride c m) → l ≡ m
same_columns stride n l m a b same =
    ext_get_or 0 l m (a ∙ sym b)
    (λ i h.
    let within : i < n * stride = lt_of_lt_of_le h (le_of_eq a) in
    let some : 0 < stride = ⊎_elim (λ (e : 0 ≡ stride). absurd (omega (arith, within, ap (λ k. n * k) (sym e)))) (λ k. k) (eq-or-lt_of_le {n = 0} (omega arith)) in
    let there : i / stride * stride + i % stride ≡ i = div-add-mod' i stride in
    let below : i % stride < stride = mod-lt i some in
    sym (ap (at l) there) ∙ sym (column_word stride (i / stride) l (i % stride) below)
    ∙ ap (λ k. at k (i % stride)) (same (i / stride) ((div-lt_iff_lt-mul some).1 within))
    ∙ column_word stride (i / stride) m (i % stride) below ∙ ap (at m) there)
