-- How values that were made in words of a function's own come to the lent words.
-- Assumes nothing.
use mathlib.Core.Path.{◌≡◌, ap, ◌∙◌}
use mathlib.Core.List.{List}
use Prim.Native.Nat.{ℕ}
use lib.ListN.{length, take}
use lib.Seq.{get_or-take, length-take-le}
use borrow.Author.Tests.{eq-eqb}
use Rattle.lists.specs.Sums.{at}
use Rattle.lists.specs.Entries.{put}
use Rattle.lists.proofs.Entries.{put_eq}
use Rattle.answer.specs.declared.Answer.{Answer}
use Rattle.groups.specs.Columns.{ColumnWritten}
use Rattle.groups.specs.Steps.{ColumnMade}

module _ {n : ℕ} {f : ℕ → ℕ} {answer : Answer} {sums : List ℕ} {r : Answer} (m : ColumnMade n f answer sums r) (fine : r.number ≡ 0) where
  made_long : length (take n sums) ≡ n
  made_long = length-take-le n sums (m.long fine)

  pub written_all : (before after : List ℕ) → after ≡ put (length (take n sums)) (at (take n sums)) before → ColumnWritten n f answer before after r
  written_all before after e =
      record {
        answers = m.answers;
        lent =
            e
            ∙ ap (λ k. put k (at (take n sums)) before) made_long
            ∙ put_eq n (at (take n sums)) f before (λ i b. get_or-take n sums i 0 b ∙ m.values fine i b)
            ∙ (rw (eq-eqb r.number 0 fine));
      }
