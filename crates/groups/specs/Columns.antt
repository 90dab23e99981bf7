-- What calls leave in a column of words.
-- Assumes nothing.
use Rattle.std.specs.Prelude.{◌≡◌, ℕ, ◌+◌, ◌≤◌, ◌<◌, ◌^◌, cond, List, eqb, length}
use Rattle.lists.specs.Sums.{at, total, when}
use Rattle.lists.specs.Entries.{put}
use Rattle.answer.specs.declared.Answer.{Answer}
use Rattle.division.specs.Limits.{most_weights, pot_limit, size_refusal}
use Rattle.division.specs.Shares.{shares}

-- A column that shares can be added to: "at most 64" members, a word for each, and room in it for a whole pot more.
pub record Addable (members : ℕ) (column : List ℕ) : Type 0 where
  pub few : members ≤ most_weights
  pub long : members ≤ length column
  pub room : (i : ℕ) → i < members → at column i + pot_limit < 2 ^ 64

-- What a division answers, BIG, BASE or 0, and leaves in the column: a refusal leaves it as it was, acceptance adds each share.
pub record Added (pot : ℕ) (weights before after : List ℕ) (r : ℕ) : Type 0 where
  pub number : r ≡ size_refusal pot (total weights)
  pub lent : after ≡ cond (eqb r 0) (put (length weights) (λ i. at before i + at (shares pot weights) i) before) before

-- What a call that answers `answer` leaves in the lent words: "A refusal writes to no lent memory", and acceptance writes
-- f 0, f 1, .. f (n − 1) to the first of them.
pub record ColumnWritten (n : ℕ) (f : ℕ → ℕ) (answer : Answer) (before after : List ℕ) (r : Answer) : Type 0 where
  pub answers : r ≡ answer
  pub lent : after ≡ cond (eqb r.number 0) (put n f before) before

-- What `keep` leaves in the column: the weights of a group's members, and 0 for all others, in the first words.
pub record MembersKept (weights groups : List ℕ) (group : ℕ) (before after : List ℕ) : Type 0 where
  pub lent : after ≡ put (length weights) (λ i. when (eqb (at groups i) group) (at weights i)) before
