-- The contracts determine the answers: two answers, and two final columns, that a contract allows are equal.
-- Assumes nothing.
use mathlib.Core.Path.{◌≡◌, sym, ap, ◌∙◌}
use mathlib.Core.Bool.{cond}
use mathlib.Core.List.{List}
use Prim.Native.Nat.{ℕ, ◌+◌}
use lib.Dec.{eqb}
use lib.ListN.{length}
use Rattle.lists.specs.Sums.{at}
use Rattle.lists.specs.Entries.{put}
use Rattle.answer.specs.declared.Answer.{Answer}
use Rattle.division.specs.Shares.{shares}
use Rattle.groups.specs.Groups.{Pots, amount_in_all, groups_in_turn, Grouped}
use Rattle.groups.specs.Columns.{Added, ColumnWritten, MembersKept}

-- `divide_all` and `divide_among`
pub added_unique : (pot : ℕ) (weights before after after' : List ℕ) (r r' : ℕ)
    → Added pot weights before after r → Added pot weights before after' r' → (r ≡ r') × (after ≡ after')
added_unique pot weights before after after' r r' a a' =
    let same : r ≡ r' = a.number ∙ sym a'.number in (
      same,
      a.lent
          ∙ ap (λ n. cond (eqb n 0) (put (length weights) (λ i. at before i + at (shares pot weights) i) before) before) same
          ∙ sym a'.lent,
    )

-- `each_group`, and every call that writes so
pub column_written_unique : (n : ℕ) (f : ℕ → ℕ) (answer : Answer) (before after after' : List ℕ) (r r' : Answer)
    → ColumnWritten n f answer before after r → ColumnWritten n f answer before after' r' → (r ≡ r') × (after ≡ after')
column_written_unique n f answer before after after' r r' w w' =
    let same : r ≡ r' = w.answers ∙ sym w'.answers in
    (same, w.lent ∙ ap (λ (a : Answer). cond (eqb a.number 0) (put n f before) before) same ∙ sym w'.lent)

pub each_group_unique : (p : Pots) (place : ℕ) (before after after' : List ℕ) (r r' : Answer)
    → Grouped p place before after r → Grouped p place before after' r' → (r ≡ r') × (after ≡ after')
each_group_unique p place = column_written_unique p.members (amount_in_all p) (groups_in_turn p place)

-- `columns::keep`; `columns::add` and `columns::store` say what the column is equal to
pub keep_unique : (weights groups : List ℕ) (group : ℕ) (before after after' : List ℕ)
    → MembersKept weights groups group before after → MembersKept weights groups group before after' → after ≡ after'
keep_unique weights groups group before after after' k k' = k.lent ∙ sym k'.lent
