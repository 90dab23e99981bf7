-- What the calls say among themselves. A reader who wants to know what they promise needs none of it.
-- Assumes nothing.
use Rattle.std.specs.Prelude.{◌≡◌, ◌⊎◌, ℕ, ◌/◌, ◌≤◌, ◌<◌, true, Result, Ok, Err, List, length}
use Rattle.answer.specs.declared.Refusal.{Refusal}
use Rattle.answer.specs.declared.Refusal.TheVariants.{Count}
use Rattle.division.specs.Limits.{most_weights}
use Rattle.words.specs.Words.{word_bytes, is_uneven, WholeWords}

-- both slices are whole words, and the first has no more of them than a call takes; or one of the two is not so, which is COUNT
abbrev pub Counted : List ℕ → List ℕ → Result ℕ Refusal → Type 0
Counted weights others (Ok count) =
    WholeWords weights others × (count ≡ length weights / word_bytes) × (length weights / word_bytes ≤ most_weights)
Counted weights others (Err r) =
    (r ≡ Count) × ((is_uneven (length weights) (length others) ≡ true) ⊎ (WholeWords weights others × (most_weights < length weights / word_bytes)))
