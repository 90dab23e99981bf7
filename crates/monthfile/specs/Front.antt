-- What an accepted call leaves in lent memory.
-- Assumes nothing.
use Rattle.std.specs.Prelude.{List, ◌++◌, ℕ, length, drop}

-- entries at the front of a lent list, and behind them what was lent
abbrev pub at_front : List ℕ → List ℕ → List ℕ
at_front entries lent = entries ++ drop (length entries) lent
