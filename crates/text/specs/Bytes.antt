-- Quoted text as bytes, so that keys and examples stand here as the paper has them.
-- Assumes nothing.
use Rattle.std.specs.Prelude.{ℕ, List, [], ◌∷◌}
use Prim.Native.Char.{code}
use Prim.Native.String.{String, [] as empty, ◌∷◌ as ◌before◌}

-- the bytes of a quoted text of plain (ASCII) characters
abbrev pub bytes : String → List ℕ
bytes empty = []
bytes (◌before◌ c s) = code c ∷ bytes s
