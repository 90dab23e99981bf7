-- `words::store` meets its contract: the bytes of the numbers passed are stored.
-- Assumes nothing.
use mathlib.Core.Path.{◌≡◌}
use Prim.Native.Nat.{◌*◌}
use Rattle.lists.specs.Entries.{put}
use Rattle.words.specs.Steps.{byte_at}
use Rattle.words.proofs.store.Given as goal

abbrev pub invariant-loop-i : goal.invariant-loop-i
invariant-loop-i l = l.lent ≡ put (8 * l.i) (byte_at l.values) l.initial.lent
