-- The number that a test becomes in code is the definitions' `bit`.
-- Assumes nothing.
use mathlib.Core.Path.{◌≡◌, refl}
use mathlib.Core.Bool.{Bool, true, false}
use mir.Val.{bool_byte}
use Rattle.lists.specs.Sums.{bit}

pub bit_of : (t : Bool) → bool_byte t ≡ bit t
bit_of true = refl
bit_of false = refl
