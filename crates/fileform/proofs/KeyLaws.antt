-- The keys of the first lines by their place.
-- Assumes nothing.
use mathlib.Core.Path.{◌≡◌, sym, ap, ◌∙◌}
use mathlib.Core.List.{[], ◌∷◌}
use Prim.Native.Nat.{ℕ, ◌+◌, ◌≤◌, ◌<◌}
use native.Mathlib.Numerals.{add-one}
use lib.ListN.{drop, drop_of_length-le}
use lib.Seq.{drop-cons}
use Rattle.fileform.specs.Form.{head_keys, head_count, head_key}

-- the keys of the first lines from a place on: the one there, and those behind it
pub heads_drop : (place : ℕ) → place < head_count → drop place head_keys ≡ head_key place ∷ drop (place + 1) head_keys
heads_drop place h = drop-cons head_keys place [] h ∙ ap (λ k. head_key place ∷ drop k head_keys) (sym (add-one place))

pub heads_over : (place : ℕ) → head_count ≤ place → drop place head_keys ≡ []
heads_over place h = drop_of_length-le head_keys h
