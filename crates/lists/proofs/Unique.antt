-- A contract that says what an answer, or a lent list, is equal to leaves one.
-- Assumes nothing.
use mathlib.Core.Path.{◌≡◌, sym, ◌∙◌}

pub one_answer : {A : Type 0} (x r s : A) → r ≡ x → s ≡ x → r ≡ s
one_answer x r s a b = a ∙ sym b
