-- Lists made entry by entry, and entries stored one after the other.
-- Assumes nothing.
use Rattle.std.specs.Prelude.{ℕ, zero, suc, Bool, cond, List, [], ◌∷◌, ◌++◌, set}

-- f 0, f 1, .. f (n − 1)
unfoldable pub listed : ℕ → (ℕ → ℕ) → List ℕ
listed zero f = []
listed (suc n) f = listed n f ++ (f n ∷ [])

-- the list l after f 0, f 1, .. f (n − 1) are stored at its first n positions, in turn
unfoldable pub put : ℕ → (ℕ → ℕ) → List ℕ → List ℕ
put zero f l = l
put (suc n) f l = set (put n f l) n (f n)

-- of f 0, f 1, .. f (n − 1) the members' entries alone, in order
unfoldable pub kept : ℕ → (ℕ → Bool) → (ℕ → ℕ) → List ℕ
kept zero member f = []
kept (suc n) member f = kept n member f ++ cond (member n) (f n ∷ []) []
