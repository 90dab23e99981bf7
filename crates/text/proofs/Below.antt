-- Numbers below 2^64, put together and taken apart.
-- Assumes nothing.
use mathlib.Core.List.{List, [], ◌∷◌, ◌++◌}
use Prim.Native.Nat.{ℕ, zero, suc, ◌<◌}
use lib.Dec.{lit<}
use lib.ListN.{take, drop}
use Rattle.text.specs.Numbers.{bound, Below}

pub below_none : Below []
below_none i = lit< tt

pub below_cons : (n : ℕ) (ns : List ℕ) → n < bound → Below ns → Below (n ∷ ns)
below_cons n ns h k zero = h
below_cons n ns h k (suc i) = k i

pub below_append : (ns ms : List ℕ) → Below ns → Below ms → Below (ns ++ ms)
below_append [] ms h k = k
below_append (n ∷ ns) ms h k = below_cons n (ns ++ ms) (h 0) (below_append ns ms (λ i. h (suc i)) k)

pub below_take : (n : ℕ) (ns : List ℕ) → Below ns → Below (take n ns)
below_take zero ns h = below_none
below_take (suc n) [] h = below_none
below_take (suc n) (m ∷ ns) h = below_cons m (take n ns) (h 0) (below_take n ns (λ i. h (suc i)))

pub below_drop : (n : ℕ) (ns : List ℕ) → Below ns → Below (drop n ns)
below_drop zero ns h = h
below_drop (suc n) [] h = below_none
below_drop (suc n) (m ∷ ns) h = below_drop n ns (λ i. h (suc i))
