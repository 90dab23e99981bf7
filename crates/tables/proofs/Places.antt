-- Rows laid end to end: every entry of a row lies within its table. And tables by their place in the order of their numbers.
-- Assumes nothing.
use mathlib.Core.Path.{◌≡◌, refl, sym, ap, ◌∙◌}
use mathlib.Core.Logic.{◌≢◌}
use mathlib.Core.List.{List, []}
use Prim.Native.Nat.{ℕ, zero, suc, ◌+◌, ◌*◌, ◌/◌, ◌<◌}
use lib.ListN.{get_or}
use native.Mathlib.Nat.{lt_of_lt_of_le, div-mul-le_self}
use native.Mathlib.Omega.{arith}
use lib.Arith.{digits_lt}
use Rattle.tables.specs.declared.Table.{Table}
use Rattle.tables.specs.declared.Table.TheVariants.{Zones, Owners, Units, Accounts, Loads, Reservations, Firm}
use Rattle.tables.specs.Shape.{table_count, table_at, place_of, width, tables_from, words_of}

pub within : (n width i column : ℕ) → i < n / width → column < width → i * width + column < n
within n width i column h k = lt_of_lt_of_le (digits_lt h k) (div-mul-le_self n width)

pub width_pos : (table : Table) → 0 < width table
width_pos Zones = omega arith
width_pos Owners = omega arith
width_pos Units = omega arith
width_pos Accounts = omega arith
width_pos Loads = omega arith
width_pos Reservations = omega arith
width_pos Firm = omega arith

-- the last arm of the tables by place
pub last_table : (k : ℕ) → k ≢ 0 → k ≢ 1 → k ≢ 2 → k ≢ 3 → k ≢ 4 → k ≢ 5 → Firm ≡ table_at k
last_table zero a b c d e f = absurd (a refl)
last_table (suc zero) a b c d e f = absurd (b refl)
last_table (suc (suc zero)) a b c d e f = absurd (c refl)
last_table (suc (suc (suc zero))) a b c d e f = absurd (d refl)
last_table (suc (suc (suc (suc zero)))) a b c d e f = absurd (e refl)
last_table (suc (suc (suc (suc (suc zero))))) a b c d e f = absurd (f refl)
last_table (suc (suc (suc (suc (suc (suc k)))))) a b c d e f = refl

-- a table stands at its place, of which there are seven
pub table_placed : (table : Table) → table_at (place_of table) ≡ table
table_placed Zones = refl
table_placed Owners = refl
table_placed Units = refl
table_placed Accounts = refl
table_placed Loads = refl
table_placed Reservations = refl
table_placed Firm = refl

pub place_below : (table : Table) → place_of table < table_count
place_below Zones = omega arith
place_below Owners = omega arith
place_below Units = omega arith
place_below Accounts = omega arith
place_below Loads = omega arith
place_below Reservations = omega arith
place_below Firm = omega arith

pub place_at : (k : ℕ) → k < table_count → place_of (table_at k) ≡ k
place_at zero h = refl
place_at (suc zero) h = refl
place_at (suc (suc zero)) h = refl
place_at (suc (suc (suc zero))) h = refl
place_at (suc (suc (suc (suc zero)))) h = refl
place_at (suc (suc (suc (suc (suc zero))))) h = refl
place_at (suc (suc (suc (suc (suc (suc zero)))))) h = refl
place_at (suc (suc (suc (suc (suc (suc (suc k))))))) h = absurd (omega (arith, h))

-- its words are those at that place of a list
pub words_placed : (l : List (List ℕ)) (table : Table) → get_or l (place_of table) [] ≡ words_of (tables_from l) table
words_placed l Zones = refl
words_placed l Owners = refl
words_placed l Units = refl
words_placed l Accounts = refl
words_placed l Loads = refl
words_placed l Reservations = refl
words_placed l Firm = refl

-- a table that is told by its place: the place is its own, and its words are those there
pub place_told : (k : ℕ) (table : Table) → k < table_count → table ≡ table_at k → k ≡ place_of table
place_told k table h its = sym (place_at k h) ∙ ap place_of (sym its)

pub words_told : (l : List (List ℕ)) (k : ℕ) (table : Table) → k < table_count → table ≡ table_at k → get_or l k [] ≡ words_of (tables_from l) table
words_told l k table h its = ap (λ i. get_or l i []) (place_told k table h its) ∙ words_placed l table

pub words_at : (l : List (List ℕ)) (k : ℕ) → k < table_count → get_or l k [] ≡ words_of (tables_from l) (table_at k)
words_at l k h = words_told l k (table_at k) h refl
