-- One rule for every table: what it gives for a table stands at that table's place.
-- Assumes nothing.
use mathlib.Core.Path.{◌≡◌, refl}
use mathlib.Core.List.{List, [], ◌∷◌}
use Prim.Native.Nat.{ℕ, zero, suc, ◌+◌, ◌≤◌, ◌<◌}
use native.Mathlib.Omega.{arith}
use lib.ListN.{length, get_or, drop, drop_of_length-le}
use Rattle.tables.specs.declared.Table.{Table}
use Rattle.tables.specs.declared.Table.TheVariants.{Zones, Owners, Units, Accounts, Loads, Reservations, Firm}
use Rattle.tables.specs.Shape.{table_count, table_at, place_of, Tables, words_of}
use Rattle.fileform.specs.Each.{in_order, tables_by}

pub words_by : (f : Table → List ℕ) (table : Table) → words_of (tables_by f) table ≡ f table
words_by f Zones = refl
words_by f Owners = refl
words_by f Units = refl
words_by f Accounts = refl
words_by f Loads = refl
words_by f Reservations = refl
words_by f Firm = refl

-- tables that agree in each table are the same
pub same_tables : (t u : Tables) → ((table : Table) → words_of t table ≡ words_of u table) → t ≡ u
same_tables t u same =
    λ i.
    record {
      zones = same Zones i;
      owners = same Owners i;
      units = same Units i;
      accounts = same Accounts i;
      loads = same Loads i;
      reservations = same Reservations i;
      firm = same Firm i;
    }

pub order_at : {A : Type 0} (f : Table → A) (none : A) (table : Table) → get_or (in_order f) (place_of table) none ≡ f table
order_at f none Zones = refl
order_at f none Owners = refl
order_at f none Units = refl
order_at f none Accounts = refl
order_at f none Loads = refl
order_at f none Reservations = refl
order_at f none Firm = refl

-- from a place on: what stands there, and what stands from the next on
pub order_drop : {A : Type 0} (f : Table → A) (k : ℕ) → k < table_count → drop k (in_order f) ≡ f (table_at k) ∷ drop (k + 1) (in_order f)
order_drop f zero h = refl
order_drop f (suc zero) h = refl
order_drop f (suc (suc zero)) h = refl
order_drop f (suc (suc (suc zero))) h = refl
order_drop f (suc (suc (suc (suc zero)))) h = refl
order_drop f (suc (suc (suc (suc (suc zero))))) h = refl
order_drop f (suc (suc (suc (suc (suc (suc zero)))))) h = refl
order_drop f (suc (suc (suc (suc (suc (suc (suc k))))))) h = absurd (omega arith)

pub order_over : {A : Type 0} (f : Table → A) (k : ℕ) → table_count ≤ k → drop k (in_order f) ≡ []
order_over f k h = drop_of_length-le (in_order f) h

-- a list of as many entries as there are tables, by their places
pub by_places : {A : Type 0} (none : A) (l : List A) → length l ≡ table_count → in_order (λ table. get_or l (place_of table) none) ≡ l
by_places none (a ∷ b ∷ c ∷ d ∷ f ∷ g ∷ h ∷ []) e = refl
by_places none [] e = absurd (let z : 0 ≡ table_count = e in omega arith)
by_places none (a ∷ []) e = absurd (let z : 1 ≡ table_count = e in omega arith)
by_places none (a ∷ b ∷ []) e = absurd (let z : 2 ≡ table_count = e in omega arith)
by_places none (a ∷ b ∷ c ∷ []) e = absurd (let z : 3 ≡ table_count = e in omega arith)
by_places none (a ∷ b ∷ c ∷ d ∷ []) e = absurd (let z : 4 ≡ table_count = e in omega arith)
by_places none (a ∷ b ∷ c ∷ d ∷ f ∷ []) e = absurd (let z : 5 ≡ table_count = e in omega arith)
by_places none (a ∷ b ∷ c ∷ d ∷ f ∷ g ∷ []) e = absurd (let z : 6 ≡ table_count = e in omega arith)
by_places none (a ∷ b ∷ c ∷ d ∷ f ∷ g ∷ h ∷ i ∷ l) e =
    absurd (let z : suc (suc (suc (suc (suc (suc (suc (suc (length l)))))))) ≡ table_count = e in omega arith)
