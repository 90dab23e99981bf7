-- The form of a month file: which lines, with which keys, in which order, and what reads and writes the lines of each kind.
-- Assumes nothing.
use Rattle.std.specs.Prelude.{ℕ, List, [], ◌∷◌, get_or}
use Rattle.text.specs.Bytes.{bytes}
use Rattle.text.specs.Numbers.{Found}
use Rattle.text.specs.Lines.{line, line_text}
use Rattle.tables.specs.declared.Table.{Table}
use Rattle.tables.specs.declared.Table.TheVariants.{Zones, Owners, Units, Accounts, Loads, Reservations, Firm}
use Rattle.tables.specs.Shape.{number, width, limit}
use Rattle.fileform.specs.Each.{in_order}

-- the sorts of number in a line: "decimal below 2^64, with no sign, space or needless zero in front"
pub data Sort : Type 0 where
  plain : Sort

-- the shapes of a line: as many fields as a row has entries
pub data Shape : Type 0 where
  fixed : Shape

-- a kind of rows: the key of their lines, the entries of a row, the most rows, the number of their table, the shape of their lines
-- and the sort of their numbers
pub record Kind : Type 0 where
  pub key : List ℕ
  pub width : ℕ
  pub limit : ℕ
  pub table : ℕ
  pub shape : Shape
  pub sort : Sort

-- what reads a line of each shape and sort, by its key and the entries of a row, and what writes it: chosen here and nowhere else
abbrev pub line_by : Shape → Sort → List ℕ → ℕ → List ℕ → Found (List ℕ)
line_by fixed plain key width s = line key width s

abbrev pub line_text_by : Shape → Sort → List ℕ → List ℕ → List ℕ
line_text_by fixed plain key ns = line_text key ns

-- .. of a kind
abbrev pub line_of : Kind → List ℕ → Found (List ℕ)
line_of kind s = line_by kind.shape kind.sort kind.key kind.width s

abbrev pub line_text_of : Kind → List ℕ → List ℕ
line_text_of kind ns = line_text_by kind.shape kind.sort kind.key ns

-- a kind of plain numbers, as many in a line as a row has entries
abbrev pub plain_kind : List ℕ → ℕ → ℕ → ℕ → Kind
plain_kind key width limit table = record { key = key; width = width; limit = limit; table = table; shape = fixed; sort = plain }

-- a form: the keys of the lines that come first, each with one plain number; the kinds of rows in their order; the last line's key
pub record Form : Type 0 where
  pub heads : List (List ℕ)
  pub kinds : List Kind
  pub last : List ℕ

-- "in this order: `month`, `days`, `nonzone`", and then the "head lines `daily`, `weekly`, `monthly`, `weekday` after `nonzone`"
abbrev pub head_keys : List (List ℕ)
head_keys =
    bytes "month" ∷ bytes "days" ∷ bytes "nonzone" ∷ bytes "daily" ∷ bytes "weekly" ∷ bytes "monthly" ∷ bytes "weekday" ∷ []

-- how many they are, and the one at a place
abbrev pub head_count : ℕ
head_count = 7

abbrev pub head_key : ℕ → List ℕ
head_key place = get_or head_keys place []

-- "then all `zone`, `owner`, `unit`, `account`, `load`, `ptp` lines", and "`firm` lines .. after `ptp`"
abbrev pub line_key : Table → List ℕ
line_key Zones = bytes "zone"
line_key Owners = bytes "owner"
line_key Units = bytes "unit"
line_key Accounts = bytes "account"
line_key Loads = bytes "load"
line_key Reservations = bytes "ptp"
line_key Firm = bytes "firm"

-- the rows of a table
abbrev pub kind_of : Table → Kind
kind_of t = plain_kind (line_key t) (width t) (limit t) (number t)

-- the head's lines, "then all .. lines, then `end`"
abbrev pub month_form : Form
month_form =
    record {
      heads = head_keys;
      kinds = in_order kind_of;
      last = bytes "end";
    }
