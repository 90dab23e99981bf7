-- The month file's form is sound, so that every law of forms holds of month files; and its kinds by table.
-- Assumes nothing.
use mathlib.Core.Path.{◌≡◌, refl, sym, ap, subst, ◌∙◌}
use mathlib.Core.Logic.{◌↔◌}
use mathlib.Core.List.{List, []}
use Prim.Native.Nat.{ℕ, ◌<◌}
use lib.Dec.{lit<}
use lib.ListN.{length}
use Rattle.text.specs.Lines.{unlike}
use Rattle.tables.specs.declared.Table.{Table}
use Rattle.tables.specs.Shape.{table_count, table_at, place_of}
use Rattle.tables.proofs.Places.{place_below, place_at}
use Rattle.fileform.specs.Form.{plain_kind, kind_of, month_form}
use Rattle.fileform.specs.Reading.{Rows, nth, Contents, got, reading}
use Rattle.fileform.specs.Writing.{file_text, Fits, AllFit, ContentsFit}
use Rattle.fileform.proofs.Each.{order_at}
use Rattle.fileform.proofs.Forms.{kind_at, all_fit_at, Sound, differs, all_differ, most_rows, file_read, file_back, FileBack}

-- no two keys agree as far as both go: antt computes it
pub month_sound : Sound month_form
unfolding unlike differs all_differ most_rows
month_sound = record { keys = refl; size = lit< tt }

-- a table's kind stands at its place
pub kind_placed : (table : Table) → kind_at month_form.kinds (place_of table) ≡ kind_of table
kind_placed table = order_at kind_of (plain_kind [] 0 0 0) table

pub kind_at_lem : (k : ℕ) → k < table_count → kind_at month_form.kinds k ≡ kind_of (table_at k)
kind_at_lem k h = ap (kind_at month_form.kinds) (sym (place_at k h)) ∙ kind_placed (table_at k)

-- each of some tables that fit is within its table's limits
pub table_fits : (ts : List Rows) → AllFit month_form.kinds ts → (table : Table) → Fits (kind_of table) (nth ts (place_of table))
table_fits ts f table =
    subst (λ kind. Fits kind (nth ts (place_of table))) (kind_placed table) (all_fit_at month_form.kinds ts (place_of table) f (place_below table))

pub written_then_read : (c : Contents) → ContentsFit month_form c → reading month_form (file_text month_form c) ≡ got c []
written_then_read c w = file_read month_form month_sound c w

pub read_then_written : (text : List ℕ) (c : Contents) (rest : List ℕ) → reading month_form text ≡ got c rest → file_text month_form c ≡ text
read_then_written text c rest e = sym (file_back month_form text c rest e).written

pub same_tables_same_text : (text other : List ℕ) (c : Contents) (rest more : List ℕ)
    → reading month_form text ≡ got c rest → reading month_form other ≡ got c more → text ≡ other
same_tables_same_text text other c rest more e q = sym (read_then_written text c rest e) ∙ read_then_written other c more q

pub accepted_length : (text : List ℕ) (c : Contents) (rest : List ℕ) → reading month_form text ≡ got c rest → length text ≡ length (file_text month_form c)
accepted_length text c rest e = ap length (sym (read_then_written text c rest e))

pub accepted_texts : (text : List ℕ)
    → ((c : Contents) × (reading month_form text ≡ got c [])) ↔ ((c : Contents) × (ContentsFit month_form c) × (text ≡ file_text month_form c))
accepted_texts text = (
  (λ a. let back : FileBack month_form text a.0 = file_back month_form text a.0 [] a.1 in (a.0, back.within, back.written)),
  (λ a. (a.0, ap (reading month_form) a.2 ∙ written_then_read a.0 a.1)),
)
