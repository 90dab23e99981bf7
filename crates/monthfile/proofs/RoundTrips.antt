-- What was read is written as the same text, and what was written is read as the same rows: from call to call.
-- Assumes nothing.
use mathlib.Core.Path.{◌≡◌, refl, sym, ap, ◌∙◌}
use mathlib.Core.List.{List, []}
use Prim.Native.Nat.{ℕ, ◌+◌, ◌*◌, ◌/◌, ◌%◌, ◌≤◌}
use native.Mathlib.Nat.{div-add-mod, le_trans, le_of_eq, mul-div_left, mul-mod_left}
use native.Mathlib.Omega.{arith}
use lib.ListN.{length, take, drop, length-append}
use lib.Seq.{take-append_seam, take_at}
use Rattle.lists.specs.Sums.{at}
use Rattle.lists.specs.Entries.{listed}
use Rattle.lists.proofs.Entries.{listed_at}
use Rattle.answer.specs.declared.Answer.{Answer}
use Rattle.answer.specs.Turns.{accepted}
use Rattle.tables.specs.declared.Head.{Head}
use Rattle.tables.specs.declared.Table.{Table}
use Rattle.tables.specs.declared.Table.TheVariants.{Zones, Owners, Units, Accounts, Loads, Reservations, Firm}
use Rattle.tables.specs.Shape.{place_of, width, Tables, words_of}
use Rattle.tables.specs.Counts.{GoodCount}
use Rattle.tables.proofs.Places.{width_pos}
use Rattle.tables.proofs.Stages.{passed, stopped}
use Rattle.text.specs.Numbers.{Below}
use Rattle.fileform.specs.Each.{in_order}
use Rattle.fileform.specs.Form.{head_count, kind_of, month_form}
use Rattle.fileform.specs.Reading.{got, Rows, no_rows, nth, Contents, reading}
use Rattle.fileform.specs.Writing.{file_text, Fits, ContentsFit}
use Rattle.fileform.proofs.Each.{words_by, order_at, by_places}
use Rattle.fileform.proofs.Forms.{all_fit_length}
use Rattle.fileform.proofs.Contents.{table_fits, written_then_read}
use Rattle.fileread.specs.Calls.{Reading}
use Rattle.fileread.specs.Calls.{head_read, read_answer, Reads, count_in, words_read, tables_read}
use Rattle.fileread.proofs.Parts.{at_counts}
use Rattle.filewrite.specs.Calls.{Written}
use Rattle.filewrite.specs.Calls.{numbers_of, whole_rows, all_rows, contents_of, month_text, Writes}
use Rattle.monthfile.specs.Front.{at_front}
use Rattle.monthfile.specs.Refused.{Full}
use Rattle.monthfile.proofs.ReadCalls.{read_accepted, good_read}
use Rattle.monthfile.proofs.WriteCalls.{WriteLooked, looks, write_accepted, good_write}

-- a table that was read: within its limits, counted, and at the front of the lent words
pub record TableRead (r : Reading) (after : Tables) (table : Table) (own : Rows) : Type 0 where
  pub fits : Fits (kind_of table) own
  pub count_is : count_in r table ≡ own.count
  pub there : count_in r table * width table ≤ length (words_of after table)
  pub front_is : words_read r after table ≡ own.words

-- a text that was read
pub record TextRead (text : List ℕ) (r : Reading) (after : Tables) : Type 0 where
  pub contents : Contents
  pub within : ContentsFit month_form contents
  pub written : text ≡ file_text month_form contents
  pub answers : r ≡ read_answer (got contents [])
  pub table_read : (table : Table) → TableRead r after table (nth contents.tables (place_of table))

-- rows at the front of lent words
front_read : (r : Reading) (after : Tables) (table : Table) (own : Rows) (lent : List ℕ) → Fits (kind_of table) own → count_in r table ≡ own.count
    → words_of after table ≡ at_front own.words lent → TableRead r after table own
front_read r after table own lent fits count words =
    let behind : List ℕ = drop (length own.words) lent in
    let size : length own.words ≡ count_in r table * width table = fits.whole ∙ ap (λ n. n * width table) (sym count) in
    record {
      fits = fits;
      count_is = count;
      there =
          let all : length (words_of after table) ≡ length own.words + length behind = ap length words ∙ length-append own.words behind in
          le_trans (le_of_eq (sym size)) (omega arith);
      front_is = ap (take (count_in r table * width table)) words ∙ take_at own.words behind (count_in r table * width table) size;
    }

pub text_read : (text : List ℕ) (lent after : Tables) (r : Reading) → Reads text lent after r → r.answer.number ≡ 0 → TextRead text r after
text_read text lent after r reads z =
    let read = read_accepted text lent after r reads z in
    record {
      contents = read.0;
      within = read.1;
      written = read.2;
      answers = read.3;
      table_read =
          λ table.
          front_read r after table (nth read.0.tables (place_of table)) (words_of lent table) (table_fits read.0.tables read.1.fit table)
          (ap (λ h. count_in h table) read.3 ∙ at_counts read.0.tables (place_of table)) (read.4 table);
    }

-- as many numbers as there are first lines
head_numbers : (ns : List ℕ) → length ns ≡ head_count → numbers_of (head_read ns) ≡ ns
unfolding listed
head_numbers ns e = ap (λ n. listed n (at ns)) (sym e) ∙ listed_at ns

module _ (text : List ℕ) (r : Reading) (after : Tables) (read : TextRead text r after) where
  module _ (table : Table) where
    own : Rows
    own = nth read.contents.tables (place_of table)

    own_read : TableRead r after table own
    unfolding own
    own_read = read.table_read table

    words_are : words_of (tables_read r after) table ≡ own.words
    words_are = words_by (words_read r after) table ∙ own_read.front_is

    size_is : length (words_of (tables_read r after) table) ≡ own.count * width table
    size_is = ap length words_are ∙ own_read.fits.whole

    count_is : length (words_of (tables_read r after) table) / width table ≡ own.count
    count_is = ap (λ n. n / width table) size_is ∙ mul-div_left own.count (width_pos table)

    -- what was read is whole rows within the limit
    counted : GoodCount (tables_read r after) table
    counted =
        record {
          whole = ap (λ n. n % width table) size_is ∙ mul-mod_left own.count (width table);
          few = le_trans (le_of_eq count_is) own_read.fits.few;
        }

    rows_are : whole_rows (tables_read r after) table ≡ own
    rows_are = λ i. record { count = count_is i; words = words_are i }

  -- what was read is what the text holds, and its text is the text
  contents_are : contents_of r.head (tables_read r after) ≡ read.contents
  unfolding own
  contents_are =
      let head : numbers_of r.head ≡ read.contents.head =
      ap (λ (h : Reading). numbers_of h.head) read.answers ∙ head_numbers read.contents.head read.within.one_each in
      let tables : all_rows (tables_read r after) ≡ read.contents.tables =
      (λ i. in_order (λ table. rows_are table i))
      ∙ by_places no_rows read.contents.tables (all_fit_length month_form.kinds read.contents.tables read.within.fit) in
      λ i. record { head = head i; tables = tables i }

  same_text : month_text r.head (tables_read r after) ≡ text
  same_text = ap (file_text month_form) contents_are ∙ sym read.written

  pub written_again : (out written : List ℕ) (w : Written) → Writes r.head (tables_read r after) out written w
      → length text ≤ length out → (w ≡ record { answer = accepted; length = length text }) × (written ≡ at_front text out)
  written_again out written w writes room =
      let answer : w.answer ≡ accepted =
      good_write r.head (tables_read r after) out written w writes counted (le_trans (le_of_eq (ap length same_text)) room) in
      let wrote = write_accepted r.head (tables_read r after) out written w writes (ap (λ (a : Answer). a.number) answer) in
      let size : w.length ≡ length text = wrote.0 ∙ ap length same_text in
      ((λ i. record { answer = answer i; length = size i }), wrote.1 ∙ ap (λ s. at_front s out) same_text)

-- what `write` wrote is read again: the same head, and in each table the same rows
module _ (head : Head) (t : Tables) (small : Below (numbers_of head)) (below : (table : Table) → Below (words_of t table)) where
  row_fits : ((table : Table) → GoodCount t table) → (table : Table) → Fits (kind_of table) (whole_rows t table)
  row_fits all table =
      record {
        whole =
            let split : width table * (length (words_of t table) / width table) + length (words_of t table) % width table ≡ length (words_of t table) =
            div-add-mod (length (words_of t table)) (width table) in
            omega (arith, (all table).whole);
        few = (all table).few;
        below = below table;
      }

  held_within : ((table : Table) → GoodCount t table) → ContentsFit month_form (contents_of head t)
  held_within all =
      record {
        one_each = refl;
        small = small;
        fit = (row_fits all Zones, (row_fits all Owners, (row_fits all Units, (row_fits all Accounts, (row_fits all Loads, (row_fits all Reservations, (row_fits all Firm, tt)))))));
      }

  held_words : (table : Table) → (nth (all_rows t) (place_of table)).words ≡ words_of t table
  held_words table = ap (λ (r : Rows). r.words) (order_at (whole_rows t) no_rows table)

  module _ (out after : List ℕ) (w : Written) (writes : Writes head t out after w) (z : w.answer.number ≡ 0) where
    abbrev c : Contents
    c = contents_of head t

    whole_rows_lem : WriteLooked head t out → (table : Table) → GoodCount t table
    whole_rows_lem (passed e g) = g.0
    whole_rows_lem (stopped n why) = absurd (n (ap (λ (a : Answer). a.number) (sym writes.answers) ∙ z))

    text_again : take w.length after ≡ file_text month_form c
    text_again =
        let wrote = write_accepted head t out after w writes z in
        ap (λ k. take k after) wrote.0 ∙ ap (take (length (file_text month_form c))) wrote.1
        ∙ take-append_seam (file_text month_form c) (drop (length (file_text month_form c)) out)

    pub write_then_read : (lent filled_in : Tables) (r : Reading) → Reads (take w.length after) lent filled_in r → ((table : Table) → Full lent table)
        → (r ≡ read_answer (got c [])) × ((table : Table) → words_of filled_in table ≡ at_front (words_of t table) (words_of lent table))
    write_then_read lent filled_in r reads full =
        let within : ContentsFit month_form c = held_within (whole_rows_lem (looks head t out)) in
        let answer : r ≡ read_answer (got c []) = good_read (take w.length after) lent filled_in r reads full c within text_again in
        let got-it = read_accepted (take w.length after) lent filled_in r reads (ap (λ (h : Reading). h.answer.number) answer) in
        let both_read : got c [] ≡ got got-it.0 [] = sym (ap (reading month_form) text_again ∙ written_then_read c within)
        ∙ ap (reading month_form) got-it.2 ∙ written_then_read got-it.0 got-it.1 in
        let same : c ≡ got-it.0 = cc in (
          answer,
          λ table. got-it.4 table ∙ ap (λ (k : Contents). at_front (nth k.tables (place_of table)).words (words_of lent table)) (sym same)
              ∙ ap (λ k. at_front k (words_of lent table)) (held_words table),
        )
