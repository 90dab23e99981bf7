-- A month's text as pieces in a row: the first lines, a piece each, a piece for each table, the last line. And loops over such pieces,
-- which measure what is left or write it behind what was before.
-- Assumes nothing.
use mathlib.Core.Path.{◌≡◌, refl, sym, ap, ap₂, subst, ◌∙◌}
use mathlib.Core.List.{List, [], ◌∷◌, ◌++◌, map}
use Prim.Native.Nat.{ℕ, ◌+◌, ◌/◌, ◌≤◌, ◌<◌}
use native.Mathlib.Nat.{add-zero}
use native.Mathlib.Omega.{arith}
use denote.Bor.{Bor}
use lib.ListN.{length, get_or, drop, length-append, get_or-map}
use lib.Seq.{get_or-drop, drop-drop}
use Rattle.lists.specs.Sums.{at}
use Rattle.tables.specs.declared.Head.{Head}
use Rattle.tables.specs.declared.Table.{Table}
use Rattle.tables.specs.Shape.{table_count, table_at, width, Tables, tables_now, words_of}
use Rattle.tables.proofs.Places.{words_at}
use Rattle.text.specs.Lines.{line_text}
use Rattle.text.specs.Places.{PutAt, Sized}
use Rattle.text.proofs.Stores.{put_append, put_nothing, sized_append, sized_most}
use Rattle.fileform.specs.Form.{head_keys, head_count, head_key, kind_of, month_form}
use Rattle.fileform.specs.Reading.{rows_in_all}
use Rattle.fileform.specs.Writing.{heads_text, tables_text, file_text}
use Rattle.fileform.specs.Calls.{table_text}
use Rattle.fileform.proofs.KeyLaws.{heads_drop, heads_over}
use Rattle.fileform.proofs.Each.{order_drop, order_over}
use Rattle.filewrite.specs.Calls.{numbers_of, whole_rows, all_rows, month_text}

-- a month's text in front of its last line, which has the number of rows
abbrev pub heads_of : Head → List ℕ
heads_of head = heads_text month_form.heads (numbers_of head)

abbrev pub tables_of : Tables → List ℕ
tables_of t = tables_text month_form.kinds (all_rows t)

abbrev pub end_of : ℕ → List ℕ
end_of rows = line_text month_form.last (rows ∷ [])

pub file_pieces : (head : Head) (t : Tables) (rows : ℕ) → rows ≡ rows_in_all (all_rows t) → heads_of head ++ (tables_of t ++ end_of rows) ≡ month_text head t
unfolding file_text
file_pieces head t rows e = ap (λ n. heads_of head ++ (tables_of t ++ end_of n)) e

-- three pieces that make a whole, measured and written one after the other
module _ (a b c whole : List ℕ) (pieces : a ++ (b ++ c) ≡ whole) where
  pub three_length : length whole ≡ length a + (length b + length c)
  three_length = ap length (sym pieces) ∙ length-append a (b ++ c) ∙ ap (λ n. length a + n) (length-append b c)

  pub three_sized : (cap n m r : ℕ) → Sized 0 a cap n → Sized n b cap m → Sized m c cap r → Sized 0 whole cap r
  three_sized cap n m r x y z = subst (λ l. Sized 0 l cap r) pieces (sized_append 0 a (b ++ c) cap n r x (sized_append n b c cap m r y z))

  pub three_put : (out : List ℕ) (n m r : ℕ) (one two three : List ℕ) → PutAt out 0 a n one → PutAt one n b m two → PutAt two m c r three → PutAt out 0 whole r three
  three_put out n m r one two three x y z =
      subst (λ l. PutAt out 0 l r three) pieces (put_append out 0 a (b ++ c) n r one three x (put_append one n b c m r two three y z))

-- a text from each place on: the piece at a place, and what is left behind it
pub record Piece (from : ℕ → List ℕ) (k : ℕ) (piece : List ℕ) : Type 0 where
  pub splits : from k ≡ piece ++ from (k + 1)

-- a loop over such pieces: what is left, measured behind the pieces before, is the whole measured
pub record Measuring (from : ℕ → List ℕ) (before cap size k : ℕ) : Type 0 where
  pub capped : size ≤ cap
  pub whole : (m : ℕ) → Sized size (from k) cap m → Sized before (from 0) cap m

module _ {from : ℕ → List ℕ} {before cap size k : ℕ} (w : Measuring from before cap size k) where
  pub measure_next : {piece : List ℕ} → Piece from k piece → (n : ℕ) → Sized size piece cap n → Measuring from before cap n (k + 1)
  measure_next {piece} p n s =
      record {
        capped = sized_most size piece cap n s;
        whole = λ m t. w.whole m (subst (λ l. Sized size l cap m) (sym p.splits) (sized_append size piece (from (k + 1)) cap n m s t));
      }

  pub measure_end : from k ≡ [] → Sized before (from 0) cap size
  measure_end e =
      let fits : size ≤ cap = w.capped in
      w.whole size (subst (λ l. Sized size l cap size) (sym e) (record { capped = omega arith }))

-- .. and what is left, written behind the pieces before, is the whole written, and there is room for it
pub record Putting (from : ℕ → List ℕ) (lent : List ℕ) (at : ℕ) (out : List ℕ) (i k : ℕ) : Type 0 where
  pub same : length out ≡ length lent
  pub room : i + length (from k) ≤ length out
  pub whole : (m : ℕ) (after : List ℕ) → PutAt out i (from k) m after → PutAt lent at (from 0) m after

pub putting_start : (from : ℕ → List ℕ) (lent : List ℕ) (at : ℕ) → at + length (from 0) ≤ length lent → Putting from lent at lent at 0
putting_start from lent at h = record { same = refl; room = h; whole = λ m after e. e }

module _ {from : ℕ → List ℕ} {lent : List ℕ} {at : ℕ} {out : List ℕ} {i k : ℕ} (w : Putting from lent at out i k) where
  module _ {piece : List ℕ} (p : Piece from k piece) where
    length_next : length (from k) ≡ length piece + length (from (k + 1))
    length_next = ap length p.splits ∙ length-append piece (from (k + 1))

    pub putting_fits : i + length piece ≤ length out
    putting_fits = let room : i + length (from k) ≤ length out = w.room in omega (arith, length_next)

    pub putting_next : (n : ℕ) (after : List ℕ) → PutAt out i piece n after → length after ≡ length out → Putting from lent at after n (k + 1)
    putting_next n after put size =
        let room : i + length (from k) ≤ length out = w.room in
        record {
          same = size ∙ w.same;
          room = omega (arith, length_next, put.onward);
          whole = λ m last q. w.whole m last (subst (λ l. PutAt out i l m last) (sym p.splits) (put_append out i piece (from (k + 1)) n m after last put q));
        }

  pub putting_end : from k ≡ [] → PutAt lent at (from 0) i out
  putting_end e = w.whole i out (subst (λ l. PutAt out i l i out) (sym e) (put_nothing out i))

-- the first lines from a place on, with their numbers
abbrev pub heads_from : List ℕ → ℕ → List ℕ
heads_from ns k = heads_text (drop k head_keys) (drop k ns)

pub head_piece : (ns : List ℕ) (k : ℕ) → k < head_count → Piece (heads_from ns) k (line_text (head_key k) (at ns k ∷ []))
unfolding heads_text
head_piece ns k h =
    record {
      splits =
          ap (λ keys. heads_text keys (drop k ns)) (heads_drop k h)
          ∙ ap₂ (λ n l. line_text (head_key k) (n ∷ []) ++ heads_text (drop (k + 1) head_keys) l) (get_or-drop k ns 0 0 ∙ ap (at ns) (add-zero k)) (drop-drop 1 k ns);
    }

pub heads_end : (ns : List ℕ) (k : ℕ) → head_count ≤ k → heads_from ns k ≡ []
unfolding heads_text
heads_end ns k h = ap (λ keys. heads_text keys (drop k ns)) (heads_over k h)

-- the text of the tables from a place on, and how many rows they have
abbrev pub text_from : Tables → ℕ → List ℕ
text_from t k = tables_text (drop k month_form.kinds) (drop k (all_rows t))

abbrev pub rows_from : Tables → ℕ → ℕ
rows_from t k = rows_in_all (drop k (all_rows t))

pub tables_end : (t : Tables) (k : ℕ) → table_count ≤ k → text_from t k ≡ []
unfolding tables_text
tables_end t k h = ap₂ tables_text (order_over kind_of k h) (order_over (whole_rows t) k h)

pub rows_end : (t : Tables) (k : ℕ) → table_count ≤ k → rows_from t k ≡ 0
unfolding rows_in_all
rows_end t k h = ap rows_in_all (order_over (whole_rows t) k h)

-- the words of the table at a place of lent tables
abbrev pub words_here : List (Bor (List ℕ)) → ℕ → List ℕ
words_here tables k = (get_or tables k (record { ref_ptr = (0, 0); now = [] })).now

-- that table, and those behind it
module _ (tables : List (Bor (List ℕ))) (k : ℕ) (h : k < table_count) {table : Table} (called : table ≡ table_at k) where
  abbrev lent : Tables
  lent = tables_now tables

  words_are : words_here tables k ≡ words_of lent (table_at k)
  words_are = sym (get_or-map (λ x. x.now) tables k (record { ref_ptr = (0, 0); now = [] })) ∙ words_at (map (λ x. x.now) tables) k h

  text_on : text_from lent k ≡ table_text (table_at k) (words_of lent (table_at k)) ++ text_from lent (k + 1)
  unfolding tables_text
  text_on = ap₂ tables_text (order_drop kind_of k h) (order_drop (whole_rows lent) k h)

  pub table_piece : Piece (text_from lent) k (table_text table (words_here tables k))
  table_piece = record { splits = text_on ∙ ap₂ (λ t w. table_text t w ++ text_from lent (k + 1)) (sym called) (sym words_are) }

  rows_on : rows_from lent k ≡ length (words_of lent (table_at k)) / width (table_at k) + rows_from lent (k + 1)
  unfolding rows_in_all
  rows_on = ap rows_in_all (order_drop (whole_rows lent) k h)

  pub rows_next : rows_from lent k ≡ length (words_here tables k) / width table + rows_from lent (k + 1)
  rows_next = rows_on ∙ ap₂ (λ t w. length w / width t + rows_from lent (k + 1)) (sym called) (sym words_are)
