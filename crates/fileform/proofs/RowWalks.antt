-- Rows counted, stored, measured and written one after the other: what is left from here on is what was to be done from the start.
-- Assumes nothing.
use mathlib.Core.Path.{◌≡◌, refl, sym, ap, ap₂, ◌∙◌, subst}
use mathlib.Core.Logic.{◌≢◌}
use mathlib.Core.List.{List, [], ◌++◌}
use Prim.Native.Nat.{ℕ, suc, ◌+◌, ◌-◌, ◌*◌, ◌≤◌, ◌<◌}
use native.Mathlib.Nat.{suc-mul, mul-le-mul_right}
use native.Mathlib.Numerals.{add-one}
use native.Mathlib.Omega.{arith}
use lib.ListN.{length, take, drop, length-append}
use lib.Seq.{drop-drop}
use Rattle.text.specs.Numbers.{Found, found, missing}
use Rattle.text.specs.Lines.{line}
use Rattle.text.specs.Places.{FieldsTaken, fields_of, rest_of, stored, PutAt}
use Rattle.text.proofs.Lines.{Line, line_back}
use Rattle.text.proofs.Stores.{stored_append}
use Rattle.fileform.specs.Reading.{RowsRead, row_lines}
use Rattle.fileform.specs.Writing.{rows_text}
use Rattle.fileform.specs.Calls.{CountedAt}
use Rattle.fileform.proofs.RowLaws.{rows_none, rows_stop, rows_on, with_row}

-- a row more is a width more, and the rows left are one row and the others
pub mul_up : (k width : ℕ) → (k + 1) * width ≡ k * width + width
mul_up k width = ap (λ n. n * width) (add-one k) ∙ suc-mul k width

pub row_within : (k width count : ℕ) → k < count → k * width + width ≤ count * width
row_within k width count h = omega (arith, mul-le-mul_right {m = k + 1} {n = count} width (omega arith), mul_up k width)

-- rows that were to be read, of which some were counted and the others are left
pub record RowsPartly (o r : RowsRead) (count : ℕ) : Type 0 where
  pub counted : o.count ≡ count + r.count
  pub behind : o.rest ≡ r.rest

-- as many rows as there may be, so many of which were counted
module _ (read : List ℕ → Found (List ℕ)) (s : List ℕ) (o : RowsRead) (i most count : ℕ)
    (so_far : RowsPartly o (row_lines read (most - count) (drop i s)) count) where
  none_left : i ≤ length s → row_lines read (most - count) (drop i s) ≡ record { count = 0; words = []; rest = drop i s }
      → CountedAt s o (record { count = count; next = i })
  none_left h e =
      let none : (row_lines read (most - count) (drop i s)).count ≡ 0 = ap (λ (r : RowsRead). r.count) e in
      let all : o.count ≡ count + (row_lines read (most - count) (drop i s)).count = so_far.counted in
      record {
        inside = h;
        count_is = omega arith;
        behind = so_far.behind ∙ ap (λ (r : RowsRead). r.rest) e;
      }

  pub rows_end : i ≤ length s → count ≡ most → CountedAt s o (record { count = most; next = i })
  rows_end h all =
      let z : most - count ≡ 0 = omega arith in
      subst (λ n. CountedAt s o (record { count = n; next = i })) all
      (none_left h (ap (λ k. row_lines read k (drop i s)) z ∙ rows_none read (drop i s)))

  module _ (h : count < most) where
    one_left : row_lines read (most - count) (drop i s) ≡ row_lines read (suc (most - (count + 1))) (drop i s)
    one_left = let e : most - count ≡ suc (most - (count + 1)) = omega arith in ap (λ k. row_lines read k (drop i s)) e

    pub rows_missing : i ≤ length s → read (drop i s) ≡ missing → CountedAt s o (record { count = count; next = i })
    rows_missing h z = none_left h (one_left ∙ rows_stop read (most - (count + 1)) (drop i s) z)

    pub rows_next : (n : ℕ) (ns : List ℕ) → read (drop i s) ≡ found ns (drop n s)
        → RowsPartly o (row_lines read (most - (count + 1)) (drop n s)) (count + 1)
    rows_next n ns a =
        let more : row_lines read (most - count) (drop i s) ≡ with_row ns (row_lines read (most - (count + 1)) (drop n s)) =
        one_left ∙ rows_on read (most - (count + 1)) (drop i s) ns (drop n s) a in
        let all : o.count ≡ count + (row_lines read (most - count) (drop i s)).count = so_far.counted in
        let one : (row_lines read (most - count) (drop i s)).count ≡ suc (row_lines read (most - (count + 1)) (drop n s)).count =
        ap (λ (r : RowsRead). r.count) more in
        record { counted = omega arith; behind = so_far.behind ∙ ap (λ (r : RowsRead). r.rest) more }

-- rows that are known to be there
found_is : (o : Found (List ℕ)) → o ≢ missing → o ≡ found (fields_of o) (rest_of o)
found_is (found ns t) d = refl
found_is missing d = absurd (d refl)

module _ (key : List ℕ) (width : ℕ) (s : List ℕ) (i count k : ℕ) (h : k < count)
    (there : (row_lines (line key width) (count - k) (drop i s)).count ≡ count - k) where
  abbrev left : ℕ → List ℕ → RowsRead
  left n t = row_lines (line key width) n t

  abbrev here : Found (List ℕ)
  here = line key width (drop i s)

  one_there : left (count - k) (drop i s) ≡ left (suc (count - (k + 1))) (drop i s)
  one_there = let e : count - k ≡ suc (count - (k + 1)) = omega arith in ap (λ n. left n (drop i s)) e

  pub row_there : here ≢ missing
  row_there z =
      let none : (left (count - k) (drop i s)).count ≡ 0 =
      ap (λ (r : RowsRead). r.count) (one_there ∙ rows_stop (line key width) (count - (k + 1)) (drop i s) z) in
      omega arith

  module _ (words : List ℕ) (n : ℕ) (after : List ℕ) (t : FieldsTaken s here words (k * width) n after) where
    row_is : here ≡ found (fields_of here) (drop n s)
    row_is = found_is here row_there ∙ ap (found (fields_of here)) t.behind

    on : left (count - k) (drop i s) ≡ with_row (fields_of here) (left (count - (k + 1)) (drop n s))
    on = one_there ∙ rows_on (line key width) (count - (k + 1)) (drop i s) (fields_of here) (drop n s) row_is

    pub rows_there : (left (count - (k + 1)) (drop n s)).count ≡ count - (k + 1)
    rows_there =
        let one : (left (count - k) (drop i s)).count ≡ suc (left (count - (k + 1)) (drop n s)).count = ap (λ (r : RowsRead). r.count) on in
        omega arith

    pub rows_behind : (left (count - (k + 1)) (drop n s)).rest ≡ (left (count - k) (drop i s)).rest
    rows_behind = sym (ap (λ (r : RowsRead). r.rest) on)

    pub rows_stored : stored after ((k + 1) * width) (left (count - (k + 1)) (drop n s)).words ≡ stored words (k * width) (left (count - k) (drop i s)).words
    rows_stored =
        let ns : List ℕ = fields_of here in
        let more : List ℕ = (left (count - (k + 1)) (drop n s)).words in
        let one : Line key width (drop i s) ns (drop n s) = line_back key width (drop i s) ns (drop n s) row_is in
        ap₂ (λ l j. stored l j more) t.written (mul_up k width ∙ ap (λ j. k * width + j) (sym one.width_is))
        ∙ sym (stored_append words (k * width) ns more)
        ∙ ap (λ (r : RowsRead). stored words (k * width) r.words) (sym on)

pub rows_done : (read : List ℕ → Found (List ℕ)) (s : List ℕ) (left : ℕ) → left ≡ 0 → row_lines read left s ≡ record { count = 0; words = []; rest = s }
rows_done read s left z = ap (λ k. row_lines read k s) z ∙ rows_none read s

-- the text of rows: a line, and the text of the rows behind it
text_none : (write : List ℕ → List ℕ) (width : ℕ) (words : List ℕ) → rows_text write width 0 words ≡ []
unfolding rows_text
text_none write width words = refl

text_suc : (write : List ℕ → List ℕ) (width n : ℕ) (words : List ℕ)
    → rows_text write width (suc n) words ≡ write (take width words) ++ rows_text write width n (drop width words)
unfolding rows_text
text_suc write width n words = refl

pub text_done : (write : List ℕ → List ℕ) (width count k : ℕ) (words : List ℕ) → count ≤ k → rows_text write width (count - k) words ≡ []
text_done write width count k words h =
    let z : count - k ≡ 0 = omega arith in
    ap (λ n. rows_text write width n words) z ∙ text_none write width words

-- the text of the rows from one on is its line and the text of the others
module _ (write : List ℕ → List ℕ) (width count k : ℕ) (words : List ℕ) (h : k < count) where
  text_next : rows_text write width (count - k) (drop (k * width) words)
      ≡ write (take (k * width + width - k * width) (drop (k * width) words)) ++ rows_text write width (count - (k + 1)) (drop ((k + 1) * width) words)
  text_next =
      let e : count - k ≡ suc (count - (k + 1)) = omega arith in
      let wide : width ≡ k * width + width - k * width = omega arith in
      ap (λ n. rows_text write width n (drop (k * width) words)) e
      ∙ text_suc write width (count - (k + 1)) (drop (k * width) words)
      ∙ ap₂ (λ n l. write (take n (drop (k * width) words)) ++ rows_text write width (count - (k + 1)) l) wide
      (drop-drop width (k * width) words ∙ ap (λ n. drop n words) (sym (mul_up k width)))

  pub length_on : length (rows_text write width (count - k) (drop (k * width) words))
      ≡ length (write (take (k * width + width - k * width) (drop (k * width) words)))
      + length (rows_text write width (count - (k + 1)) (drop ((k + 1) * width) words))
  length_on =
      ap length text_next
      ∙ length-append (write (take (k * width + width - k * width) (drop (k * width) words))) (rows_text write width (count - (k + 1)) (drop ((k + 1) * width) words))

  pub put_on : (out mid : List ℕ) (i n : ℕ) → PutAt out i (write (take (k * width + width - k * width) (drop (k * width) words))) n mid
      → stored mid n (rows_text write width (count - (k + 1)) (drop ((k + 1) * width) words))
      ≡ stored out i (rows_text write width (count - k) (drop (k * width) words))
  put_on out mid i n p =
      let row : List ℕ = write (take (k * width + width - k * width) (drop (k * width) words)) in
      let more : List ℕ = rows_text write width (count - (k + 1)) (drop ((k + 1) * width) words) in
      ap₂ (λ l j. stored l j more) p.written p.onward ∙ sym (stored_append out i row more) ∙ ap (stored out i) (sym text_next)
