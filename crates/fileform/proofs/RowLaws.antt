-- Rows that are written are read again, and what was read was written: for every reader and writer of lines that agree.
-- Assumes nothing.
use mathlib.Core.Path.{◌≡◌, refl, sym, ap, ap₂, ◌∙◌, subst}
use mathlib.Core.List.{List, [], ◌∷◌, ◌++◌, append_assoc}
use Prim.Native.Nat.{ℕ, zero, suc, ◌+◌, ◌-◌, ◌*◌, ◌≤◌, ◌<◌}
use native.Mathlib.Nat.{suc-mul, zero-mul}
use native.Mathlib.Omega.{arith}
use lib.ListN.{length, take, drop, length-append, take-append-drop, length-drop}
use lib.Seq.{length-take-le, take_at, drop_at}
use Rattle.text.specs.Numbers.{Found, found, missing, Below}
use Rattle.text.proofs.Below.{below_none, below_append, below_take, below_drop}
use Rattle.fileform.specs.Reading.{RowsRead, row_lines}
use Rattle.fileform.specs.Writing.{rows_text}
use Rattle.fileform.specs.Refused.{NoLine}
use Rattle.fileform.proofs.Agree.{Back, Agree}

-- a row in front of others
abbrev pub with_row : List ℕ → RowsRead → RowsRead
with_row ns r = record { count = suc r.count; words = ns ++ r.words; rest = r.rest }

-- where more rows were read than so many, so many stand there and a row behind them
pub record RowMore (read : List ℕ → Found (List ℕ)) (most : ℕ) (s : List ℕ) : Type 0 where
  pub row : List ℕ
  pub more : List ℕ
  pub so_many : (row_lines read most s).count ≡ most
  pub behind : read (row_lines read most s).rest ≡ found row more

-- rows that were read are whole, of small numbers, and their text stood there
pub record RowsBack (write : List ℕ → List ℕ) (width : ℕ) (s : List ℕ) (r : RowsRead) : Type 0 where
  pub written : s ≡ rows_text write width r.count r.words ++ r.rest
  pub whole : length r.words ≡ r.count * width
  pub below : Below r.words

empty : (l : List ℕ) → length l ≡ 0 → l ≡ []
empty [] e = refl
empty (a ∷ l) e = absurd (let z : suc (length l) ≡ 0 = e in omega arith)

module _ (read : List ℕ → Found (List ℕ)) where
  pub rows_none : (s : List ℕ) → row_lines read 0 s ≡ record { count = 0; words = []; rest = s }
  unfolding row_lines
  rows_none s = refl

  pub rows_stop : (most : ℕ) (s : List ℕ) → read s ≡ missing → row_lines read (suc most) s ≡ record { count = 0; words = []; rest = s }
  unfolding row_lines
  rows_stop most s e = rw e

  pub rows_on : (most : ℕ) (s ns t : List ℕ) → read s ≡ found ns t → row_lines read (suc most) s ≡ with_row ns (row_lines read most t)
  unfolding row_lines
  rows_on most s ns t e = rw e

  -- where fewer rows were read than there might be, none stands behind them
  pub rows_ended : (most : ℕ) (s : List ℕ) → (row_lines read (suc most) s).count ≤ most → read (row_lines read (suc most) s).rest ≡ missing
  rows_ended zero s h = go (read s) refl
    where
      go : (o : Found (List ℕ)) → read s ≡ o → read (row_lines read 1 s).rest ≡ missing
      go missing e = ap (λ (r : RowsRead). read r.rest) (rows_stop 0 s e) ∙ e
      go (found ns t) e =
          absurd (let c : (row_lines read 1 s).count ≡ suc (row_lines read 0 t).count = ap (λ (r : RowsRead). r.count) (rows_on 0 s ns t e) in omega arith)
  rows_ended (suc most) s h = go (read s) refl (rows_ended most)
    where
      go : (o : Found (List ℕ)) → read s ≡ o
          → ((t : List ℕ) → (row_lines read (suc most) t).count ≤ most → read (row_lines read (suc most) t).rest ≡ missing)
          → read (row_lines read (suc (suc most)) s).rest ≡ missing
      go missing e more = ap (λ (r : RowsRead). read r.rest) (rows_stop (suc most) s e) ∙ e
      go (found ns t) e more =
          let c : (row_lines read (suc (suc most)) s).count ≡ suc (row_lines read (suc most) t).count = ap (λ (r : RowsRead). r.count) (rows_on (suc most) s ns t e) in
          ap (λ (r : RowsRead). read r.rest) (rows_on (suc most) s ns t e) ∙ more t (omega arith)

  pub rows_over : (most : ℕ) (s : List ℕ) → most < (row_lines read (suc most) s).count → RowMore read most s
  rows_over zero s h = go (read s) refl
    where
      go : (o : Found (List ℕ)) → read s ≡ o → RowMore read 0 s
      go missing e = absurd (let c : (row_lines read 1 s).count ≡ 0 = ap (λ (r : RowsRead). r.count) (rows_stop 0 s e) in omega arith)
      go (found ns t) e =
          record {
            row = ns;
            more = t;
            so_many = ap (λ (r : RowsRead). r.count) (rows_none s);
            behind = ap (λ (r : RowsRead). read r.rest) (rows_none s) ∙ e;
          }
  rows_over (suc most) s h = go (read s) refl (rows_over most)
    where
      go : (o : Found (List ℕ)) → read s ≡ o → ((t : List ℕ) → most < (row_lines read (suc most) t).count → RowMore read most t)
          → RowMore read (suc most) s
      go missing e more =
          absurd (let c : (row_lines read (suc (suc most)) s).count ≡ 0 = ap (λ (r : RowsRead). r.count) (rows_stop (suc most) s e) in omega arith)
      go (found ns t) e more =
          let c : (row_lines read (suc (suc most)) s).count ≡ suc (row_lines read (suc most) t).count = ap (λ (r : RowsRead). r.count) (rows_on (suc most) s ns t e) in
          let later : RowMore read most t = more t (omega arith) in
          record {
            row = later.row;
            more = later.more;
            so_many = ap (λ (r : RowsRead). r.count) (rows_on most s ns t e) ∙ ap suc later.so_many;
            behind = ap (λ (r : RowsRead). read r.rest) (rows_on most s ns t e) ∙ later.behind;
          }

  -- reading exactly as many rows as there are gives the same
  pub rows_exact : (most : ℕ) (s : List ℕ) → row_lines read (row_lines read most s).count s ≡ row_lines read most s
  rows_exact zero s = ap (λ (r : RowsRead). row_lines read r.count s) (rows_none s)
  rows_exact (suc most) s = go (read s) refl (rows_exact most)
    where
      go : (o : Found (List ℕ)) → read s ≡ o → ((t : List ℕ) → row_lines read (row_lines read most t).count t ≡ row_lines read most t)
          → row_lines read (row_lines read (suc most) s).count s ≡ row_lines read (suc most) s
      go missing e more = ap (λ (r : RowsRead). row_lines read r.count s) (rows_stop most s e) ∙ rows_none s ∙ sym (rows_stop most s e)
      go (found ns t) e more =
          ap (λ (r : RowsRead). row_lines read r.count s) (rows_on most s ns t e)
          ∙ rows_on (row_lines read most t).count s ns t e
          ∙ ap (with_row ns) (more t)
          ∙ sym (rows_on most s ns t e)

module _ (read : List ℕ → Found (List ℕ)) (write : List ℕ → List ℕ) (width : ℕ) (agree : Agree read write width) where
  -- a line is missing exactly where none stands
  pub no_line_there : (rest : List ℕ) → read rest ≡ missing → NoLine write width rest
  no_line_there rest e ns more wide below stands =
      let again : read rest ≡ found ns more = ap read stands ∙ agree.forth ns more wide below in
      let z : ◌≡◌ {A = ℕ} 0 1 = cc in
      omega arith

  pub line_missing : (rest : List ℕ) → NoLine write width rest → read rest ≡ missing
  line_missing rest none = go (read rest) refl
    where
      go : (o : Found (List ℕ)) → read rest ≡ o → read rest ≡ missing
      go missing e = e
      go (found ns more) e =
          let one : Back write width rest ns more = agree.back rest ns more e in
          absurd (none ns more one.width_is one.below one.written)

  -- the first of some rows that are written is read, and the others stand behind it
  record RowFirst (n : ℕ) (words rest : List ℕ) : Type 0 where
    first : read (rows_text write width (suc n) words ++ rest) ≡ found (take width words) (rows_text write width n (drop width words) ++ rest)
    others : length (drop width words) ≡ n * width

  row_first : (n : ℕ) (words rest : List ℕ) → length words ≡ suc n * width → Below words → RowFirst n words rest
  unfolding rows_text
  row_first n words rest e h =
      let size : length words ≡ n * width + width = e ∙ suc-mul n width in
      let first : List ℕ = take width words in
      record {
        first =
            ap read (append_assoc (write first) (rows_text write width n (drop width words)) rest)
            ∙ agree.forth first (rows_text write width n (drop width words) ++ rest) (length-take-le width words (omega arith)) (below_take width words h);
        others = length-drop width words ∙ (let d : length words - width ≡ n * width = omega arith in d);
      }

  -- rows that are written are read again, where no further row follows
  pub rows_text_lem : (n most : ℕ) (words rest : List ℕ) → n ≤ most → length words ≡ n * width → Below words
      → read rest ≡ missing → row_lines read (suc most) (rows_text write width n words ++ rest) ≡ record { count = n; words = words; rest = rest }
  unfolding rows_text
  rows_text_lem zero most words rest l e h end =
      rows_stop read most rest end
      ∙ ap (λ ws. record { count = 0; words = ws; rest = rest }) (sym (empty words (e ∙ zero-mul width)))
  rows_text_lem (suc n) zero words rest l e h end = absurd (omega arith)
  rows_text_lem (suc n) (suc most) words rest l e h end =
      let one : RowFirst n words rest = row_first n words rest e h in
      rows_on read (suc most) (rows_text write width (suc n) words ++ rest) (take width words) (rows_text write width n (drop width words) ++ rest) one.first
      ∙ ap (with_row (take width words)) (rows_text_lem n most (drop width words) rest (omega arith) one.others (below_drop width words h) end)
      ∙ ap (λ ws. record { count = suc n; words = ws; rest = rest }) (take-append-drop width words)

  -- where one more follows, more than so many are read
  pub rows_full : (n : ℕ) (words row more : List ℕ) → length words ≡ n * width → Below words → length row ≡ width → Below row
      → n < (row_lines read (suc n) (rows_text write width n words ++ (write row ++ more))).count
  unfolding rows_text
  rows_full zero words row more e h wide below =
      let c : (row_lines read 1 (write row ++ more)).count ≡ suc (row_lines read 0 more).count =
      ap (λ (r : RowsRead). r.count) (rows_on read 0 (write row ++ more) row more (agree.forth row more wide below)) in
      omega arith
  rows_full (suc n) words row more e h wide below =
      let rest : List ℕ = write row ++ more in
      let one : RowFirst n words rest = row_first n words rest e h in
      let later : List ℕ = rows_text write width n (drop width words) ++ rest in
      let c : (row_lines read (suc (suc n)) (rows_text write width (suc n) words ++ rest)).count ≡ suc (row_lines read (suc n) later).count =
      ap (λ (r : RowsRead). r.count) (rows_on read (suc n) (rows_text write width (suc n) words ++ rest) (take width words) later one.first) in
      let behind : n < (row_lines read (suc n) later).count = rows_full n (drop width words) row more one.others (below_drop width words h) wide below in
      omega arith

  back_none : (s : List ℕ) → RowsBack write width s (record { count = 0; words = []; rest = s })
  unfolding rows_text
  back_none s = record { written = refl; whole = sym (zero-mul width); below = below_none }

  back_on : (s ns t : List ℕ) (r : RowsRead) → read s ≡ found ns t → RowsBack write width t r → RowsBack write width s (with_row ns r)
  unfolding rows_text
  back_on s ns t r e b =
      let one : Back write width s ns t = agree.back s ns t e in
      record {
        written =
            one.written
            ∙ ap (λ u. write ns ++ u) b.written
            ∙ sym (append_assoc (write ns) (rows_text write width r.count r.words) r.rest)
            ∙ ap₂ (λ x y. (write x ++ rows_text write width r.count y) ++ r.rest)
            (sym (take_at ns r.words width one.width_is))
            (sym (drop_at ns r.words width one.width_is));
        whole =
            length-append ns r.words
            ∙ ap₂ ◌+◌ one.width_is b.whole
            ∙ (let q : width + r.count * width ≡ r.count * width + width = omega arith in q)
            ∙ sym (suc-mul r.count width);
        below = below_append ns r.words one.below b.below;
      }

  pub rows_back : (most : ℕ) (s : List ℕ) → RowsBack write width s (row_lines read most s)
  rows_back zero s = subst (RowsBack write width s) (sym (rows_none read s)) (back_none s)
  rows_back (suc most) s = go (read s) refl (rows_back most)
    where
      go : (o : Found (List ℕ)) → read s ≡ o → ((t : List ℕ) → RowsBack write width t (row_lines read most t)) → RowsBack write width s (row_lines read (suc most) s)
      go missing e more = subst (RowsBack write width s) (sym (rows_stop read most s e)) (back_none s)
      go (found ns t) e more = subst (RowsBack write width s) (sym (rows_on read most s ns t e)) (back_on s ns t (row_lines read most t) e (more t))
