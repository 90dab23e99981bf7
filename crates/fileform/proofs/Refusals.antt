-- Why a text is refused: what was read in front of the refusal is the text of lines that fit, and the line that was looked for
-- behind them is not there, or is one too many. From `reading`, line by line.
-- Assumes nothing.
use mathlib.Core.Path.{◌≡◌, refl, sym, ap, ap₂, subst, ◌∙◌}
use mathlib.Core.Logic.{◌⊎◌, inl, inr, ⊎_elim, ◌≢◌}
use mathlib.Core.Bool.{true, false}
use mathlib.Core.List.{List, [], ◌∷◌, ◌++◌, append_assoc}
use Prim.Native.Nat.{ℕ, suc, ◌+◌, ◌-◌, ◌≤◌, ◌<◌}
use native.Mathlib.Omega.{arith}
use lib.Dec.{eqb}
use lib.ListN.{length, get_or, take, length-append}
use lib.Seq.{length-take-le}
use borrow.Author.Tests.{eqb-true, eqb-false}
use Rattle.lists.specs.Sums.{at}
use Rattle.lists.proofs.Ranks.{true_or_false, lt_or_le}
use Rattle.answer.specs.declared.Answer.{Answer}
use Rattle.answer.specs.Numbers.{COUNT, TEXT, HEAD}
use Rattle.answer.specs.Turns.{refuse, refusal}
use Rattle.answer.proofs.Turns.{refuse_some}
use Rattle.text.specs.Numbers.{Found, found, missing, Below}
use Rattle.text.specs.Lines.{line, line_text}
use Rattle.text.proofs.Below.{below_none}
use Rattle.text.proofs.Lines.{line_back, Line}
use Rattle.fileform.specs.Form.{Kind, Form, line_of, line_text_of}
use Rattle.fileform.specs.Reading.{Outcome, got, refused, onward, unfit, Rows, nth, RowsRead, row_lines, head_lines, table_lines, Contents, rows_in_all, ending, reading}
use Rattle.fileform.specs.Writing.{rows_text, heads_text, tables_text, file_text, ContentsFit}
use Rattle.fileform.specs.Refused.{NoLine, before_end, NoRow, Misfit, no_head, no_line, other_number, bytes_behind, AtMisfit, RowTooMany}
use Rattle.fileform.proofs.Agree.{Back, line_agrees, kind_agrees}
use Rattle.fileform.proofs.RowLaws.{no_line_there, rows_back, rows_ended, RowMore, rows_over}
use Rattle.fileform.proofs.Forms.{
  not_both,
  heads_none,
  heads_on,
  heads_stop,
  single,
  HeadsBack,
  heads_back_on,
  heads_back,
  kind_at,
  tables_none,
  read_of,
  table_of,
  tables_on,
  tables_over,
  FirstKind,
  first_kind,
  TablesBack,
  tables_back_on,
  tables_back,
  ending_stop,
  ending_other,
  ending_on,
}

-- a line with so many plain numbers that is missing does not stand there
no_plain_line : (key : List ℕ) (width : ℕ) (rest : List ℕ) → line key width rest ≡ missing → NoLine (line_text key) width rest
no_plain_line key width = no_line_there (line key width) (line_text key) width (line_agrees key width)

-- one refusal is not two
same_refusal : {A : Type 0} {o : Outcome A} {a b : Answer} → o ≡ refused a → o ≡ refused b → a ≡ b
same_refusal p q = cc

-- a refusal is that of what is read first, or of what is read behind it
data OnwardRefused {A B : Type 0} (o : Outcome A) (go : A → List ℕ → Outcome B) (r : Answer) : Type 0 where
  at_first : o ≡ refused r → OnwardRefused o go r
  behind : (a : A) (s : List ℕ) → o ≡ got a s → go a s ≡ refused r → OnwardRefused o go r

onward_refused : {A B : Type 0} (o : Outcome A) (go : A → List ℕ → Outcome B) (r : Answer) → onward o go ≡ refused r → OnwardRefused o go r
onward_refused (got a s) go r e = behind a s refl e
onward_refused (refused q) go r e = at_first (ap refused (same_refusal {o = onward (refused q) go} refl e))

-- some first lines stand in front, and the next is missing
record HeadStop (size : ℕ) (keys : List (List ℕ)) (s : List ℕ) (a : Answer) : Type 0 where
  k : ℕ
  ns : List ℕ
  rest : List ℕ
  is_head : k < length keys
  front : HeadsBack (take k keys) s ns rest
  none : line (get_or keys k []) 1 rest ≡ missing
  its : a ≡ unfit size rest

heads_refused : (size : ℕ) (keys : List (List ℕ)) (s : List ℕ) (a : Answer) → head_lines size keys s ≡ refused a → HeadStop size keys s a
unfolding heads_text
heads_refused size [] s a e = absurd (not_both e (heads_none size s))
heads_refused size (key ∷ keys) s a e = go (line key 1 s) refl (heads_refused size keys)
  where
    on : (ns t : List ℕ) → line key 1 s ≡ found ns t → HeadStop size keys t a → HeadStop size (key ∷ keys) s a
    on ns t p stop =
        record {
          k = suc stop.k;
          ns = ns ++ stop.ns;
          rest = stop.rest;
          is_head = (let h : stop.k < length keys = stop.is_head in omega arith);
          front = heads_back_on key (take stop.k keys) s ns t stop.ns stop.rest p stop.front;
          none = stop.none;
          its = stop.its;
        }

    by : (ns t : List ℕ) → line key 1 s ≡ found ns t → ((u : List ℕ) (b : Answer) → head_lines size keys u ≡ refused b → HeadStop size keys u b)
        → OnwardRefused (head_lines size keys t) (λ ms u. got (ns ++ ms) u) a → HeadStop size (key ∷ keys) s a
    by ns t p more (at_first q) = on ns t p (more t a q)
    by ns t p more (behind ms u q r) = absurd (not_both r refl)

    go : (o : Found (List ℕ)) → line key 1 s ≡ o → ((t : List ℕ) (b : Answer) → head_lines size keys t ≡ refused b → HeadStop size keys t b)
        → HeadStop size (key ∷ keys) s a
    go missing p more =
        record {
          k = 0;
          ns = [];
          rest = s;
          is_head = omega arith;
          front = record { written = refl; one_each = refl; below = below_none };
          none = p;
          its = same_refusal e (heads_stop size key keys s p);
        }
    go (found ns t) p more =
        by ns t p more (onward_refused (head_lines size keys t) (λ ms u. got (ns ++ ms) u) a (sym (heads_on size key keys s ns t p) ∙ e))

-- the tables up to one of them stand in front, that one full, and one more of its rows
record TableStop (kinds : List Kind) (s : List ℕ) (a : Answer) : Type 0 where
  k : ℕ
  ts : List Rows
  row : List ℕ
  more : List ℕ
  is_kind : k < length kinds
  front : TablesBack (take (suc k) kinds) s ts (line_text_of (kind_at kinds k) row ++ more)
  at_limit : (nth ts k).count ≡ (kind_at kinds k).limit
  wide : length row ≡ (kind_at kinds k).width
  below : Below row
  its : a ≡ refuse COUNT (kind_at kinds k).table (kind_at kinds k).limit

tables_refused : (kinds : List Kind) (s : List ℕ) (a : Answer) → table_lines kinds s ≡ refused a → TableStop kinds s a
unfolding tables_text
tables_refused [] s a e = absurd (not_both e (tables_none s))
tables_refused (kind ∷ kinds) s a e =
    ⊎_elim
    (λ (over : kind.limit < (read_of kind s).count). full (rows_over (line_of kind) kind.limit s over) (tables_over kind kinds s over))
    (λ (fine : (read_of kind s).count ≤ kind.limit).
    later fine (tables_refused kinds (read_of kind s).rest)
    (onward_refused (table_lines kinds (read_of kind s).rest) (λ ts u. got (table_of (read_of kind s) ∷ ts) u) a (sym (tables_on kind kinds s fine) ∙ e)))
    (lt_or_le kind.limit (read_of kind s).count)
  where
    full : RowMore (line_of kind) kind.limit s → table_lines (kind ∷ kinds) s ≡ refused (refuse COUNT kind.table kind.limit)
        → TableStop (kind ∷ kinds) s a
    full more q =
        let r : RowsRead = row_lines (line_of kind) kind.limit s in
        let one : Back (line_text_of kind) kind.width r.rest more.row more.more =
        (kind_agrees kind).back r.rest more.row more.more more.behind in
        let few : r.count ≤ kind.limit = (let so_many : r.count ≡ kind.limit = more.so_many in omega arith) in
        record {
          k = 0;
          ts = table_of r ∷ [];
          row = more.row;
          more = more.more;
          is_kind = omega arith;
          front =
              tables_back_on kind [] s r [] (line_text_of kind more.row ++ more.more)
              (rows_back (line_of kind) (line_text_of kind) kind.width (kind_agrees kind) kind.limit s) few (record { written = one.written; fit = tt });
          at_limit = more.so_many;
          wide = one.width_is;
          below = one.below;
          its = same_refusal e q;
        }

    later : (read_of kind s).count ≤ kind.limit
        → ((b : Answer) → table_lines kinds (read_of kind s).rest ≡ refused b → TableStop kinds (read_of kind s).rest b)
        → OnwardRefused (table_lines kinds (read_of kind s).rest) (λ ts u. got (table_of (read_of kind s) ∷ ts) u) a → TableStop (kind ∷ kinds) s a
    later fine more (at_first q) =
        let stop : TableStop kinds (read_of kind s).rest a = more a q in
        record {
          k = suc stop.k;
          ts = table_of (read_of kind s) ∷ stop.ts;
          row = stop.row;
          more = stop.more;
          is_kind = (let h : stop.k < length kinds = stop.is_kind in omega arith);
          front =
              tables_back_on kind (take (suc stop.k) kinds) s (read_of kind s) stop.ts (line_text_of (kind_at kinds stop.k) stop.row ++ stop.more)
              (rows_back (line_of kind) (line_text_of kind) kind.width (kind_agrees kind) (suc kind.limit) s) fine stop.front;
          at_limit = stop.at_limit;
          wide = stop.wide;
          below = stop.below;
          its = stop.its;
        }
    later fine more (behind ts u q r) = absurd (not_both r refl)

-- tables without rows have no text
no_rows_text : (kinds : List Kind) (ts : List Rows) → rows_in_all ts ≡ 0 → tables_text kinds ts ≡ []
unfolding rows_in_all tables_text rows_text
no_rows_text [] ts z = refl
no_rows_text (kind ∷ kinds) [] z = refl
no_rows_text (kind ∷ kinds) (t ∷ ts) z =
    let none : t.count ≡ 0 = (let all : t.count + rows_in_all ts ≡ 0 = z in omega arith) in
    let others : rows_in_all ts ≡ 0 = (let all : t.count + rows_in_all ts ≡ 0 = z in omega arith) in
    ap₂ (λ n u. rows_text (line_text_of kind) kind.width n t.words ++ u) none (no_rows_text kinds ts others)

-- behind the tables that were read there is no row whose turn is to come
no_row_left : (kinds : List Kind) (s : List ℕ) (ts : List Rows) (rest : List ℕ) → table_lines kinds s ≡ got ts rest → NoRow kinds ts rest
no_row_left [] s ts rest e = tt
no_row_left (kind ∷ kinds) s ts rest e =
    let first : FirstKind kind kinds s ts rest = first_kind kind kinds s ts rest e in
    let back : TablesBack kinds (read_of kind s).rest first.others rest = tables_back kinds (read_of kind s).rest first.others rest first.behind in
    subst (λ us. NoRow (kind ∷ kinds) us rest) first.both (
      (λ z.
          no_line_there (line_of kind) (line_text_of kind) kind.width (kind_agrees kind) rest
          (ap (line_of kind) (sym (back.written ∙ ap (λ u. u ++ rest) (no_rows_text kinds first.others z)))
          ∙ rows_ended (line_of kind) kind.limit s first.few)),
      no_row_left kinds (read_of kind s).rest first.others rest first.behind,
    )

-- COUNT of a kind with a row too many
pub record AtLimit (form : Form) (text : List ℕ) (a : Answer) : Type 0 where
  pub k : ℕ
  pub is_kind : k < length form.kinds
  pub its : a ≡ refusal COUNT (kind_at form.kinds k).table (kind_at form.kinds k).limit
  pub why : RowTooMany form k (kind_at form.kinds k) text

-- the offset of what doesn't fit is the length of what stands in front
pub unfit_at : (text front rest : List ℕ) → text ≡ front ++ rest → unfit (length text) rest ≡ refusal TEXT HEAD (length front)
unfit_at text front rest stands =
    let size : length text ≡ length front + length rest = ap length stands ∙ length-append front rest in
    let offset : length text - length rest ≡ length front = omega arith in
    refuse_some TEXT HEAD (length text - length rest) (omega arith) ∙ ap (refusal TEXT HEAD) offset

module _ (form : Form) (text : List ℕ) (a : Answer) where
  misfit : (front rest : List ℕ) → a ≡ unfit (length text) rest → text ≡ front ++ rest → Misfit form front rest → AtMisfit form text a
  misfit front rest e stands why =
      record { front = front; rest = rest; its = e ∙ unfit_at text front rest stands; stands = stands; why = why }

  head_misfit : HeadStop (length text) form.heads text a → AtMisfit form text a
  head_misfit stop =
      let before : length (take stop.k form.heads) ≡ stop.k =
      length-take-le stop.k form.heads (let h : stop.k < length form.heads = stop.is_head in omega arith) in
      misfit (heads_text (take stop.k form.heads) stop.ns) stop.rest stop.its stop.front.written
      (no_head stop.k stop.ns stop.is_head (stop.front.one_each ∙ before) stop.front.below refl
      (no_plain_line (get_or form.heads stop.k []) 1 stop.rest stop.none))

  module _ (ns s : List ℕ) (first : HeadsBack form.heads text ns s) where
    table_limit : TableStop form.kinds s a → AtLimit form text a
    table_limit stop =
        let kind : Kind = kind_at form.kinds stop.k in
        record {
          k = stop.k;
          is_kind = stop.is_kind;
          its = stop.its ∙ refuse_some COUNT kind.table kind.limit (omega arith);
          why =
              record {
                front = record { head = ns; tables = stop.ts };
                row = stop.row;
                more = stop.more;
                within = record { one_each = first.one_each; small = first.below; fit = stop.front.fit };
                at_limit = stop.at_limit;
                wide = stop.wide;
                below = stop.below;
                stands =
                    first.written ∙ ap (λ u. heads_text form.heads ns ++ u) stop.front.written
                    ∙ sym (append_assoc (heads_text form.heads ns) (tables_text (take (suc stop.k) form.kinds) stop.ts) (line_text_of kind stop.row ++ stop.more));
              };
        }

    module _ (ts : List Rows) (t : List ℕ) (read : table_lines form.kinds s ≡ got ts t) where
      abbrev c : Contents
      c = record { head = ns; tables = ts }

      back : TablesBack form.kinds s ts t
      back = tables_back form.kinds s ts t read

      within : ContentsFit form c
      within = record { one_each = first.one_each; small = first.below; fit = back.fit }

      stands : text ≡ before_end form c ++ t
      stands =
          first.written ∙ ap (λ u. heads_text form.heads ns ++ u) back.written
          ∙ sym (append_assoc (heads_text form.heads ns) (tables_text form.kinds ts) t)

      file_is : before_end form c ++ line_text form.last (rows_in_all c.tables ∷ []) ≡ file_text form c
      unfolding file_text
      file_is = append_assoc (heads_text form.heads ns) (tables_text form.kinds ts) (line_text form.last (rows_in_all ts ∷ []))

      end_misfit : ending (length text) form.last c t ≡ refused a → AtMisfit form text a
      end_misfit e = go (line form.last 1 t) refl
        where
          shut : (ns u : List ℕ) → line form.last 1 t ≡ found ns u → at ns 0 ≡ rows_in_all c.tables → AtMisfit form text a
          shut ns [] p q = absurd (not_both e (ending_on (length text) form.last c t ns [] p q))
          shut ns (byte ∷ u) p q =
              let one : Line form.last 1 t ns (byte ∷ u) = line_back form.last 1 t ns (byte ∷ u) p in
              let last : line_text form.last ns ≡ line_text form.last (rows_in_all c.tables ∷ []) =
              ap (line_text form.last) (single ns one.width_is ∙ ap (λ n. n ∷ []) q) in
              misfit (file_text form c) (byte ∷ u) (same_refusal e (ending_on (length text) form.last c t ns (byte ∷ u) p q))
              (stands ∙ ap (λ v. before_end form c ++ v) (one.written ∙ ap (λ v. v ++ (byte ∷ u)) last)
              ∙ sym (append_assoc (before_end form c) (line_text form.last (rows_in_all c.tables ∷ [])) (byte ∷ u))
              ∙ ap (λ v. v ++ (byte ∷ u)) file_is)
              (bytes_behind c byte u within refl refl)

          go : (o : Found (List ℕ)) → line form.last 1 t ≡ o → AtMisfit form text a
          go missing p =
              misfit (before_end form c) t (same_refusal e (ending_stop (length text) form.last c t p)) stands
              (no_line c within refl (no_row_left form.kinds s ts t read) (no_plain_line form.last 1 t p))
          go (found ns u) p =
              ⊎_elim
              (λ (q : eqb (at ns 0) (rows_in_all c.tables) ≡ true). shut ns u p (eqb-true (at ns 0) (rows_in_all c.tables) q))
              (λ (q : eqb (at ns 0) (rows_in_all c.tables) ≡ false).
              let d : at ns 0 ≢ rows_in_all c.tables = eqb-false (at ns 0) (rows_in_all c.tables) q in
              let one : Line form.last 1 t ns u = line_back form.last 1 t ns u p in
              misfit (before_end form c) t (same_refusal e (ending_other (length text) form.last c t ns u p d)) stands
              (other_number c (at ns 0) u within (one.below 0) refl
              (one.written ∙ ap (λ k. line_text form.last k ++ u) (single ns one.width_is)) d))
              (true_or_false (eqb (at ns 0) (rows_in_all c.tables)))

  pub reading_refused : reading form text ≡ refused a → AtMisfit form text a ⊎ AtLimit form text a
  unfolding reading
  reading_refused e = by_head (onward_refused (head_lines size form.heads text) behind_heads a e)
    where
      size : ℕ
      size = length text

      behind_tables : List ℕ → List Rows → List ℕ → Outcome Contents
      behind_tables ns ts t = ending size form.last (record { head = ns; tables = ts }) t

      behind_heads : List ℕ → List ℕ → Outcome Contents
      behind_heads ns s = onward (table_lines form.kinds s) (behind_tables ns)

      by_table : (ns s : List ℕ) → HeadsBack form.heads text ns s → OnwardRefused (table_lines form.kinds s) (behind_tables ns) a
          → AtMisfit form text a ⊎ AtLimit form text a
      by_table ns s first (at_first q) = inr (table_limit ns s first (tables_refused form.kinds s a q))
      by_table ns s first (behind ts t q r) = inl (end_misfit ns s first ts t q r)

      by_head : OnwardRefused (head_lines size form.heads text) behind_heads a → AtMisfit form text a ⊎ AtLimit form text a
      by_head (at_first q) = inl (head_misfit (heads_refused size form.heads text a q))
      by_head (behind ns s q r) =
          by_table ns s (heads_back size form.heads text ns s q) (onward_refused (table_lines form.kinds s) (behind_tables ns) a r)
