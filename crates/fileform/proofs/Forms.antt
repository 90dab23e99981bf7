-- For every form whose keys differ: the text of contents within its limits reads as those contents, and a text that reads as
-- some contents is their text. Line by line, from the laws of rows and lines.
-- Assumes nothing.
use mathlib.Core.Path.{◌≡◌, refl, sym, ap, ap₂, ◌∙◌, subst}
use mathlib.Core.Logic.{⊎_elim, ◌≢◌}
use mathlib.Core.Bool.{Bool, true, false, ◌&&◌, and-eq-true_iff}
use mathlib.Core.List.{List, [], ◌∷◌, ◌++◌, append_assoc, append-nil}
use Prim.Native.Nat.{ℕ, zero, suc, ◌+◌, ◌≤◌, ◌<◌}
use native.Mathlib.Omega.{arith}
use lib.Dec.{eqb}
use lib.ListN.{length, get_or, take, drop}
use borrow.Author.Tests.{lt-ltb, le-ltb, eq-eqb, ne_eqb, eqb-true, eqb-false}
use Rattle.lists.specs.Sums.{at}
use Rattle.lists.proofs.Ranks.{true_or_false, lt_or_le}
use Rattle.lists.proofs.Sums.{both_left, both_right}
use Rattle.answer.specs.declared.Answer.{Answer}
use Rattle.answer.specs.Numbers.{COUNT}
use Rattle.answer.specs.Turns.{refuse}
use Rattle.text.specs.Numbers.{Found, found, missing, bound, Below}
use Rattle.text.specs.Lines.{line, line_text}
use Rattle.text.proofs.Below.{below_none, below_cons}
use Rattle.text.proofs.Lines.{line_text_lem, line_back, Line}
use Rattle.fileform.specs.Form.{Kind, plain_kind, Form, line_of, line_text_of}
use Rattle.fileform.specs.Reading.{Outcome, got, refused, onward, unfit, Rows, nth, RowsRead, row_lines, head_lines, table_lines, Contents, rows_in_all, closed, ending, reading}
use Rattle.fileform.specs.Writing.{rows_text, heads_text, tables_text, file_text, Fits, AllFit, ContentsFit}
use Rattle.fileform.specs.Refused.{NoRow}
use Rattle.fileform.proofs.Agree.{differ, kind_agrees, kind_apart, kind_apart_last}
use Rattle.fileform.proofs.RowLaws.{no_line_there, line_missing, rows_text_lem, rows_back, RowsBack}

-- nothing is both refused and read
pub not_both : {A : Type 0} {o : Outcome A} {a : A} {s : List ℕ} {r : Answer} → o ≡ refused r → o ≡ got a s → ⊥
not_both p q = let z : ◌≡◌ {A = ℕ} 0 1 = cc in omega arith

-- a value that was read, and what was read behind it
pub record Onward {A B : Type 0} (o : Outcome A) (go : A → List ℕ → Outcome B) (b : B) (t : List ℕ) : Type 0 where
  pub value : A
  pub rest : List ℕ
  pub first : o ≡ got value rest
  pub then_on : go value rest ≡ got b t

pub onward_back : {A B : Type 0} (o : Outcome A) (go : A → List ℕ → Outcome B) (b : B) (t : List ℕ) → onward o go ≡ got b t → Onward o go b t
onward_back (got a s) go b t e = record { value = a; rest = s; first = refl; then_on = e }
onward_back (refused r) go b t e = absurd (not_both refl e)

-- the first lines
pub heads_none : (size : ℕ) (s : List ℕ) → head_lines size [] s ≡ got [] s
unfolding head_lines
heads_none size s = refl

pub heads_on : (size : ℕ) (key : List ℕ) (keys : List (List ℕ)) (s ns t : List ℕ) → line key 1 s ≡ found ns t
    → head_lines size (key ∷ keys) s ≡ onward (head_lines size keys t) (λ ms u. got (ns ++ ms) u)
unfolding head_lines
heads_on size key keys s ns t e = rw e

pub heads_stop : (size : ℕ) (key : List ℕ) (keys : List (List ℕ)) (s : List ℕ) → line key 1 s ≡ missing
    → head_lines size (key ∷ keys) s ≡ refused (unfit size s)
unfolding head_lines
heads_stop size key keys s e = rw e

-- a list of one number
pub single : (ns : List ℕ) → length ns ≡ 1 → ns ≡ at ns 0 ∷ []
single [] e = absurd (let z : 0 ≡ 1 = e in omega arith)
single (n ∷ []) e = refl
single (n ∷ m ∷ ns) e = absurd (let z : suc (suc (length ns)) ≡ 1 = e in omega arith)

pub one_more : {n m : ℕ} → suc n ≡ suc m → n ≡ m
one_more e = omega arith

-- a first line in front of others is read
pub head_text : (size : ℕ) (key : List ℕ) (keys : List (List ℕ)) (n : ℕ) (later : List ℕ) → n < bound
    → head_lines size (key ∷ keys) (line_text key (n ∷ []) ++ later) ≡ onward (head_lines size keys later) (λ ms u. got (n ∷ ms) u)
head_text size key keys n later h =
    heads_on size key keys (line_text key (n ∷ []) ++ later) (n ∷ []) later (line_text_lem key (n ∷ []) later (below_cons n [] h below_none))

pub heads_text_lem : (size : ℕ) (keys : List (List ℕ)) (ns rest : List ℕ) → length ns ≡ length keys → Below ns
    → head_lines size keys (heads_text keys ns ++ rest) ≡ got ns rest
unfolding heads_text
heads_text_lem size [] [] rest e h = heads_none size rest
heads_text_lem size [] (n ∷ ns) rest e h = absurd (let z : suc (length ns) ≡ 0 = e in omega arith)
heads_text_lem size (key ∷ keys) [] rest e h = absurd (let z : 0 ≡ suc (length keys) = e in omega arith)
heads_text_lem size (key ∷ keys) (n ∷ ns) rest e h =
    ap (head_lines size (key ∷ keys)) (append_assoc (line_text key (n ∷ [])) (heads_text keys ns) rest)
    ∙ head_text size key keys n (heads_text keys ns ++ rest) (h 0)
    ∙ ap (λ o. onward o (λ ms u. got (n ∷ ms) u)) (heads_text_lem size keys ns rest (one_more e) (λ i. h (suc i)))

pub record HeadsBack (keys : List (List ℕ)) (s ns rest : List ℕ) : Type 0 where
  pub written : s ≡ heads_text keys ns ++ rest
  pub one_each : length ns ≡ length keys
  pub below : Below ns

pub heads_back_on : (key : List ℕ) (keys : List (List ℕ)) (s ns t ms rest : List ℕ) → line key 1 s ≡ found ns t → HeadsBack keys t ms rest
    → HeadsBack (key ∷ keys) s (ns ++ ms) rest
unfolding heads_text
heads_back_on key keys s ns t ms rest e b =
    let one : Line key 1 s ns t = line_back key 1 s ns t e in
    let only : ns ≡ at ns 0 ∷ [] = single ns one.width_is in
    subst (λ k. HeadsBack (key ∷ keys) s (k ++ ms) rest) (sym only)
    (record {
      written =
          one.written
          ∙ ap₂ (λ k u. line_text key k ++ u) only b.written
          ∙ sym (append_assoc (line_text key (at ns 0 ∷ [])) (heads_text keys ms) rest);
      one_each = ap suc b.one_each;
      below = below_cons (at ns 0) ms (one.below 0) b.below;
    })

pub heads_back : (size : ℕ) (keys : List (List ℕ)) (s ns rest : List ℕ) → head_lines size keys s ≡ got ns rest → HeadsBack keys s ns rest
unfolding heads_text
heads_back size [] s ns rest e =
    let same : got [] s ≡ got ns rest = sym (heads_none size s) ∙ e in
    let value : ◌≡◌ {A = List ℕ} [] ns = cc in
    let left : s ≡ rest = cc in
    subst (λ k. HeadsBack [] s k rest) value (record { written = left; one_each = refl; below = below_none })
heads_back size (key ∷ keys) s ns rest e = go (line key 1 s) refl (heads_back size keys)
  where
    go : (o : Found (List ℕ)) → line key 1 s ≡ o → ((t ms u : List ℕ) → head_lines size keys t ≡ got ms u → HeadsBack keys t ms u)
        → HeadsBack (key ∷ keys) s ns rest
    go missing p more = absurd (not_both (heads_stop size key keys s p) e)
    go (found one t) p more =
        let on : Onward (head_lines size keys t) (λ ms u. got (one ++ ms) u) ns rest =
        onward_back (head_lines size keys t) (λ ms u. got (one ++ ms) u) ns rest (sym (heads_on size key keys s one t p) ∙ e) in
        let same : got (one ++ on.value) on.rest ≡ got ns rest = on.then_on in
        let value : one ++ on.value ≡ ns = cc in
        let left : on.rest ≡ rest = cc in
        subst (λ k. HeadsBack (key ∷ keys) s k rest) value
        (heads_back_on key keys s one t on.value rest p (subst (HeadsBack keys t on.value) left (more t on.value on.rest on.first)))

-- the kind at a place
abbrev pub kind_at : List Kind → ℕ → Kind
kind_at kinds k = get_or kinds k (plain_kind [] 0 0 0)

-- the tables
pub tables_none : (s : List ℕ) → table_lines [] s ≡ got [] s
unfolding table_lines
tables_none s = refl

-- tables that fit are as many as the kinds, and each fits its own
pub all_fit_length : (kinds : List Kind) (ts : List Rows) → AllFit kinds ts → length ts ≡ length kinds
all_fit_length [] [] f = refl
all_fit_length [] (t ∷ ts) f = absurd f
all_fit_length (kind ∷ kinds) [] f = absurd f
all_fit_length (kind ∷ kinds) (t ∷ ts) f = ap suc (all_fit_length kinds ts f.1)

pub all_fit_at : (kinds : List Kind) (ts : List Rows) (k : ℕ) → AllFit kinds ts → k < length kinds → Fits (kind_at kinds k) (nth ts k)
all_fit_at [] ts k f h = absurd (omega arith)
all_fit_at (kind ∷ kinds) [] k f h = absurd f
all_fit_at (kind ∷ kinds) (t ∷ ts) zero f h = f.0
all_fit_at (kind ∷ kinds) (t ∷ ts) (suc k) f h = all_fit_at kinds ts k f.1 (omega arith)

-- the rows of a kind at the front of a text, to one past the limit, and those within it as a table
abbrev pub read_of : Kind → List ℕ → RowsRead
read_of kind s = row_lines (line_of kind) (suc kind.limit) s

abbrev pub table_of : RowsRead → Rows
table_of r = record { count = r.count; words = r.words }

pub tables_on : (kind : Kind) (kinds : List Kind) (s : List ℕ) → (read_of kind s).count ≤ kind.limit
    → table_lines (kind ∷ kinds) s ≡ onward (table_lines kinds (read_of kind s).rest) (λ ts u. got (table_of (read_of kind s) ∷ ts) u)
unfolding table_lines
tables_on kind kinds s h = rw (le-ltb kind.limit (read_of kind s).count h)

pub tables_over : (kind : Kind) (kinds : List Kind) (s : List ℕ) → kind.limit < (read_of kind s).count
    → table_lines (kind ∷ kinds) s ≡ refused (refuse COUNT kind.table kind.limit)
unfolding table_lines
tables_over kind kinds s h = rw (lt-ltb kind.limit (read_of kind s).count h)

-- a key differs from those of some kinds, and from the last
unfoldable pub differs : List ℕ → List Kind → List ℕ → Bool
differs key [] last = differ key last
differs key (kind ∷ kinds) last = differ key kind.key && differs key kinds last

-- so does each kind's from those of the kinds behind it
unfoldable pub all_differ : List Kind → List ℕ → Bool
all_differ [] last = true
all_differ (kind ∷ kinds) last = differs kind.key kinds last && all_differ kinds last

-- a key that differs from those of some kinds and the last differs from the last, from that of each kind, and from those of the first kinds
differs_last : (key : List ℕ) (kinds : List Kind) (last : List ℕ) → differs key kinds last ≡ true → differ key last ≡ true
unfolding differs
differs_last key [] last d = d
differs_last key (kind ∷ kinds) last d = differs_last key kinds last (both_right (differ key kind.key) (differs key kinds last) d)

pub differs_at : (key : List ℕ) (kinds : List Kind) (last : List ℕ) (k : ℕ) → k < length kinds → differs key kinds last ≡ true
    → differ key (kind_at kinds k).key ≡ true
unfolding differs
differs_at key [] last k h d = absurd (omega arith)
differs_at key (kind ∷ kinds) last zero h d = both_left (differ key kind.key) (differs key kinds last) d
differs_at key (kind ∷ kinds) last (suc k) h d =
    differs_at key kinds last k (omega arith) (both_right (differ key kind.key) (differs key kinds last) d)

pub differs_take : (key : List ℕ) (kinds : List Kind) (last : List ℕ) (k : ℕ) → differs key kinds last ≡ true → differs key (take k kinds) last ≡ true
unfolding differs
differs_take key kinds last zero d = differs_last key kinds last d
differs_take key [] last (suc k) d = d
differs_take key (kind ∷ kinds) last (suc k) d =
    (and-eq-true_iff (differ key kind.key) (differs key (take k kinds) last)).1 (
      both_left (differ key kind.key) (differs key kinds last) d,
      differs_take key kinds last k (both_right (differ key kind.key) (differs key kinds last) d),
    )

-- no row of a kind stands where rows of another do, or where rows of later kinds do
rows_apart : (kind other : Kind) (n : ℕ) (words rest : List ℕ) → differ kind.key other.key ≡ true
    → (n ≡ 0 → line_of kind rest ≡ missing) → line_of kind (rows_text (line_text_of other) other.width n words ++ rest) ≡ missing
unfolding rows_text
rows_apart kind other zero words rest d e = e refl
rows_apart kind other (suc n) words rest d e =
    let first : List ℕ = take other.width words in
    let others : List ℕ = rows_text (line_text_of other) other.width n (drop other.width words) in
    ap (line_of kind) (append_assoc (line_text_of other first) others rest) ∙ kind_apart kind other first (others ++ rest) d

pub no_row : (kind : Kind) (kinds : List Kind) (ts : List Rows) (last rest : List ℕ) → AllFit kinds ts → differs kind.key kinds last ≡ true
    → (rows_in_all ts ≡ 0 → line_of kind rest ≡ missing) → line_of kind (tables_text kinds ts ++ rest) ≡ missing
unfolding differs tables_text rows_in_all
no_row kind [] [] last rest f d e = e refl
no_row kind [] (t ∷ ts) last rest f d e = absurd f
no_row kind (other ∷ kinds) [] last rest f d e = absurd f
no_row kind (other ∷ kinds) (t ∷ ts) last rest f d e =
    ap (line_of kind) (append_assoc (rows_text (line_text_of other) other.width t.count t.words) (tables_text kinds ts) rest)
    ∙ rows_apart kind other t.count t.words (tables_text kinds ts ++ rest)
    (both_left (differ kind.key other.key) (differs kind.key kinds last) d)
    (λ none.
    no_row kind kinds ts last rest f.1 (both_right (differ kind.key other.key) (differs kind.key kinds last) d)
    (λ others. e (ap₂ ◌+◌ none others)))

-- where the last line stands, no row does
pub no_row_end : (kinds : List Kind) (ts : List Rows) (last ns rest : List ℕ) → all_differ kinds last ≡ true → NoRow kinds ts (line_text last ns ++ rest)
unfolding all_differ
no_row_end [] ts last ns rest d = tt
no_row_end (kind ∷ kinds) [] last ns rest d = tt
no_row_end (kind ∷ kinds) (t ∷ ts) last ns rest d = (
  (λ z.
      no_line_there (line_of kind) (line_text_of kind) kind.width (kind_agrees kind) (line_text last ns ++ rest)
      (kind_apart_last kind last ns rest
      (differs_last kind.key kinds last (both_left (differs kind.key kinds last) (all_differ kinds last) d)))),
  no_row_end kinds ts last ns rest (both_right (differs kind.key kinds last) (all_differ kinds last) d),
)

-- a table in front of others is read, where none of its rows stands behind it
pub table_text_lem : (kind : Kind) (kinds : List Kind) (t : Rows) (later : List ℕ) → Fits kind t → line_of kind later ≡ missing
    → table_lines (kind ∷ kinds) (rows_text (line_text_of kind) kind.width t.count t.words ++ later) ≡ onward (table_lines kinds later) (λ us u. got (t ∷ us) u)
table_text_lem kind kinds t later f none =
    let whole : List ℕ = rows_text (line_text_of kind) kind.width t.count t.words ++ later in
    let own : read_of kind whole ≡ record { count = t.count; words = t.words; rest = later } =
    rows_text_lem (line_of kind) (line_text_of kind) kind.width (kind_agrees kind) t.count kind.limit t.words later f.few f.whole f.below none in
    tables_on kind kinds whole (subst (λ (r : RowsRead). r.count ≤ kind.limit) (sym own) f.few)
    ∙ ap (λ (r : RowsRead). onward (table_lines kinds r.rest) (λ us u. got (table_of r ∷ us) u)) own

pub tables_text_lem : (kinds : List Kind) (ts : List Rows) (last rest : List ℕ) → AllFit kinds ts → all_differ kinds last ≡ true → NoRow kinds ts rest
    → table_lines kinds (tables_text kinds ts ++ rest) ≡ got ts rest
unfolding all_differ tables_text
tables_text_lem [] [] last rest f d none = tables_none rest
tables_text_lem [] (t ∷ ts) last rest f d none = absurd f
tables_text_lem (kind ∷ kinds) [] last rest f d none = absurd f
tables_text_lem (kind ∷ kinds) (t ∷ ts) last rest f d none =
    ap (table_lines (kind ∷ kinds)) (append_assoc (rows_text (line_text_of kind) kind.width t.count t.words) (tables_text kinds ts) rest)
    ∙ table_text_lem kind kinds t (tables_text kinds ts ++ rest) f.0
    (no_row kind kinds ts last rest f.1 (both_left (differs kind.key kinds last) (all_differ kinds last) d)
    (λ z. line_missing (line_of kind) (line_text_of kind) kind.width (kind_agrees kind) rest (none.0 z)))
    ∙ ap (λ o. onward o (λ us u. got (t ∷ us) u))
    (tables_text_lem kinds ts last rest f.1 (both_right (differs kind.key kinds last) (all_differ kinds last) d) none.1)

-- the first kind of those that were read, and the others behind it
pub record FirstKind (kind : Kind) (kinds : List Kind) (s : List ℕ) (ts : List Rows) (rest : List ℕ) : Type 0 where
  pub few : (read_of kind s).count ≤ kind.limit
  pub others : List Rows
  pub both : table_of (read_of kind s) ∷ others ≡ ts
  pub behind : table_lines kinds (read_of kind s).rest ≡ got others rest

pub first_kind : (kind : Kind) (kinds : List Kind) (s : List ℕ) (ts : List Rows) (rest : List ℕ) → table_lines (kind ∷ kinds) s ≡ got ts rest
    → FirstKind kind kinds s ts rest
first_kind kind kinds s ts rest e =
    ⊎_elim
    (λ (over : kind.limit < (read_of kind s).count). absurd (not_both (tables_over kind kinds s over) e))
    (λ (fine : (read_of kind s).count ≤ kind.limit).
    let more : List Rows → List ℕ → Outcome (List Rows) = λ us u. got (table_of (read_of kind s) ∷ us) u in
    let on : Onward (table_lines kinds (read_of kind s).rest) more ts rest =
    onward_back (table_lines kinds (read_of kind s).rest) more ts rest (sym (tables_on kind kinds s fine) ∙ e) in
    let same : got (table_of (read_of kind s) ∷ on.value) on.rest ≡ got ts rest = on.then_on in
    let value : table_of (read_of kind s) ∷ on.value ≡ ts = cc in
    let left : on.rest ≡ rest = cc in
    record { few = fine; others = on.value; both = value; behind = on.first ∙ ap (got on.value) left })
    (lt_or_le kind.limit (read_of kind s).count)

pub record TablesBack (kinds : List Kind) (s : List ℕ) (ts : List Rows) (rest : List ℕ) : Type 0 where
  pub written : s ≡ tables_text kinds ts ++ rest
  pub fit : AllFit kinds ts

pub tables_back_on : (kind : Kind) (kinds : List Kind) (s : List ℕ) (r : RowsRead) (ts : List Rows) (rest : List ℕ)
    → RowsBack (line_text_of kind) kind.width s r → r.count ≤ kind.limit
    → TablesBack kinds r.rest ts rest → TablesBack (kind ∷ kinds) s (table_of r ∷ ts) rest
unfolding tables_text
tables_back_on kind kinds s r ts rest own h b =
    record {
      written =
          own.written
          ∙ ap (λ u. rows_text (line_text_of kind) kind.width r.count r.words ++ u) b.written
          ∙ sym (append_assoc (rows_text (line_text_of kind) kind.width r.count r.words) (tables_text kinds ts) rest);
      fit = (record { whole = own.whole; few = h; below = own.below }, b.fit);
    }

pub tables_back : (kinds : List Kind) (s : List ℕ) (ts : List Rows) (rest : List ℕ) → table_lines kinds s ≡ got ts rest → TablesBack kinds s ts rest
unfolding tables_text
tables_back [] s ts rest e =
    let same : got [] s ≡ got ts rest = sym (tables_none s) ∙ e in
    let value : ◌≡◌ {A = List Rows} [] ts = cc in
    let left : s ≡ rest = cc in
    subst (λ k. TablesBack [] s k rest) value (record { written = left; fit = tt })
tables_back (kind ∷ kinds) s ts rest e =
    let first : FirstKind kind kinds s ts rest = first_kind kind kinds s ts rest e in
    subst (λ k. TablesBack (kind ∷ kinds) s k rest) first.both
    (tables_back_on kind kinds s (read_of kind s) first.others rest (rows_back (line_of kind) (line_text_of kind) kind.width (kind_agrees kind) (suc kind.limit) s) first.few
    (tables_back kinds (read_of kind s).rest first.others rest first.behind))

-- the last line
pub ending_stop : (size : ℕ) (key : List ℕ) (c : Contents) (s : List ℕ) → line key 1 s ≡ missing → ending size key c s ≡ refused (unfit size s)
unfolding ending
ending_stop size key c s e = rw e

pub ending_other : (size : ℕ) (key : List ℕ) (c : Contents) (s ns t : List ℕ) → line key 1 s ≡ found ns t → at ns 0 ≢ rows_in_all c.tables
    → ending size key c s ≡ refused (unfit size s)
unfolding ending
ending_other size key c s ns t e d = rw (e, ne_eqb (at ns 0) (rows_in_all c.tables) d)

pub ending_on : (size : ℕ) (key : List ℕ) (c : Contents) (s ns t : List ℕ) → line key 1 s ≡ found ns t → at ns 0 ≡ rows_in_all c.tables
    → ending size key c s ≡ closed size c t
unfolding ending
ending_on size key c s ns t e q = rw (e, eq-eqb (at ns 0) (rows_in_all c.tables) q)

pub ending_back : (size : ℕ) (key : List ℕ) (c d : Contents) (s rest : List ℕ) → ending size key c s ≡ got d rest
    → (c ≡ d) × (s ≡ line_text key (rows_in_all c.tables ∷ []))
ending_back size key c d s rest e = go (line key 1 s) refl
  where
    last : (ns t : List ℕ) → line key 1 s ≡ found ns t → at ns 0 ≡ rows_in_all c.tables → (c ≡ d) × (s ≡ line_text key (rows_in_all c.tables ∷ []))
    last ns [] p q =
        let one : Line key 1 s ns [] = line_back key 1 s ns [] p in
        let same : got c [] ≡ got d rest = sym (ending_on size key c s ns [] p q) ∙ e in
        let value : c ≡ d = cc in
        (value, one.written ∙ append-nil (line_text key ns) ∙ ap (line_text key) (single ns one.width_is ∙ ap (λ k. k ∷ []) q))
    last ns (b ∷ t) p q = absurd (not_both (ending_on size key c s ns (b ∷ t) p q) e)

    go : (o : Found (List ℕ)) → line key 1 s ≡ o → (c ≡ d) × (s ≡ line_text key (rows_in_all c.tables ∷ []))
    go missing p = absurd (not_both (ending_stop size key c s p) e)
    go (found ns t) p =
        ⊎_elim
        (λ (q : eqb (at ns 0) (rows_in_all c.tables) ≡ true). last ns t p (eqb-true (at ns 0) (rows_in_all c.tables) q))
        (λ (q : eqb (at ns 0) (rows_in_all c.tables) ≡ false).
        absurd (not_both (ending_other size key c s ns t p (eqb-false (at ns 0) (rows_in_all c.tables) q)) e))
        (true_or_false (eqb (at ns 0) (rows_in_all c.tables)))

-- how many rows the kinds may have together
unfoldable pub most_rows : List Kind → ℕ
most_rows [] = 0
most_rows (kind ∷ kinds) = kind.limit + most_rows kinds

pub rows_in_most : (kinds : List Kind) (ts : List Rows) → AllFit kinds ts → rows_in_all ts ≤ most_rows kinds
unfolding rows_in_all most_rows
rows_in_most [] [] f = omega arith
rows_in_most [] (t ∷ ts) f = absurd f
rows_in_most (kind ∷ kinds) [] f = absurd f
rows_in_most (kind ∷ kinds) (t ∷ ts) f = let few : t.count ≤ kind.limit = f.0.few in omega (arith, rows_in_most kinds ts f.1)

-- a form that can be read: no two keys agree as far as both go, and the number of all rows is a number
pub record Sound (form : Form) : Type 0 where
  pub keys : all_differ form.kinds form.last ≡ true
  pub size : most_rows form.kinds < bound

-- the number of all rows is one
pub rows_small : (form : Form) → Sound form → (c : Contents) → ContentsFit form c → rows_in_all c.tables < bound
rows_small form sound c w =
    let few : rows_in_all c.tables ≤ most_rows form.kinds = rows_in_most form.kinds c.tables w.fit in
    omega (arith, sound.size)

-- first lines in front are read, and what stands behind them
pub reading_heads : (form : Form) (text ns s : List ℕ) → text ≡ heads_text form.heads ns ++ s → length ns ≡ length form.heads → Below ns
    → reading form text ≡ onward (table_lines form.kinds s) (λ ts t. ending (length text) form.last (record { head = ns; tables = ts }) t)
unfolding reading
reading_heads form text ns s e one_each below =
    ap (λ o. onward o (λ head s. onward (table_lines form.kinds s) (λ ts t. ending (length text) form.last (record { head = head; tables = ts }) t)))
    (ap (head_lines (length text) form.heads) e ∙ heads_text_lem (length text) form.heads ns s one_each below)

-- .. and so are tables behind them
pub reading_tables : (form : Form) → Sound form → (text : List ℕ) (c : Contents) (rest : List ℕ) → ContentsFit form c
    → text ≡ heads_text form.heads c.head ++ (tables_text form.kinds c.tables ++ rest) → NoRow form.kinds c.tables rest
    → reading form text ≡ ending (length text) form.last c rest
reading_tables form sound text c rest w e none =
    reading_heads form text c.head (tables_text form.kinds c.tables ++ rest) e w.one_each w.small
    ∙ ap (λ o. onward o (λ ts t. ending (length text) form.last (record { head = c.head; tables = ts }) t))
    (tables_text_lem form.kinds c.tables form.last rest w.fit sound.keys none)

-- .. and the last line
pub reading_last : (form : Form) → Sound form → (text : List ℕ) (c : Contents) (rest : List ℕ) → ContentsFit form c → text ≡ file_text form c ++ rest
    → reading form text ≡ closed (length text) c rest
unfolding file_text
reading_last form sound text c rest w e =
    let last : List ℕ = line_text form.last (rows_in_all c.tables ∷ []) in
    reading_tables form sound text c (last ++ rest) w
    (e ∙ append_assoc (heads_text form.heads c.head) (tables_text form.kinds c.tables ++ last) rest
    ∙ ap (λ u. heads_text form.heads c.head ++ u) (append_assoc (tables_text form.kinds c.tables) last rest))
    (no_row_end form.kinds c.tables form.last (rows_in_all c.tables ∷ []) rest sound.keys)
    ∙ ending_on (length text) form.last c (last ++ rest) (rows_in_all c.tables ∷ []) rest
    (line_text_lem form.last (rows_in_all c.tables ∷ []) rest (below_cons (rows_in_all c.tables) [] (rows_small form sound c w) below_none)) refl

-- contents that are written are read again
pub file_read : (form : Form) → Sound form → (c : Contents) → ContentsFit form c → reading form (file_text form c) ≡ got c []
file_read form sound c w = reading_last form sound (file_text form c) c [] w (sym (append-nil (file_text form c)))

-- a text that is read is the text of what it holds, which is within the limits
pub record FileBack (form : Form) (text : List ℕ) (c : Contents) : Type 0 where
  pub written : text ≡ file_text form c
  pub within : ContentsFit form c

pub file_back : (form : Form) (text : List ℕ) (c : Contents) (rest : List ℕ) → reading form text ≡ got c rest → FileBack form text c
unfolding reading file_text
file_back form text c rest e =
    let size : ℕ = length text in
    let last : List ℕ → List Rows → List ℕ → Outcome Contents = λ head ts t. ending size form.last (record { head = head; tables = ts }) t in
    let h : Onward (head_lines size form.heads text) (λ head s. onward (table_lines form.kinds s) (last head)) c rest =
    onward_back (head_lines size form.heads text) (λ head s. onward (table_lines form.kinds s) (last head)) c rest e in
    let t : Onward (table_lines form.kinds h.rest) (last h.value) c rest =
    onward_back (table_lines form.kinds h.rest) (last h.value) c rest h.then_on in
    let d : Contents = record { head = h.value; tables = t.value } in
    let l : (d ≡ c) × (t.rest ≡ line_text form.last (rows_in_all d.tables ∷ [])) = ending_back size form.last d c t.rest rest t.then_on in
    let hb : HeadsBack form.heads text h.value h.rest = heads_back size form.heads text h.value h.rest h.first in
    let tb : TablesBack form.kinds h.rest t.value t.rest = tables_back form.kinds h.rest t.value t.rest t.first in
    subst (FileBack form text) l.0
    (record {
      written =
          hb.written
          ∙ ap (λ u. heads_text form.heads h.value ++ u) (tb.written ∙ ap (λ u. tables_text form.kinds t.value ++ u) l.1);
      within = record { one_each = hb.one_each; small = hb.below; fit = tb.fit };
    })
