-- A reason for TEXT or COUNT that is so is what a text is refused with: what stands in front is read, and what stands behind it
-- is not.
-- Assumes nothing.
use mathlib.Core.Path.{◌≡◌, sym, ap, subst, ◌∙◌}
use mathlib.Core.Bool.{true}
use mathlib.Core.List.{List, [], ◌∷◌, ◌++◌, append_assoc, append-nil}
use Prim.Native.Nat.{ℕ, zero, suc, ◌*◌, ◌<◌}
use native.Mathlib.Omega.{arith}
use lib.ListN.{length, get_or, take}
use Rattle.lists.proofs.Sums.{both_left, both_right}
use Rattle.answer.specs.declared.Answer.{Answer}
use Rattle.answer.specs.Numbers.{COUNT}
use Rattle.answer.specs.Turns.{refuse, refusal}
use Rattle.answer.proofs.Turns.{refuse_some}
use Rattle.text.specs.Numbers.{missing, Below}
use Rattle.text.specs.Lines.{line, line_text}
use Rattle.text.proofs.Below.{below_none, below_cons}
use Rattle.text.proofs.Lines.{line_text_lem}
use Rattle.fileform.specs.Form.{Kind, Form, line_of, line_text_of}
use Rattle.fileform.specs.Reading.{got, refused, onward, unfit, Rows, nth, head_lines, table_lines, Contents, closed, ending, reading}
use Rattle.fileform.specs.Writing.{rows_text, heads_text, tables_text, AllFit, ContentsFit}
use Rattle.fileform.specs.Refused.{NoLine, before_end, NoRow, Misfit, no_head, no_line, other_number, bytes_behind, AtMisfit, RowTooMany}
use Rattle.fileform.proofs.Agree.{line_agrees, kind_agrees, kind_apart}
use Rattle.fileform.proofs.RowLaws.{line_missing, rows_full}
use Rattle.fileform.proofs.Forms.{
  heads_stop,
  head_text,
  one_more,
  kind_at,
  tables_over,
  differs,
  all_differ,
  differs_at,
  differs_take,
  no_row,
  no_row_end,
  table_text_lem,
  ending_stop,
  ending_other,
  Sound,
  reading_heads,
  reading_tables,
  reading_last,
}
use Rattle.fileform.proofs.Refusals.{unfit_at}

-- a line with so many plain numbers that does not stand there is missing
plain_missing : (key : List ℕ) (width : ℕ) (rest : List ℕ) → NoLine (line_text key) width rest → line key width rest ≡ missing
plain_missing key width = line_missing (line key width) (line_text key) width (line_agrees key width)

-- some first lines, and the next is missing
heads_short : (size : ℕ) (keys : List (List ℕ)) (k : ℕ) (ns rest : List ℕ) → k < length keys → length ns ≡ k → Below ns
    → line (get_or keys k []) 1 rest ≡ missing → head_lines size keys (heads_text (take k keys) ns ++ rest) ≡ refused (unfit size rest)
unfolding heads_text
heads_short size [] k ns rest h e b none = absurd (omega arith)
heads_short size (key ∷ keys) zero ns rest h e b none = heads_stop size key keys rest none
heads_short size (key ∷ keys) (suc k) [] rest h e b none = absurd (let z : 0 ≡ suc k = e in omega arith)
heads_short size (key ∷ keys) (suc k) (n ∷ ns) rest h e b none =
    ap (head_lines size (key ∷ keys)) (append_assoc (line_text key (n ∷ [])) (heads_text (take k keys) ns) rest)
    ∙ head_text size key keys n (heads_text (take k keys) ns ++ rest) (b 0)
    ∙ ap (λ o. onward o (λ ms u. got (n ∷ ms) u)) (heads_short size keys k ns rest (omega arith) (one_more e) (λ i. b (suc i)) none)

-- some tables, the last of them full, and one more of its rows
tables_full : (kinds : List Kind) (last : List ℕ) (k : ℕ) (ts : List Rows) (row more : List ℕ) → k < length kinds → all_differ kinds last ≡ true
    → AllFit (take (suc k) kinds) ts → (nth ts k).count ≡ (kind_at kinds k).limit → length row ≡ (kind_at kinds k).width → Below row
    → table_lines kinds (tables_text (take (suc k) kinds) ts ++ (line_text_of (kind_at kinds k) row ++ more))
    ≡ refused (refuse COUNT (kind_at kinds k).table (kind_at kinds k).limit)
unfolding all_differ tables_text
tables_full [] last k ts row more h d f full wide below = absurd (omega arith)
tables_full (kind ∷ kinds) last k [] row more h d f full wide below = absurd f
tables_full (kind ∷ kinds) last zero (t ∷ u ∷ ts) row more h d f full wide below = absurd f.1
tables_full (kind ∷ kinds) last zero (t ∷ []) row more h d f full wide below =
    let rest : List ℕ = line_text_of kind row ++ more in
    ap (λ v. table_lines (kind ∷ kinds) (v ++ rest))
    (append-nil (rows_text (line_text_of kind) kind.width t.count t.words) ∙ ap (λ n. rows_text (line_text_of kind) kind.width n t.words) full)
    ∙ tables_over kind kinds (rows_text (line_text_of kind) kind.width kind.limit t.words ++ rest)
    (rows_full (line_of kind) (line_text_of kind) kind.width (kind_agrees kind) kind.limit t.words row more (f.0.whole ∙ ap (λ n. n * kind.width) full) f.0.below wide below)
tables_full (kind ∷ kinds) last (suc k) (t ∷ ts) row more h d f full wide below =
    let rest : List ℕ = line_text_of (kind_at kinds k) row ++ more in
    let keys : differs kind.key kinds last ≡ true = both_left (differs kind.key kinds last) (all_differ kinds last) d in
    let few : k < length kinds = omega arith in
    ap (table_lines (kind ∷ kinds)) (append_assoc (rows_text (line_text_of kind) kind.width t.count t.words) (tables_text (take (suc k) kinds) ts) rest)
    ∙ table_text_lem kind kinds t (tables_text (take (suc k) kinds) ts ++ rest) f.0
    (no_row kind (take (suc k) kinds) ts last rest f.1 (differs_take kind.key kinds last (suc k) keys)
    (λ z. kind_apart kind (kind_at kinds k) row more (differs_at kind.key kinds last k few keys)))
    ∙ ap (λ o. onward o (λ us u. got (t ∷ us) u))
    (tables_full kinds last k ts row more few (both_right (differs kind.key kinds last) (all_differ kinds last) d) f.1 full wide below)

module _ (form : Form) (sound : Sound form) (text : List ℕ) where
  -- behind tables and no row more, the last line is looked for
  behind_tables : (c : Contents) (front rest : List ℕ) → ContentsFit form c → text ≡ front ++ rest → front ≡ before_end form c → NoRow form.kinds c.tables rest
      → reading form text ≡ ending (length text) form.last c rest
  behind_tables c front rest w stands e none =
      reading_tables form sound text c rest w
      (stands ∙ ap (λ u. u ++ rest) e ∙ append_assoc (heads_text form.heads c.head) (tables_text form.kinds c.tables) rest) none

  stops : (front rest : List ℕ) → text ≡ front ++ rest → Misfit form front rest → reading form text ≡ refused (unfit (length text) rest)
  unfolding reading
  stops front rest stands (no_head k ns h e b f none) =
      ap (λ o. onward o (λ ms s. onward (table_lines form.kinds s) (λ ts t. ending (length text) form.last (record { head = ms; tables = ts }) t)))
      (ap (head_lines (length text) form.heads) (stands ∙ ap (λ u. u ++ rest) f) ∙ heads_short (length text) form.heads k ns rest h e b (plain_missing (get_or form.heads k []) 1 rest none))
  stops front rest stands (no_line c w f rows none) =
      behind_tables c front rest w stands f rows ∙ ending_stop (length text) form.last c rest (plain_missing form.last 1 rest none)
  stops front rest stands (other_number c n more w small f e d) =
      behind_tables c front rest w stands f
      (subst (NoRow form.kinds c.tables) (sym e) (no_row_end form.kinds c.tables form.last (n ∷ []) more sound.keys))
      ∙ ending_other (length text) form.last c rest (n ∷ []) more
      (ap (line form.last 1) e ∙ line_text_lem form.last (n ∷ []) more (below_cons n [] small below_none)) d
  stops front rest stands (bytes_behind c byte more w f e) =
      reading_last form sound text c rest w (stands ∙ ap (λ u. u ++ rest) f)
      ∙ ap (closed (length text) c) e ∙ ap (λ u. refused (unfit (length text) u)) (sym e)

  -- what doesn't fit is TEXT
  pub misfit_refused : (a : Answer) → AtMisfit form text a → reading form text ≡ refused a
  misfit_refused a at =
      stops at.front at.rest at.stands at.why ∙ ap refused (unfit_at text at.front at.rest at.stands ∙ sym at.its)

  -- a row too many is COUNT
  pub limit_refused : (k : ℕ) → k < length form.kinds → RowTooMany form k (kind_at form.kinds k) text
      → reading form text ≡ refused (refusal COUNT (kind_at form.kinds k).table (kind_at form.kinds k).limit)
  limit_refused k h why =
      let kind : Kind = kind_at form.kinds k in
      let c : Contents = why.front in
      let body : List ℕ = tables_text (take (suc k) form.kinds) c.tables in
      let rest : List ℕ = line_text_of kind why.row ++ why.more in
      reading_heads form text c.head (body ++ rest) (why.stands ∙ append_assoc (heads_text form.heads c.head) body rest)
      why.within.one_each why.within.small
      ∙ ap (λ o. onward o (λ ts t. ending (length text) form.last (record { head = c.head; tables = ts }) t))
      (tables_full form.kinds form.last k c.tables why.row why.more h sound.keys why.within.fit why.at_limit why.wide why.below)
      ∙ ap refused (refuse_some COUNT kind.table kind.limit (omega arith))
