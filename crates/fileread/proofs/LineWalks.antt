-- Walks over first lines and tables: what is left from here on is what was to be read from the start, and where a walk stops.
-- Assumes nothing.
use mathlib.Core.Path.{◌≡◌, refl, sym, ap, ap₂, subst, ◌∙◌}
use mathlib.Core.Logic.{◌≢◌}
use mathlib.Core.List.{List, [], ◌∷◌, ◌++◌, append_assoc, append-nil, map-append}
use Prim.Native.Nat.{ℕ, suc, ◌+◌, ◌-◌, ◌≤◌, ◌<◌}
use native.Mathlib.Nat.{zero-add}
use native.Mathlib.Omega.{arith}
use lib.ListN.{length, drop, set, length-drop, length-append}
use lib.Seq.{drop-length}
use Rattle.std.specs.Prelude.{Option, None, Some, Ok, Err}
use Rattle.std.specs.Option.{ok_or}
use Rattle.std.specs.List.{sum}
use Rattle.std.proofs.lemmas.List.Sums.{sum_by-cons}
use Rattle.answer.specs.declared.Answer.{Answer}
use Rattle.answer.specs.declared.Refused.{Refused}
use Rattle.answer.specs.Numbers as numbers
use Rattle.answer.specs.Turns.{refusal, refuse}
use Rattle.answer.specs.Results.{refused_answer}
use Rattle.answer.proofs.Turns.{refuse_some}
use Rattle.tables.specs.Shape.{table_count, table_at, number, limit}
use Rattle.text.specs.declared.reader.Ends.{Ends}
use Rattle.text.specs.Numbers.{found, missing}
use Rattle.text.specs.Lines.{line}
use Rattle.text.specs.Places.{fields_of, stored}
use Rattle.text.specs.Readers.{EndsAt}
use Rattle.text.proofs.Lines.{Line, line_back}
use Rattle.text.proofs.Places.{drop_next, drop_end}
use Rattle.text.proofs.Stores.{stored_none, stored_one, stored_append, stored_is}
use Rattle.fileform.specs.declared.row.Counted.{Counted}
use Rattle.fileform.specs.Form.{Form, head_keys, head_count, head_key, kind_of, month_form}
use Rattle.fileform.specs.Reading.{Outcome, got, refused, onward, unfit, Rows, head_lines, table_lines, Contents, rows_in_all, closed, ending, reading}
use Rattle.fileform.specs.Calls.{CountedAt}
use Rattle.fileread.specs.Calls.{counts_of}
use Rattle.fileread.specs.Steps.{WentOn, Ended}
use Rattle.fileform.proofs.KeyLaws.{heads_drop, heads_over}
use Rattle.fileform.proofs.Each.{order_drop, order_over}
use Rattle.fileform.proofs.Forms.{heads_none, heads_on, heads_stop, tables_none, tables_on, tables_over, read_of, table_of, ending_stop, ending_other, ending_on}

-- a refusal's offset is how much has been read
pub unfit_at : (s : List ℕ) (i : ℕ) → i ≤ length s → unfit (length s) (drop i s) ≡ refusal numbers.TEXT numbers.HEAD i
unfit_at s i h =
    let left : length (drop i s) ≡ length s - i = length-drop i s in
    let e : length s - length (drop i s) ≡ i = omega arith in
    ap (refuse numbers.TEXT numbers.HEAD) e ∙ refuse_some numbers.TEXT numbers.HEAD i (λ z. omega (arith, z))

-- the refusal of what was asked for and is not there
pub asked : {A E : Type 0} (o : Option A) (why x : E) → Err x ≡ ok_or o why → x ≡ why
asked None why x e = cc
asked (Some y) why x e = cc

onward_same : {E : Type 0} (o : Outcome (List E)) → o ≡ onward o (λ ms u. got ms u)
onward_same (got a s) = refl
onward_same (refused r) = refl

-- what was to be read is what was read, stored at the front of a lent list, and what is left
pub record Walking {E : Type 0} (o left : Outcome (List E)) (kept : List E → List ℕ) (lent current : List ℕ) (k : ℕ) : Type 0 where
  pub done : List E
  pub size : length (kept done) ≡ k
  pub whole : o ≡ onward left (λ ms u. got (done ++ ms) u)
  pub stored_is : current ≡ stored lent 0 (kept done)

module _ {E : Type 0} (kept : List E → List ℕ) (none : kept [] ≡ []) (more : (x y : List E) → kept (x ++ y) ≡ kept x ++ kept y) where
  pub walk_start : (o : Outcome (List E)) (lent : List ℕ) → Walking o o kept lent lent 0
  walk_start o lent =
      record { done = []; size = ap length none; whole = onward_same o; stored_is = sym (ap (stored lent 0) none ∙ stored_none lent 0) }

  rearrange : (x y : List E) (left : Outcome (List E))
      → onward (onward left (λ ms u. got (y ++ ms) u)) (λ ms u. got (x ++ ms) u) ≡ onward left (λ ms u. got ((x ++ y) ++ ms) u)
  rearrange x y (got a s) = ap (λ l. got l s) (sym (append_assoc x y a))
  rearrange x y (refused r) = refl

  module _ (o left : Outcome (List E)) (lent current : List ℕ) (k : ℕ) (w : Walking o left kept lent current k) where
    pub walk_next : (es : List E) (left' : Outcome (List E)) (next : List ℕ) (n : ℕ) → left ≡ onward left' (λ ms u. got (es ++ ms) u)
        → next ≡ stored current k (kept es) → k + length (kept es) ≡ n → Walking o left' kept lent next n
    walk_next es left' next n e s q =
        record {
          done = w.done ++ es;
          size = ap length (more w.done es) ∙ length-append (kept w.done) (kept es) ∙ ap (λ m. m + length (kept es)) w.size ∙ q;
          whole = w.whole ∙ ap (λ l. onward l (λ ms u. got (w.done ++ ms) u)) e ∙ rearrange w.done es left';
          stored_is =
              s
              ∙ ap₂ (λ l m. stored l m (kept es)) w.stored_is (sym (zero-add k) ∙ ap (λ m. 0 + m) (sym w.size))
              ∙ sym (stored_append lent 0 (kept w.done) (kept es))
              ∙ ap (stored lent 0) (sym (more w.done es));
        }

    pub walk_stop : (r : Refused) → left ≡ refused (refused_answer r) → o ≡ refused (refused_answer r)
    walk_stop r e = w.whole ∙ ap (λ l. onward l (λ ms u. got (w.done ++ ms) u)) e

    pub walk_end : (s : List ℕ) (i : ℕ) → left ≡ got [] (drop i s) → i ≤ length s → WentOn s o kept lent i current
    walk_end s i e h =
        record {
          inside = h;
          its = w.done;
          read = w.whole ∙ ap (λ l. onward l (λ ms u. got (w.done ++ ms) u)) e ∙ ap (λ l. got l (drop i s)) (append-nil w.done);
          kept_is = w.stored_is;
        }

-- the first lines
abbrev pub itself : List ℕ → List ℕ
itself ns = ns

pub itself_more : (x y : List ℕ) → itself (x ++ y) ≡ itself x ++ itself y
itself_more x y = refl

module _ (s : List ℕ) (o : Outcome (List ℕ)) (lent current : List ℕ) (i k : ℕ) (h : i ≤ length s) where
  module _ (key : List ℕ) (keys : List (List ℕ)) (w : Walking o (head_lines (length s) (key ∷ keys) (drop i s)) itself lent current k) where
    head_stop : line key 1 (drop i s) ≡ missing → (r : Refused) → refused_answer r ≡ refusal numbers.TEXT numbers.HEAD i → o ≡ refused (refused_answer r)
    head_stop e r q =
        walk_stop itself refl itself_more o (head_lines (length s) (key ∷ keys) (drop i s)) lent current k w r
        (heads_stop (length s) key keys (drop i s) e ∙ ap refused (unfit_at s i h ∙ sym q))

    head_next : (n : ℕ) (ns next : List ℕ) → line key 1 (drop i s) ≡ found ns (drop n s) → next ≡ stored current k (fields_of (line key 1 (drop i s)))
        → Walking o (head_lines (length s) keys (drop n s)) itself lent next (k + 1)
    head_next n ns next read written =
        let one : Line key 1 (drop i s) ns (drop n s) = line_back key 1 (drop i s) ns (drop n s) read in
        walk_next itself refl itself_more o (head_lines (length s) (key ∷ keys) (drop i s)) lent current k w ns
        (head_lines (length s) keys (drop n s)) next (k + 1)
        (heads_on (length s) key keys (drop i s) ns (drop n s) read)
        (written ∙ ap (λ f. stored current k (fields_of f)) read)
        (ap (λ m. k + m) one.width_is)

  head_end : Walking o (head_lines (length s) [] (drop i s)) itself lent current k → WentOn s o itself lent i current
  head_end w =
      walk_end itself refl itself_more o (head_lines (length s) [] (drop i s)) lent current k w s i (heads_none (length s) (drop i s)) h

-- the month file's: one reader steps over `month` and `days`
abbrev pub first_lines : List ℕ → Outcome (List ℕ)
first_lines s = head_lines (length s) head_keys s

module _ (s lent : List ℕ) (ends : Ends) (a : EndsAt s 0 (head_key 0) (head_key 1) 1 ends) where
  start : Walking (first_lines s) (first_lines s) itself lent lent 0
  start = walk_start itself refl itself_more (first_lines s) lent

  pub month_stop : ends.first ≡ 0 → (r : Refused) → refused_answer r ≡ refusal numbers.TEXT numbers.HEAD 0 → first_lines s ≡ refused (refused_answer r)
  month_stop z = head_stop s (first_lines s) lent lent 0 0 (omega arith) (head_key 0) (drop 1 head_keys) start (a.first_is.unfit z)

  module _ (d : ends.first ≢ 0) where
    month_next : (one : List ℕ) → one ≡ stored lent 0 (fields_of (line (head_key 0) 1 s))
        → Walking (first_lines s) (head_lines (length s) (drop 1 head_keys) (drop ends.first s)) itself lent one 1
    month_next one e =
        head_next s (first_lines s) lent lent 0 0 (omega arith) (head_key 0) (drop 1 head_keys) start ends.first (a.first_is.fits d).0 one
        (a.first_is.fits d).1 e

    pub days_stop : ends.second ≡ ends.first → (r : Refused) → refused_answer r ≡ refusal numbers.TEXT numbers.HEAD ends.first
        → first_lines s ≡ refused (refused_answer r)
    days_stop z =
        let one : List ℕ = stored lent 0 (fields_of (line (head_key 0) 1 s)) in
        head_stop s (first_lines s) lent one ends.first 1 (a.first_is.inside d) (head_key 1) (drop 2 head_keys) (month_next one refl)
        (a.second_is.unfit z)

    module _ (f : ends.second ≢ ends.first) where
      pub days_next : (one two : List ℕ) → one ≡ stored lent 0 (fields_of (line (head_key 0) 1 s))
          → two ≡ stored one 1 (fields_of (line (head_key 1) 1 (drop ends.first s)))
          → Walking (first_lines s) (head_lines (length s) (drop 2 head_keys) (drop ends.second s)) itself lent two 2
      days_next one two e g =
          head_next s (first_lines s) lent one ends.first 1 (a.first_is.inside d) (head_key 1) (drop 2 head_keys) (month_next one e) ends.second
          (a.second_is.fits f).0 two (a.second_is.fits f).1 g

-- .. and the others follow, each by its place
module _ (s : List ℕ) (o : Outcome (List ℕ)) (lent current : List ℕ) (i k : ℕ)
    (w : Walking o (head_lines (length s) (drop k head_keys) (drop i s)) itself lent current k) (h : i ≤ length s) where
  module _ (b : k < head_count) where
    opened_head : Walking o (head_lines (length s) (head_key k ∷ drop (k + 1) head_keys) (drop i s)) itself lent current k
    opened_head = subst (λ keys. Walking o (head_lines (length s) keys (drop i s)) itself lent current k) (heads_drop k b) w

    pub further_stop : line (head_key k) 1 (drop i s) ≡ missing → (r : Refused) → refused_answer r ≡ refusal numbers.TEXT numbers.HEAD i
        → o ≡ refused (refused_answer r)
    further_stop e = head_stop s o lent current i k h (head_key k) (drop (k + 1) head_keys) opened_head e

    pub further_next : (v n : ℕ) → line (head_key k) 1 (drop i s) ≡ found (v ∷ []) (drop n s)
        → Walking o (head_lines (length s) (drop (k + 1) head_keys) (drop n s)) itself lent (set current k v) (k + 1)
    further_next v n e =
        head_next s o lent current i k h (head_key k) (drop (k + 1) head_keys) opened_head n (v ∷ []) (set current k v) e
        (sym (stored_one current k v) ∙ ap (λ f. stored current k (fields_of f)) (sym e))

  pub further_end : head_count ≤ k → WentOn s o itself lent i current
  further_end b =
      head_end s o lent current i k h (subst (λ keys. Walking o (head_lines (length s) keys (drop i s)) itself lent current k) (heads_over k b) w)

-- the tables
pub counts_more : (x y : List Rows) → counts_of (x ++ y) ≡ counts_of x ++ counts_of y
counts_more x y = map-append (λ (t : Rows). t.count) x y

pub counts_length : (ts : List Rows) → length (counts_of ts) ≡ length ts
counts_length [] = refl
counts_length (t ∷ ts) = ap suc (counts_length ts)

pub sum_counts : (ts : List Rows) → sum (counts_of ts) ≡ rows_in_all ts
unfolding rows_in_all
sum_counts [] = refl
sum_counts (t ∷ ts) = sum_by-cons (λ x. x) t.count (counts_of ts) ∙ ap (λ n. t.count + n) (sum_counts ts)

module _ (s : List ℕ) (o : Outcome (List Rows)) (lent current : List ℕ) (i k : ℕ)
    (w : Walking o (table_lines (drop k month_form.kinds) (drop i s)) counts_of lent current k) (h : i ≤ length s) where
  module _ (b : k < table_count) (c : Counted) (t : CountedAt s (read_of (kind_of (table_at k)) (drop i s)) c) where
    opened_kind : table_lines (drop k month_form.kinds) (drop i s) ≡ table_lines (kind_of (table_at k) ∷ drop (k + 1) month_form.kinds) (drop i s)
    opened_kind = ap (λ l. table_lines l (drop i s)) (order_drop kind_of k b)

    pub table_stop : limit (table_at k) < c.count → (r : Refused) → refused_answer r ≡ refusal numbers.COUNT (number (table_at k)) (limit (table_at k))
        → o ≡ refused (refused_answer r)
    table_stop over r q =
        let many : limit (table_at k) < (read_of (kind_of (table_at k)) (drop i s)).count = rw t.count_is over in
        walk_stop counts_of refl counts_more o (table_lines (drop k month_form.kinds) (drop i s)) lent current k w r
        (opened_kind ∙ tables_over (kind_of (table_at k)) (drop (k + 1) month_form.kinds) (drop i s) many
        ∙ ap refused (refuse_some numbers.COUNT (number (table_at k)) (limit (table_at k)) (λ z. omega (arith, z)) ∙ sym q))

    pub table_next : c.count ≤ limit (table_at k)
        → Walking o (table_lines (drop (k + 1) month_form.kinds) (drop c.next s)) counts_of lent (set current k c.count) (k + 1)
    table_next fine =
        let few : (read_of (kind_of (table_at k)) (drop i s)).count ≤ limit (table_at k) = rw t.count_is fine in
        let one : Rows = table_of (read_of (kind_of (table_at k)) (drop i s)) in
        walk_next counts_of refl counts_more o (table_lines (drop k month_form.kinds) (drop i s)) lent current k w (one ∷ [])
        (table_lines (drop (k + 1) month_form.kinds) (drop c.next s)) (set current k c.count) (k + 1)
        (opened_kind ∙ tables_on (kind_of (table_at k)) (drop (k + 1) month_form.kinds) (drop i s) few
        ∙ ap (λ l. onward (table_lines (drop (k + 1) month_form.kinds) l) (λ ts u. got (one ∷ ts) u)) t.behind)
        (sym (stored_one current k c.count) ∙ ap (λ m. stored current k (m ∷ [])) (sym t.count_is))
        refl

  pub table_end : table_count ≤ k → WentOn s o counts_of lent i current
  table_end b =
      walk_end counts_of refl counts_more o (table_lines (drop k month_form.kinds) (drop i s)) lent current k w s i
      (ap (λ l. table_lines l (drop i s)) (order_over kind_of k b) ∙ tables_none (drop i s)) h

-- a lent list that is filled whole
pub stored_all : (l vs : List ℕ) → length vs ≡ length l → stored l 0 vs ≡ vs
stored_all l vs e =
    stored_is l 0 vs (omega arith)
    ∙ ap (λ m. vs ++ drop m l) (zero-add (length vs) ∙ e)
    ∙ ap (λ t. vs ++ t) (drop-length l)
    ∙ append-nil vs

-- the last line
module _ (key s : List ℕ) (i total : ℕ) (h : i ≤ length s) where
  not_fit : ((c : Contents) → rows_in_all c.tables ≡ total → ending (length s) key c (drop i s) ≡ refused (unfit (length s) (drop i s)))
      → (r : Refused) → refused_answer r ≡ refusal numbers.TEXT numbers.HEAD i → Ended key s (drop i s) total (Err r)
  not_fit e r q = λ c rows. e c rows ∙ ap refused (unfit_at s i h ∙ sym q)

  pub end_missing : line key 1 (drop i s) ≡ missing → (r : Refused) → refused_answer r ≡ refusal numbers.TEXT numbers.HEAD i
      → Ended key s (drop i s) total (Err r)
  end_missing e = not_fit (λ c rows. ending_stop (length s) key c (drop i s) e)

  module _ (v n : ℕ) (inside : n ≤ length s) (e : line key 1 (drop i s) ≡ found (v ∷ []) (drop n s)) where
    pub end_other : v ≢ total → (r : Refused) → refused_answer r ≡ refusal numbers.TEXT numbers.HEAD i → Ended key s (drop i s) total (Err r)
    end_other x = not_fit (λ c rows. ending_other (length s) key c (drop i s) (v ∷ []) (drop n s) e (λ q. x (q ∙ rows)))

    ends : v ≡ total → (c : Contents) → rows_in_all c.tables ≡ total → ending (length s) key c (drop i s) ≡ closed (length s) c (drop n s)
    ends x c rows = ending_on (length s) key c (drop i s) (v ∷ []) (drop n s) e (x ∙ sym rows)

    pub end_behind : v ≡ total → n < length s → (r : Refused) → refused_answer r ≡ refusal numbers.TEXT numbers.HEAD n
        → Ended key s (drop i s) total (Err r)
    end_behind x b r q =
        λ c rows.
        ends x c rows ∙ ap (closed (length s) c) (drop_next s n b)
        ∙ ap (λ l. refused (unfit (length s) l)) (sym (drop_next s n b)) ∙ ap refused (unfit_at s n inside ∙ sym q)

    pub end_fine : v ≡ total → length s ≤ n → Ended key s (drop i s) total (Ok tt)
    end_fine x b = λ c rows. ends x c rows ∙ ap (closed (length s) c) (drop_end s n b)

-- a whole text from its parts
module _ (form : Form) (s : List ℕ) where
  pub reading_heads : (a : Answer) → head_lines (length s) form.heads s ≡ refused a → reading form s ≡ refused a
  unfolding reading
  reading_heads a e = rw e

  pub reading_tables : (ns t : List ℕ) (a : Answer) → head_lines (length s) form.heads s ≡ got ns t → table_lines form.kinds t ≡ refused a → reading form s ≡ refused a
  unfolding reading
  reading_tables ns t a e q = rw (e, q)

  pub reading_on : (ns t : List ℕ) (ts : List Rows) (u : List ℕ) → head_lines (length s) form.heads s ≡ got ns t → table_lines form.kinds t ≡ got ts u
      → reading form s ≡ ending (length s) form.last (record { head = ns; tables = ts }) u
  unfolding reading
  reading_on ns t ts u e q = rw (e, q)
