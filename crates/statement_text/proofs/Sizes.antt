-- No statement has more than `most_shown` bytes, for a number has 20 at most, so that so many are enough for any; and an accepted
-- month's begins otherwise than a refusal.
-- Assumes nothing.
use mathlib.Core.Path.{◌≡◌, refl, sym, ap, subst, ◌∙◌}
use mathlib.Core.Logic.{◌≢◌, ⊎_elim}
use mathlib.Core.List.{List, [], ◌∷◌, ◌++◌}
use Prim.Native.Nat.{ℕ, zero, suc, ◌+◌, ◌*◌, ◌≤◌, ◌<◌}
use native.Mathlib.Nat.{le_trans, le_of_eq}
use native.Mathlib.Omega.{arith}
use lib.ListN.{length, take, drop, length-append, length-take}
use lib.Seq.{take_all}
use Rattle.lists.proofs.Ranks.{lt_or_le}
use Rattle.lists.specs.Sums.{at}
use Rattle.lists.proofs.Sums.{sum_const}
use Rattle.lists.proofs.Entries.{length_listed}
use Rattle.std.specs.Prelude.{Result, Ok, Err}
use Rattle.std.specs.Result.{IsOk}
use Rattle.answer.specs.declared.Answer.{Answer}
use Rattle.answer.specs.declared.Refused.{Refused}
use Rattle.answer.specs.Numbers.{HEAD}
use Rattle.answer.proofs.Turns.{refuse_number}
use Rattle.answer.proofs.Results.{refused_some}
use Rattle.fileform.proofs.Rooms.{room_enough}
use Rattle.tables.specs.declared.Table.TheVariants.{Owners, Accounts}
use Rattle.tables.specs.Shape.{limit, charge_width, credit_width}
use Rattle.text.specs.Bytes.{bytes}
use Rattle.text.specs.Lines.{line_text}
use Rattle.text.specs.Places.{stored}
use Rattle.text.proofs.Stores.{stored_in_front}
use Rattle.fileform.specs.Writing.{rows_text}
use Rattle.pool.specs.Input.{Input, owner_count, account_count}
use Rattle.settlement.specs.Accepted.{Accepted}
use Rattle.statement_lines.specs.Calls.{Shown, shown_of}
use Rattle.statement_lines.specs.Lines.{rows_with, lines_text, refuse_line}
use Rattle.statement_lines.proofs.Showing.{fitting_all}
use Rattle.statement_text.specs.Statement.{statement_lines, settled_answer, most_bytes, charge_line, credit_line, total_line, most_shown, statement_of}
use Rattle.statement_text.specs.Calls.{fitting, Shows, FileStated}
use Rattle.statement_text.proofs.Widths.{decimal_short, line_within, rows_within}
use Rattle.statement_text.proofs.Stating.{stated_as, fine, long_text}

-- fields of 20 digits
abbrev twenty : ℕ → ℕ
twenty c = 20

rows_short : (key : List ℕ) (width n : ℕ) (words : List ℕ) → n * width ≤ length words
    → length (rows_text (line_text key) width n words) ≤ n * (length key + 1 + width * 21)
rows_short key width n words long =
    subst (λ k. length (rows_text (line_text key) width n words) ≤ n * (length key + 1 + k)) (sum_const width 21)
    (rows_within key width twenty n words long (λ i c b h. decimal_short (at words (i * width + c))))

line_short : (key ns : List ℕ) → length (line_text key ns) ≤ length key + 1 + length ns * 21
line_short key ns =
    subst (λ k. length (line_text key ns) ≤ length key + 1 + k) (sum_const (length ns) 21) (line_within key ns twenty (λ c h. decimal_short (at ns c)))

lines_short : (accounts : ℕ) (charges : List ℕ) (owners : ℕ) (credits : List ℕ) (x y : ℕ)
    → accounts * (charge_width + 1) ≤ length charges → owners * (credit_width + 1) ≤ length credits
    → length (lines_text accounts charges owners credits (bytes "total") (x ∷ y ∷ [])) ≤ accounts * charge_line + (owners * credit_line + total_line)
unfolding lines_text
lines_short accounts charges owners credits x y h k =
    omega (
      arith,
      length-append (rows_text (line_text (bytes "charge")) (charge_width + 1) accounts charges)
          (rows_text (line_text (bytes "credit")) (credit_width + 1) owners credits ++ line_text (bytes "total") (x ∷ y ∷ [])),
      length-append (rows_text (line_text (bytes "credit")) (credit_width + 1) owners credits) (line_text (bytes "total") (x ∷ y ∷ [])),
      rows_short (bytes "charge") (charge_width + 1) accounts charges h,
      rows_short (bytes "credit") (credit_width + 1) owners credits k,
      line_short (bytes "total") (x ∷ y ∷ []),
    )

refusal_short : (a : Answer) → length (refuse_line a) ≤ most_shown
unfolding refuse_line
refusal_short a = le_trans (line_short (bytes "refuse") (a.number ∷ a.table ∷ a.row ∷ [])) (omega arith)

month_short : (m : Input) → (settled_answer m).number ≡ 0 → length (statement_lines m) ≤ most_shown
unfolding statement_lines rows_with
month_short m z =
    let all : Accepted m (limit Accounts * charge_width) (limit Owners * credit_width) = fine m z in
    let few : account_count m ≤ 32 = (all.good.frame.counted Accounts).few in
    let others : owner_count m ≤ 64 = (all.good.frame.counted Owners).few in
    le_trans
    (lines_short (account_count m) _ (owner_count m) _ _ _ (le_of_eq (sym (length_listed (account_count m * (charge_width + 1)) _)))
    (le_of_eq (sym (length_listed (owner_count m * (credit_width + 1)) _))))
    (omega (arith, few, others))

pub statement_short : (text : List ℕ) → length (statement_of text) ≤ most_shown
statement_short = stated_as (λ l. length l ≤ most_shown) refusal_short month_short

-- in so much room every statement is shown whole
module _ (text lent : List ℕ) (room : length lent ≡ most_shown) where
  fits : length (statement_of text) ≤ length lent
  fits = le_trans (statement_short text) (le_of_eq (sym room))

  pub shown_ok : (after : List ℕ) (r : Result ℕ Refused) → Shows (statement_of text) lent after (shown_of r) → IsOk r
  shown_ok after (Ok n) shows = refl
  shown_ok after (Err e) shows =
      let enough = room_enough HEAD (length (statement_of text)) (length lent) fits in
      absurd (refused_some e (ap (λ (a : Answer). a.number) (shows.answers ∙ sym enough) ∙ refuse_number 0 HEAD 0))

pub file_stated : (held : List ℕ) (count : ℕ) (lent after : List ℕ) (s : Shown) → length held ≡ most_bytes + 1 → length lent ≡ most_shown
    → Shows (statement_of (take count held)) lent after s → FileStated held count lent after s.length
file_stated held count lent after s more room shows =
    let text : List ℕ = statement_of (take count held) in
    let all : fitting text (length lent) ≡ text = fitting_all text (length lent) (fits (take count held) lent room) in
    record {
      one_more = more;
      enough = room;
      length_is = shows.length_is ∙ ap length all;
      stores = shows.stores ∙ ap (stored lent 0) all ∙ stored_in_front lent text (fits (take count held) lent room);
    }

pub stated_within : {held : List ℕ} {count : ℕ} {lent after : List ℕ} {r : ℕ} → FileStated held count lent after r → r ≤ length after
stated_within {held} {count} {lent} stated =
    let text : List ℕ = statement_of (take count held) in
    omega (arith, stated.length_is, ap length stated.stores ∙ length-append text (drop (length text) lent))

-- one byte too many tells a long file: what it has behind that changes nothing
pub first_bytes_tell : (file : List ℕ) → statement_of (take (most_bytes + 1) file) ≡ statement_of file
first_bytes_tell file =
    ⊎_elim
    (λ (h : most_bytes < length file).
    long_text (take (most_bytes + 1) file) (simp length-take (omega arith)) ∙ sym (long_text file h))
    (λ (h : length file ≤ most_bytes). ap statement_of (take_all (most_bytes + 1) file (omega arith)))
    (lt_or_le most_bytes (length file))

-- the first byte of an accepted month's lines is a c or a t
no_r : (accounts : ℕ) (charges : List ℕ) (owners : ℕ) (credits last : List ℕ) → at (lines_text accounts charges owners credits (bytes "total") last) 0 ≢ 114
unfolding lines_text rows_text line_text
no_r zero charges zero credits last e = let z : ◌≡◌ {A = ℕ} 116 114 = e in omega arith
no_r zero charges (suc owners) credits last e = let z : ◌≡◌ {A = ℕ} 99 114 = e in omega arith
no_r (suc accounts) charges owners credits last e = let z : ◌≡◌ {A = ℕ} 99 114 = e in omega arith

first_of_refusal : (a : Answer) → at (refuse_line a) 0 ≡ 114
unfolding refuse_line line_text
first_of_refusal a = refl

pub lines_no_refusal : (accounts : ℕ) (charges : List ℕ) (owners : ℕ) (credits last : List ℕ) (a : Answer)
    → lines_text accounts charges owners credits (bytes "total") last ≢ refuse_line a
lines_no_refusal accounts charges owners credits last a e = no_r accounts charges owners credits last (ap (λ l. at l 0) e ∙ first_of_refusal a)

pub month_no_refusal : (m : Input) (a : Answer) → statement_lines m ≢ refuse_line a
unfolding statement_lines
month_no_refusal m a = lines_no_refusal (account_count m) _ (owner_count m) _ _ a
