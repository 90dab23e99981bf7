-- What is promised of every month file: what is written and read again is the same, and so is what is read and written again. Then what
-- is promised of the calls `read` and `write`, whose contracts are `Reads` and `Writes`. No range is judged: numbers are below 2^64 and
-- nothing more is asked of them. Nothing else stands here; the proofs are in `fileform` `proofs/Contents.antt` and in `ReadCalls`,
-- `WriteCalls` and `RoundTrips` beside this file.
-- Assumes nothing.
use mathlib.Core.Path.{◌≡◌}
use mathlib.Core.Logic.{◌↔◌, ◌≢◌}
use mathlib.Core.List.{List, []}
use Prim.Native.Nat.{ℕ, ◌≤◌}
use lib.ListN.{length, take}
use Rattle.answer.specs.declared.Answer.{Answer}
use Rattle.answer.specs.Turns.{accepted}
use Rattle.tables.specs.declared.Head.{Head}
use Rattle.tables.specs.declared.Table.{Table}
use Rattle.tables.specs.Shape.{place_of, Tables, words_of}
use Rattle.tables.specs.Counts.{GoodCount}
use Rattle.text.specs.Numbers.{Below}
use Rattle.fileread.specs.Calls.{Reading}
use Rattle.filewrite.specs.Calls.{Written}
use Rattle.fileform.specs.Form.{month_form}
use Rattle.fileform.specs.Reading.{nth, Contents, got, refused, reading}
use Rattle.fileform.specs.Writing.{file_text, ContentsFit}
use Rattle.fileread.specs.Calls.{read_answer, Reads, tables_read}
use Rattle.filewrite.specs.Calls.{numbers_of, contents_of, month_text, Writes}
use Rattle.monthfile.specs.Front.{at_front}
use Rattle.monthfile.specs.Refused.{Full, ReadRefused, WriteRefused}
use Rattle.fileform.proofs.Contents as contents
use Rattle.monthfile.proofs.ReadCalls as read_calls
use Rattle.monthfile.proofs.WriteCalls as write_calls
use Rattle.monthfile.proofs.RoundTrips as round_trips

-- tables that are written and read again are the same tables, for every shape within the limits
pub written_then_read : (c : Contents) → ContentsFit month_form c → reading month_form (file_text month_form c) ≡ got c []
written_then_read = contents.written_then_read

-- a month file that is read and written again is the same file, byte for byte
pub read_then_written : (text : List ℕ) (c : Contents) (rest : List ℕ) → reading month_form text ≡ got c rest → file_text month_form c ≡ text
read_then_written = contents.read_then_written

-- two texts that are accepted with the same tables are equal
pub same_tables_same_text : (text other : List ℕ) (c : Contents) (rest more : List ℕ)
    → reading month_form text ≡ got c rest → reading month_form other ≡ got c more → text ≡ other
same_tables_same_text = contents.same_tables_same_text

-- an accepted text's length is that of its writing
pub accepted_length : (text : List ℕ) (c : Contents) (rest : List ℕ) → reading month_form text ≡ got c rest → length text ≡ length (file_text month_form c)
accepted_length = contents.accepted_length

-- a text is accepted exactly when it is the text of some tables within the limits
pub accepted_texts : (text : List ℕ)
    → ((c : Contents) × (reading month_form text ≡ got c [])) ↔ ((c : Contents) × (ContentsFit month_form c) × (text ≡ file_text month_form c))
accepted_texts = contents.accepted_texts

module _ (text : List ℕ) (lent after : Tables) (r : Reading) (reads : Reads text lent after r) where
  -- a refused read answers zeros for the head and the rows, changes no lent word, and says why: ROOM, TEXT or COUNT
  pub refused_read : r.answer.number ≢ 0 → (r ≡ read_answer (refused r.answer)) × (after ≡ lent) × ReadRefused text lent r.answer
  refused_read = read_calls.read_refused text lent after r reads

  -- a read answers a refusal exactly when its reason is so: nothing else is refused, and no reason is passed over
  pub refused_read_exactly : (a : Answer) → ReadRefused text lent a ↔ ((r.answer ≡ a) × (a.number ≢ 0))
  refused_read_exactly = read_calls.read_refused_exactly text lent after r reads

  -- an accepted read has the text of some tables within the limits, answers their head and how many rows each has, and has these rows at
  -- each lent table's front and behind them what was lent
  pub accepted_read : r.answer.number ≡ 0
      → (c : Contents) × ContentsFit month_form c × (text ≡ file_text month_form c) × (r ≡ read_answer (got c []))
      × ((table : Table) → words_of after table ≡ at_front (nth c.tables (place_of table)).words (words_of lent table))
  accepted_read = read_calls.read_accepted text lent after r reads

  -- the text of tables within the limits is never refused where the tables are lent at full size
  pub good_read : ((table : Table) → Full lent table) → (c : Contents) → ContentsFit month_form c → text ≡ file_text month_form c → r ≡ read_answer (got c [])
  good_read = read_calls.good_read text lent after r reads

module _ (head : Head) (t : Tables) (lent after : List ℕ) (r : Written) (writes : Writes head t lent after r) where
  -- a refused write answers 0 as the length, changes no lent byte, and says why: COUNT or ROOM
  pub refused_write : r.answer.number ≢ 0 → (r.length ≡ 0) × (after ≡ lent) × WriteRefused head t (length lent) r.answer
  refused_write = write_calls.write_refused head t lent after r writes

  -- a write answers a refusal exactly when its reason is so
  pub refused_write_exactly : (a : Answer) → WriteRefused head t (length lent) a ↔ ((r.answer ≡ a) × (a.number ≢ 0))
  refused_write_exactly = write_calls.write_refused_exactly head t lent after r writes

  -- an accepted write answers the text's length, and has the text at the front and behind it what was lent
  pub accepted_write : r.answer.number ≡ 0 → (r.length ≡ length (month_text head t)) × (after ≡ at_front (month_text head t) lent)
  accepted_write = write_calls.write_accepted head t lent after r writes

  -- tables of whole rows within their limits are never refused where there is room for their text
  pub good_write : ((table : Table) → GoodCount t table) → length (month_text head t) ≤ length lent → r.answer ≡ accepted
  good_write = write_calls.good_write head t lent after r writes

-- what `write` wrote, `read` accepts, with the same head and the same rows
pub write_then_read : (head : Head) (t : Tables) → Below (numbers_of head) → ((table : Table) → Below (words_of t table))
    → (out after : List ℕ) (w : Written) → Writes head t out after w → w.answer.number ≡ 0
    → (lent filled_in : Tables) (r : Reading) → Reads (take w.length after) lent filled_in r → ((table : Table) → Full lent table)
    → (r ≡ read_answer (got (contents_of head t) [])) × ((table : Table) → words_of filled_in table ≡ at_front (words_of t table) (words_of lent table))
write_then_read = round_trips.write_then_read

-- a month file that is read and written again is the same file: the head and the rows that `read` left, `write` accepts in room for the
-- text, and has the text at the front and behind it what was lent
pub read_then_write : (text : List ℕ) (lent after : Tables) (r : Reading) → Reads text lent after r → r.answer.number ≡ 0
    → (out written : List ℕ) (w : Written) → Writes r.head (tables_read r after) out written w → length text ≤ length out
    → (w ≡ record { answer = accepted; length = length text }) × (written ≡ at_front text out)
read_then_write text lent after r reads z = round_trips.written_again text r after (round_trips.text_read text lent after r reads z)
