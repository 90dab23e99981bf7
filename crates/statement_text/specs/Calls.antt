-- What `statement` and the program's own call, `state_file`, answer, and every lent byte afterwards.
-- Assumes nothing.
use Rattle.std.specs.Prelude.{◌≡◌, List, ◌++◌, ℕ, ◌+◌, length, take, drop}
use Rattle.statement_text.specs.Statement.{most_bytes, most_shown, statement_of}
-- "ROOM .. a lent output is too short": the statement is written to the front of lent bytes, or nothing is
unfoldable pub use Rattle.statement_lines.specs.Calls.{fitting}
pub use Rattle.statement_lines.specs.Calls.{Shown, shown_of, Shows}

-- What `state_file` answers, and every lent byte afterwards. "The statement program now reads 65,536 bytes", "more is 1,0,0": the
-- bytes that are held have room for one more, by which a longer file is seen, and the lent ones for every statement. So there is no
-- ROOM here: the statement of the first `count` bytes stands first, whole, and behind it what was there.
pub record FileStated (held : List ℕ) (count : ℕ) (lent after : List ℕ) (r : ℕ) : Type 0 where
  pub one_more : length held ≡ most_bytes + 1
  pub enough : length lent ≡ most_shown
  pub length_is : r ≡ length (statement_of (take count held))
  pub stores : after ≡ statement_of (take count held) ++ drop (length (statement_of (take count held))) lent
