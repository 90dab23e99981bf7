-- `statement::main` is safe and ends: no statement is longer than what is lent for it.
-- Assumes nothing.
use Rattle.statement_text.proofs.Sizes.{stated_within}
use Rattle.statement.proofs.main.Goals as goal

pub slice_bounds-out-end : goal.slice_bounds-out-end
slice_bounds-out-end c = stated_within c.state_file-length.ensures
