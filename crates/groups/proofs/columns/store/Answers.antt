-- `groups::columns::store` meets its contract: what is copied to the front of the column is its words, one after the other.
-- Assumes nothing.
use mathlib.Core.Path.{sym, ap, ◌∙◌}
use mathlib.Core.List.{◌++◌}
use lib.ListN.{length, drop}
use Rattle.lists.specs.Sums.{at}
use Rattle.lists.proofs.Entries.{put_listed, listed_at}
use Rattle.groups.proofs.columns.store.Goals as goal

pub returns : goal.returns
returns c =
    let amounts = c.args.amounts.now in
    let column = c.args.column.now in
    ap (λ l. l ++ drop (length amounts) column) (c.copy_from_slice.ensures.after ∙ sym (listed_at amounts))
    ∙ sym (put_listed (length amounts) (at amounts) column c.requires)
