-- `service::split` meets its contract: the two shares stand in the two words lent to the division.
-- Assumes nothing.
use Rattle.std.proofs.lemmas.Result.{err_from_is_err_and}
use mathlib.Core.Path.{refl}
use lib.Dec.{lit<, lit≤}
use Rattle.groups.proofs.Adding.{number_by_size, share_written}
use Rattle.service.proofs.Charging.{split_none, split_cut}
use Rattle.service.proofs.split.Goals as goal

pub returns-in_err-divide : goal.returns-in_err-divide
returns-in_err-divide c =
    let p = err_from_is_err_and c.from_residual.result c.from_residual.ensures.1 in
    rw (p.1, p.2) (split_none _ (number_by_size c.in_err-divide.ensures (lit≤ tt) (lit≤ tt)))

pub returns : goal.returns
returns c =
    let made = c.in_ok-divide.ensures in
    split_cut _ (number_by_size made (lit≤ tt) (lit≤ tt)) (share_written made (lit≤ tt) (lit≤ tt) refl 0 (lit< tt))
    (share_written made (lit≤ tt) (lit≤ tt) refl 1 (lit< tt))
