-- `cents::quotients::masked` meets its contract.
-- Assumes nothing.
use Rattle.cents.proofs.Doubling.{let_through, mask_is}
use Rattle.cents.proofs.quotients.masked.Goals as goal

pub returns : goal.returns
returns c = rw (mask_is c.args.digit c.requires) (let_through c.args.digit c.args.gain c.requires c.ranges.gain.fits)
