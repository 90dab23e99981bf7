-- What the lists that go together, as one value, say: a pot for each group.
-- Assumes nothing.
use Rattle.groups.specs.declared.together.GroupPots.{GroupPots}
use Rattle.groups.specs.Groups.{Pots, pots_of}

-- the pots, the groups and the members of these lists
abbrev pub pots_in : GroupPots → Pots
pots_in lists = pots_of lists.pots.now lists.numbers.now lists.weights.now lists.groups.now
