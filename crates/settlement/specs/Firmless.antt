-- A month without firm service, to compare with: the same, with no firm row and no rate for one.
-- Assumes nothing.
use Rattle.std.specs.Prelude.{[]}
use Rattle.tables.specs.Shape.{tables_of}
use Rattle.pool.specs.Input.{Input, month_of, plain_head}

abbrev pub firmless : Input → Input
firmless m =
    month_of (plain_head m.month m.days m.nonzone)
    (tables_of m.tables.zones m.tables.owners m.tables.units m.tables.accounts m.tables.loads m.tables.reservations [])
