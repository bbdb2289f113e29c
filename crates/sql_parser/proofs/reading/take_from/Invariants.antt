use Rattle.std.proofs.Common.{length}
use Rattle.sql_parser.proofs.ListsInLoops.{InFrom}
use Rattle.sql_parser.proofs.reading.take_from.Given as goal

-- the places and conditions that were read so far, and what is left to read
abbrev pub invariant-joins : goal.invariant-joins
invariant-joins l = InFrom l.fn.tokens.items l.places.items l.conds.items l.tokens.items

abbrev pub decreases-joins : goal.decreases-joins
decreases-joins l = length l.tokens.items
