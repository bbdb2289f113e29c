use Rattle.std.proofs.Common.{length}
use Rattle.sql_parser.specs.Reading.{cond_at}
use Rattle.sql_parser.specs.declared.tokens.Symbol.TheVariants as symbol
use Rattle.sql_parser.proofs.ListsInLoops.{InList}
use Rattle.sql_parser.proofs.reading.take_conds.Given as goal

-- what was read so far, and what is left to read
abbrev pub invariant-conds : goal.invariant-conds
invariant-conds l = InList symbol.And cond_at l.fn.tokens.items l.conds.items l.tokens.items

abbrev pub decreases-conds : goal.decreases-conds
decreases-conds l = length l.tokens.items
