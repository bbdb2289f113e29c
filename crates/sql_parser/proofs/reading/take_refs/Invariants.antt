use Rattle.std.proofs.Common.{length}
use Rattle.sql_parser.specs.Reading.{ref_at}
use Rattle.sql_parser.specs.declared.tokens.Symbol.TheVariants as symbol
use Rattle.sql_parser.proofs.ListsInLoops.{InList}
use Rattle.sql_parser.proofs.reading.take_refs.Given as goal

-- what was read so far, and what is left to read
abbrev pub invariant-loop-tokens : goal.invariant-loop-tokens
invariant-loop-tokens l = InList symbol.Comma ref_at l.fn.tokens.items l.refs.items l.tokens.items

abbrev pub decreases-loop-tokens : goal.decreases-loop-tokens
decreases-loop-tokens l = length l.tokens.items
