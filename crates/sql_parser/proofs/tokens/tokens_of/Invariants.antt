use denote.Text.{Utf8}
use denote.Shadow.{shadow}
use Rattle.std.proofs.Common.{length}
use Rattle.sql_parser.proofs.TokensOnce.{ReadSoFar}
use Rattle.sql_parser.proofs.tokens.tokens_of.Given as goal

-- the tokens of what is left are the further tokens of the text, and there are no others
abbrev pub invariant-loop-rest : goal.invariant-loop-rest
invariant-loop-rest l = shadow (Utf8 l.rest) × ReadSoFar l.text l.tokens.items l.rest

abbrev pub decreases-loop-rest : goal.decreases-loop-rest
decreases-loop-rest l = length l.rest
