use denote.Text.{Utf8}
use denote.Shadow.{shadow}
use Rattle.std.proofs.Common.{◌≡◌, ◌++◌, length, string_bytes}
use Rattle.sql_parser.specs.Tokens.{doubled}
use Rattle.sql_parser.proofs.tokens.unquoted.Given as goal

-- what was read, with its quotes doubled, and what is left
abbrev pub invariant-loop-part : goal.invariant-loop-part
invariant-loop-part l = shadow (Utf8 l.rest) × (l.inside ≡ doubled l.quote (string_bytes l.content) ++ l.rest)

abbrev pub decreases-loop-part : goal.decreases-loop-part
decreases-loop-part l = length l.rest
