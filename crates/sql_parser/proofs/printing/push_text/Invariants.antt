use denote.Text.{Utf8}
use denote.Shadow.{shadow}
use Rattle.std.proofs.Common.{◌≡◌, ◌++◌, ◌∷◌, [], length, string_bytes}
use Rattle.sql_parser.specs.Tokens.{doubled, quoted}
use Rattle.sql_parser.proofs.printing.push_text.Given as goal

-- what is left completes the spelling
abbrev pub invariant-quotes : goal.invariant-quotes
invariant-quotes l = shadow (Utf8 l.rest)
    × (string_bytes l.out ++ (doubled 39 l.rest ++ 39 ∷ []) ≡ string_bytes l.fn.out ++ quoted 39 l.text)

abbrev pub decreases-quotes : goal.decreases-quotes
decreases-quotes l = length l.rest
