use Rattle.std.proofs.Common.{length}
use denote.Text.{Utf8}
use denote.Shadow.{shadow}
use Rattle.script_report.proofs.Arguments.{ReadSoFar}
use Rattle.script_report.proofs.commands.args_in.Given as goal

-- the values were read, and the rest has the further ones
abbrev pub invariant-loop-rest : goal.invariant-loop-rest
invariant-loop-rest l = shadow (Utf8 l.rest) × ReadSoFar l.parts l.values.items l.rest

abbrev pub decreases-loop-rest : goal.decreases-loop-rest
decreases-loop-rest l = length l.rest
