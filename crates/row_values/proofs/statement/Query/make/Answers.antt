use Rattle.std.proofs.Common.{arith}
use Rattle.row_values.proofs.Parameters.{length-kinds_of}
use Rattle.row_values.proofs.statement.Query.make.Goals as goal

-- a sound statement has at most eight parameterised predicates, each with at most sixteen parameters
pub parameter_kinds-kinds-requires : goal.parameter_kinds-kinds-requires
parameter_kinds-kinds-requires c = grind (arith, length-kinds_of)
