use Rattle.sql_parser.proofs.ReadIsSpelled.{some_operand}
use Rattle.sql_parser.proofs.reading.take_in.Goals as goal

-- what was read between the brackets is an operand at least
pub of-requires : goal.of-requires
of-requires c = some_operand c.expect.new.tokens.items c.in_ok-operands.operands.items c.take_operands.new.tokens.items
    c.in_ok-operands.ensures
