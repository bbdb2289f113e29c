use Rattle.sql_parser.proofs.TextsReadOnce.{read_once}
use Rattle.sql_parser.proofs.laws.one_reading.Goals as goal

pub returns : goal.returns
returns c = read_once
