use Rattle.sql_parser.proofs.FunctionsAreGrammar.{spelled_only, spelled_all}
use Rattle.sql_parser.proofs.laws.statement_of_is_the_grammar.Goals as goal

pub returns-clause-only : goal.returns-clause-only
returns-clause-only c = spelled_only

pub returns-clause-all : goal.returns-clause-all
returns-clause-all c = spelled_all
