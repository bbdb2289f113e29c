use Rattle.sql_parser.proofs.FunctionsAreGrammar.{first_sound, first_again}
use Rattle.sql_parser.proofs.laws.first_at_is_the_grammar.Goals as goal

pub returns-clause-only : goal.returns-clause-only
returns-clause-only c = λ text rest token e. first_sound text (token, rest) e

pub returns-clause-all : goal.returns-clause-all
returns-clause-all c = λ text rest token first. first_again text token rest first
