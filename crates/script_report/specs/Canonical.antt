-- The one canonical text of each command, and which commands have one.
use Rattle.std.specs.Prelude.{ℕ, ◌&&◌, not, nat_le, List, [], ◌∷◌, ◌++◌, codes, reverse, Bool, false, IsTrue}
use Rattle.std.specs.Fmt.{decimal}
use Rattle.row_values.specs.Names.{canonical_name}
use Rattle.row_values.specs.declared.values.Value.{Value}
use Rattle.sql_parser.specs.Canonical.{operand_text, canonical_text}
use Rattle.sql_parser.specs.Statement.{IsSound, each, is_name, is_operand}
use Rattle.sql_parser.specs.declared.statement.RawOperand.TheVariants.{Literal}
use Rattle.script_report.specs.Parts.{is_blank}
use Rattle.script_report.specs.declared.commands.TheConstants.{FETCH_LIMIT, PLAN_NUMBER_LIMIT}
use Rattle.script_report.specs.declared.commands.Command.{Command}
use Rattle.script_report.specs.declared.commands.Command.TheVariants as command

-- each argument behind a space, spelled as in a statement
abbrev pub args_text : List Value → List ℕ
args_text [] = []
args_text (value ∷ values) = codes " " ++ (operand_text (Literal value) ++ args_text values)

-- the command word and the parts behind it, one space before each
abbrev pub command_text : Command → List ℕ
command_text (command.Load table file) = codes "load " ++ (canonical_name table ++ (codes " " ++ file))
command_text (command.Index table column) =
    codes "index " ++ (canonical_name table ++ (codes " " ++ canonical_name column))
command_text (command.Prepare name select) =
    codes "prepare " ++ (canonical_name name ++ (codes " " ++ canonical_text select))
command_text (command.Run name args) = codes "run " ++ (canonical_name name ++ args_text args)
command_text (command.Cursor cursor name args) =
    codes "cursor " ++ (canonical_name cursor ++ (codes " " ++ (canonical_name name ++ args_text args)))
command_text (command.Fetch cursor rows) = codes "fetch " ++ (canonical_name cursor ++ (codes " " ++ decimal rows))
command_text (command.Close cursor) = codes "close " ++ canonical_name cursor
command_text (command.Evict name plan) = codes "evict " ++ (canonical_name name ++ (codes " " ++ decimal plan))
command_text (command.Show name) = codes "show " ++ canonical_name name

-- whether a text begins with a byte that is no blank
abbrev pub begins_black : List ℕ → Bool
begins_black [] = false
begins_black (byte ∷ text) = not (is_blank byte)

-- whether a text has a byte, and no blank at its ends
abbrev pub is_file : List ℕ → Bool
is_file file = begins_black file && begins_black (reverse file)

-- whether a number is from 1 to a most
abbrev pub is_count : ℕ → ℕ → Bool
is_count most number = nat_le 1 number && nat_le number most

-- whether a number has 64 bits
abbrev pub is_value : Value → Bool
is_value value = is_operand (Literal value)

-- no name without a byte, a file that a line can tell, counts in their ranges, numbers of 64 bits, a statement that
-- has a spelling
abbrev pub IsSoundCommand : Command → Type 0
IsSoundCommand (command.Load table file) = IsTrue (is_name table && is_file file)
IsSoundCommand (command.Index table column) = IsTrue (is_name table && is_name column)
IsSoundCommand (command.Prepare name select) = IsTrue (is_name name) × IsSound select
IsSoundCommand (command.Run name args) = IsTrue (is_name name && each is_value args)
IsSoundCommand (command.Cursor cursor name args) = IsTrue (is_name cursor && is_name name && each is_value args)
IsSoundCommand (command.Fetch cursor rows) = IsTrue (is_name cursor && is_count FETCH_LIMIT rows)
IsSoundCommand (command.Close cursor) = IsTrue (is_name cursor)
IsSoundCommand (command.Evict name plan) = IsTrue (is_name name && is_count PLAN_NUMBER_LIMIT plan)
IsSoundCommand (command.Show name) = IsTrue (is_name name)
