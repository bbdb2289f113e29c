-- What a script line says.
use Rattle.std.specs.Prelude.{ℕ, zero, suc, ◌==◌, ◌&&◌, nat_le, ℤ, pos, negsuc, List, [], ◌∷◌, codes, length}
use Rattle.std.specs.Prelude.{slice_index, reverse, Bool, false, Option, Some, None, if◌then◌else◌}
use Rattle.std.specs.Str.{bytes_eq}
use Rattle.row_values.specs.Numbers.{whole_number_of}
use Rattle.row_values.specs.declared.values.Value.{Value}
use Rattle.sql_parser.specs.Reading.{◌>>=◌}
use Rattle.sql_parser.specs.Spelled.{statement_of}
use Rattle.script_report.specs.Parts.{skip_blanks, first_part, after_part, name_part, value_part}
use Rattle.script_report.specs.declared.commands.TheConstants.{FETCH_LIMIT, PLAN_NUMBER_LIMIT}
use Rattle.script_report.specs.declared.commands.Command.{Command}
use Rattle.script_report.specs.declared.commands.Command.TheVariants as command

-- a line says nothing, gives a command, or is none of the language
pub data Reading : Type 0 where
  Silent : Reading
  Says : (command : Command) → Reading
  Bad : Reading

-- nothing more stands there
abbrev pub end : List ℕ → Option (Unit {0})
end [] = Some tt
end (byte ∷ text) = None

-- something more stands there
abbrev pub rest_of : List ℕ → Option (List ℕ)
rest_of [] = None
rest_of (byte ∷ text) = Some (byte ∷ text)

-- the numbers and texts that stand there, where they are fewer than this many
abbrev pub values_in : ℕ → List ℕ → Option (List Value)
values_in zero text = None
values_in (suc most) [] = Some []
values_in (suc most) (byte ∷ text) = do
  value ← value_part (byte ∷ text)
  values ← values_in most value.1
  Some (value.0 ∷ values)

-- the arguments, which are no more than the bytes
abbrev pub args_in : List ℕ → Option (List Value)
args_in text = values_in (suc (length text)) text

-- a number from 1 to a most
abbrev pub counted : ℕ → Option ℤ → Option ℕ
counted most None = None
counted most (Some (pos number)) = if nat_le 1 number && nat_le number most then Some number else None
counted most (Some (negsuc number)) = None

abbrev pub has_zero_first : List ℕ → Bool
has_zero_first [] = false
has_zero_first (byte ∷ text) = byte == 48

-- digits without a zero in front, of a number from 1 to a most
abbrev pub count_in : ℕ → List ℕ → Option ℕ
count_in most text = if has_zero_first text then None else counted most (whole_number_of text)

-- `load T FILE`: FILE is the rest of the line
abbrev pub load_in : List ℕ → Option Command
load_in parts = do
  table ← name_part parts
  file ← rest_of table.1
  Some (command.Load table.0 file)

-- `index T COL`
abbrev pub index_in : List ℕ → Option Command
index_in parts = do
  table ← name_part parts
  column ← name_part table.1
  none ← end column.1
  Some (command.Index table.0 column.0)

-- `prepare NAME SELECT ..`: a statement to the end of the line
abbrev pub prepare_in : List ℕ → Option Command
prepare_in parts = do
  name ← name_part parts
  select ← statement_of name.1
  Some (command.Prepare name.0 select)

-- `run NAME ARG*`
abbrev pub run_in : List ℕ → Option Command
run_in parts = do
  name ← name_part parts
  args ← args_in name.1
  Some (command.Run name.0 args)

-- `cursor CUR NAME ARG*`
abbrev pub cursor_in : List ℕ → Option Command
cursor_in parts = do
  cursor ← name_part parts
  name ← name_part cursor.1
  args ← args_in name.1
  Some (command.Cursor cursor.0 name.0 args)

-- `fetch CUR N`
abbrev pub fetch_in : List ℕ → Option Command
fetch_in parts = do
  cursor ← name_part parts
  rows ← count_in FETCH_LIMIT cursor.1
  Some (command.Fetch cursor.0 rows)

-- `close CUR`
abbrev pub close_in : List ℕ → Option Command
close_in parts = do
  cursor ← name_part parts
  none ← end cursor.1
  Some (command.Close cursor.0)

-- `evict NAME PLAN`: a plan's number has 63 bits
abbrev pub evict_in : List ℕ → Option Command
evict_in parts = do
  name ← name_part parts
  plan ← count_in PLAN_NUMBER_LIMIT name.1
  Some (command.Evict name.0 plan)

-- `show NAME`
abbrev pub show_in : List ℕ → Option Command
show_in parts = do
  name ← name_part parts
  none ← end name.1
  Some (command.Show name.0)

-- the command that begins with this word
abbrev pub command_in : List ℕ → List ℕ → Option Command
command_in word parts =
    if bytes_eq word (codes "load") then load_in parts else
    if bytes_eq word (codes "index") then index_in parts else
    if bytes_eq word (codes "prepare") then prepare_in parts else
    if bytes_eq word (codes "run") then run_in parts else
    if bytes_eq word (codes "cursor") then cursor_in parts else
    if bytes_eq word (codes "fetch") then fetch_in parts else
    if bytes_eq word (codes "close") then close_in parts else
    if bytes_eq word (codes "evict") then evict_in parts else
    if bytes_eq word (codes "show") then show_in parts else
    None

-- a line that is neither empty nor a comment gives its command, or is bad
abbrev pub said : Option Command → Reading
said None = Bad
said (Some c) = Says c

-- what `read_line` answers, as a reading
abbrev pub read : Option Command → Reading
read None = Silent
read (Some c) = Says c

-- a line without the blanks at its ends
abbrev pub line_in : List ℕ → Reading
line_in text =
    if length text == 0 then Silent else
    if slice_index text 0 == 35 then Silent else said (command_in (first_part text) (after_part text))

-- without the blanks at the end
abbrev pub skip_end_blanks : List ℕ → List ℕ
skip_end_blanks text = reverse (skip_blanks (reverse text))

-- what a line says: nothing where it is empty or begins with `#`, else what its command word and the parts behind
-- that say
unfoldable pub reading_of : List ℕ → Reading
reading_of line = line_in (skip_end_blanks (skip_blanks line))
