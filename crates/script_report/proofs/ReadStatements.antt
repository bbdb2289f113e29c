-- A statement that a line prepares is sound.
use Rattle.std.proofs.Common.{ℕ, ◌≡◌, ◌==◌, Bool, true, false, List, codes, length, slice_index, Option, None, Some, refl, subst, if◌then◌else◌}
use Rattle.std.specs.Str.{bytes_eq}
use Rattle.sql_parser.specs.Reading.{◌>>=◌}
use Rattle.sql_parser.specs.Spelled.{statement_of}
use Rattle.sql_parser.specs.Statement.{IsSound, Parts}
use Rattle.sql_parser.proofs.FunctionsAreGrammar.{spelled_only}
use Rattle.sql_parser.proofs.ReadIsSound.{statement_good, tokens_good}
use Rattle.script_report.specs.Commands.{Bad, Reading, Says, Silent, args_in, command_in, count_in, end}
use Rattle.script_report.specs.Commands.{line_in, reading_of, rest_of}
use Rattle.script_report.specs.Commands.{said, skip_end_blanks}
use Rattle.script_report.specs.Parts.{after_part, first_part, name_part, skip_blanks}
use Rattle.script_report.specs.declared.commands.Command.{Command}
use Rattle.script_report.specs.declared.commands.Command.TheVariants as command
use Rattle.script_report.specs.declared.commands.TheConstants.{FETCH_LIMIT, PLAN_NUMBER_LIMIT}

-- the statement of a preparation is sound
abbrev IsFine : Command → Type 0
IsFine (command.Load table file) = Unit {0}
IsFine (command.Index table column) = Unit {0}
IsFine (command.Prepare name select) = IsSound select
IsFine (command.Run name args) = Unit {0}
IsFine (command.Cursor cursor name args) = Unit {0}
IsFine (command.Fetch cursor rows) = Unit {0}
IsFine (command.Close cursor) = Unit {0}
IsFine (command.Evict name plan) = Unit {0}
IsFine (command.Show name) = Unit {0}

abbrev FineIfRead : Option Command → Type 0
FineIfRead None = Unit {0}
FineIfRead (Some c) = IsFine c

abbrev IsFineReading : Reading → Type 0
IsFineReading Silent = Unit {0}
IsFineReading (Says c) = IsFine c
IsFineReading Bad = Unit {0}

then_fine : {A : Type 0} (o : Option A) (more : A → Option Command) → ((a : A) → FineIfRead (more a))
    → FineIfRead (o >>= more)
then_fine None more h = tt
then_fine (Some a) more h = h a

either_fine : (test : Bool) (a b : Option Command) → FineIfRead a → FineIfRead b → FineIfRead (if test then a else b)
either_fine true a b x y = x
either_fine false a b x y = y

statement_sound : (text : List ℕ) (s : Parts) → statement_of text ≡ Some s → IsSound s
statement_sound text s e =
    let spelled = spelled_only text s e in
    statement_good s spelled.tokens spelled.spelled (tokens_good text spelled.tokens spelled.are)

prepared_fine : (name text : List ℕ) (o : Option Parts) → statement_of text ≡ o
    → FineIfRead (o >>= λ select. Some (command.Prepare name select))
prepared_fine name text None e = tt
prepared_fine name text (Some select) e = statement_sound text select e

command_fine : (word parts : List ℕ) → FineIfRead (command_in word parts)
command_fine word parts =
    either_fine (bytes_eq word (codes "load")) _ _
    (then_fine (name_part parts) _ (λ table. then_fine (rest_of table.1) _ (λ file. tt)))
    (either_fine (bytes_eq word (codes "index")) _ _
    (then_fine (name_part parts) _ (λ table. then_fine (name_part table.1) _
    (λ column. then_fine (end column.1) _ (λ none. tt))))
    (either_fine (bytes_eq word (codes "prepare")) _ _
    (then_fine (name_part parts) _ (λ name. prepared_fine name.0 name.1 (statement_of name.1) refl))
    (either_fine (bytes_eq word (codes "run")) _ _
    (then_fine (name_part parts) _ (λ name. then_fine (args_in name.1) _ (λ args. tt)))
    (either_fine (bytes_eq word (codes "cursor")) _ _
    (then_fine (name_part parts) _ (λ cursor. then_fine (name_part cursor.1) _
    (λ name. then_fine (args_in name.1) _ (λ args. tt))))
    (either_fine (bytes_eq word (codes "fetch")) _ _
    (then_fine (name_part parts) _ (λ cursor. then_fine (count_in FETCH_LIMIT cursor.1) _ (λ rows. tt)))
    (either_fine (bytes_eq word (codes "close")) _ _
    (then_fine (name_part parts) _ (λ cursor. then_fine (end cursor.1) _ (λ none. tt)))
    (either_fine (bytes_eq word (codes "evict")) _ _
    (then_fine (name_part parts) _ (λ name. then_fine (count_in PLAN_NUMBER_LIMIT name.1) _ (λ plan. tt)))
    (either_fine (bytes_eq word (codes "show")) _ _
    (then_fine (name_part parts) _ (λ name. then_fine (end name.1) _ (λ none. tt)))
    tt))))))))

said_fine : (o : Option Command) → FineIfRead o → IsFineReading (said o)
said_fine None h = tt
said_fine (Some c) h = h

silent_or : (test : Bool) (reading : Reading) → IsFineReading reading
    → IsFineReading (if test then Silent else reading)
silent_or true reading h = tt
silent_or false reading h = h

line_fine : (text : List ℕ) → IsFineReading (line_in text)
line_fine text =
    silent_or (length text == 0) _ (silent_or (slice_index text 0 == 35) _
    (said_fine (command_in (first_part text) (after_part text)) (command_fine (first_part text) (after_part text))))

pub statements_sound : (text name : List ℕ) (select : Parts) → reading_of text ≡ Says (command.Prepare name select)
    → IsSound select
unfolding reading_of
statements_sound text name select e = subst IsFineReading e (line_fine (skip_end_blanks (skip_blanks text)))
