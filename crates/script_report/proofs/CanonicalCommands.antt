-- The canonical text of a command is read as that command.
use Rattle.std.proofs.Common.{ℕ, zero, suc, ◌≡◌, ◌<◌, ◌^◌, ◌==◌, ◌&&◌, nat_le, nat_lt, not, pos, List}
use Rattle.std.proofs.Common.{[], ◌∷◌, ◌++◌, codes, length, get_or, reverse, true, false, Some}
use Rattle.std.proofs.Common.{refl, sym, ap, ◌∙◌, subst, arith, rules, lit<}
use Rattle.std.proofs.lemmas.Bool.{and_parts, ne_eqb, not-true}
use Rattle.std.proofs.lemmas.Bool.Decides.{nat_tests}
use Rattle.std.proofs.lemmas.Fmt.{decimal_nonempty, digits_decimal, digits_value-decimal, first_decimal}
use Rattle.std.proofs.lemmas.List.{append-nil, reverse-append, reverse-reverse}
use Rattle.std.proofs.lemmas.Str.Parse.{IsNumeralModel, numerals_by_fold}
use Rattle.std.specs.Fmt.{decimal}
use Rattle.std.specs.Str.{all_ascii_digits}
use Rattle.row_values.specs.Names.{canonical_name}
use Rattle.row_values.specs.Numbers.{read_on, are_digits, whole_number_of}
use Rattle.row_values.specs.declared.values.Value.{Value}
use Rattle.sql_parser.specs.Canonical.{operand_text, canonical_text}
use Rattle.sql_parser.specs.Reading.{◌>>=◌}
use Rattle.sql_parser.specs.Statement.{Parts, IsSound, each, is_name}
use Rattle.sql_parser.specs.Tokens.{is_white, begins_with}
use Rattle.sql_parser.specs.declared.statement.RawOperand.TheVariants.{Literal}
use Rattle.sql_parser.specs.declared.tokens.Token.TheVariants as token
use Rattle.sql_parser.proofs.CanonicalEnds.{Ends, name_ends, decimal_ends, operand_ends, canonical_begins}
use Rattle.sql_parser.proofs.CanonicalEnds.{canonical_ends}
use Rattle.sql_parser.proofs.CanonicalIsRead.{stops, name_at_front, literal_at_front, canonical_read}
use Rattle.sql_parser.proofs.TokensOnce.{begins_black as first_is_black}
use Rattle.sql_parser.proofs.FunctionsAreGrammar.{first_again, spelled_all}
use Rattle.script_report.specs.Canonical.{args_text, command_text, begins_black, is_file, is_count, is_value}
use Rattle.script_report.specs.Canonical.{IsSoundCommand}
use Rattle.script_report.specs.Commands.{Says, rest_of, values_in, args_in, has_zero_first, counted, count_in, load_in}
use Rattle.script_report.specs.Commands.{index_in, prepare_in, run_in, cursor_in, fetch_in, close_in, evict_in, show_in}
use Rattle.script_report.specs.Commands.{command_in, said, line_in, skip_end_blanks, reading_of}
use Rattle.script_report.specs.Parts.{is_blank, skip_blanks, first_part, after_part, next_part, name_part, value_part}
use Rattle.script_report.specs.declared.commands.TheConstants.{FETCH_LIMIT, PLAN_NUMBER_LIMIT}
use Rattle.script_report.specs.declared.commands.Command.{Command}
use Rattle.script_report.specs.declared.commands.Command.TheVariants as command
use Rattle.script_report.proofs.Arguments.{value_shorter}

-- ---- blanks

white_blank : (byte : ℕ) → is_white byte ≡ false → not (is_blank byte) ≡ true
white_blank byte h = grind (arith, nat_tests)

-- nothing is skipped where no blank stands
skip_none : (text : List ℕ) → begins_black text ≡ true → skip_blanks text ≡ text
skip_none [] h = refl
skip_none (byte ∷ text) h = rw (not-true (is_blank byte) h) refl

-- what begins with a token has no blank there
begins_so : (text : List ℕ) → 0 < length text → begins_with is_white text ≡ false → begins_black text ≡ true
begins_so [] l h = absurd (omega arith)
begins_so (byte ∷ text) l h = white_blank byte h

black_front : (text more : List ℕ) → begins_black text ≡ true → begins_black (text ++ more) ≡ true
black_front [] more h = absurd cc
black_front (byte ∷ text) more h = h

black_behind : (before text : List ℕ) → begins_black (reverse text) ≡ true
    → begins_black (reverse (before ++ text)) ≡ true
black_behind before text h =
    let P : List ℕ → Type 0 = λ z. begins_black z ≡ true in
    subst P (sym (reverse-append before text)) (black_front (reverse text) (reverse before) h)

-- the last byte of a text as the first one of its reverse
ends_black : (text : List ℕ) → Ends text → begins_black (reverse text) ≡ true
ends_black text e =
    let P : List ℕ → Type 0 = λ z. begins_black (reverse z) ≡ true in
    subst P (sym e.whole) (black_behind e.before (e.last ∷ []) (white_blank e.last e.black))

skip_end_none : (text : List ℕ) → begins_black (reverse text) ≡ true → skip_end_blanks text ≡ text
skip_end_none text h = ap reverse (skip_none (reverse text) h) ∙ reverse-reverse text

-- what a line says that has no blank at its ends and is no comment
line_says : (line : List ℕ) (c : Command) → begins_black line ≡ true → begins_with (λ byte. byte == 35) line ≡ false
    → begins_black (reverse line) ≡ true
    → command_in (first_part line) (after_part line) ≡ Some c → reading_of line ≡ Says c
unfolding reading_of
line_says [] c b n e h = absurd cc
line_says (byte ∷ line) c b n e h =
    let some : (length (byte ∷ line) == 0) ≡ false = ne_eqb (length (byte ∷ line)) 0 (λ z. omega arith) in
    let read : line_in (byte ∷ line) ≡ said (command_in (first_part (byte ∷ line)) (after_part (byte ∷ line))) =
    rw (some, n) refl in
    ap (λ z. line_in (skip_end_blanks z)) (skip_none (byte ∷ line) b) ∙ ap line_in (skip_end_none (byte ∷ line) e)
    ∙ read ∙ ap said h

-- ---- names

name_taken : (name rest next : List ℕ) → is_name name ≡ true → stops rest ≡ true → next_part rest ≡ Some next
    → name_part (canonical_name name ++ rest) ≡ Some (name, next)
unfolding name_part
name_taken name rest next h s e =
    rw (first_again (canonical_name name ++ rest) (token.Name name) rest (name_at_front name rest h s), e) refl

name_then : (name rest : List ℕ) → is_name name ≡ true → begins_black rest ≡ true
    → name_part (canonical_name name ++ (32 ∷ rest)) ≡ Some (name, rest)
name_then name rest h b = name_taken name (32 ∷ rest) rest h refl (ap (λ z. Some z) (skip_none rest b))

name_last : (name : List ℕ) → is_name name ≡ true → name_part (canonical_name name) ≡ Some (name, [])
name_last name h =
    let P : List ℕ → Type 0 = λ z. name_part z ≡ Some (name, []) in
    subst P (append-nil (canonical_name name)) (name_taken name [] [] h refl refl)

-- a text that ends so has a byte
some_byte : (text : List ℕ) → Ends text → 0 < length text
some_byte [] e = (let same : [] ≡ e.before ++ e.last ∷ [] = e.whole in absurd (nothing e.before e.last same))
  where
    nothing : (before : List ℕ) (last : ℕ) → [] ≡ before ++ last ∷ [] → ⊥
    nothing [] last e = cc
    nothing (byte ∷ before) last e = cc
some_byte (byte ∷ text) e = omega arith

name_begins : (name : List ℕ) → is_name name ≡ true → begins_black (canonical_name name) ≡ true
name_begins name h =
    let first = name_at_front name [] h refl in
    let P : List ℕ → Type 0 = λ z. begins_with is_white z ≡ false in
    begins_so (canonical_name name) (some_byte (canonical_name name) (name_ends name))
    (subst P (append-nil (canonical_name name)) (first_is_black (token.Name name) (canonical_name name ++ []) [] first))

-- ---- arguments

value_begins : (value : Value) → is_value value ≡ true → begins_black (operand_text (Literal value)) ≡ true
value_begins value h =
    let text : List ℕ = operand_text (Literal value) in
    let first = literal_at_front value [] h refl in
    let P : List ℕ → Type 0 = λ z. begins_with is_white z ≡ false in
    begins_so text (some_byte text (operand_ends (Literal value) h))
    (subst P (append-nil text) (first_is_black (token.Literal value) (text ++ []) [] first))

-- the arguments without the space in front of them
args_behind : List Value → List ℕ
args_behind [] = []
args_behind (value ∷ values) = operand_text (Literal value) ++ args_text values

args_next : (values : List Value) → each is_value values ≡ true
    → next_part (args_text values) ≡ Some (args_behind values)
unfolding args_behind
args_next [] h = refl
args_next (value ∷ values) h =
    let begins = value_begins value (and_parts (is_value value) (each is_value values) h).0 in
    ap (λ z. Some z) (skip_none (args_behind (value ∷ values))
    (black_front (operand_text (Literal value)) (args_text values) begins))

args_stop : (values : List Value) → stops (args_text values) ≡ true
args_stop [] = refl
args_stop (value ∷ values) = refl

value_taken : (value : Value) (rest next : List ℕ) → is_value value ≡ true → stops rest ≡ true
    → next_part rest ≡ Some next
    → value_part (operand_text (Literal value) ++ rest) ≡ Some (value, next)
unfolding value_part
value_taken value rest next h s e =
    rw (
      first_again (operand_text (Literal value) ++ rest) (token.Literal value) rest (literal_at_front value rest h s),
      e,
    ) refl

one_value : (most : ℕ) (text : List ℕ) (value : Value) (next : List ℕ) → value_part text ≡ Some (value, next)
    → values_in (suc most) text ≡ (values_in most next >>= λ values. Some (value ∷ values))
one_value most [] value next e = (let l = value_shorter [] value next e in absurd (omega arith))
one_value most (byte ∷ text) value next e = rw e refl

all_values : (most : ℕ) (values : List Value) → each is_value values ≡ true → length (args_behind values) < most
    → values_in most (args_behind values) ≡ Some values
unfolding args_behind
all_values zero values h l = absurd (omega arith)
all_values (suc most) [] h l = refl
all_values (suc most) (value ∷ values) h l =
    let hs = and_parts (is_value value) (each is_value values) h in
    let e = value_taken value (args_text values) (args_behind values) hs.0 (args_stop values) (args_next values hs.1) in
    let shorter = value_shorter (args_behind (value ∷ values)) value (args_behind values) e in
    one_value most (args_behind (value ∷ values)) value (args_behind values) e
    ∙ ap (λ z. z >>= λ more. Some (value ∷ more)) (all_values most values hs.1 (omega arith))

args_read : (values : List Value) → each is_value values ≡ true → args_in (args_behind values) ≡ Some values
args_read values h = all_values (suc (length (args_behind values))) values h (omega arith)

-- a name and the arguments behind it
args_taken : (name : List ℕ) (values : List Value) → is_name name ≡ true → each is_value values ≡ true
    → name_part (canonical_name name ++ args_text values) ≡ Some (name, args_behind values)
args_taken name values h k = name_taken name (args_text values) (args_behind values) h (args_stop values)
    (args_next values k)

-- a line with arguments at its end
args_end : (before : List ℕ) (values : List Value) → begins_black (reverse before) ≡ true → each is_value values ≡ true
    → begins_black (reverse (before ++ args_text values)) ≡ true
args_end before [] b h = (let P : List ℕ → Type 0 = λ z. begins_black (reverse z) ≡ true in
    subst P (sym (append-nil before)) b)
args_end before (value ∷ values) b h =
    let hs = and_parts (is_value value) (each is_value values) h in
    let ends = ends_black (operand_text (Literal value)) (operand_ends (Literal value) hs.0) in
    black_behind before (args_text (value ∷ values))
    (black_behind (codes " ") (operand_text (Literal value) ++ args_text values)
    (args_end (operand_text (Literal value)) values ends hs.1))

-- ---- counts

numerals : IsNumeralModel (λ ds. all_ascii_digits ds ≡ true) (read_on 0)
numerals = numerals_by_fold _ (search rules) read_on (search rules)

digits_read : (ds : List ℕ) (n : ℕ) → all_ascii_digits ds ≡ true → 0 < length ds → read_on 0 ds ≡ n → 48 < get_or ds 0 0
    → n < 2 ^ 63 → whole_number_of ds ≡ Some (pos n)
digits_read [] n a l e f s = absurd (omega arith)
digits_read (byte ∷ ds) n a l e f s =
    let digit : (byte == 45) ≡ false = grind (arith, nat_tests) in
    let plain : (are_digits (byte ∷ ds) && nat_lt (read_on 0 (byte ∷ ds)) (2 ^ 63)) ≡ true = grind (arith, nat_tests) in
    rw (digit, plain) (ap (λ z. Some (pos z)) e)

no_zero : (ds : List ℕ) → 48 < get_or ds 0 0 → has_zero_first ds ≡ false
no_zero [] h = refl
no_zero (byte ∷ ds) h = grind (arith, nat_tests)

in_range : (most n : ℕ) → is_count most n ≡ true → counted most (Some (pos n)) ≡ Some n
in_range most n h = rw h refl

count_read : (most n : ℕ) → is_count most n ≡ true → most < 2 ^ 63 → count_in most (decimal n) ≡ Some n
count_read most n h l =
    let hs = and_parts (nat_le 1 n) (nat_le n most) h in
    let some : 0 < n = grind (arith, nat_tests, hs.0) in
    let small : n < 2 ^ 63 = grind (arith, nat_tests, hs.1) in
    let first = first_decimal n some (omega arith) in
    rw (
      no_zero (decimal n) first,
      digits_read (decimal n) n (digits_decimal numerals n (omega arith)) (decimal_nonempty n (omega arith))
          (digits_value-decimal numerals n (omega arith)) first small,
    )
    (in_range most n h)

-- ---- the nine commands

parts_begin : (name rest : List ℕ) → is_name name ≡ true
    → skip_blanks (canonical_name name ++ rest) ≡ canonical_name name ++ rest
parts_begin name rest h = skip_none (canonical_name name ++ rest)
    (black_front (canonical_name name) rest (name_begins name h))

name_end : (name : List ℕ) → begins_black (reverse (canonical_name name)) ≡ true
name_end name = ends_black (canonical_name name) (name_ends name)

-- a name, a space and what ends with no blank
two_end : (name last : List ℕ) → begins_black (reverse last) ≡ true
    → begins_black (reverse (canonical_name name ++ (32 ∷ last))) ≡ true
two_end name last e = black_behind (canonical_name name) (32 ∷ last) (black_behind (codes " ") last e)

rest_some : (text : List ℕ) → begins_black text ≡ true → rest_of text ≡ Some text
rest_some [] h = absurd cc
rest_some (byte ∷ text) h = refl

load_read : (table file : List ℕ) → is_name table ≡ true → is_file file ≡ true
    → reading_of (command_text (command.Load table file)) ≡ Says (command.Load table file)
load_read table file h k =
    let fs = and_parts (begins_black file) (begins_black (reverse file)) k in
    let parts : List ℕ = canonical_name table ++ (32 ∷ file) in
    let read : load_in parts ≡ Some (command.Load table file) =
    rw (name_then table file h fs.0, rest_some file fs.0) refl in
    line_says (codes "load " ++ parts) (command.Load table file) refl refl
    (black_behind (codes "load ") parts (two_end table file fs.1))
    (ap load_in (parts_begin table (32 ∷ file) h) ∙ read)

index_read : (table column : List ℕ) → is_name table ≡ true → is_name column ≡ true
    → reading_of (command_text (command.Index table column)) ≡ Says (command.Index table column)
index_read table column h k =
    let last : List ℕ = canonical_name column in
    let parts : List ℕ = canonical_name table ++ (32 ∷ last) in
    let read : index_in parts ≡ Some (command.Index table column) =
    rw (name_then table last h (name_begins column k), name_last column k) refl in
    line_says (codes "index " ++ parts) (command.Index table column) refl refl
    (black_behind (codes "index ") parts (two_end table last (name_end column)))
    (ap index_in (parts_begin table (32 ∷ last) h) ∙ read)

prepare_read : (name : List ℕ) (select : Parts) → is_name name ≡ true → IsSound select
    → reading_of (command_text (command.Prepare name select)) ≡ Says (command.Prepare name select)
prepare_read name select h k =
    let last : List ℕ = canonical_text select in
    let parts : List ℕ = canonical_name name ++ (32 ∷ last) in
    let ends = canonical_ends select k in
    let begins = begins_so last (some_byte last ends) (canonical_begins select k) in
    let read : prepare_in parts ≡ Some (command.Prepare name select) =
    rw (name_then name last h begins, spelled_all last select (canonical_read select k)) refl in
    line_says (codes "prepare " ++ parts) (command.Prepare name select) refl refl
    (black_behind (codes "prepare ") parts (two_end name last (ends_black last ends)))
    (ap prepare_in (parts_begin name (32 ∷ last) h) ∙ read)

run_read : (name : List ℕ) (args : List Value) → is_name name ≡ true → each is_value args ≡ true
    → reading_of (command_text (command.Run name args)) ≡ Says (command.Run name args)
run_read name args h k =
    let parts : List ℕ = canonical_name name ++ args_text args in
    let read : run_in parts ≡ Some (command.Run name args) = rw (args_taken name args h k, args_read args k) refl in
    line_says (codes "run " ++ parts) (command.Run name args) refl refl
    (black_behind (codes "run ") parts (args_end (canonical_name name) args (name_end name) k))
    (ap run_in (parts_begin name (args_text args) h) ∙ read)

cursor_read : (cursor name : List ℕ) (args : List Value) → is_name cursor ≡ true → is_name name ≡ true
    → each is_value args ≡ true
    → reading_of (command_text (command.Cursor cursor name args)) ≡ Says (command.Cursor cursor name args)
cursor_read cursor name args g h k =
    let last : List ℕ = canonical_name name ++ args_text args in
    let parts : List ℕ = canonical_name cursor ++ (32 ∷ last) in
    let begins = black_front (canonical_name name) (args_text args) (name_begins name h) in
    let read : cursor_in parts ≡ Some (command.Cursor cursor name args) =
    rw (name_then cursor last g begins, args_taken name args h k, args_read args k) refl in
    line_says (codes "cursor " ++ parts) (command.Cursor cursor name args) refl refl
    (black_behind (codes "cursor ") parts (two_end cursor last (args_end (canonical_name name) args (name_end name) k)))
    (ap cursor_in (parts_begin cursor (32 ∷ last) g) ∙ read)

-- a count begins and ends with a digit
count_begins : (most n : ℕ) → is_count most n ≡ true → most < 2 ^ 63 → begins_black (decimal n) ≡ true
count_begins most n h l =
    let hs = and_parts (nat_le 1 n) (nat_le n most) h in
    let some : 0 < n = grind (arith, nat_tests, hs.0) in
    let small : n < 2 ^ 64 = grind (arith, nat_tests, hs.1) in
    begins (decimal n) (decimal_nonempty n small) (first_decimal n some small)
  where
    begins : (ds : List ℕ) → 0 < length ds → 48 < get_or ds 0 0 → begins_black ds ≡ true
    begins [] some f = absurd (omega arith)
    begins (byte ∷ ds) some f = white_blank byte (grind (arith, nat_tests))

count_ends : (most n : ℕ) → is_count most n ≡ true → most < 2 ^ 63 → begins_black (reverse (decimal n)) ≡ true
count_ends most n h l =
    let small : n < 2 ^ 64 = grind (arith, nat_tests, (and_parts (nat_le 1 n) (nat_le n most) h).1) in
    ends_black (decimal n) (decimal_ends n small)

fetch_read : (cursor : List ℕ) (rows : ℕ) → is_name cursor ≡ true → is_count FETCH_LIMIT rows ≡ true
    → reading_of (command_text (command.Fetch cursor rows)) ≡ Says (command.Fetch cursor rows)
fetch_read cursor rows h k =
    let l : FETCH_LIMIT < 2 ^ 63 = lit< tt in
    let last : List ℕ = decimal rows in
    let parts : List ℕ = canonical_name cursor ++ (32 ∷ last) in
    let read : fetch_in parts ≡ Some (command.Fetch cursor rows) =
    rw (name_then cursor last h (count_begins FETCH_LIMIT rows k l), count_read FETCH_LIMIT rows k l) refl in
    line_says (codes "fetch " ++ parts) (command.Fetch cursor rows) refl refl
    (black_behind (codes "fetch ") parts (two_end cursor last (count_ends FETCH_LIMIT rows k l)))
    (ap fetch_in (parts_begin cursor (32 ∷ last) h) ∙ read)

evict_read : (name : List ℕ) (plan : ℕ) → is_name name ≡ true → is_count PLAN_NUMBER_LIMIT plan ≡ true
    → reading_of (command_text (command.Evict name plan)) ≡ Says (command.Evict name plan)
evict_read name plan h k =
    let l : PLAN_NUMBER_LIMIT < 2 ^ 63 = lit< tt in
    let last : List ℕ = decimal plan in
    let parts : List ℕ = canonical_name name ++ (32 ∷ last) in
    let read : evict_in parts ≡ Some (command.Evict name plan) =
    rw (name_then name last h (count_begins PLAN_NUMBER_LIMIT plan k l), count_read PLAN_NUMBER_LIMIT plan k l)
    refl in
    line_says (codes "evict " ++ parts) (command.Evict name plan) refl refl
    (black_behind (codes "evict ") parts (two_end name last (count_ends PLAN_NUMBER_LIMIT plan k l)))
    (ap evict_in (parts_begin name (32 ∷ last) h) ∙ read)

-- a command whose one part is a name
alone_end : (word name : List ℕ) → begins_black (reverse (word ++ canonical_name name)) ≡ true
alone_end word name = black_behind word (canonical_name name) (name_end name)

alone_begins : (name : List ℕ) → is_name name ≡ true → skip_blanks (canonical_name name) ≡ canonical_name name
alone_begins name h = skip_none (canonical_name name) (name_begins name h)

close_read : (cursor : List ℕ) → is_name cursor ≡ true
    → reading_of (command_text (command.Close cursor)) ≡ Says (command.Close cursor)
close_read cursor h =
    let read : close_in (canonical_name cursor) ≡ Some (command.Close cursor) = rw (name_last cursor h) refl in
    line_says (codes "close " ++ canonical_name cursor) (command.Close cursor) refl refl
    (alone_end (codes "close ") cursor)
    (ap close_in (alone_begins cursor h) ∙ read)

show_read : (name : List ℕ) → is_name name ≡ true
    → reading_of (command_text (command.Show name)) ≡ Says (command.Show name)
show_read name h =
    let read : show_in (canonical_name name) ≡ Some (command.Show name) = rw (name_last name h) refl in
    line_says (codes "show " ++ canonical_name name) (command.Show name) refl refl (alone_end (codes "show ") name)
    (ap show_in (alone_begins name h) ∙ read)

pub command_read : (c : Command) → IsSoundCommand c → reading_of (command_text c) ≡ Says c
command_read (command.Load table file) h = let hs = and_parts (is_name table) (is_file file) h in
    load_read table file hs.0 hs.1
command_read (command.Index table column) h = let hs = and_parts (is_name table) (is_name column) h in
    index_read table column hs.0 hs.1
command_read (command.Prepare name select) h = prepare_read name select h.0 h.1
command_read (command.Run name args) h = let hs = and_parts (is_name name) (each is_value args) h in
    run_read name args hs.0 hs.1
command_read (command.Cursor cursor name args) h =
    let hs = and_parts (is_name cursor && is_name name) (each is_value args) h in
    let ns = and_parts (is_name cursor) (is_name name) hs.0 in
    cursor_read cursor name args ns.0 ns.1 hs.1
command_read (command.Fetch cursor rows) h = let hs = and_parts (is_name cursor) (is_count FETCH_LIMIT rows) h in
    fetch_read cursor rows hs.0 hs.1
command_read (command.Close cursor) h = close_read cursor h
command_read (command.Evict name plan) h = let hs = and_parts (is_name name) (is_count PLAN_NUMBER_LIMIT plan) h in
    evict_read name plan hs.0 hs.1
command_read (command.Show name) h = show_read name h
