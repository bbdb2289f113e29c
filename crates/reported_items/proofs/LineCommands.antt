-- The names in what a line of a script says are of one line.
use Rattle.std.proofs.Common.{ℕ, ◌≡◌, ◌==◌, not, Bool, true, false, List, [], ◌∷◌, codes, length, slice_index, Option}
use Rattle.std.proofs.Common.{None, Some, refl, sym, subst, cond, if◌then◌else◌, reverse}
use Rattle.std.specs.Str.{bytes_eq}
use Rattle.std.proofs.lemmas.Bool.{and_from, and_parts}
use Rattle.std.proofs.lemmas.List.{reverse-append}
use Rattle.sql_parser.specs.Reading.{◌>>=◌}
use Rattle.sql_parser.specs.Spelled.{first_at, statement_of}
use Rattle.sql_parser.specs.Statement.{Parts, is_name}
use Rattle.sql_parser.specs.Tokens.{Spells, plain_name, quoted_name}
use Rattle.sql_parser.specs.declared.tokens.Token.{Token}
use Rattle.sql_parser.specs.declared.tokens.Token.TheVariants as token
use Rattle.sql_parser.proofs.FunctionsAreGrammar.{first_sound}
use Rattle.sql_parser.proofs.PlainWords.{is_word, plain_word}
use Rattle.script_report.specs.Commands.{Bad, Reading, Says, Silent, args_in, command_in, count_in, end, line_in}
use Rattle.script_report.specs.Commands.{reading_of, rest_of, said, skip_end_blanks}
use Rattle.script_report.specs.Parts.{after_part, first_part, is_blank, name_of, name_part, next_part, skip_blanks}
use Rattle.script_report.specs.declared.commands.Command.{Command}
use Rattle.script_report.specs.declared.commands.Command.TheVariants as command
use Rattle.script_report.specs.declared.commands.TheConstants.{FETCH_LIMIT, PLAN_NUMBER_LIMIT}
use Rattle.reported_items.specs.Reported.{is_one_line}
use Rattle.reported_items.proofs.LineNames.{canonical_line}
use Rattle.reported_items.proofs.LineParts.{IsLined, first_lined, statement_lined}
use Rattle.reported_items.proofs.Pieces.{one_line_both}
use Rattle.reported_items.proofs.PlainReplies.{IsLineName}

-- a name with a byte, and without a line's end
pub record IsName (name : List ℕ) : Type 0 where
  pub named : is_name name ≡ true
  pub line : is_one_line name ≡ true

-- it is spelled on one line
pub line_name : (name : List ℕ) → IsName name → IsLineName name
line_name name h = record { named = h.named; line = canonical_line name h.line }

-- what a command names is so
abbrev pub NamesLines : Command → Type 0
NamesLines (command.Load table file) = IsName table
NamesLines (command.Index table column) = IsName table × IsName column
NamesLines (command.Prepare name select) = IsName name × IsLined select
NamesLines (command.Run name args) = IsName name
NamesLines (command.Cursor cursor name args) = IsName cursor × IsName name
NamesLines (command.Fetch cursor rows) = IsName cursor
NamesLines (command.Close cursor) = IsName cursor
NamesLines (command.Evict name plan) = IsName name
NamesLines (command.Show name) = IsName name

abbrev NamesIfRead : Option Command → Type 0
NamesIfRead None = Unit {0}
NamesIfRead (Some c) = NamesLines c

abbrev pub ReadsLines : Reading → Type 0
ReadsLines Silent = Unit {0}
ReadsLines (Says c) = NamesLines c
ReadsLines Bad = Unit {0}

-- Blanks.

blank_parts : (byte : ℕ) (text : List ℕ) → is_one_line (byte ∷ text) ≡ true
    → (not (byte == 10) ≡ true) × (is_one_line text ≡ true)
blank_parts byte text h = and_parts (not (byte == 10)) (is_one_line text) h

skip_line : (text : List ℕ) → is_one_line text ≡ true → is_one_line (skip_blanks text) ≡ true
skip_line [] h = h
skip_line (byte ∷ text) h = by_test (is_blank byte) (skip_line text (blank_parts byte text h).1)
  where
    by_test : (test : Bool) → is_one_line (skip_blanks text) ≡ true
        → is_one_line (cond test (skip_blanks text) (byte ∷ text)) ≡ true
    by_test true later = later
    by_test false later = h

after_line : (text : List ℕ) → is_one_line text ≡ true → is_one_line (after_part text) ≡ true
after_line [] h = h
after_line (byte ∷ text) h =
    by_test (is_blank byte) (skip_line text (blank_parts byte text h).1) (after_line text (blank_parts byte text h).1)
  where
    by_test : (test : Bool) → is_one_line (skip_blanks text) ≡ true → is_one_line (after_part text) ≡ true
        → is_one_line (cond test (skip_blanks text) (after_part text)) ≡ true
    by_test true here later = here
    by_test false here later = later

reverse_line : (text : List ℕ) → is_one_line text ≡ true → is_one_line (reverse text) ≡ true
reverse_line [] h = refl
reverse_line (byte ∷ text) h =
    let p = blank_parts byte text h in
    subst (λ (z : List ℕ). is_one_line z ≡ true) (sym (reverse-append (byte ∷ []) text))
    (one_line_both (reverse text) (byte ∷ []) (reverse_line text p.1) (and_from (not (byte == 10)) true p.0 refl))

ends_line : (text : List ℕ) → is_one_line text ≡ true → is_one_line (skip_end_blanks text) ≡ true
ends_line text h = reverse_line (skip_blanks (reverse text)) (skip_line (reverse text) (reverse_line text h))

-- Parts.

word_some : (bytes : List ℕ) → is_word bytes ≡ true → is_name bytes ≡ true
word_some [] e = absurd cc
word_some (b ∷ bytes) e = refl

name_some : (name bytes rest : List ℕ) → Spells (token.Name name) bytes rest → is_name name ≡ true
name_some name bytes rest (plain_name p) = word_some bytes (plain_word bytes p).0
name_some name bytes rest (quoted_name n s) = n

-- a name and what follows
record IsNamePart (found : List ℕ × List ℕ) : Type 0 where
  pub name : IsName found.0
  pub rest : is_one_line found.1 ≡ true

abbrev PartIfRead : Option (List ℕ × List ℕ) → Type 0
PartIfRead None = Unit {0}
PartIfRead (Some found) = IsNamePart found

rest_line : (text : List ℕ) → is_one_line text ≡ true → (name : List ℕ) → IsName name
    → PartIfRead (next_part text >>= λ rest. Some (name, rest))
rest_line [] h name is = record { name = is; rest = refl }
rest_line (byte ∷ text) h name is = by_test (is_blank byte)
  where
    by_test : (test : Bool) → PartIfRead ((cond test (Some (skip_blanks text)) None) >>= λ rest. Some (name, rest))
    by_test true = record { name = is; rest = skip_line text (blank_parts byte text h).1 }
    by_test false = tt

name_line : (text : List ℕ) (t : Token) (rest : List ℕ) → first_at text ≡ Some (t, rest) → is_one_line text ≡ true
    → PartIfRead (name_of t >>= λ name. (next_part rest >>= λ more. Some (name, more)))
name_line text (token.Name name) rest e h =
    let first = first_sound text (token.Name name, rest) e in
    let lined = first_lined (token.Name name) text rest first h in
    rest_line rest lined.1 name (record { named = name_some name first.prefix rest first.spelled; line = lined.0 })
name_line text (token.Literal value) rest e h = tt
name_line text (token.Symbol m) rest e h = tt

part_by : (text : List ℕ) (o : Option (Token × List ℕ)) → first_at text ≡ o → is_one_line text ≡ true
    → PartIfRead (o >>= λ found. (name_of found.0 >>= λ name. (next_part found.1 >>= λ rest. Some (name, rest))))
part_by text None e h = tt
part_by text (Some found) e h = name_line text found.0 found.1 e h

part_line : (text : List ℕ) → is_one_line text ≡ true → PartIfRead (name_part text)
unfolding name_part
part_line text h = part_by text (first_at text) refl h

-- Commands.

then_names : {A : Type 0} (o : Option A) (more : A → Option Command) → ((a : A) → NamesIfRead (more a))
    → NamesIfRead (o >>= more)
then_names None more h = tt
then_names (Some a) more h = h a

named_then : (o : Option (List ℕ × List ℕ)) (more : List ℕ × List ℕ → Option Command) → PartIfRead o
    → ((found : List ℕ × List ℕ) → IsNamePart found → NamesIfRead (more found)) → NamesIfRead (o >>= more)
named_then None more part h = tt
named_then (Some found) more part h = h found part

either_names : (test : Bool) (a b : Option Command) → NamesIfRead a → NamesIfRead b
    → NamesIfRead (if test then a else b)
either_names true a b x y = x
either_names false a b x y = y

prepared_names : (name text : List ℕ) (o : Option Parts) → statement_of text ≡ o → IsName name
    → is_one_line text ≡ true → NamesIfRead (o >>= λ select. Some (command.Prepare name select))
prepared_names name text None e is h = tt
prepared_names name text (Some select) e is h = (is, statement_lined text select e h)

command_names : (word parts : List ℕ) → is_one_line parts ≡ true → NamesIfRead (command_in word parts)
command_names word parts h =
    either_names (bytes_eq word (codes "load")) _ _
    (named_then (name_part parts) _ (part_line parts h) (λ table is. then_names (rest_of table.1) _ (λ file. is.name)))
    (either_names (bytes_eq word (codes "index")) _ _
    (named_then (name_part parts) _ (part_line parts h) (λ table is. named_then (name_part table.1) _
    (part_line table.1 is.rest) (λ column also. then_names (end column.1) _ (λ none. (is.name, also.name)))))
    (either_names (bytes_eq word (codes "prepare")) _ _
    (named_then (name_part parts) _ (part_line parts h)
    (λ name is. prepared_names name.0 name.1 (statement_of name.1) refl is.name is.rest))
    (either_names (bytes_eq word (codes "run")) _ _
    (named_then (name_part parts) _ (part_line parts h) (λ name is. then_names (args_in name.1) _ (λ args. is.name)))
    (either_names (bytes_eq word (codes "cursor")) _ _
    (named_then (name_part parts) _ (part_line parts h) (λ cursor is. named_then (name_part cursor.1) _
    (part_line cursor.1 is.rest) (λ name also. then_names (args_in name.1) _ (λ args. (is.name, also.name)))))
    (either_names (bytes_eq word (codes "fetch")) _ _
    (named_then (name_part parts) _ (part_line parts h)
    (λ cursor is. then_names (count_in FETCH_LIMIT cursor.1) _ (λ rows. is.name)))
    (either_names (bytes_eq word (codes "close")) _ _
    (named_then (name_part parts) _ (part_line parts h) (λ cursor is. then_names (end cursor.1) _ (λ none. is.name)))
    (either_names (bytes_eq word (codes "evict")) _ _
    (named_then (name_part parts) _ (part_line parts h)
    (λ name is. then_names (count_in PLAN_NUMBER_LIMIT name.1) _ (λ plan. is.name)))
    (either_names (bytes_eq word (codes "show")) _ _
    (named_then (name_part parts) _ (part_line parts h) (λ name is. then_names (end name.1) _ (λ none. is.name)))
    tt))))))))

said_names : (o : Option Command) → NamesIfRead o → ReadsLines (said o)
said_names None h = tt
said_names (Some c) h = h

silent_or : (test : Bool) (reading : Reading) → ReadsLines reading → ReadsLines (if test then Silent else reading)
silent_or true reading h = tt
silent_or false reading h = h

line_names : (text : List ℕ) → is_one_line text ≡ true → ReadsLines (line_in text)
line_names text h =
    silent_or (length text == 0) _ (silent_or (slice_index text 0 == 35) _
    (said_names (command_in (first_part text) (after_part text))
    (command_names (first_part text) (after_part text) (after_line text h))))

-- what a line says names lines
pub reads_lines : (text : List ℕ) → is_one_line text ≡ true → ReadsLines (reading_of text)
unfolding reading_of
reads_lines text h =
    line_names (skip_end_blanks (skip_blanks text)) (ends_line (skip_blanks text) (skip_line text h))
