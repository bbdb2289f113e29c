-- Heads: the lines of a report that begin with a digit. The parts of a head are separated by one space.
use Rattle.std.specs.Prelude.{ℕ, ◌==◌, ◌||◌, nat_lt, ℤ, pos, negsuc, List, [], ◌∷◌, codes, drop, length, option_map}
use Rattle.std.specs.Prelude.{Bool}
use Rattle.std.specs.Prelude.{false, Option, Some, None, if◌then◌else◌}
use Rattle.std.specs.Char.{is_ascii_digit}
use Rattle.std.specs.List.{before_first, after_first, position_or_len, starts_with}
use Rattle.std.specs.Option.{option_map_or}
use Rattle.std.specs.Str.{bytes_eq}
use Rattle.row_values.specs.Names.{canonical_name}
use Rattle.row_values.specs.Numbers.{whole_number_of}
use Rattle.sql_parser.specs.Reading.{◌>>=◌}
use Rattle.sql_parser.specs.Spelled.{first_at}
use Rattle.sql_parser.specs.declared.tokens.Token.{Token}
use Rattle.sql_parser.specs.declared.tokens.Token.TheVariants as token
use Rattle.report_items.specs.declared.heads.Heading.{Heading}

abbrev pub is_head : List ℕ → Bool
is_head [] = false
is_head (byte ∷ line) = is_ascii_digit byte

-- Words and numbers.

abbrev pub is_space : ℕ → Bool
is_space byte = byte == 32

-- what stands behind this word, where the text begins with it
abbrev pub behind : List ℕ → List ℕ → Option (List ℕ)
behind word text = if starts_with (λ a b. a == b) text word then Some (drop (length word) text) else None

-- what stands before the first space and behind it, where there is one
abbrev pub split_at_space : List ℕ → Option (List ℕ × List ℕ)
split_at_space text =
    if nat_lt (position_or_len is_space text) (length text) then
    Some (before_first is_space text, after_first is_space text) else
    None

-- up to the first space
abbrev pub first_word : List ℕ → List ℕ
first_word text = before_first is_space text

-- between the first space and the next one
abbrev pub second_word : List ℕ → Option (List ℕ)
second_word head = option_map (λ parts. first_word parts.1) (split_at_space head)

abbrev pub counted : Option ℤ → Option ℕ
counted None = None
counted (Some (pos number)) = if number == 0 then None else Some number
counted (Some (negsuc number)) = None

abbrev pub has_zero_first : List ℕ → Bool
has_zero_first [] = false
has_zero_first (byte ∷ text) = byte == 48

-- digits without a zero in front, of a number from 1 to 2^63 - 1
abbrev pub number_of : List ℕ → Option ℕ
number_of text = if has_zero_first text then None else counted (whole_number_of text)

-- the number in front, and what stands behind the space after it
abbrev pub numbered : List ℕ → Option (ℕ × List ℕ)
numbered head = do
  parts ← split_at_space head
  number ← number_of parts.0
  Some (number, parts.1)

-- Names.

-- what a token is where it is a name
abbrev pub name_of : Token → Option (List ℕ)
name_of (token.Name name) = Some name
name_of (token.Literal value) = None
name_of (token.Symbol symbol) = None

-- the name that stands at the front, where its spelling there is the canonical one
abbrev pub spelled_at : List ℕ → List ℕ → Option (List ℕ × List ℕ)
spelled_at text name = option_map (λ rest. (name, rest)) (behind (canonical_name name) text)

-- a name, and what stands behind its spelling
unfoldable pub name_at : List ℕ → Option (List ℕ × List ℕ)
name_at text = do
  found ← first_at text
  name ← name_of found.0
  spelled_at text name

-- Heads of executions.

-- `NAME execution E`, of this script line
abbrev pub execution_in : ℕ → List ℕ → Option Heading
execution_in line text = do
  name ← name_at text
  digits ← behind (codes " execution ") name.1
  number ← number_of digits
  Some (record { line = line; name = name.0; number = number })

-- behind `CUR` and a space
abbrev pub after_cursor : List ℕ → Option (List ℕ)
after_cursor text = do
  cursor ← name_at text
  behind (codes " ") cursor.1

-- `opened CUR NAME execution E`
abbrev pub opened_in : ℕ → List ℕ → Option Heading
opened_in line text = do
  rest ← behind (codes "opened ") text
  named ← after_cursor rest
  execution_in line named

-- `ran NAME execution E`, or else `opened CUR NAME execution E`
abbrev pub told_in : ℕ → List ℕ → Option Heading
told_in line text = option_map_or (execution_in line) (behind (codes "ran ") text) (opened_in line text)

-- `L ran NAME execution E` or `L opened CUR NAME execution E`
unfoldable pub heading_of : List ℕ → Option Heading
heading_of head = do
  found ← numbered head
  told_in found.0 found.1

-- whether the second word is `ran` or `opened`
abbrev pub is_of_execution : List ℕ → Bool
is_of_execution head =
    option_map_or (λ word. bytes_eq word (codes "ran") || bytes_eq word (codes "opened")) (second_word head) false

-- `L refused 12 too many rows`
unfoldable pub too_large_in : List ℕ → Option ℕ
too_large_in head = do
  found ← numbered head
  if bytes_eq found.1 (codes "refused 12 too many rows") then Some found.0 else None
