-- Parts of a line: what stands between spaces and tabs. Names, numbers and texts are spelled as in a statement.
use Rattle.std.specs.Prelude.{ℕ, ◌==◌, ◌||◌, List, [], ◌∷◌, Bool, Option, Some, None, if◌then◌else◌}
use Rattle.row_values.specs.declared.values.Value.{Value}
use Rattle.sql_parser.specs.Reading.{◌>>=◌}
use Rattle.sql_parser.specs.Spelled.{first_at}
use Rattle.sql_parser.specs.declared.tokens.Token.{Token}
use Rattle.sql_parser.specs.declared.tokens.Token.TheVariants as token

-- a space or a tab
abbrev pub is_blank : ℕ → Bool
is_blank byte = (byte == 32) || (byte == 9)

-- without the blanks in front
abbrev pub skip_blanks : List ℕ → List ℕ
skip_blanks [] = []
skip_blanks (byte ∷ text) = if is_blank byte then skip_blanks text else byte ∷ text

-- up to the first blank
abbrev pub first_part : List ℕ → List ℕ
first_part [] = []
first_part (byte ∷ text) = if is_blank byte then [] else byte ∷ first_part text

-- behind the first part and the blanks after it
abbrev pub after_part : List ℕ → List ℕ
after_part [] = []
after_part (byte ∷ text) = if is_blank byte then skip_blanks text else after_part text

-- what follows a part: nothing, or a blank at least and then the next part
abbrev pub next_part : List ℕ → Option (List ℕ)
next_part [] = Some []
next_part (byte ∷ text) = if is_blank byte then Some (skip_blanks text) else None

-- what a token is where it is a name, or a number or text
abbrev pub name_of : Token → Option (List ℕ)
name_of (token.Name name) = Some name
name_of (token.Literal value) = None
name_of (token.Symbol symbol) = None

abbrev pub value_of : Token → Option Value
value_of (token.Name name) = None
value_of (token.Literal value) = Some value
value_of (token.Symbol symbol) = None

-- a name, plain or quoted, and the parts behind it
unfoldable pub name_part : List ℕ → Option (List ℕ × List ℕ)
name_part text = do
  found ← first_at text
  name ← name_of found.0
  rest ← next_part found.1
  Some (name, rest)

-- a whole number or a text, and the parts behind it
unfoldable pub value_part : List ℕ → Option (Value × List ℕ)
value_part text = do
  found ← first_at text
  value ← value_of found.0
  rest ← next_part found.1
  Some (value, rest)
