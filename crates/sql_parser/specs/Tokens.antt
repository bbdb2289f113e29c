-- Tokens: how each is spelled, and which tokens a text falls into.
use Rattle.std.specs.Prelude.{ℕ, ◌≤◌, ◌==◌, ◌≡◌, List, [], ◌∷◌, ◌++◌, length, Bool, false, ◌||◌, if◌then◌else◌, IsTrue}
use Rattle.std.specs.Prelude.{codes, Option, Some, None, Result, Ok, Err, drop}
use Rattle.std.specs.Char.{is_ascii_alphabetic, is_ascii_digit}
use Rattle.std.specs.Str.{str_eq_ignore_ascii_case, IsCharBoundary}
use Rattle.std.specs.Str.Parse.{IsNumeral, signed_digits_value}
use Rattle.row_values.specs.Plain.{is_plain}
use Rattle.row_values.specs.declared.values.Value.TheVariants.{Int, Text}
use Rattle.sql_parser.specs.Statement.{each, is_name, is_i64}
use Rattle.sql_parser.specs.declared.tokens.Symbol.{Symbol}
use Rattle.sql_parser.specs.declared.tokens.Symbol.TheVariants as symbol
use Rattle.sql_parser.specs.declared.tokens.Token.{Token}
use Rattle.sql_parser.specs.declared.tokens.Token.TheVariants as token
use Rattle.sql_parser.specs.declared.faults.ParseFault.{ParseFault}
use Rattle.sql_parser.specs.declared.faults.ParseFault.TheVariants as fault

-- space, tab, CR and LF
abbrev pub is_white : ℕ → Bool
is_white byte = byte == 32 || byte == 9 || byte == 13 || byte == 10

abbrev pub is_letter : ℕ → Bool
is_letter byte = is_ascii_alphabetic byte || byte == 95

abbrev pub is_name_byte : ℕ → Bool
is_name_byte byte = is_letter byte || is_ascii_digit byte

-- the reserved words and the signs in their one canonical spelling
abbrev pub symbol_text : Symbol → List ℕ
symbol_text symbol.Select = codes "SELECT"
symbol_text symbol.From = codes "FROM"
symbol_text symbol.Where = codes "WHERE"
symbol_text symbol.And = codes "AND"
symbol_text symbol.Group = codes "GROUP"
symbol_text symbol.By = codes "BY"
symbol_text symbol.Order = codes "ORDER"
symbol_text symbol.Asc = codes "ASC"
symbol_text symbol.Desc = codes "DESC"
symbol_text symbol.Between = codes "BETWEEN"
symbol_text symbol.Count = codes "COUNT"
symbol_text symbol.Sum = codes "SUM"
symbol_text symbol.Min = codes "MIN"
symbol_text symbol.Max = codes "MAX"
symbol_text symbol.As = codes "AS"
symbol_text symbol.Join = codes "JOIN"
symbol_text symbol.Inner = codes "INNER"
symbol_text symbol.On = codes "ON"
symbol_text symbol.In = codes "IN"
symbol_text symbol.Comma = codes ","
symbol_text symbol.Dot = codes "."
symbol_text symbol.Open = codes "("
symbol_text symbol.Close = codes ")"
symbol_text symbol.Star = codes "*"
symbol_text symbol.Question = codes "?"
symbol_text symbol.Semicolon = codes ";"
symbol_text symbol.Less = codes "<"
symbol_text symbol.AtMost = codes "<="
symbol_text symbol.Greater = codes ">"
symbol_text symbol.AtLeast = codes ">="
symbol_text symbol.Equals = codes "="

-- whether the bytes are the symbol, in any case of letters
abbrev pub is_spelled : List ℕ → Symbol → Bool
is_spelled bytes m = str_eq_ignore_ascii_case bytes (symbol_text m)

-- the bytes with each quote doubled
abbrev pub doubled : ℕ → List ℕ → List ℕ
doubled quote [] = []
doubled quote (byte ∷ bytes) =
    (if byte == quote then quote ∷ quote ∷ doubled quote bytes else byte ∷ doubled quote bytes)

-- the bytes between quotes
abbrev pub quoted : ℕ → List ℕ → List ℕ
quoted quote bytes = quote ∷ doubled quote bytes ++ quote ∷ []

-- the bytes without a minus at their front
abbrev pub without_minus : List ℕ → List ℕ
without_minus [] = []
without_minus (byte ∷ bytes) = (if byte == 45 then bytes else byte ∷ bytes)

-- whether the first byte has the property
abbrev pub begins_with : (ℕ → Bool) → List ℕ → Bool
begins_with test [] = false
begins_with test (byte ∷ bytes) = test byte

-- whether a byte is this quote
abbrev pub is_quote : ℕ → ℕ → Bool
is_quote quote byte = byte == quote

-- the bytes that begin a number, and those that begin a word, a number or something in quotes
abbrev pub is_digit_or_minus : ℕ → Bool
is_digit_or_minus byte = is_ascii_digit byte || byte == 45

abbrev pub is_other : ℕ → Bool
is_other byte = is_letter byte || is_digit_or_minus byte || byte == 34 || byte == 39

-- how a token is spelled where the rest follows: a plain name as it is, any name between double quotes; a whole number
-- of 64 bits by a minus or none and all the decimal digits that stand there; a text between single quotes; a reserved
-- word in any case of letters, or a sign
pub data Spells : Token → List ℕ → List ℕ → Type 0 where
  plain_name : {bytes rest : List ℕ} → IsTrue (is_plain bytes) → Spells (token.Name bytes) bytes rest
  quoted_name : {bytes rest : List ℕ} → IsTrue (is_name bytes) → begins_with (is_quote 34) rest ≡ false
      → Spells (token.Name bytes) (quoted 34 bytes) rest
  whole_number : {bytes rest : List ℕ} → IsNumeral 10 (without_minus bytes)
      → IsTrue (is_i64 (signed_digits_value 10 bytes))
      → begins_with is_ascii_digit rest ≡ false → Spells (token.Literal (Int (signed_digits_value 10 bytes))) bytes rest
  quoted_text : {bytes rest : List ℕ} → begins_with (is_quote 39) rest ≡ false
      → Spells (token.Literal (Text bytes)) (quoted 39 bytes) rest
  reserved_or_sign : {m : Symbol} {bytes rest : List ℕ} → IsTrue (is_spelled bytes m)
      → Spells (token.Symbol m) bytes rest

-- the text begins with this token, and the rest follows: a token is the longest one that stands there
pub record IsFirst (first : Token) (text rest : List ℕ) : Type 0 where
  pub prefix : List ℕ
  pub whole : text ≡ prefix ++ rest
  pub spelled : Spells first prefix rest
  pub longest : (other : Token) (bytes more : List ℕ) → text ≡ bytes ++ more → Spells other bytes more
      → length bytes ≤ length prefix

-- the tokens of a text, with white space between them or none
pub data AreTokens : List ℕ → List Token → Type 0 where
  none : {white : List ℕ} → IsTrue (each is_white white) → AreTokens white []
  next : (white text rest : List ℕ) {first : Token} {tokens : List Token} → IsTrue (each is_white white)
      → IsFirst first text rest
      → AreTokens rest tokens → AreTokens (white ++ text) (first ∷ tokens)

-- what looking for a token at the front of a text finds: the token and how many bytes it takes; or that none stands
-- there
abbrev pub Finds : List ℕ → Result (Token × ℕ) ParseFault → Type 0
Finds text (Ok found) = IsFirst found.0 text (drop found.1 text) × IsCharBoundary text found.1
Finds text (Err fault.Syntax) = (other : Token) (rest : List ℕ) → IsFirst other text rest → ⊥
Finds text (Err fault.Memory) = Unit {0}

-- what stands between quotes, and how many bytes it takes with the second quote; or that no second quote stands there
abbrev pub Unquotes : ℕ → List ℕ → Option (List ℕ × ℕ) → Type 0
Unquotes quote inside (Some found) = (inside ≡ doubled quote found.0 ++ quote ∷ drop found.1 inside)
    × (begins_with (is_quote quote) (drop found.1 inside) ≡ false) × IsCharBoundary inside found.1
Unquotes quote inside None = (bytes rest : List ℕ) → inside ≡ doubled quote bytes ++ quote ∷ rest
    → begins_with (is_quote quote) rest ≡ false → ⊥
