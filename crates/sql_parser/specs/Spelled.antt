-- The tokens of a text and the statement that it spells, as functions of the text. That they find what the grammar
-- relates to the text, and nothing else, is a law of this crate.
use Rattle.std.specs.Prelude.{ℕ, zero, suc, ◌==◌, List, [], ◌∷◌, length, Bool, true, false, ◌&&◌, if◌then◌else◌, Option}
use Rattle.std.specs.Prelude.{Some, None, take, drop, find, nat_eq}
use Rattle.std.specs.Char.{is_ascii_digit}
use Rattle.std.specs.List.{prefix_len, starts_with}
use Rattle.std.specs.Str.Parse.{signed_digits_value}
use Rattle.row_values.specs.declared.values.Value.TheVariants.{Int, Text}
use Rattle.sql_parser.specs.Statement.{Parts, is_name, is_i64}
use Rattle.sql_parser.specs.Tokens.{is_white, is_letter, is_name_byte, is_digit_or_minus, is_spelled, symbol_text}
use Rattle.sql_parser.specs.Tokens.{without_minus}
use Rattle.sql_parser.specs.Reading.{◌>>=◌, statement_at}
use Rattle.sql_parser.specs.declared.tokens.Symbol.{Symbol}
use Rattle.sql_parser.specs.declared.tokens.Token.{Token}
use Rattle.sql_parser.specs.declared.tokens.Token.TheVariants as token
use Rattle.sql_parser.specs.declared.tokens.TheConstants.{RESERVED, SIGNS}

-- the text behind the white space at its front
abbrev pub after_white : List ℕ → List ℕ
after_white text = drop (prefix_len is_white text) text

-- a byte more at the front of what stands between quotes
abbrev pub with_byte : ℕ → Option (List ℕ × List ℕ) → Option (List ℕ × List ℕ)
with_byte byte None = None
with_byte byte (Some found) = Some (byte ∷ found.0, found.1)

-- what stands before the closing quote, each doubled quote once, and what follows that quote; behind a quote the next
-- byte tells whether that is doubled or closes
abbrev pub unquoted : ℕ → Bool → List ℕ → Option (List ℕ × List ℕ)
unquoted quote false [] = None
unquoted quote true [] = Some ([], [])
unquoted quote false (byte ∷ bytes) =
    (if byte == quote then unquoted quote true bytes else with_byte byte (unquoted quote false bytes))
unquoted quote true (byte ∷ bytes) =
    (if byte == quote then with_byte quote (unquoted quote false bytes) else Some ([], byte ∷ bytes))

-- a name, behind its first double quote; it has a byte
abbrev pub quoted_name_at : List ℕ → Option (Token × List ℕ)
quoted_name_at inside = do
  found ← unquoted 34 false inside
  if is_name found.0 then Some (token.Name found.0, found.1) else None

-- a text, behind its first single quote
abbrev pub quoted_text_at : List ℕ → Option (Token × List ℕ)
quoted_text_at inside = do
  found ← unquoted 39 false inside
  Some (token.Literal (Text found.0), found.1)

-- the number of 64 bits that a minus or none and the digits behind it write; there is a digit at least
abbrev pub number_of : List ℕ → Option Token
number_of bytes = if is_name (without_minus bytes) && is_i64 (signed_digits_value 10 bytes)
    then Some (token.Literal (Int (signed_digits_value 10 bytes)))
    else None

-- a number: its first byte, and all the digits behind that
abbrev pub number_at : ℕ → List ℕ → Option (Token × List ℕ)
number_at byte bytes = do
  number ← number_of (byte ∷ take (prefix_len is_ascii_digit bytes) bytes)
  Some (number, drop (prefix_len is_ascii_digit bytes) bytes)

-- a word, and which reserved word it is; a name where it is none
abbrev pub word_of : List ℕ → Option Symbol → Token
word_of word None = token.Name word
word_of word (Some reserved) = token.Symbol reserved

-- a word: all the letters and digits
abbrev pub word_at : List ℕ → Token × List ℕ
word_at text = (
  word_of (take (prefix_len is_name_byte text) text)
      (find (λ m. is_spelled (take (prefix_len is_name_byte text) text) m) RESERVED),
  drop (prefix_len is_name_byte text) text,
)

-- a sign; longer signs stand first among them
abbrev pub sign_at : List ℕ → Option (Token × List ℕ)
sign_at text = do
  sign ← find (λ m. starts_with nat_eq text (symbol_text m)) SIGNS
  Some (token.Symbol sign, drop (length (symbol_text sign)) text)

-- the token at the front of a text, and what follows it
abbrev pub first_at : List ℕ → Option (Token × List ℕ)
first_at [] = None
first_at (byte ∷ bytes) =
    if byte == 34 then quoted_name_at bytes else
    if byte == 39 then quoted_text_at bytes else
    if is_digit_or_minus byte then number_at byte bytes else
    if is_letter byte then Some (word_at (byte ∷ bytes)) else
    sign_at (byte ∷ bytes)

-- the tokens of a text with no white space at its front, where they are fewer than this many
abbrev pub tokens_at : ℕ → List ℕ → Option (List Token)
tokens_at zero text = None
tokens_at (suc n) [] = Some []
tokens_at (suc n) (byte ∷ bytes) = do
  first ← first_at (byte ∷ bytes)
  tokens ← tokens_at n (after_white first.1)
  Some (first.0 ∷ tokens)

-- the tokens that a text falls into, which are no more than its bytes
unfoldable pub tokens_of : List ℕ → Option (List Token)
tokens_of text = tokens_at (suc (length text)) (after_white text)

-- the statement that a text spells
unfoldable pub statement_of : List ℕ → Option Parts
statement_of text = do
  tokens ← tokens_of text
  read ← statement_at tokens
  Some read.0
