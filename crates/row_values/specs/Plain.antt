-- Plain names: those that need no quotes.
use Rattle.std.specs.Prelude.{ℕ, ◌==◌, ◌&&◌, ◌||◌, not, map, List, [], ◌∷◌, Bool, true, false}
use Rattle.std.specs.Char.{is_ascii_alphanumeric, is_ascii_digit, to_ascii_lowercase}
use Rattle.std.specs.Str.{bytes_eq}
use Rattle.row_values.specs.declared.plain.TheConstants.{RESERVED}

-- letters, digits and underscores
abbrev pub are_name_bytes : List ℕ → Bool
are_name_bytes [] = true
are_name_bytes (byte ∷ bytes) = (is_ascii_alphanumeric byte || (byte == 95)) && are_name_bytes bytes

-- one word, in any case of letters
abbrev pub is_same_word : List ℕ → List ℕ → Bool
is_same_word a b = bytes_eq (map to_ascii_lowercase a) (map to_ascii_lowercase b)

-- one of these words, in any case of letters
abbrev pub is_word_in : List ℕ → List (List ℕ) → Bool
is_word_in word [] = false
is_word_in word (other ∷ others) = is_same_word word other || is_word_in word others

-- a word of the statement language
abbrev pub is_reserved : List ℕ → Bool
is_reserved word = is_word_in word (map (λ reserved. reserved.now) RESERVED)

-- letters, digits and underscores, no digit in front, and no reserved word
abbrev pub is_plain : List ℕ → Bool
is_plain [] = false
is_plain (first ∷ rest) = not (is_ascii_digit first) && are_name_bytes (first ∷ rest)
    && not (is_reserved (first ∷ rest))
