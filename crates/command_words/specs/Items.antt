-- Which words are accepted, and what they are: options with their values, and positionals.
use Rattle.std.specs.Prelude.{ℕ, ◌==◌, ◌&&◌, ◌||◌, List, [], ◌∷◌, Bool, false, codes, Option, Some, None}
use Rattle.std.specs.Prelude.{if◌then◌else◌}
use Rattle.std.specs.Str.{bytes_eq}
use Rattle.command_words.specs.Numbers.{parts_at}

pub data Item : Type 0 where
  Value : (name value : List ℕ) → Item
  Positional : (word : List ℕ) → Item

-- What the next word may be: any word; the value of the option of this name; a positional, whatever it looks like.
pub data Next : Type 0 where
  AnyWord : Next
  ValueOf : (name : List ℕ) → Next
  PositionalOnly : Next

-- what a word gives, if anything, and what the next one may be
pub record Met : Type 0 where
  pub item : Option Item
  pub next : Next

-- the word begins with `-` (45) and is longer than that
abbrev pub is_dashed : List ℕ → Bool
is_dashed [] = false
is_dashed (first ∷ []) = false
is_dashed (first ∷ second ∷ rest) = first == 45

-- what stands behind `--`
abbrev pub after_dashes : List ℕ → Option (List ℕ)
after_dashes [] = None
after_dashes (first ∷ []) = None
after_dashes (first ∷ second ∷ rest) = if first == 45 && second == 45 then Some rest else None

-- the names of options
abbrev pub is_option : List ℕ → Bool
is_option name = bytes_eq name (codes "lambda") || bytes_eq name (codes "keep") || bytes_eq name (codes "budget")
    || bytes_eq name (codes "recosts") || bytes_eq name (codes "weights")

-- `--NAME`, whose value is the next word, or `--NAME=VALUE` (61 is the equals sign)
abbrev pub option_met : List ℕ → Option (List ℕ × List ℕ) → Option Met
option_met name None = if is_option name then Some (record { item = None; next = ValueOf name }) else None
option_met name (Some parts) = if is_option parts.0
    then Some (record { item = Some (Value parts.0 parts.1); next = AnyWord }) else None

-- a dashed word is `--`, behind which every word is a positional, or an option; any other is refused
abbrev pub dashed_met : Option (List ℕ) → Option Met
dashed_met None = None
dashed_met (Some []) = Some (record { item = None; next = PositionalOnly })
dashed_met (Some (byte ∷ rest)) = option_met (byte ∷ rest) (parts_at 61 (byte ∷ rest))

-- A value in a word of its own isn't dashed.
abbrev pub word_met : Next → List ℕ → Option Met
word_met AnyWord word = if is_dashed word then dashed_met (after_dashes word)
    else Some (record { item = Some (Positional word); next = AnyWord })
word_met (ValueOf name) word = if is_dashed word then None
    else Some (record { item = Some (Value name word); next = AnyWord })
word_met PositionalOnly word = Some (record { item = Some (Positional word); next = PositionalOnly })

-- the items with this one before them, where there is one
abbrev pub with_item : Option Item → Option (List Item) → Option (List Item)
with_item None items = items
with_item (Some item) None = None
with_item (Some item) (Some items) = Some (item ∷ items)

abbrev pub with_met : Option Met → (Next → Option (List Item)) → Option (List Item)
with_met None rest = None
with_met (Some met) rest = with_item met.item (rest met.next)

-- no option may be left without its value
abbrev pub items_at_end : Next → Option (List Item)
items_at_end AnyWord = Some []
items_at_end (ValueOf name) = None
items_at_end PositionalOnly = Some []

-- the items of the words, in order; none where a word is refused
abbrev pub items_of : Next → List (List ℕ) → Option (List Item)
items_of next [] = items_at_end next
items_of next (word ∷ words) = with_met (word_met next word) (λ after. items_of after words)
