-- Rows are spelled on one line each.
use Rattle.std.proofs.Common.{ℕ, ℤ, pos, negsuc, ◌≡◌, ◌==◌, ◌||◌, ◌/◌, ◌%◌, not, nat_lt, List, [], ◌∷◌, map, Bool, true}
use Rattle.std.proofs.Common.{false, cond, refl, arith, suc}
use Rattle.std.specs.List.{flat_map}
use Rattle.std.specs.Fmt.{digit_glyph, signed_decimal}
use Rattle.std.proofs.lemmas.Bool.{and_from}
use Rattle.std.proofs.lemmas.Bool.Decides.{nat_tests}
use Rattle.row_values.specs.declared.values.Value.TheVariants.{Int, Text}
use Rattle.statement_meaning.specs.Meaning.{Cell, Shown, Total}
use Rattle.statement_meaning.specs.Spelling.{escaped, further_items, item_text, items_text, row_line}
use Rattle.reported_items.specs.Reported.{AreRows, is_one_line}
use Rattle.reported_items.proofs.Pieces.{decimal_one_line, one_line_both}

signed_line : (number : ℤ) → is_one_line (signed_decimal number) ≡ true
signed_line (pos n) = decimal_one_line n
signed_line (negsuc n) = decimal_one_line (suc n)

escaped_line : (byte : ℕ) → is_one_line (escaped byte) ≡ true
escaped_line byte = by_both (byte == 34 || byte == 92) (nat_lt byte 32 || byte == 127) refl refl
  where
    plain_here : (nat_lt byte 32 || byte == 127) ≡ false → not (byte == 10) ≡ true
    plain_here h = grind (arith, nat_tests)

    quote_here : (byte == 34 || byte == 92) ≡ true → not (byte == 10) ≡ true
    quote_here h = grind (arith, nat_tests)

    digits_here : is_one_line (92 ∷ 120 ∷ digit_glyph false (byte / 16) ∷ digit_glyph false (byte % 16) ∷ []) ≡ true
    digits_here =
        and_from (not (digit_glyph false (byte / 16) == 10)) _ (glyph_line (byte / 16))
        (and_from (not (digit_glyph false (byte % 16) == 10)) _ (glyph_line (byte % 16)) refl)
      where
        glyph_line : (n : ℕ) → not (digit_glyph false n == 10) ≡ true
        glyph_line n = grind (arith, nat_tests)

    by_both : (quote control : Bool) → (byte == 34 || byte == 92) ≡ quote → (nat_lt byte 32 || byte == 127) ≡ control
        → is_one_line (cond quote (92 ∷ byte ∷ []) (cond control
        (92 ∷ 120 ∷ digit_glyph false (byte / 16) ∷ digit_glyph false (byte % 16) ∷ []) (byte ∷ []))) ≡ true
    by_both true control e k = and_from (not (byte == 10)) true (quote_here e) refl
    by_both false true e k = digits_here
    by_both false false e k = and_from (not (byte == 10)) true (plain_here k) refl

bytes_line : (text : List ℕ) → is_one_line (flat_map escaped text) ≡ true
bytes_line [] = refl
bytes_line (byte ∷ text) = one_line_both (escaped byte) (flat_map escaped text) (escaped_line byte) (bytes_line text)

item_line : (item : Shown) → is_one_line (item_text item) ≡ true
item_line (Cell (Int number)) = signed_line number
item_line (Cell (Text text)) = one_line_both (flat_map escaped text) (34 ∷ []) (bytes_line text) refl
item_line (Total number) = signed_line number

further_line : (items : List Shown) → is_one_line (further_items items) ≡ true
further_line [] = refl
further_line (item ∷ items) = one_line_both (item_text item) (further_items items) (item_line item) (further_line items)

items_line : (items : List Shown) → is_one_line (items_text items) ≡ true
items_line [] = refl
items_line (item ∷ items) = one_line_both (item_text item) (further_items items) (item_line item) (further_line items)

-- the line of each row
pub rows_lines : (rows : List (List Shown)) → AreRows (map row_line rows)
rows_lines [] = tt
rows_lines (row ∷ rows) = (record { text = items_text row; spelled = refl; one = items_line row }, rows_lines rows)
