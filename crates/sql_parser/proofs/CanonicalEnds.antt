-- The canonical spelling has a byte that is no white space at its front, and one at its end.
use Rattle.std.proofs.Common.{◌≡◌, ℕ, suc, ◌<◌, ◌^◌, Bool, true, false, cond, Option, Some, None, List, [], ◌∷◌}
use Rattle.std.proofs.Common.{◌++◌, codes, pos, negsuc, refl, sym, ◌∙◌, ap, subst, arith}
use Rattle.std.proofs.lemmas.Bool.Decides.{nat_tests}
use Rattle.std.proofs.lemmas.Fmt.{decimal_is_IsNumeral}
use Rattle.std.proofs.lemmas.List.{append-nil, append_assoc}
use Rattle.std.specs.Char.{is_ascii_digit}
use Rattle.std.specs.Fmt.{decimal}
use Rattle.std.specs.List.{flat_map}
use Rattle.std.specs.Str.{bytes_eq}
use Rattle.std.specs.Str.Parse.{IsNumeral}
use Rattle.row_values.specs.Names.{canonical_name, quoted_name}
use Rattle.row_values.specs.Names.{doubled as name_quote}
use Rattle.row_values.specs.Plain.{is_plain}
use Rattle.row_values.specs.declared.values.Value.TheVariants.{Int, Text}
use Rattle.sql_parser.specs.Canonical.{ref_text_of, ref_text, item_text, place_text, operand_text, test_text, cond_text}
use Rattle.sql_parser.specs.Canonical.{key_text, behind_text, listed_text, canonical_text}
use Rattle.sql_parser.specs.Statement.{Parts, each, is_some, is_ref, is_item, is_place, is_operand}
use Rattle.sql_parser.specs.Statement.{is_test, is_cond, is_key, IsSound}
use Rattle.sql_parser.specs.Tokens.{is_white, is_name_byte, doubled, begins_with}
use Rattle.sql_parser.specs.declared.statement.RawRef.{RawRef}
use Rattle.sql_parser.specs.declared.statement.RawPlace.{RawPlace}
use Rattle.sql_parser.specs.declared.statement.RawItem.{RawItem}
use Rattle.sql_parser.specs.declared.statement.RawItem.TheVariants as item
use Rattle.sql_parser.specs.declared.statement.RawOperand.{RawOperand}
use Rattle.sql_parser.specs.declared.statement.RawOperand.TheVariants as operand
use Rattle.sql_parser.specs.declared.statement.RawTest.{RawTest}
use Rattle.sql_parser.specs.declared.statement.RawTest.TheVariants as test
use Rattle.sql_parser.specs.declared.statement.RawCond.{RawCond}
use Rattle.sql_parser.specs.declared.statement.RawCond.TheVariants as cond_
use Rattle.sql_parser.specs.declared.statement.RawKey.{RawKey}
use Rattle.sql_parser.proofs.CanonicalIsRead.{word_bytes}
use Rattle.sql_parser.proofs.PlainWords.{plain_word}
use Rattle.sql_parser.proofs.TokenShapes.{all_digits}
use Rattle.std.proofs.lemmas.Bool.{and_parts}

-- the last byte of a text, which is no white space
pub record Ends (text : List ℕ) : Type 0 where
  pub before : List ℕ
  pub last : ℕ
  pub whole : text ≡ before ++ last ∷ []
  pub black : is_white last ≡ false

pub ends_behind : (before text : List ℕ) → Ends text → Ends (before ++ text)
ends_behind before text e = record {
  before = before ++ e.before;
  last = e.last;
  whole = ap (λ z. before ++ z) e.whole ∙ sym (append_assoc before e.before (e.last ∷ []));
  black = e.black;
}

byte_ends : (b : ℕ) → is_white b ≡ false → Ends (b ∷ [])
byte_ends b h = record { before = []; last = b; whole = refl; black = h }

nothing_behind : (text : List ℕ) → Ends text → Ends (text ++ [])
nothing_behind text e = let P : List ℕ → Type 0 = λ z. Ends z in subst P (sym (append-nil text)) e

each_ends : (p : ℕ → Bool) → ((b : ℕ) → p b ≡ true → is_white b ≡ false) → (b : ℕ) (bs : List ℕ)
    → each p (b ∷ bs) ≡ true → Ends (b ∷ bs)
each_ends p black b [] h = byte_ends b (black b (and_parts (p b) (each p []) h).0)
each_ends p black b (c ∷ bs) h =
    ends_behind (b ∷ []) (c ∷ bs) (each_ends p black c bs (and_parts (p b) (each p (c ∷ bs)) h).1)

black_name : (b : ℕ) → is_name_byte b ≡ true → is_white b ≡ false
black_name b h = grind (arith, nat_tests)

black_digit : (b : ℕ) → is_ascii_digit b ≡ true → is_white b ≡ false
black_digit b h = grind (arith, nat_tests)

-- ---- names, numbers and texts

plain_ends : (name : List ℕ) → is_plain name ≡ true → Ends name
plain_ends [] p = absurd cc
plain_ends (b ∷ bs) p = each_ends is_name_byte black_name b bs (word_bytes (b ∷ bs) (plain_word (b ∷ bs) p).0)

pub name_ends : (name : List ℕ) → Ends (canonical_name name)
name_ends name =
    let step : (v : Bool) → is_plain name ≡ v → Ends (cond v name (quoted_name name)) =
    λ v. elim v as (λ v. is_plain name ≡ v → Ends (cond v name (quoted_name name))) [
      | true ↦ λ p. plain_ends name p
      | false ↦ λ p. ends_behind (34 ∷ flat_map name_quote name) (34 ∷ []) (byte_ends 34 refl)
    ]
    in step (is_plain name) refl

digits_end : (ds : List ℕ) → IsNumeral 10 ds → Ends ds
digits_end [] n = absurd (omega (arith, n.0))
digits_end (b ∷ bs) n = each_ends is_ascii_digit black_digit b bs (all_digits (b ∷ bs) n.1)

pub decimal_ends : (n : ℕ) → n < 2 ^ 64 → Ends (decimal n)
decimal_ends n l = digits_end (decimal n) (decimal_is_IsNumeral n l).0

pub operand_ends : (x : RawOperand) → is_operand x ≡ true → Ends (operand_text x)
operand_ends (operand.Literal (Int (pos n))) h = decimal_ends n (grind (arith, nat_tests))
operand_ends (operand.Literal (Int (negsuc n))) h =
    ends_behind (45 ∷ []) (decimal (suc n)) (decimal_ends (suc n) (grind (arith, nat_tests)))
operand_ends (operand.Literal (Text text)) h = ends_behind (39 ∷ doubled 39 text) (39 ∷ []) (byte_ends 39 refl)
operand_ends operand.Param h = byte_ends 63 refl

-- ---- parts

ref_of_ends : (alias : Option (List ℕ)) (column : List ℕ) → Ends (ref_text_of alias column)
ref_of_ends None column = name_ends column
ref_of_ends (Some alias) column =
    ends_behind (canonical_name alias ++ codes ".") (canonical_name column) (name_ends column)

ref_ends : (r : RawRef) → is_ref r ≡ true → Ends (ref_text r)
ref_ends r h = ref_of_ends r.alias r.column

item_ends : (x : RawItem) → is_item x ≡ true → Ends (item_text x)
item_ends (item.Column r) h = ref_ends r h
item_ends item.CountAll h = ends_behind (codes "COUNT(*") (codes ")") (byte_ends 41 refl)
item_ends (item.Sum r) h = ends_behind (codes "SUM(" ++ ref_text r) (codes ")") (byte_ends 41 refl)
item_ends (item.Min r) h = ends_behind (codes "MIN(" ++ ref_text r) (codes ")") (byte_ends 41 refl)
item_ends (item.Max r) h = ends_behind (codes "MAX(" ++ ref_text r) (codes ")") (byte_ends 41 refl)

alias_ends : (same : Bool) (table alias : List ℕ)
    → Ends (canonical_name table ++ (cond same [] (codes " AS " ++ canonical_name alias)))
alias_ends true table alias = nothing_behind (canonical_name table) (name_ends table)
alias_ends false table alias =
    ends_behind (canonical_name table) (codes " AS " ++ canonical_name alias)
    (ends_behind (codes " AS ") (canonical_name alias) (name_ends alias))

place_ends : (x : RawPlace) → is_place x ≡ true → Ends (place_text x)
place_ends x h = alias_ends (bytes_eq x.alias x.table) x.table x.alias

test_ends : (x : RawTest) → is_test x ≡ true → Ends (test_text x)
test_ends (test.Lt x) h = ends_behind (codes " < ") (operand_text x) (operand_ends x h)
test_ends (test.Le x) h = ends_behind (codes " <= ") (operand_text x) (operand_ends x h)
test_ends (test.Gt x) h = ends_behind (codes " > ") (operand_text x) (operand_ends x h)
test_ends (test.Ge x) h = ends_behind (codes " >= ") (operand_text x) (operand_ends x h)
test_ends (test.Eq x) h = ends_behind (codes " = ") (operand_text x) (operand_ends x h)
test_ends (test.Between low high) h =
    ends_behind (codes " BETWEEN " ++ operand_text low ++ codes " AND ") (operand_text high)
    (operand_ends high (and_parts (is_operand low) (is_operand high) h).1)
test_ends (test.OneOf xs) h = ends_behind (listed_text (codes " IN (") (codes ", ") operand_text xs) (codes ")")
    (byte_ends 41 refl)

cond_ends : (x : RawCond) → is_cond x ≡ true → Ends (cond_text x)
cond_ends (cond_.Test r t) h =
    ends_behind (ref_text r) (test_text t) (test_ends t (and_parts (is_ref r) (is_test t) h).1)
cond_ends (cond_.Same r s) h =
    ends_behind (ref_text r ++ codes " = ") (ref_text s) (ref_ends s (and_parts (is_ref r) (is_ref s) h).1)

direction_ends : (down : Bool) (r : RawRef) → is_ref r ≡ true → Ends (ref_text r ++ (cond down (codes " DESC") []))
direction_ends true r h = ends_behind (ref_text r) (codes " DESC")
    (ends_behind (codes " DES") (codes "C") (byte_ends 67 refl))
direction_ends false r h = nothing_behind (ref_text r) (ref_ends r h)

key_ends : (x : RawKey) → is_key x ≡ true → Ends (key_text x)
key_ends x h = direction_ends x.descending x.at h

-- ---- lists

module _ {T : Type 0} (text : T → List ℕ) (holds : T → Bool) (ends : (x : T) → holds x ≡ true
    → Ends (text x)) (separator : List ℕ) where
  more_end : (before : List ℕ) (xs : List T) → Ends before → each holds xs ≡ true
      → Ends (before ++ behind_text separator text xs)
  more_end before [] e h = nothing_behind before e
  more_end before (x ∷ xs) e h =
      let hs = and_parts (holds x) (each holds xs) h in
      ends_behind before (behind_text separator text (x ∷ xs))
      (more_end (separator ++ text x) xs (ends_behind separator (text x) (ends x hs.0)) hs.1)

  list_ends : (word : List ℕ) (xs : List T) → is_some xs ≡ true → each holds xs ≡ true
      → Ends (listed_text word separator text xs)
  list_ends word [] s h = absurd cc
  list_ends word (x ∷ xs) s h = let hs = and_parts (holds x) (each holds xs) h in
      more_end (word ++ text x) xs (ends_behind word (text x) (ends x hs.0)) hs.1

  optional_ends : (word before : List ℕ) (xs : List T) → Ends before → each holds xs ≡ true
      → Ends (before ++ listed_text word separator text xs)
  optional_ends word before [] e h = nothing_behind before e
  optional_ends word before (x ∷ xs) e h =
      ends_behind before (listed_text word separator text (x ∷ xs)) (list_ends word (x ∷ xs) refl h)

-- ---- the statement

pub canonical_ends : (s : Parts) → IsSound s → Ends (canonical_text s)
canonical_ends s h =
    optional_ends key_text is_key key_ends (codes ", ") (codes " ORDER BY ") _ s.order
    (optional_ends ref_text is_ref ref_ends (codes ", ") (codes " GROUP BY ") _ s.groups
    (optional_ends cond_text is_cond cond_ends (codes " AND ") (codes " WHERE ") _ s.conds
    (ends_behind (listed_text (codes "SELECT ") (codes ", ") item_text s.items) _
    (list_ends place_text is_place place_ends (codes ", ") (codes " FROM ") s.places h.from h.places)) h.conds)
    h.groups) h.order

begins_select : (items : List RawItem) (rest : List ℕ) → is_some items ≡ true
    → begins_with is_white (listed_text (codes "SELECT ") (codes ", ") item_text items ++ rest) ≡ false
begins_select [] rest s = absurd cc
begins_select (x ∷ xs) rest s = refl

pub canonical_begins : (s : Parts) → IsSound s → begins_with is_white (canonical_text s) ≡ false
canonical_begins s h =
    let P : List ℕ → Type 0 = λ z. begins_with is_white z ≡ false in
    let select : List ℕ = listed_text (codes "SELECT ") (codes ", ") item_text s.items in
    let from : List ℕ = listed_text (codes " FROM ") (codes ", ") place_text s.places in
    let where_ : List ℕ = listed_text (codes " WHERE ") (codes " AND ") cond_text s.conds in
    let group : List ℕ = listed_text (codes " GROUP BY ") (codes ", ") ref_text s.groups in
    let order : List ℕ = listed_text (codes " ORDER BY ") (codes ", ") key_text s.order in
    let e : (((select ++ from) ++ where_) ++ group) ++ order ≡ select ++ (from ++ (where_ ++ (group ++ order))) =
    simp append_assoc in
    subst P (sym e) (begins_select s.items (from ++ (where_ ++ (group ++ order))) h.selects)
