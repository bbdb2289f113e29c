-- The one canonical spelling of a statement.
use Rattle.std.specs.Prelude.{ℕ, List, [], ◌∷◌, ◌++◌, if◌then◌else◌, codes, Option, Some, None}
use Rattle.std.specs.Fmt.{signed_decimal}
use Rattle.std.specs.Str.{bytes_eq}
use Rattle.row_values.specs.Names.{canonical_name}
use Rattle.row_values.specs.declared.values.Value.TheVariants.{Int, Text}
use Rattle.sql_parser.specs.Statement.{Parts}
use Rattle.sql_parser.specs.Tokens.{quoted}
use Rattle.sql_parser.specs.declared.statement.RawRef.{RawRef}
use Rattle.sql_parser.specs.declared.statement.RawPlace.{RawPlace}
use Rattle.sql_parser.specs.declared.statement.RawItem.{RawItem}
use Rattle.sql_parser.specs.declared.statement.RawItem.TheVariants as item
use Rattle.sql_parser.specs.declared.statement.RawOperand.{RawOperand}
use Rattle.sql_parser.specs.declared.statement.RawOperand.TheVariants as operand
use Rattle.sql_parser.specs.declared.statement.RawTest.{RawTest}
use Rattle.sql_parser.specs.declared.statement.RawTest.TheVariants as test
use Rattle.sql_parser.specs.declared.statement.RawCond.{RawCond}
use Rattle.sql_parser.specs.declared.statement.RawCond.TheVariants as cond
use Rattle.sql_parser.specs.declared.statement.RawKey.{RawKey}

abbrev pub ref_text_of : Option (List ℕ) → List ℕ → List ℕ
ref_text_of None column = canonical_name column
ref_text_of (Some alias) column = canonical_name alias ++ codes "." ++ canonical_name column

abbrev pub ref_text : RawRef → List ℕ
ref_text r = ref_text_of r.alias r.column

abbrev pub item_text : RawItem → List ℕ
item_text (item.Column r) = ref_text r
item_text item.CountAll = codes "COUNT(*)"
item_text (item.Sum r) = codes "SUM(" ++ ref_text r ++ codes ")"
item_text (item.Min r) = codes "MIN(" ++ ref_text r ++ codes ")"
item_text (item.Max r) = codes "MAX(" ++ ref_text r ++ codes ")"

-- the alias where it isn't the table's name
abbrev pub place_text : RawPlace → List ℕ
place_text place = canonical_name place.table
    ++ (if bytes_eq place.alias place.table then [] else codes " AS " ++ canonical_name place.alias)

abbrev pub operand_text : RawOperand → List ℕ
operand_text (operand.Literal (Int number)) = signed_decimal number
operand_text (operand.Literal (Text text)) = quoted 39 text
operand_text operand.Param = codes "?"

-- parts, each behind a separator
abbrev pub behind_text : {T : Type 0} → List ℕ → (T → List ℕ) → List T → List ℕ
behind_text separator text [] = []
behind_text separator text (x ∷ xs) = separator ++ text x ++ behind_text separator text xs

-- parts with a separator between two, behind a word; nothing where there is no part
abbrev pub listed_text : {T : Type 0} → List ℕ → List ℕ → (T → List ℕ) → List T → List ℕ
listed_text word separator text [] = []
listed_text word separator text (x ∷ xs) = word ++ text x ++ behind_text separator text xs

abbrev pub test_text : RawTest → List ℕ
test_text (test.Lt x) = codes " < " ++ operand_text x
test_text (test.Le x) = codes " <= " ++ operand_text x
test_text (test.Gt x) = codes " > " ++ operand_text x
test_text (test.Ge x) = codes " >= " ++ operand_text x
test_text (test.Eq x) = codes " = " ++ operand_text x
test_text (test.Between low high) = codes " BETWEEN " ++ operand_text low ++ codes " AND " ++ operand_text high
test_text (test.OneOf operands) = listed_text (codes " IN (") (codes ", ") operand_text operands ++ codes ")"

abbrev pub cond_text : RawCond → List ℕ
cond_text (cond.Test r t) = ref_text r ++ test_text t
cond_text (cond.Same r s) = ref_text r ++ codes " = " ++ ref_text s

abbrev pub key_text : RawKey → List ℕ
key_text key = ref_text key.at ++ (if key.descending then codes " DESC" else [])

abbrev pub canonical_text : Parts → List ℕ
canonical_text s =
    listed_text (codes "SELECT ") (codes ", ") item_text s.items
    ++ listed_text (codes " FROM ") (codes ", ") place_text s.places
    ++ listed_text (codes " WHERE ") (codes " AND ") cond_text s.conds
    ++ listed_text (codes " GROUP BY ") (codes ", ") ref_text s.groups
    ++ listed_text (codes " ORDER BY ") (codes ", ") key_text s.order
