-- How a reference and an item are shown: as they were written, each name in canonical spelling.
use Rattle.std.specs.Prelude.{ℕ, List, ◌++◌, codes, Option, Some, None}
use Rattle.row_values.specs.Names.{canonical_name}
use Rattle.sql_parser.specs.declared.statement.RawRef.{RawRef}
use Rattle.sql_parser.specs.declared.statement.RawItem.{RawItem}
use Rattle.sql_parser.specs.declared.statement.RawItem.TheVariants as item

-- the alias, where one was written, and the column
abbrev pub written : Option (List ℕ) → List ℕ → List ℕ
written None column = canonical_name column
written (Some alias) column = canonical_name alias ++ codes "." ++ canonical_name column

abbrev pub ref_text : RawRef → List ℕ
ref_text r = written r.alias r.column

abbrev pub item_text : RawItem → List ℕ
item_text (item.Column r) = ref_text r
item_text item.CountAll = codes "COUNT(*)"
item_text (item.Sum r) = codes "SUM(" ++ ref_text r ++ codes ")"
item_text (item.Min r) = codes "MIN(" ++ ref_text r ++ codes ")"
item_text (item.Max r) = codes "MAX(" ++ ref_text r ++ codes ")"
