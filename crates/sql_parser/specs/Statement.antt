-- A statement as contracts see it, and what every statement is.
use Rattle.std.specs.Prelude.{ℕ, ◌^◌, nat_lt, ℤ, pos, negsuc, List, [], ◌∷◌, Bool, true, false, ◌&&◌, IsTrue, Option}
use Rattle.std.specs.Prelude.{Some, None}
use Rattle.row_values.specs.declared.values.Value.TheVariants.{Int, Text}
use Rattle.sql_parser.specs.declared.statement.RawRef.{RawRef}
use Rattle.sql_parser.specs.declared.statement.RawPlace.{RawPlace}
use Rattle.sql_parser.specs.declared.statement.RawItem.{RawItem}
use Rattle.sql_parser.specs.declared.statement.RawItem.TheVariants as item
use Rattle.sql_parser.specs.declared.statement.RawOperand.{RawOperand}
use Rattle.sql_parser.specs.declared.statement.RawOperand.TheVariants.{Literal, Param}
use Rattle.sql_parser.specs.declared.statement.RawTest.{RawTest}
use Rattle.sql_parser.specs.declared.statement.RawTest.TheVariants as test
use Rattle.sql_parser.specs.declared.statement.RawCond.{RawCond}
use Rattle.sql_parser.specs.declared.statement.RawCond.TheVariants as cond
use Rattle.sql_parser.specs.declared.statement.RawKey.{RawKey}

-- the parts of a statement, each in text order
pub record Parts : Type 0 where
  pub items : List RawItem
  pub places : List RawPlace
  pub conds : List RawCond
  pub groups : List RawRef
  pub order : List RawKey

-- whether a name has a byte
abbrev pub is_name : List ℕ → Bool
is_name [] = false
is_name (byte ∷ bytes) = true

-- whether a test holds of each of a list
abbrev pub each : {T : Type 0} → (T → Bool) → List T → Bool
each test [] = true
each test (x ∷ xs) = test x && each test xs

-- whether there is one at least
abbrev pub is_some : {T : Type 0} → List T → Bool
is_some [] = false
is_some (x ∷ xs) = true

-- whether the names of a reference have bytes
abbrev pub is_ref_of : Option (List ℕ) → List ℕ → Bool
is_ref_of None column = is_name column
is_ref_of (Some alias) column = is_name alias && is_name column

abbrev pub is_ref : RawRef → Bool
is_ref r = is_ref_of r.alias r.column

abbrev pub is_place : RawPlace → Bool
is_place place = is_name place.table && is_name place.alias

abbrev pub is_item : RawItem → Bool
is_item (item.Column r) = is_ref r
is_item item.CountAll = true
is_item (item.Sum r) = is_ref r
is_item (item.Min r) = is_ref r
is_item (item.Max r) = is_ref r

-- whether a number has 64 bits
abbrev pub is_i64 : ℤ → Bool
is_i64 (pos n) = nat_lt n (2 ^ 63)
is_i64 (negsuc n) = nat_lt n (2 ^ 63)

abbrev pub is_operand : RawOperand → Bool
is_operand (Literal (Int number)) = is_i64 number
is_operand (Literal (Text words)) = true
is_operand Param = true

abbrev pub is_test : RawTest → Bool
is_test (test.Lt x) = is_operand x
is_test (test.Le x) = is_operand x
is_test (test.Gt x) = is_operand x
is_test (test.Ge x) = is_operand x
is_test (test.Eq x) = is_operand x
is_test (test.Between low high) = is_operand low && is_operand high
is_test (test.OneOf operands) = is_some operands && each is_operand operands

abbrev pub is_cond : RawCond → Bool
is_cond (cond.Test r t) = is_ref r && is_test t
is_cond (cond.Same a b) = is_ref a && is_ref b

abbrev pub is_key : RawKey → Bool
is_key key = is_ref key.at

-- an item and a place at least, no name without a byte, and numbers of 64 bits
pub record IsSound (s : Parts) : Type 0 where
  pub selects : IsTrue (is_some s.items)
  pub from : IsTrue (is_some s.places)
  pub items : IsTrue (each is_item s.items)
  pub places : IsTrue (each is_place s.places)
  pub conds : IsTrue (each is_cond s.conds)
  pub groups : IsTrue (each is_ref s.groups)
  pub order : IsTrue (each is_key s.order)
