-- The value order, and the kind of a value.
use Rattle.std.specs.Prelude.{Option, Some, None}
use Rattle.std.specs.Ordering.{nat_cmp, int_cmp}
use Rattle.std.specs.Cmp.Lexicographic.{slice_cmp}
use Rattle.std.specs.declared.cmp.Ordering.{Ordering}
use Rattle.row_values.specs.declared.values.Value.{Value}
use Rattle.row_values.specs.declared.values.Value.TheVariants.{Int, Text}
use Rattle.row_values.specs.declared.values.Kind.{Kind}
use Rattle.row_values.specs.declared.values.Kind.TheVariants as kind

-- numbers as numbers, texts by bytes, and nothing between the two
abbrev pub value_cmp : Value → Value → Option Ordering
value_cmp (Int a) (Int b) = Some (int_cmp a b)
value_cmp (Text a) (Text b) = Some (slice_cmp nat_cmp a b)
value_cmp (Int a) (Text b) = None
value_cmp (Text a) (Int b) = None

abbrev pub kind_of : Value → Kind
kind_of (Int a) = kind.Int
kind_of (Text a) = kind.Text
