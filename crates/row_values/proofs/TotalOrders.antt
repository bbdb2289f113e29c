-- The orders of values and of cells are total, and within a kind the value order is how values compare.
use Rattle.std.proofs.Common.{◌≡◌, refl}
use Rattle.std.specs.Prelude.{Some}
use Rattle.std.specs.Cmp.{IsTotalOrder, nat_cmp_total, int_cmp_total}
use Rattle.std.specs.Cmp.Lexicographic.{options_total, slice_cmp, lists_total}
use Rattle.std.specs.declared.cmp.Ordering.TheVariants.{Less, Equal}
use Rattle.std.specs.Ordering.{nat_cmp, ordering_reverse}
use Rattle.row_values.specs.Orders.{value_order, cell_order}
use Rattle.row_values.specs.Values.{kind_of, value_cmp}
use Rattle.row_values.specs.declared.values.Value.{Value}
use Rattle.row_values.specs.declared.values.Value.TheVariants.{Int, Text}

-- the value order is total
pub value_order_total : IsTotalOrder value_order
value_order_total = record { antisymm = antisymm; trans = trans; congr = congr }
  where
    texts : IsTotalOrder (slice_cmp nat_cmp)
    texts = lists_total nat_cmp_total

    antisymm : (a b : Value) → value_order a b ≡ ordering_reverse (value_order b a)
    antisymm (Int a) (Int b) = int_cmp_total.antisymm a b
    antisymm (Text a) (Text b) = texts.antisymm a b
    antisymm (Int a) (Text b) = refl
    antisymm (Text a) (Int b) = refl

    trans : (a b c : Value) → value_order a b ≡ Less → value_order b c ≡ Less → value_order a c ≡ Less
    trans (Int a) (Int b) (Int c) h k = int_cmp_total.trans a b c h k
    trans (Text a) (Text b) (Text c) h k = texts.trans a b c h k
    trans (Int a) b (Text c) h k = refl
    trans (Int a) (Text b) (Int c) h k = cc
    trans (Text a) (Int b) c h k = cc
    trans (Text a) (Text b) (Int c) h k = cc

    congr : (a b c : Value) → value_order a b ≡ Equal → value_order a c ≡ value_order b c
    congr (Int a) (Int b) (Int c) h = int_cmp_total.congr a b c h
    congr (Int a) (Int b) (Text c) h = refl
    congr (Text a) (Text b) (Text c) h = texts.congr a b c h
    congr (Text a) (Text b) (Int c) h = refl
    congr (Int a) (Text b) c h = cc
    congr (Text a) (Int b) c h = cc

pub cell_order_total : IsTotalOrder cell_order
cell_order_total = options_total value_order_total

-- within a kind values compare by the value order
pub same_kind : (a b : Value) → kind_of a ≡ kind_of b → value_cmp a b ≡ Some (value_order a b)
same_kind (Int a) (Int b) h = refl
same_kind (Text a) (Text b) h = refl
same_kind (Int a) (Text b) h = cc
same_kind (Text a) (Int b) h = cc
