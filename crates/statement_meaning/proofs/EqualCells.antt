-- Cells that an edge joins are there and equal.
use Rattle.std.proofs.Common.{◌≡◌, Bool, true, false, List, [], ◌∷◌, ap, sym, ◌∙◌, refl, arith}
use Rattle.std.specs.Prelude.{Option, Some, None, slice_get, filter}
use Rattle.std.specs.Option.{option_map_or}
use Rattle.std.specs.Ordering.{is_eq, nat_cmp, int_cmp}
use Rattle.std.specs.Cmp.Lexicographic.{slice_cmp}
use Rattle.std.proofs.lemmas.Bool.{false≢true}
use Rattle.std.proofs.lemmas.Cmp.{tied_itself, int_cmp_total, nat_list_cmp_total}
use Rattle.std.proofs.lemmas.Bool.Decides.{Decides-int_eq}
use Rattle.std.proofs.lemmas.List.Elements.{filter_agree}
use Rattle.std.proofs.lemmas.Slice.Eq.{bytes_eq-Decides}
use Rattle.std.proofs.lemmas.Map.Lookups.{exact_signed, exact_bytes}
use Rattle.row_values.specs.declared.values.Value.{Value}
use Rattle.row_values.specs.declared.values.Value.TheVariants.{Int, Text}
use Rattle.row_values.specs.declared.statement.Edge.{Edge}
use Rattle.row_values.specs.Orders.{compares}
use Rattle.statement_meaning.specs.Conditions.{joins}
use Rattle.row_values.specs.contracts.values.ValuePartialEq.TheImpl.{ghosts}
use Rattle.row_values.proofs.Counting.{IsExact}
use Rattle.row_values.proofs.InOrder.{equal_of}

-- both cells are there, and one value
pub record AreEqual (left : Option Value) (right : Option Value) : Type 0 where
  pub value : Value
  pub first : left ≡ Some value
  pub second : right ≡ Some value

pub equal_cells : (left right : Option Value) → compares is_eq left right ≡ true → AreEqual left right
equal_cells None right h = absurd (false≢true h)
equal_cells (Some a) None h = absurd (false≢true h)
equal_cells (Some (Int a)) (Some (Int b)) h =
    record
    { value = Int a; first = refl; second = ap (λ n. Some (Int n)) (sym (exact_signed a b (equal_of (int_cmp a b) h))) }
equal_cells (Some (Text a)) (Some (Text b)) h =
    record {
      value = Text a;
      first = refl;
      second =
          ap (λ n. Some (Text n)) (sym (exact_bytes a b (equal_of (slice_cmp nat_cmp a b) h)));
    }
equal_cells (Some (Int a)) (Some (Text b)) h = absurd (false≢true h)
equal_cells (Some (Text a)) (Some (Int b)) h = absurd (false≢true h)

pub cells_equal : (left right : Option Value) → AreEqual left right → compares is_eq left right ≡ true
cells_equal left right e =
    ap (λ (o : Option Value). compares is_eq o right) e.first
    ∙ (ap (compares is_eq (Some e.value)) e.second ∙ itself e.value)
  where
    itself : (v : Value) → compares is_eq (Some v) (Some v) ≡ true
    itself (Int a) = ap is_eq (tied_itself int_cmp_total a)
    itself (Text a) = ap is_eq (tied_itself nat_list_cmp_total a)

-- rows meet an edge where their cells are there and one value
pub joined_cells : (edge : Edge) (left right : List Value) → joins edge left right ≡ true
    → AreEqual (slice_get left edge.left.column) (slice_get right edge.right.column)
joined_cells edge left right h = equal_cells (slice_get left edge.left.column) (slice_get right edge.right.column) h

pub cells_joined : (edge : Edge) (left right : List Value)
    → AreEqual (slice_get left edge.left.column) (slice_get right edge.right.column) → joins edge left right ≡ true
cells_joined edge left right e = cells_equal (slice_get left edge.left.column) (slice_get right edge.right.column) e

-- A look-up of a key, by any test that is equality.

pub equal_exactly : (same : Value → Value → Bool) → IsExact same → (a b : Value)
    → same a b ≡ compares is_eq (Some b) (Some a)
equal_exactly same e a b = by_test (same a b) refl (compares is_eq (Some b) (Some a)) refl
  where
    by_test : (x : Bool) → same a b ≡ x → (y : Bool) → compares is_eq (Some b) (Some a) ≡ y
        → same a b ≡ compares is_eq (Some b) (Some a)
    by_test true h true k = h ∙ sym k
    by_test false h false k = h ∙ sym k
    by_test true h false k =
        absurd
        (false≢true (sym k
        ∙ cells_equal (Some b) (Some a) (record {
          value = a;
          first = ap (λ v. Some v) (sym (e.one a b h));
          second =
              refl;
        })))
    by_test false h true k =
        let one = equal_cells (Some b) (Some a) k in
        let both : a ≡ b = cc (one.first, one.second) in
        absurd (false≢true (sym h ∙ (ap (same a) (sym both) ∙ e.itself a)))

-- what has the key, and with no key nothing
pub found_by_key : {X : Type 0} (same : Value → Value → Bool) → IsExact same
    → (cell : X → Option Value) (key : Value) (xs : List X)
    → filter (λ x. option_map_or (λ value. same value key) (cell x) false) xs
    ≡ filter (λ x. compares is_eq (Some key) (cell x)) xs
found_by_key same e cell key xs =
    filter_agree (λ x. option_map_or (λ value. same value key) (cell x) false) (λ x. compares is_eq (Some key) (cell x))
    (λ x. by_cell (cell x)) xs
  where
    by_cell : (o : Option Value) → option_map_or (λ value. same value key) o false ≡ compares is_eq (Some key) o
    by_cell None = refl
    by_cell (Some value) = equal_exactly same e value key

pub none_by_key : {X : Type 0} (cell : X → Option Value) (xs : List X)
    → filter (λ x. compares is_eq None (cell x)) xs ≡ []
none_by_key cell [] = refl
none_by_key cell (x ∷ xs) = none_by_key cell xs

-- the derived equality of values, which keys of maps have, is one
pub derived_exact : IsExact ghosts.eq
derived_exact = record { one = one; itself = itself }
  where
    one : (a b : Value) → ghosts.eq a b ≡ true → a ≡ b
    one (Int a) (Int b) e = ap Int (grind (arith, Decides-int_eq a b))
    one (Text a) (Text b) e = ap Text (grind (arith, bytes_eq-Decides a b))
    one (Int a) (Text b) e = cc
    one (Text a) (Int b) e = cc

    itself : (a : Value) → ghosts.eq a a ≡ true
    itself (Int a) = grind (arith, Decides-int_eq a a)
    itself (Text a) = grind (arith, bytes_eq-Decides a a)
