-- In a list in the order of its keys those with one key stand together.
use Rattle.std.proofs.Common.{ℕ, zero, suc, ◌≡◌, ◌<◌, ◌+◌, Bool, true, false, not, ◌&&◌, List, [], ◌∷◌, length, map}
use Rattle.std.proofs.Common.{get_or, ap, sym, ◌∙◌, refl, subst, max, arith}
use Rattle.std.specs.Prelude.{Option, Some, None, filter, slice_range, IsSortedBy}
use Rattle.std.specs.Cmp.{IsStrictWeakOrder}
use Rattle.std.specs.List.Sorted.{IsPartitionedBy}
use Rattle.std.specs.Ordering.{is_eq, is_ge, is_le, is_lt, ordering_reverse}
use Rattle.std.specs.declared.cmp.Ordering.{Ordering}
use Rattle.std.specs.declared.cmp.Ordering.TheVariants.{Less, Equal, Greater}
use Rattle.std.proofs.lemmas.Bool.{false≢true}
use Rattle.std.proofs.lemmas.List.{get_or-map, length-map}
use Rattle.std.proofs.lemmas.List.Elements.{filter_agree}
use Rattle.std.proofs.lemmas.List.Sorted.{ranks_by, sorted_far}
use Rattle.row_values.specs.Orders.{cell_order, compares, value_order}
use Rattle.row_values.specs.declared.values.Value.{Value}
use Rattle.row_values.specs.declared.values.Value.TheVariants.{Int, Text}
use Rattle.row_values.proofs.TotalOrders.{cell_order_total, value_order_total}
use Rattle.table_index.specs.Cuts.{Cut}
use Rattle.table_index.proofs.Cuts.{between_cuts}

-- equal is neither below nor above
both_ends : (o : Ordering) → is_eq (ordering_reverse o) ≡ (is_ge o && is_le o)
both_ends Less = refl
both_ends Equal = refl
both_ends Greater = refl

same_value : (a b : Value) → is_eq (value_order a b) ≡ (is_ge (value_order b a) && is_le (value_order b a))
same_value a b = ap is_eq (value_order_total.antisymm a b) ∙ both_ends (value_order b a)

equal_within : (value : Value) (cell : Option Value)
    → (is_ge (cell_order cell (Some value)) && is_le (cell_order cell (Some value))) ≡ compares is_eq (Some value) cell
equal_within (Int a) None = refl
equal_within (Int a) (Some (Int b)) = sym (same_value (Int a) (Int b))
equal_within (Int a) (Some (Text b)) = refl
equal_within (Text a) None = refl
equal_within (Text a) (Some (Int b)) = refl
equal_within (Text a) (Some (Text b)) = sym (same_value (Text a) (Text b))

not_up : (o : Ordering) → not (is_ge o) ≡ is_lt o
not_up Less = refl
not_up Equal = refl
not_up Greater = refl

up_to : (o : Ordering) → is_le o ≡ not (is_lt (ordering_reverse o))
up_to Less = refl
up_to Equal = refl
up_to Greater = refl

is_not : (b : Bool) → not b ≡ true → b ≡ false
is_not true h = absurd (false≢true h)
is_not false h = refl

abbrev is_lower : {X : Type 0} → (X → Option Value) → X → X → Bool
is_lower key a b = is_lt (cell_order (key a) (key b))

cells_ranked : IsStrictWeakOrder (λ (a : Option Value) (b : Option Value). is_lt (cell_order a b))
cells_ranked = ranks_by cell_order_total (λ (cell : Option Value). cell)

pub below_first : {X : Type 0} (key : X → Option Value) (xs : List X) → IsSortedBy (is_lower key) xs
    → (cell : Option Value) → IsPartitionedBy (λ x. not (is_ge (cell_order (key x) cell))) xs
below_first key xs up cell i j d le l h =
    let far = sorted_far (is_lower key) (ranks_by cell_order_total key) xs up i j d le l in
    not_up (cell_order (key (get_or xs i d)) cell)
    ∙ first (key (get_or xs i d)) (key (get_or xs j d)) far (sym (not_up (cell_order (key (get_or xs j d)) cell)) ∙ h)
  where
    first : (a b : Option Value) → is_lt (cell_order b a) ≡ false → is_lt (cell_order b cell) ≡ true
        → is_lt (cell_order a cell) ≡ true
    first a b f here = by_test (is_lt (cell_order a cell)) refl
      where
        by_test : (t : Bool) → is_lt (cell_order a cell) ≡ t → t ≡ true
        by_test true e = refl
        by_test false e = absurd (false≢true (sym (cells_ranked.chain b a cell f e) ∙ here))

pub up_to_first : {X : Type 0} (key : X → Option Value) (xs : List X) → IsSortedBy (is_lower key) xs
    → (cell : Option Value) → IsPartitionedBy (λ x. is_le (cell_order (key x) cell)) xs
up_to_first key xs up cell i j d le l h =
    let far = sorted_far (is_lower key) (ranks_by cell_order_total key) xs up i j d le l in
    turned (key (get_or xs i d))
    ∙ ap not
    (cells_ranked.chain cell (key (get_or xs j d)) (key (get_or xs i d))
    (is_not (is_lt (cell_order cell (key (get_or xs j d)))) (sym (turned (key (get_or xs j d))) ∙ h)) far)
  where
    turned : (a : Option Value) → is_le (cell_order a cell) ≡ not (is_lt (cell_order cell a))
    turned a =
        up_to (cell_order a cell)
        ∙ ap (λ (o : Ordering). not (is_lt o)) (sym (cell_order_total.antisymm cell a))

-- what lies from the end of those below to the end of those not above has the key
pub equal_run : {X : Type 0} (key : X → Option Value) (xs : List X) (value : Value) (first end : ℕ)
    → Cut (λ x. not (is_ge (cell_order (key x) (Some value)))) xs first
    → Cut (λ x. is_le (cell_order (key x) (Some value))) xs end
    → slice_range xs first (max end first) ≡ filter (λ x. compares is_eq (Some value) (key x)) xs
equal_run key xs value first end a b =
    between_cuts (λ x. is_ge (cell_order (key x) (Some value))) (λ x. is_le (cell_order (key x) (Some value))) xs first
    end a b
    ∙ filter_agree (λ x. is_ge (cell_order (key x) (Some value)) && is_le (cell_order (key x) (Some value)))
    (λ x. compares is_eq (Some value) (key x)) (λ x. equal_within value (key x)) xs

-- What holds of a list of keys holds of what has these keys.

to_keys : {Y : Type 0} (g : Y → Option Value) (ys : List Y) → IsSortedBy (is_lower g) ys
    → IsSortedBy (λ a b. is_lt (cell_order a b)) (map g ys)
to_keys g [] s k d low inside = absurd (omega (arith, inside))
to_keys g (y ∷ ys) s k d low inside =
    let short : k + 1 < length (y ∷ ys) = rw length-map at inside in
    rw (get_or-map g (y ∷ ys) (k + 1) y d short, get_or-map g (y ∷ ys) k y d (omega arith)) (s k y low short)

from_keys : {X : Type 0} (f : X → Option Value) (xs : List X) → IsSortedBy (λ a b. is_lt (cell_order a b)) (map f xs)
    → IsSortedBy (is_lower f) xs
from_keys f xs s k d low inside =
    let short : k + 1 < length (map f xs) = rw length-map inside in
    rw (get_or-map f xs (k + 1) d (f d) inside, get_or-map f xs k d (f d) (omega arith)) at (s k (f d) low short)

pub sorted_keys : {X Y : Type 0} (f : X → Option Value) (g : Y → Option Value) (xs : List X) (ys : List Y)
    → map f xs ≡ map g ys → IsSortedBy (is_lower g) ys → IsSortedBy (is_lower f) xs
sorted_keys f g xs ys e s =
    from_keys f xs (subst (IsSortedBy (λ a b. is_lt (cell_order a b))) (sym e) (to_keys g ys s))

pub cut_keys : {X Y : Type 0} (p : Option Value → Bool) (f : X → Option Value) (g : Y → Option Value) (xs : List X)
    (ys : List Y) (k : ℕ)
    → map f xs ≡ map g ys → Cut (λ x. p (f x)) xs k → Cut (λ y. p (g y)) ys k
cut_keys p f g [] [] zero e c = tt
cut_keys p f g [] [] (suc k) e c = absurd c
cut_keys p f g [] (y ∷ ys) k e c = cc
cut_keys p f g (x ∷ xs) [] k e c = cc
cut_keys p f g (x ∷ xs) (y ∷ ys) zero e c =
    let head : f x ≡ g y = cc in
    (ap p (sym head) ∙ c.0, cut_keys p f g xs ys zero (cc) c.1)
cut_keys p f g (x ∷ xs) (y ∷ ys) (suc k) e c =
    let head : f x ≡ g y = cc in
    (ap p (sym head) ∙ c.0, cut_keys p f g xs ys k (cc) c.1)

-- so what lies between the ends of a key's run in the list of keys has this key
pub keyed_run : {X Y : Type 0} (f : X → Option Value) (g : Y → Option Value) (xs : List X) (ys : List Y)
    → map f xs ≡ map g ys → (cell : Option Value) (value : Value) → cell ≡ Some value → (first end n : ℕ)
    → Cut (λ x. not (is_ge (cell_order (f x) cell))) xs first → Cut (λ x. is_le (cell_order (f x) cell)) xs end
    → n ≡ max end first → slice_range ys first n ≡ filter (λ y. compares is_eq cell (g y)) ys
keyed_run f g xs ys e None value is first end n a b m = cc
keyed_run f g xs ys e (Some value) other is first end n a b m =
    rw m
    (equal_run g ys value first end
    (cut_keys (λ cell. not (is_ge (cell_order cell (Some value)))) f g xs ys first e a)
    (cut_keys (λ cell. is_le (cell_order cell (Some value))) f g xs ys end e b))

-- a cell between a value and itself, both ends taken, equals it
pub closed_within : (value : Value) (cell : Option Value)
    → (compares is_ge cell (Some value) && compares is_le cell (Some value)) ≡ compares is_eq (Some value) cell
closed_within (Int a) None = refl
closed_within (Int a) (Some (Int b)) = sym (same_value (Int a) (Int b))
closed_within (Int a) (Some (Text b)) = refl
closed_within (Text a) None = refl
closed_within (Text a) (Some (Int b)) = refl
closed_within (Text a) (Some (Text b)) = sym (same_value (Text a) (Text b))
