-- What a group shows doesn't depend on the order of its members, nor on which of them is taken first.
use Rattle.std.proofs.Common.{ℕ, ◌≡◌, ◌≤◌, ◌+◌, ◌++◌, suc, ℤ, pos, ◌+ℤ◌, Bool, true, false, ◌&&◌, ◌||◌, ◌==◌, List, []}
use Rattle.std.proofs.Common.{◌∷◌, length, get_or, map, cond, ap, ap₂, sym, ◌∙◌, refl, arith, subst}
use Rattle.std.specs.Prelude.{All, IsTrue, Option, Some, None, slice_get}
use Rattle.std.specs.Ordering.{is_lt, ordering_then}
use Rattle.std.specs.declared.cmp.Ordering.{Ordering}
use Rattle.std.specs.declared.cmp.Ordering.TheVariants.{Less, Equal, Greater}
use Rattle.std.proofs.lemmas.Bool.{false≢true, eqb-true, and_parts}
use Rattle.std.proofs.lemmas.Int.{ints}
use Rattle.std.proofs.lemmas.List.{length_push}
use Rattle.std.proofs.lemmas.List.Elements.{All-head, All-tail}
use Rattle.std.proofs.lemmas.Map.Lookups.{exact_signed, exact_bytes}
use Rattle.row_values.specs.Statements.{is_among, is_grouped_item}
use Rattle.row_values.specs.declared.values.Value.{Value}
use Rattle.row_values.specs.declared.values.Value.TheVariants.{Int, Text}
use Rattle.row_values.specs.declared.statement.ColRef.{ColRef}
use Rattle.row_values.specs.declared.statement.Item.{Item}
use Rattle.row_values.specs.declared.statement.Item.TheVariants.{Column, CountAll, Sum, Min, Max}
use Rattle.statement_meaning.specs.Combinations.{row_at}
use Rattle.row_values.specs.Orders.{value_order, cell_order}
use Rattle.statement_meaning.specs.Meaning.{Shown, Total, cell_of, column_order, keys_order, is_lower, group_keys}
use Rattle.statement_meaning.specs.Meaning.{is_same_group, number_in, sum_of, shown_cell, shown_item, shown_row}
use Rattle.statement_meaning.specs.PartialCombinations.{is_same}
use Rattle.row_values.specs.Sorting.{put_in, in_order, least_of, times}
use Rattle.row_values.proofs.Counting.{exact_lists, HaveSame}
use Rattle.row_values.proofs.TotalOrders.{cell_order_total}
use Rattle.statement_meaning.proofs.FullOrders.{lower_full}
use Rattle.row_values.proofs.InOrder.{equal_of, IsFullOrder, full_order_from, in_order_same}

-- The least of several.

abbrev lesser : {X : Type 0} → (X → X → Bool) → X → X → X
lesser lt x y = cond (lt y x) y x

lesser_swap : {X : Type 0} (lt : X → X → Bool) → IsFullOrder lt → (x y z : X)
    → lesser lt (lesser lt x y) z ≡ lesser lt (lesser lt x z) y
lesser_swap lt o x y z = by_tests (lt y x) refl (lt z x) refl
  where
    both : (b : Bool) → lt z y ≡ b → (k : Bool) → lt y z ≡ k → cond b z y ≡ cond k y z
    both true e k f = sym (ap (λ (k : Bool). cond k y z) (sym f ∙ o.ranks.one_way z y e))
    both false e true f = refl
    both false e false f = o.ties y z f e

    by_tests : (a : Bool) → lt y x ≡ a → (b : Bool) → lt z x ≡ b → lesser lt (cond a y x) z ≡ lesser lt (cond b z x) y
    by_tests true e true f = both (lt z y) refl (lt y z) refl
    by_tests true e false f =
        ap (λ (k : Bool). cond k z y) (o.ranks.chain z x y f (o.ranks.one_way y x e))
        ∙ sym (ap (λ (k : Bool). cond k y x) e)
    by_tests false e true f =
        ap (λ (k : Bool). cond k z x) f
        ∙ sym (ap (λ (k : Bool). cond k y z) (o.ranks.chain y x z e (o.ranks.one_way z x f)))
    by_tests false e false f = ap (λ (k : Bool). cond k z x) f ∙ sym (ap (λ (k : Bool). cond k y x) e)

lesser_again : {X : Type 0} (lt : X → X → Bool) (x y : X) → lesser lt (lesser lt x y) y ≡ lesser lt x y
lesser_again lt x y = by_test (lt y x) refl
  where
    same_both : {X : Type 0} (b : Bool) (y : X) → cond b y y ≡ y
    same_both true y = refl
    same_both false y = refl

    by_test : (b : Bool) → lt y x ≡ b → lesser lt (cond b y x) y ≡ cond b y x
    by_test true e = same_both (lt y y) y
    by_test false e = ap (λ (k : Bool). cond k y x) e

lesser_comm : {X : Type 0} (lt : X → X → Bool) → IsFullOrder lt → (x y : X) → lesser lt x y ≡ lesser lt y x
lesser_comm lt o x y = by_tests (lt y x) refl (lt x y) refl
  where
    by_tests : (a : Bool) → lt y x ≡ a → (b : Bool) → lt x y ≡ b → cond a y x ≡ cond b x y
    by_tests true e true f = absurd (false≢true (sym (o.ranks.one_way y x e) ∙ f))
    by_tests true e false f = refl
    by_tests false e true f = refl
    by_tests false e false f = o.ties x y f e

least_put : {X Y : Type 0} (lt : Y → Y → Bool) → IsFullOrder lt
    → (f : X → Y) (l : X → X → Bool) (x : Y) (y : X) (ys : List X)
    → least_of lt x (map f (put_in l y ys)) ≡ least_of lt x (map f (y ∷ ys))
least_put lt o f l x y [] = refl
least_put lt o f l x y (z ∷ zs) = by_test (l z y) (least_put lt o f l (lesser lt x (f z)) y zs)
  where
    by_test : (b : Bool)
        → least_of lt (lesser lt x (f z)) (map f (put_in l y zs)) ≡ least_of lt (lesser lt x (f z)) (map f (y ∷ zs))
        → least_of lt x (map f (cond b (z ∷ put_in l y zs) (y ∷ (z ∷ zs)))) ≡ least_of lt x (map f (y ∷ (z ∷ zs)))
    by_test true more = more ∙ ap (λ w. least_of lt w (map f zs)) (lesser_swap lt o x (f z) (f y))
    by_test false more = refl

least_in_order : {X Y : Type 0} (lt : Y → Y → Bool) → IsFullOrder lt
    → (f : X → Y) (l : X → X → Bool) (x : Y) (ys : List X)
    → least_of lt x (map f (in_order l ys)) ≡ least_of lt x (map f ys)
least_in_order lt o f l x [] = refl
least_in_order lt o f l x (y ∷ ys) =
    least_put lt o f l x y (in_order l ys) ∙ least_in_order lt o f l (lesser lt x (f y)) ys

-- a member that is taken first changes nothing
least_with : {X : Type 0} (lt : X → X → Bool) → IsFullOrder lt
    → (f : List ℕ → X) (x : X) (c : List ℕ) (ms : List (List ℕ)) → 1 ≤ times is_same c ms
    → least_of lt (lesser lt x (f c)) (map f ms) ≡ least_of lt x (map f ms)
least_with lt o f x c [] h = absurd (omega (arith, h))
least_with lt o f x c (m ∷ ms) h = by_test (is_same c m) refl h (λ k. least_with lt o f (lesser lt x (f m)) c ms k)
  where
    by_test : (b : Bool) → is_same c m ≡ b → 1 ≤ cond b (suc (times is_same c ms)) (times is_same c ms)
        → (1 ≤ times is_same c ms → least_of lt (lesser lt (lesser lt x (f m)) (f c)) (map f ms)
        ≡ least_of lt (lesser lt x (f m)) (map f ms))
        → least_of lt (lesser lt (lesser lt x (f c)) (f m)) (map f ms) ≡ least_of lt (lesser lt x (f m)) (map f ms)
    by_test true e k more =
        let one : f c ≡ f m = ap f (exact_lists.one c m e) in
        ap (λ w. least_of lt w (map f ms)) (ap (λ y. lesser lt (lesser lt x y) (f m)) one ∙ lesser_again lt x (f m))
    by_test false e k more = ap (λ w. least_of lt w (map f ms)) (lesser_swap lt o x (f c) (f m)) ∙ more k

least_from : {X : Type 0} (lt : X → X → Bool) → IsFullOrder lt → (f : List ℕ → X) (c d : List ℕ) (ms : List (List ℕ))
    → 1 ≤ times is_same c ms → 1 ≤ times is_same d ms → least_of lt (f c) (map f ms) ≡ least_of lt (f d) (map f ms)
least_from lt o f c d ms h k =
    sym (least_with lt o f (f c) d ms k)
    ∙ (ap (λ w. least_of lt w (map f ms)) (lesser_comm lt o (f c) (f d)) ∙ least_with lt o f (f d) c ms h)

-- the least over members that start with any of them, in any order
pub least_any : {X : Type 0} (lt : X → X → Bool) → IsFullOrder lt
    → (f : List ℕ → X) (c d : List ℕ) (ms ns : List (List ℕ)) → HaveSame is_same ms ns → 1 ≤ times is_same c ms
    → 1 ≤ times is_same d ns → least_of lt (f c) (map f ms) ≡ least_of lt (f d) (map f ns)
least_any lt o f c d ms ns same h k =
    least_from lt o f c d ms h (subst (λ (n : ℕ). 1 ≤ n) (sym (same d)) k)
    ∙ (sym (least_in_order lt o f is_lower (f d) ms)
    ∙ (ap (λ (zs : List (List ℕ)). least_of lt (f d) (map f zs))
    (in_order_same is_same exact_lists is_lower lower_full ms ns same)
    ∙ least_in_order lt o f is_lower (f d) ns))

-- The count and the sum.

length-put : {X : Type 0} (l : X → X → Bool) (x : X) (ys : List X) → length (put_in l x ys) ≡ suc (length ys)
length-put l x [] = refl
length-put l x (y ∷ ys) = by_test (l y x) (length-put l x ys)
  where
    by_test : (b : Bool) → length (put_in l x ys) ≡ suc (length ys)
        → length (cond b (y ∷ put_in l x ys) (x ∷ (y ∷ ys))) ≡ suc (suc (length ys))
    by_test true more = ap suc more
    by_test false more = refl

length-in_order : {X : Type 0} (l : X → X → Bool) (xs : List X) → length (in_order l xs) ≡ length xs
length-in_order l [] = refl
length-in_order l (x ∷ xs) = length-put l x (in_order l xs) ∙ ap suc (length-in_order l xs)

pub count_any : (ms ns : List (List ℕ)) → HaveSame is_same ms ns → length ms ≡ length ns
count_any ms ns same =
    sym (length-in_order is_lower ms)
    ∙ (ap length (in_order_same is_same exact_lists is_lower lower_full ms ns same) ∙ length-in_order is_lower ns)

swap_sum : (a b s : ℤ) → (a +ℤ (b +ℤ s)) ≡ (b +ℤ (a +ℤ s))
swap_sum a b s = omega (arith, ints)

sum_put : {X : Type 0} (f : X → Option Value) (l : X → X → Bool) (x : X) (ys : List X)
    → sum_of (map f (put_in l x ys)) ≡ sum_of (map f (x ∷ ys))
sum_put f l x [] = refl
sum_put f l x (y ∷ ys) = by_test (l y x) (sum_put f l x ys)
  where
    by_test : (b : Bool) → sum_of (map f (put_in l x ys)) ≡ sum_of (map f (x ∷ ys))
        → sum_of (map f (cond b (y ∷ put_in l x ys) (x ∷ (y ∷ ys)))) ≡ sum_of (map f (x ∷ (y ∷ ys)))
    by_test true more =
        ap (λ (n : ℤ). number_in (f y) +ℤ n) more ∙ swap_sum (number_in (f y)) (number_in (f x)) (sum_of (map f ys))
    by_test false more = refl

sum_in_order : {X : Type 0} (f : X → Option Value) (l : X → X → Bool) (xs : List X)
    → sum_of (map f (in_order l xs)) ≡ sum_of (map f xs)
sum_in_order f l [] = refl
sum_in_order f l (x ∷ xs) = sum_put f l x (in_order l xs) ∙ ap (λ (n : ℤ). number_in (f x) +ℤ n) (sum_in_order f l xs)

pub sum_any : (f : List ℕ → Option Value) (ms ns : List (List ℕ)) → HaveSame is_same ms ns
    → sum_of (map f ms) ≡ sum_of (map f ns)
sum_any f ms ns same =
    sym (sum_in_order f is_lower ms)
    ∙ (ap (λ (zs : List (List ℕ)). sum_of (map f zs)) (in_order_same is_same exact_lists is_lower lower_full ms ns same)
    ∙ sum_in_order f is_lower ns)

-- Cells of one group.

-- cells that tie are one
pub cell_ties : (a b : Option Value) → cell_order a b ≡ Equal → a ≡ b
cell_ties None None h = refl
cell_ties None (Some b) h = cc
cell_ties (Some a) None h = cc
cell_ties (Some a) (Some b) h = ap (λ v. Some v) (value_ties a b h)
  where
    value_ties : (a b : Value) → value_order a b ≡ Equal → a ≡ b
    value_ties (Int a) (Int b) h = ap (λ n. Int n) (exact_signed a b h)
    value_ties (Text a) (Text b) h = ap (λ n. Text n) (exact_bytes a b h)
    value_ties (Int a) (Text b) h = cc
    value_ties (Text a) (Int b) h = cc

pub cells_full : IsFullOrder (λ a b. is_lt (cell_order a b))
cells_full = full_order_from cell_order cell_order_total cell_ties

pub cells_full_back : IsFullOrder (λ a b. is_lt (cell_order b a))
cells_full_back = record {
  ranks =
      record
      { one_way = λ a b h. cells_full.ranks.one_way b a h; chain = λ a b c h k. cells_full.ranks.chain c b a k h };
  ties = λ a b h k. cells_full.ties a b k h;
}

then_first : (x y : Ordering) → ordering_then x y ≡ Equal → x ≡ Equal
then_first Less y h = h
then_first Equal y h = refl
then_first Greater y h = h

then_second : (x y : Ordering) → ordering_then x y ≡ Equal → y ≡ Equal
then_second Less y h = cc
then_second Equal y h = h
then_second Greater y h = cc

same_column : (tables : List (List (List Value))) (x y : ColRef) (c d : List ℕ) → x.place ≡ y.place
    → x.column ≡ y.column → column_order tables x c d ≡ column_order tables y c d
same_column tables x y c d p q =
    ap
    (λ (place : ℕ). cell_order (slice_get (row_at tables place (get_or c place 0)) x.column)
    (slice_get (row_at tables place (get_or d place 0)) x.column))
    p
    ∙ ap (λ (column : ℕ). cell_order (slice_get (row_at tables y.place (get_or c y.place 0)) column)
    (slice_get (row_at tables y.place (get_or d y.place 0)) column)) q

-- members of one group tie in each GROUP BY column
pub group_ties : (tables : List (List (List Value))) (groups : List ColRef) (at : ColRef) (c d : List ℕ)
    → is_among groups at ≡ true → keys_order tables (group_keys groups) c d ≡ Equal → column_order tables at c d ≡ Equal
group_ties tables [] at c d m h = absurd (false≢true m)
group_ties tables (group ∷ groups) at c d m h =
    by_place ((group.place == at.place) && (group.column == at.column)) refl m
    (λ k. group_ties tables groups at c d k (then_second (column_order tables group c d)
    (keys_order tables (group_keys groups) c d) h))
  where
    by_place : (b : Bool) → ((group.place == at.place) && (group.column == at.column)) ≡ b
        → (b || is_among groups at) ≡ true → (is_among groups at ≡ true → column_order tables at c d ≡ Equal)
        → column_order tables at c d ≡ Equal
    by_place true e k more =
        let both = and_parts (group.place == at.place) (group.column == at.column) e in
        sym (same_column tables group at c d (eqb-true group.place at.place both.0)
        (eqb-true group.column at.column both.1))
        ∙ then_first (column_order tables group c d) (keys_order tables (group_keys groups) c d) h
    by_place false e k more = more k

-- so they have one cell there
pub group_cells : (tables : List (List (List Value))) (groups : List ColRef) (at : ColRef) (c d : List ℕ)
    → is_among groups at ≡ true → is_same_group tables groups c d ≡ true → cell_of tables c at ≡ cell_of tables d at
group_cells tables groups at c d m h =
    cell_ties (cell_of tables c at) (cell_of tables d at)
    (group_ties tables groups at c d m (equal_of (keys_order tables (group_keys groups) c d) h))

-- What an item shows is the same of any member first, and of the members in any order.
pub item_any : (tables : List (List (List Value))) (groups : List ColRef) (item : Item)
    → is_grouped_item groups item ≡ true → (c d : List ℕ) (ms ns : List (List ℕ))
    → is_same_group tables groups c d ≡ true → HaveSame is_same ms ns → 1 ≤ times is_same c ms → 1 ≤ times is_same d ns
    → shown_item tables c ms item ≡ shown_item tables d ns item
item_any tables groups (Column at) m c d ms ns g same h k = ap shown_cell (group_cells tables groups at c d m g)
item_any tables groups CountAll m c d ms ns g same h k = ap (λ (n : ℕ). Total (pos n)) (count_any ms ns same)
item_any tables groups (Sum at) m c d ms ns g same h k =
    ap (λ (n : ℤ). Total n) (sum_any (λ member. cell_of tables member at) ms ns same)
item_any tables groups (Min at) m c d ms ns g same h k =
    ap shown_cell
    (least_any (λ a b. is_lt (cell_order a b)) cells_full (λ member. cell_of tables member at) c d ms ns same h k)
item_any tables groups (Max at) m c d ms ns g same h k =
    ap shown_cell
    (least_any (λ a b. is_lt (cell_order b a)) cells_full_back (λ member. cell_of tables member at) c d ms ns same h k)

pub row_any : (tables : List (List (List Value))) (groups : List ColRef) (items : List Item)
    → All (λ item. IsTrue (is_grouped_item groups item)) items → (c d : List ℕ) (ms ns : List (List ℕ))
    → is_same_group tables groups c d ≡ true → HaveSame is_same ms ns → 1 ≤ times is_same c ms → 1 ≤ times is_same d ns
    → shown_row tables items ms c ≡ shown_row tables items ns d
row_any tables groups [] a c d ms ns g same h k = refl
row_any tables groups (item ∷ items) a c d ms ns g same h k =
    ap₂ (λ (shown : Shown) (rest : List Shown). shown ∷ rest)
    (item_any tables groups item (All-head (λ item. IsTrue (is_grouped_item groups item)) item items a) c d ms ns g same
    h k)
    (row_any tables groups items (All-tail (λ item. IsTrue (is_grouped_item groups item)) item items a) c d ms ns g same
    h k)

-- What an accumulator does at one more member: the count, the sum, and the least or greatest so far.

pub count_more : (ms : List (List ℕ)) (m : List ℕ) → length (ms ++ m ∷ []) ≡ length ms + 1
count_more ms m = length_push ms m

pub sum_more : (cells : List (Option Value)) (cell : Option Value)
    → sum_of (cells ++ cell ∷ []) ≡ (sum_of cells +ℤ number_in cell)
sum_more [] cell = plus_zero (number_in cell)
  where
    plus_zero : (n : ℤ) → (n +ℤ pos 0) ≡ (pos 0 +ℤ n)
    plus_zero n = omega (arith, ints)
sum_more (first ∷ cells) cell =
    ap (λ (n : ℤ). number_in first +ℤ n) (sum_more cells cell)
    ∙ regroup (number_in first) (sum_of cells) (number_in cell)
  where
    regroup : (a b c : ℤ) → (a +ℤ (b +ℤ c)) ≡ ((a +ℤ b) +ℤ c)
    regroup a b c = omega (arith, ints)

pub least_more : {X : Type 0} (lt : X → X → Bool) (x : X) (ys : List X) (y : X)
    → least_of lt x (ys ++ y ∷ []) ≡ cond (lt y (least_of lt x ys)) y (least_of lt x ys)
least_more lt x [] y = refl
least_more lt x (z ∷ zs) y = least_more lt (lesser lt x z) zs y

-- the first member stands among the members, so that it may be what the least and the greatest start with
pub least_start : {X : Type 0} (lt : X → X → Bool) (x : X) (ys : List X) → least_of lt x (x ∷ ys) ≡ least_of lt x ys
least_start lt x ys = ap (λ w. least_of lt w ys) (same_both (lt x x) x)
  where
    same_both : {X : Type 0} (b : Bool) (y : X) → cond b y y ≡ y
    same_both true y = refl
    same_both false y = refl
