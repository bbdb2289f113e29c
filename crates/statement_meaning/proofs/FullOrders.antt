-- The orders of combinations: by row numbers, by keys, and by both. A stable sort by keys of a list in the order of
-- row numbers is one sort by both.
use Rattle.std.proofs.Common.{ℕ, ◌≡◌, Bool, true, false, List, [], ◌∷◌, cond, sym, ◌∙◌, refl}
use Rattle.std.specs.Prelude.{All, IsPermutation, IsSortedBy}
use Rattle.std.specs.Cmp.{IsTotalOrder, IsStrictWeakOrder, nat_cmp_total, back_total}
use Rattle.std.specs.Cmp.Lexicographic.{slice_cmp, lists_total}
use Rattle.std.specs.declared.cmp.Ordering.{Ordering}
use Rattle.std.specs.declared.cmp.Ordering.TheVariants.{Less, Equal, Greater}
use Rattle.std.specs.Ordering.{is_lt, nat_cmp, ordering_then, ordering_reverse}
use Rattle.std.proofs.lemmas.Bool.{false≢true}
use Rattle.std.proofs.lemmas.Cmp.{then_total, on_total}
use Rattle.std.proofs.lemmas.List.Elements.{All-nil, All-cons, All-head, All-tail}
use Rattle.std.proofs.lemmas.List.Sorted.{ranks_by}
use Rattle.std.proofs.lemmas.Map.Lookups.{exact_bytes}
use Rattle.row_values.specs.declared.values.Value.{Value}
use Rattle.row_values.specs.declared.statement.OrderKey.{OrderKey}
use Rattle.statement_meaning.specs.FullOrder.{full_order, is_earlier}
use Rattle.statement_meaning.specs.Meaning.{cell_of, column_order, key_order, keys_order, is_before, is_lower}
use Rattle.statement_meaning.specs.PartialCombinations.{is_same}
use Rattle.row_values.specs.Sorting.{put_in, in_order, Rises}
use Rattle.row_values.proofs.Counting.{exact_lists}
use Rattle.row_values.proofs.TotalOrders.{cell_order_total}
use Rattle.row_values.proofs.InOrder.{IsFullOrder, full_order_from, all_put, all_in_order, rises_in_order}
use Rattle.row_values.proofs.InOrder.{risen_is_sorted, times_in_order, sorted_is}

equal_total : IsTotalOrder (λ (a : List ℕ) (b : List ℕ). Equal)
equal_total = record { antisymm = λ a b. refl; trans = λ a b c h k. h; congr = λ a b c h. refl }

key_total : (tables : List (List (List Value))) (key : OrderKey) → IsTotalOrder (key_order tables key)
key_total tables key = by_way key.descending
  where
    up : IsTotalOrder (column_order tables key.at)
    up = on_total (λ (c : List ℕ). cell_of tables c key.at) cell_order_total

    by_way : (descending : Bool)
        → IsTotalOrder (λ (a : List ℕ) (b : List ℕ). cond descending (column_order tables key.at b a)
        (column_order tables key.at a b))
    by_way true = back_total up
    by_way false = up

-- the keys give a total order, and with the row numbers one in which only equal combinations tie
pub keys_total : (tables : List (List (List Value))) (keys : List OrderKey) → IsTotalOrder (keys_order tables keys)
keys_total tables [] = equal_total
keys_total tables (key ∷ keys) = then_total (key_total tables key) (keys_total tables keys)

pub keys_ranked : (tables : List (List (List Value))) (keys : List OrderKey) → IsStrictWeakOrder (is_before tables keys)
keys_ranked tables keys = ranks_by (keys_total tables keys) (λ (c : List ℕ). c)

pub numbers_total : IsTotalOrder (λ (a : List ℕ) (b : List ℕ). slice_cmp nat_cmp a b)
numbers_total = lists_total nat_cmp_total

pub lower_full : IsFullOrder is_lower
lower_full = full_order_from (λ (a : List ℕ) (b : List ℕ). slice_cmp nat_cmp a b) numbers_total exact_bytes

pub full_total : (tables : List (List (List Value))) (keys : List OrderKey) → IsTotalOrder (full_order tables keys)
full_total tables keys = then_total (keys_total tables keys) numbers_total

last_equal : (o n : Ordering) → ordering_then o n ≡ Equal → n ≡ Equal
last_equal Less n e = cc
last_equal Equal n e = e
last_equal Greater n e = cc

pub earlier_full : (tables : List (List (List Value))) (keys : List OrderKey) → IsFullOrder (is_earlier tables keys)
earlier_full tables keys =
    full_order_from (full_order tables keys) (full_total tables keys)
    (λ a b e. exact_bytes a b (last_equal (keys_order tables keys a b) (slice_cmp nat_cmp a b) e))

-- not before by the keys, and not lower
not_both : (o n : Ordering) → is_lt o ≡ false → is_lt n ≡ false → is_lt (ordering_then o n) ≡ false
not_both Less n h k = h
not_both Equal n h k = k
not_both Greater n h k = refl

turned : (x y n : Ordering) → x ≡ ordering_reverse y → is_lt y ≡ true → is_lt (ordering_then x n) ≡ false
turned Less Less n e h = cc
turned Equal Less n e h = cc
turned Greater y n e h = refl
turned x Equal n e h = absurd (false≢true h)
turned x Greater n e h = absurd (false≢true h)

put_stable : (tables : List (List (List Value))) (keys : List OrderKey) (x : List ℕ) (ys : List (List ℕ))
    → Rises (is_earlier tables keys) ys → All (λ z. is_lower z x ≡ false) ys
    → Rises (is_earlier tables keys) (put_in (is_before tables keys) x ys)
put_stable tables keys x [] r a = (All-nil (λ z. is_earlier tables keys z x ≡ false), tt)
put_stable tables keys x (y ∷ ys) r a =
    by_test (is_before tables keys y x) refl
    (put_stable tables keys x ys r.1 (All-tail (λ z. is_lower z x ≡ false) y ys a))
  where
    by_test : (b : Bool) → is_before tables keys y x ≡ b
        → Rises (is_earlier tables keys) (put_in (is_before tables keys) x ys)
        → Rises (is_earlier tables keys) (cond b (y ∷ put_in (is_before tables keys) x ys) (x ∷ (y ∷ ys)))
    by_test true e more = (
      all_put (is_before tables keys) (λ z. is_earlier tables keys z y
          ≡ false) x ys (turned (keys_order tables keys x y) (keys_order tables keys y x) (slice_cmp nat_cmp x y)
          ((keys_total tables keys).antisymm x y) e) r.0,
      more,
    )
    by_test false e more =
        let first : is_earlier tables keys y x ≡ false =
        not_both (keys_order tables keys y x) (slice_cmp nat_cmp y x) e (All-head (λ z. is_lower z x
        ≡ false) y ys a) in (
          All-cons (λ z. is_earlier tables keys z x
              ≡ false) y ys first (λ i d h. (earlier_full tables keys).ranks.chain _ y x (r.0 i d h) first),
          r,
        )

pub rises_stable : (tables : List (List (List Value))) (keys : List OrderKey) (xs : List (List ℕ)) → Rises is_lower xs
    → Rises (is_earlier tables keys) (in_order (is_before tables keys) xs)
rises_stable tables keys [] r = tt
rises_stable tables keys (x ∷ xs) r =
    put_stable tables keys x (in_order (is_before tables keys) xs) (rises_stable tables keys xs r.1)
    (all_in_order (is_before tables keys) (λ z. is_lower z x ≡ false) xs r.0)

-- first by row numbers, then stably by keys: the same as once by both
pub one_sort : (tables : List (List (List Value))) (keys : List OrderKey) (cs : List (List ℕ))
    → in_order (is_before tables keys) (in_order is_lower cs) ≡ in_order (is_earlier tables keys) cs
one_sort tables keys cs =
    risen_is_sorted is_same exact_lists (is_earlier tables keys) (earlier_full tables keys) cs
    (in_order (is_before tables keys) (in_order is_lower cs))
    (λ c. times_in_order is_same (is_before tables keys) (in_order is_lower cs) c
    ∙ times_in_order is_same is_lower cs c)
    (rises_stable tables keys (in_order is_lower cs) (rises_in_order is_lower lower_full.ranks cs))

-- so std's sort by both, stable or not, gives the stable order of the meaning
pub sorted_by_both : (tables : List (List (List Value))) (keys : List OrderKey) (cs ds : List (List ℕ))
    → IsPermutation cs ds → IsSortedBy (is_earlier tables keys) ds
    → ds ≡ in_order (is_before tables keys) (in_order is_lower cs)
sorted_by_both tables keys cs ds p s =
    sorted_is is_same exact_lists (is_earlier tables keys) (earlier_full tables keys) cs ds p s
    ∙ sym (one_sort tables keys cs)
