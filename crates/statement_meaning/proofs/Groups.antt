-- The rows of groups, from a list in any order: by heads of the classes, and by runs of a list in order of the keys.
use Rattle.std.proofs.Common.{ℕ, ◌≡◌, ◌<◌, ◌≤◌, ◌++◌, suc, min, Bool, true, false, List, [], ◌∷◌, length, map, cond, ap}
use Rattle.std.proofs.Common.{ap₂, sym, ◌∙◌, refl, arith, subst}
use Rattle.std.specs.Prelude.{All, filter, IsTrue, IsPermutation}
use Rattle.std.specs.Cmp.{IsEquivalence}
use Rattle.std.specs.Ordering.{is_eq, ordering_then}
use Rattle.std.specs.declared.cmp.Ordering.{Ordering}
use Rattle.std.specs.declared.cmp.Ordering.TheVariants.{Less, Equal, Greater}
use Rattle.std.proofs.lemmas.Cmp.{eq_by_cmp_equiv}
use Rattle.std.proofs.lemmas.List.Sorted.{IsPermutation-map, All-permutation}
use Rattle.std.proofs.lemmas.List.Elements.{All-nil, All-cons, All-head, All-tail, All-weaker, filter_agree}
use Rattle.row_values.specs.Statements.{Statement, IsSoundQuery, AreGrouped, is_among, is_grouped_item}
use Rattle.row_values.specs.declared.values.Value.{Value}
use Rattle.row_values.specs.declared.statement.ColRef.{ColRef}
use Rattle.row_values.specs.declared.statement.Item.{Item}
use Rattle.row_values.specs.declared.statement.OrderKey.{OrderKey}
use Rattle.statement_meaning.specs.FullOrder.{is_earlier}
use Rattle.statement_meaning.specs.Groups.{first_member, group_row}
use Rattle.statement_meaning.specs.Meaning.{Shown, key_order, keys_order, is_before, is_lower, group_keys}
use Rattle.statement_meaning.specs.Meaning.{is_same_group, shown_row, plain_rows, group_rows, rows_shown, shape_of}
use Rattle.statement_meaning.specs.PartialCombinations.{is_same}
use Rattle.row_values.specs.Sorting.{in_order, Rises, times, heads, runs, classes}
use Rattle.statement_meaning.proofs.AnyOrder.{group_ties, row_any}
use Rattle.row_values.proofs.Counting.{exact_lists, HaveSame, all_by_times, all_of_same, filter_of_same, times-filter}
use Rattle.row_values.proofs.Counting.{same_from_permutation}
use Rattle.statement_meaning.proofs.FullOrders.{keys_total, keys_ranked, lower_full, earlier_full, one_sort}
use Rattle.statement_meaning.proofs.Grouping.{is_first, times_heads, heads_all, heads_rise, runs_are, together_in_order}
use Rattle.statement_meaning.proofs.Grouping.{class_heads, by_class_risen}
use Rattle.statement_meaning.proofs.JoinOrder.{rises_map}
use Rattle.row_values.proofs.InOrder.{equal_of, in_order_same, times_in_order, all_in_order, rises_in_order}
use Rattle.row_values.proofs.InOrder.{risen_is_sorted}

pub same_group_equivalence : (tables : List (List (List Value))) (groups : List ColRef)
    → IsEquivalence (is_same_group tables groups)
same_group_equivalence tables groups = eq_by_cmp_equiv (keys_total tables (group_keys groups))

-- ORDER BY keys that are GROUP BY columns don't split a group.

keys_append : (tables : List (List (List Value))) (keys more : List OrderKey) (c d : List ℕ)
    → keys_order tables (keys ++ more) c d ≡ ordering_then (keys_order tables keys c d) (keys_order tables more c d)
keys_append tables [] more c d = refl
keys_append tables (key ∷ keys) more c d =
    ap (ordering_then (key_order tables key c d)) (keys_append tables keys more c d)
    ∙ regroup (key_order tables key c d) (keys_order tables keys c d) (keys_order tables more c d)
  where
    regroup : (x y z : Ordering) → ordering_then x (ordering_then y z) ≡ ordering_then (ordering_then x y) z
    regroup Less y z = refl
    regroup Equal y z = refl
    regroup Greater y z = refl

keys_tie : (tables : List (List (List Value))) (groups : List ColRef) (keys : List OrderKey)
    → All (λ key. IsTrue (is_among groups key.at)) keys → (c d : List ℕ)
    → keys_order tables (group_keys groups) c d ≡ Equal → keys_order tables (group_keys groups) d c ≡ Equal
    → keys_order tables keys c d ≡ Equal
keys_tie tables groups [] a c d h k = refl
keys_tie tables groups (key ∷ keys) a c d h k =
    let m = All-head (λ key. IsTrue (is_among groups key.at)) key keys a in
    ap (λ (o : Ordering). ordering_then o (keys_order tables keys c d))
    (by_way key.descending (group_ties tables groups key.at d c m k) (group_ties tables groups key.at c d m h))
    ∙ keys_tie tables groups keys (All-tail (λ key. IsTrue (is_among groups key.at)) key keys a) c d h k
  where
    by_way : {x y : Ordering} (b : Bool) → x ≡ Equal → y ≡ Equal → cond b x y ≡ Equal
    by_way true e f = e
    by_way false e f = f

-- so two combinations are of one group where the ORDER BY keys and the GROUP BY columns tie
pub group_by_keys : (tables : List (List (List Value))) (groups : List ColRef) (order : List OrderKey)
    → All (λ key. IsTrue (is_among groups key.at)) order → (c d : List ℕ)
    → is_same_group tables groups c d ≡ is_eq (keys_order tables (order ++ group_keys groups) c d)
group_by_keys tables groups order a c d =
    by_case (keys_order tables (group_keys groups) c d) refl
    ∙ sym (ap is_eq (keys_append tables order (group_keys groups) c d))
  where
    no_tie : (x y : Ordering) → is_eq y ≡ false → is_eq y ≡ is_eq (ordering_then x y)
    no_tie Less y h = h
    no_tie Equal y h = refl
    no_tie Greater y h = h

    by_case : (o : Ordering) → keys_order tables (group_keys groups) c d ≡ o
        → is_eq (keys_order tables (group_keys groups) c d)
        ≡ is_eq (ordering_then (keys_order tables order c d) (keys_order tables (group_keys groups) c d))
    by_case Less e = no_tie (keys_order tables order c d) (keys_order tables (group_keys groups) c d) (ap is_eq e)
    by_case Equal e =
        let back : keys_order tables (group_keys groups) d c ≡ Equal =
        equal_of (keys_order tables (group_keys groups) d c) ((same_group_equivalence tables groups).symm d c
        ∙ ap is_eq e) in
        ap is_eq e
        ∙ sym (ap (λ (o : Ordering). is_eq (ordering_then o (keys_order tables (group_keys groups) c d)))
        (keys_tie tables groups order a c d e back) ∙ ap is_eq e)
    by_case Greater e = no_tie (keys_order tables order c d) (keys_order tables (group_keys groups) c d) (ap is_eq e)

-- Rows of groups.

-- each element of a list stands in it
all_stand : (cs : List (List ℕ)) → All (λ c. 1 ≤ times is_same c cs) cs
all_stand cs = all_by_times is_same exact_lists (λ c. 1 ≤ times is_same c cs) cs (λ c n e. omega (arith, e))

-- and among the members of its own group
all_members : (tables : List (List (List Value))) (groups : List ColRef) (cs : List (List ℕ))
    → All (λ c. 1 ≤ times is_same c (filter (is_same_group tables groups c) cs)) cs
all_members tables groups cs =
    All-weaker (λ c. 1 ≤ times is_same c cs) (λ c. 1 ≤ times is_same c (filter (is_same_group tables groups c) cs))
    (λ c h. subst (λ (n : ℕ). 1 ≤ n)
    (sym (times-filter is_same exact_lists (is_same_group tables groups c) c
    ((same_group_equivalence tables groups).refl c) cs)) h)
    cs (all_stand cs)

-- what is counted by any test is the same of lists with the same elements
same_counts : (test : List ℕ → List ℕ → Bool) (c : List ℕ) (xs ys : List (List ℕ)) → HaveSame is_same xs ys
    → times test c xs ≡ times test c ys
same_counts test c xs ys h =
    sym (times_in_order test is_lower xs c)
    ∙ (ap (times test c) (in_order_same is_same exact_lists is_lower lower_full xs ys h)
    ∙ times_in_order test is_lower ys c)

-- The rows of the groups of a list, from the heads of the classes of any list with the same elements, once these are in
-- order of the keys: so groups may be gathered in any order, and put in order by any sort.
pub groups_by_heads : (tables : List (List (List Value))) (items : List Item) (groups : List ColRef)
    (order : List OrderKey)
    → All (λ item. IsTrue (is_grouped_item groups item)) items → All (λ key. IsTrue (is_among groups key.at)) order →
    (cs ds firsts : List (List ℕ)) → HaveSame is_same cs ds
    → HaveSame is_same (heads (is_same_group tables groups) ds) firsts
    → Rises (is_before tables (order ++ group_keys groups)) firsts →
    group_rows tables items groups order cs
    ≡ map (λ c. shown_row tables items (filter (is_same_group tables groups c) ds) c) firsts
groups_by_heads tables items groups order shown keyed cs ds firsts h k r =
    by_class_risen (keys_order tables (order ++ group_keys groups)) (keys_total tables (order ++ group_keys groups))
    (is_same_group tables groups) (group_by_keys tables groups order keyed)
    (λ c. 1 ≤ times is_same c (filter (is_same_group tables groups c) cs))
    (λ d. 1 ≤ times is_same d (filter (is_same_group tables groups d) ds))
    (λ c. shown_row tables items (filter (is_same_group tables groups c) cs) c)
    (λ d. shown_row tables items (filter (is_same_group tables groups d) ds) d)
    (λ c d p q g. row_any tables groups items shown c d (filter (is_same_group tables groups c) cs)
    (filter (is_same_group tables groups d) ds) g (members c d g) p q)
    (in_order (is_before tables (order ++ group_keys groups)) (heads (is_same_group tables groups) cs)) firsts
    (rises_in_order (is_before tables (order ++ group_keys groups)) (keys_ranked tables (order ++ group_keys groups))
    (heads (is_same_group tables groups) cs))
    r
    counts
    (all_in_order (is_before tables (order ++ group_keys groups))
    (λ c. 1 ≤ times is_same c (filter (is_same_group tables groups c) cs)) (heads (is_same_group tables groups) cs)
    (heads_all (is_same_group tables groups) (λ c. 1 ≤ times is_same c (filter (is_same_group tables groups c) cs))
    cs (all_members tables groups cs)))
    (all_of_same is_same exact_lists (λ d. 1 ≤ times is_same d (filter (is_same_group tables groups d) ds))
    (heads (is_same_group tables groups) ds) firsts k
    (heads_all (is_same_group tables groups) (λ d. 1 ≤ times is_same d (filter (is_same_group tables groups d) ds))
    ds (all_members tables groups ds)))
  where
    equivalence : IsEquivalence (is_same_group tables groups)
    equivalence = same_group_equivalence tables groups

    members : (c d : List ℕ) → is_same_group tables groups c d ≡ true
        → HaveSame is_same (filter (is_same_group tables groups c) cs) (filter (is_same_group tables groups d) ds)
    members c d g m =
        filter_of_same is_same exact_lists (is_same_group tables groups c) cs ds h m
        ∙ ap (times is_same m) (filter_agree (is_same_group tables groups c) (is_same_group tables groups d)
        (λ z. equivalence.congr c d z g) ds)

    counts : (c : List ℕ)
        → times (is_same_group tables groups) c (in_order (is_before tables (order ++ group_keys groups))
        (heads (is_same_group tables groups) cs)) ≡ times (is_same_group tables groups) c firsts
    counts c =
        times_in_order (is_same_group tables groups) (is_before tables (order ++ group_keys groups))
        (heads (is_same_group tables groups) cs) c
        ∙ (class_heads (is_same_group tables groups) equivalence c cs
        ∙ (ap (min 1) (same_counts (is_same_group tables groups) c cs ds h)
        ∙ (sym (class_heads (is_same_group tables groups) equivalence c ds)
        ∙ same_counts (is_same_group tables groups) c (heads (is_same_group tables groups) ds) firsts k)))

-- Classes and runs as groups.

-- a head is the first member of its class
heads_first : (tables : List (List (List Value))) (groups : List ColRef) (cs : List (List ℕ))
    → All (λ h. first_member (filter (is_same_group tables groups h) cs) ≡ h) (heads (is_same_group tables groups) cs)
heads_first tables groups cs =
    all_by_times is_same exact_lists (λ h. first_member (filter (is_same_group tables groups h) cs) ≡ h)
    (heads (is_same_group tables groups) cs)
    (λ c n e. by_list c n (filter (is_same_group tables groups c) cs)
    (sym (times_heads is_same exact_lists (is_same_group tables groups) (same_group_equivalence tables groups) c cs)
    ∙ e))
  where
    by_list : (c : List ℕ) (n : ℕ) (members : List (List ℕ)) → is_first is_same c members ≡ suc n
        → first_member members ≡ c
    by_list c n [] h = absurd (omega (arith, h))
    by_list c n (m ∷ members) h = by_test (is_same c m) refl h
      where
        by_test : (b : Bool) → is_same c m ≡ b → ◌≡◌ {A = ℕ} (cond b 1 0) (suc n) → m ≡ c
        by_test true e k = sym (exact_lists.one c m e)
        by_test false e k = absurd (omega (arith, k))

firsts_go : (members : List ℕ → List (List ℕ)) (hs : List (List ℕ)) → All (λ h. first_member (members h) ≡ h) hs
    → map first_member (map members hs) ≡ hs
firsts_go members [] a = refl
firsts_go members (h ∷ hs) a =
    ap₂ (λ (c : List ℕ) (cs : List (List ℕ)). c ∷ cs) (All-head (λ h. first_member (members h) ≡ h) h hs a)
    (firsts_go members hs (All-tail (λ h. first_member (members h) ≡ h) h hs a))

-- the first members of the classes are the heads
pub firsts_of_classes : (tables : List (List (List Value))) (groups : List ColRef) (cs : List (List ℕ))
    → map first_member (classes (is_same_group tables groups) cs) ≡ heads (is_same_group tables groups) cs
firsts_of_classes tables groups cs =
    firsts_go (λ h. filter (is_same_group tables groups h) cs) (heads (is_same_group tables groups) cs)
    (heads_first tables groups cs)

classes_go : (members : List ℕ → List (List ℕ)) (hs : List (List ℕ)) → All (λ h. first_member (members h) ≡ h) hs
    → All (λ g. members (first_member g) ≡ g) (map members hs)
classes_go members [] a = All-nil (λ g. members (first_member g) ≡ g)
classes_go members (h ∷ hs) a =
    All-cons (λ g. members (first_member g) ≡ g) (members h) (map members hs)
    (ap members (All-head (λ h. first_member (members h) ≡ h) h hs a))
    (classes_go members hs (All-tail (λ h. first_member (members h) ≡ h) h hs a))

-- each class is what is in the group of its first member
pub class_members : (tables : List (List (List Value))) (groups : List ColRef) (cs : List (List ℕ))
    → All (λ members. filter (is_same_group tables groups (first_member members)) cs
    ≡ members) (classes (is_same_group tables groups) cs)
class_members tables groups cs =
    classes_go (λ h. filter (is_same_group tables groups h) cs) (heads (is_same_group tables groups) cs)
    (heads_first tables groups cs)

rows_go : (tables : List (List (List Value))) (items : List Item) (members : List ℕ
    → List (List ℕ)) (gs : List (List (List ℕ)))
    → All (λ g. members (first_member g) ≡ g) gs
    → map (λ c. shown_row tables items (members c) c) (map first_member gs) ≡ map (group_row tables items) gs
rows_go tables items members [] a = refl
rows_go tables items members (g ∷ gs) a =
    ap₂ (λ (row : List Shown) (rows : List (List Shown)). row ∷ rows)
    (ap (λ (ms : List (List ℕ)). shown_row tables items ms (first_member g)) (All-head (λ g. members (first_member g)
    ≡ g) g gs a))
    (rows_go tables items members gs (All-tail (λ g. members (first_member g) ≡ g) g gs a))

rises_firsts : (lt : List ℕ → List ℕ → Bool) (gs : List (List (List ℕ)))
    → Rises (λ g h. lt (first_member g) (first_member h)) gs → Rises lt (map first_member gs)
rises_firsts lt gs r = rises_map lt first_member gs r

-- The rows of groups that were gathered from a list in any order, each with its members in the order in which they
-- came,
-- and then put in order of the keys of their first members: hash aggregation.
pub groups_by_classes : (tables : List (List (List Value))) (items : List Item) (groups : List ColRef)
    (order : List OrderKey)
    → All (λ item. IsTrue (is_grouped_item groups item)) items → All (λ key. IsTrue (is_among groups key.at)) order →
    (cs ds : List (List ℕ)) (gathered : List (List (List ℕ))) → HaveSame is_same cs ds
    → IsPermutation (classes (is_same_group tables groups) ds) gathered
    → Rises (λ g h. is_before tables (order ++ group_keys groups) (first_member g) (first_member h)) gathered →
    group_rows tables items groups order cs ≡ map (group_row tables items) gathered
groups_by_classes tables items groups order shown keyed cs ds gathered h p r =
    groups_by_heads tables items groups order shown keyed cs ds (map first_member gathered) h
    (λ c. ap (times is_same c) (sym (firsts_of_classes tables groups ds))
    ∙ same_from_permutation is_same (map first_member (classes (is_same_group tables groups) ds))
    (map first_member gathered) (IsPermutation-map first_member (classes (is_same_group tables groups) ds) gathered
    p) c)
    (rises_firsts (is_before tables (order ++ group_keys groups)) gathered r)
    ∙ rows_go tables items (λ c. filter (is_same_group tables groups c) ds) gathered
    (All-permutation (λ g. filter (is_same_group tables groups (first_member g)) ds
    ≡ g) (classes (is_same_group tables groups) ds) gathered p (class_members tables groups ds))

-- In a list that rises by the GROUP BY columns the runs are the classes,
pub runs_by_group_keys : (tables : List (List (List Value))) (groups : List ColRef) (ds : List (List ℕ))
    → Rises (is_before tables (group_keys groups)) ds
    → runs (is_same_group tables groups) ds ≡ classes (is_same_group tables groups) ds
runs_by_group_keys tables groups ds r =
    runs_are (is_same_group tables groups) (same_group_equivalence tables groups) ds
    (together_in_order (keys_order tables (group_keys groups)) (keys_total tables (group_keys groups))
    (is_same_group tables groups) (λ a b. refl) ds r)

-- and so in one that rises by the ORDER BY keys and then by these.
pub runs_by_all_keys : (tables : List (List (List Value))) (groups : List ColRef) (order : List OrderKey)
    → All (λ key. IsTrue (is_among groups key.at)) order → (ds : List (List ℕ))
    → Rises (is_before tables (order ++ group_keys groups)) ds
    → runs (is_same_group tables groups) ds ≡ classes (is_same_group tables groups) ds
runs_by_all_keys tables groups order keyed ds r =
    runs_are (is_same_group tables groups) (same_group_equivalence tables groups) ds
    (together_in_order (keys_order tables (order ++ group_keys groups)) (keys_total tables (order ++ group_keys groups))
    (is_same_group tables groups) (group_by_keys tables groups order keyed) ds r)

-- The rows of groups are those of the runs of a list in order of all keys: sorted aggregation.
pub groups_by_runs : (tables : List (List (List Value))) (items : List Item) (groups : List ColRef)
    (order : List OrderKey)
    → All (λ item. IsTrue (is_grouped_item groups item)) items → All (λ key. IsTrue (is_among groups key.at)) order →
    (cs ds : List (List ℕ)) → HaveSame is_same cs ds → Rises (is_before tables (order ++ group_keys groups)) ds →
    group_rows tables items groups order cs ≡ map (group_row tables items) (runs (is_same_group tables groups) ds)
groups_by_runs tables items groups order shown keyed cs ds h r =
    groups_by_heads tables items groups order shown keyed cs ds (heads (is_same_group tables groups) ds) h (λ c. refl)
    (heads_rise (is_same_group tables groups) (is_before tables (order ++ group_keys groups)) ds r)
    ∙ (ap (map (λ c. shown_row tables items (filter (is_same_group tables groups c) ds) c))
    (sym (firsts_of_classes tables groups ds))
    ∙ (rows_go tables items (λ c. filter (is_same_group tables groups c) ds) (classes (is_same_group tables groups) ds)
    (class_members tables groups ds)
    ∙ ap (map (group_row tables items)) (sym (runs_by_all_keys tables groups order keyed ds r))))

-- Statements.

rows_of_groups : (tables : List (List (List Value))) (items : List Item) (groups : List ColRef) (order : List OrderKey)
    (cs : List (List ℕ))
    → 0 < length groups → rows_shown tables items groups order cs ≡ group_rows tables items groups order cs
rows_of_groups tables items [] order cs h = absurd (omega (arith, h))
rows_of_groups tables items (group ∷ groups) order cs h = refl

grouped_items : (groups : List ColRef) (items : List Item) (order : List OrderKey) → 0 < length groups
    → AreGrouped groups items order
    → All (λ item. IsTrue (is_grouped_item groups item)) items × All (λ key. IsTrue (is_among groups key.at)) order
grouped_items [] items order h g = absurd (omega (arith, h))
grouped_items (group ∷ groups) items order h g = g

rows_of_plain : (tables : List (List (List Value))) (items : List Item) (groups : List ColRef) (order : List OrderKey)
    (cs : List (List ℕ))
    → groups ≡ [] → rows_shown tables items groups order cs ≡ plain_rows tables items order cs
rows_of_plain tables items [] order cs h = refl
rows_of_plain tables items (group ∷ groups) order cs h = cc

in_row_order : (cs ds : List (List ℕ)) → IsPermutation cs ds → HaveSame is_same (in_order is_lower cs) ds
in_row_order cs ds p c = times_in_order is_same is_lower cs c ∙ same_from_permutation is_same cs ds p c

-- The result rows of a grouped statement are those of the runs of its combinations in order of all keys.
pub shape_by_runs : (q : Statement) (tables : List (List (List Value))) (cs ds : List (List ℕ)) → IsSoundQuery q
    → 0 < length q.groups → IsPermutation cs ds → Rises (is_before tables (q.order ++ group_keys q.groups)) ds
    → shape_of q tables cs ≡ map (group_row tables q.items) (runs (is_same_group tables q.groups) ds)
shape_by_runs q tables cs ds s g p r =
    let grouped = grouped_items q.groups q.items q.order g s.grouped in
    rows_of_groups tables q.items q.groups q.order (in_order is_lower cs) g
    ∙ groups_by_runs tables q.items q.groups q.order grouped.0 grouped.1 (in_order is_lower cs) ds
    (in_row_order cs ds p) r

-- They are those of groups gathered from its combinations in any order, once these are in order of all keys.
pub shape_by_classes : (q : Statement) (tables : List (List (List Value))) (cs : List (List ℕ))
    (gathered : List (List (List ℕ)))
    → IsSoundQuery q → 0 < length q.groups → IsPermutation (classes (is_same_group tables q.groups) cs) gathered
    → Rises (λ g h. is_before tables (q.order ++ group_keys q.groups) (first_member g) (first_member h)) gathered
    → shape_of q tables cs ≡ map (group_row tables q.items) gathered
shape_by_classes q tables cs gathered s g p r =
    let grouped = grouped_items q.groups q.items q.order g s.grouped in
    rows_of_groups tables q.items q.groups q.order (in_order is_lower cs) g
    ∙ groups_by_classes tables q.items q.groups q.order grouped.0 grouped.1 (in_order is_lower cs) cs gathered
    (times_in_order is_same is_lower cs) p r

-- The result rows of a statement without groups are those of its combinations in order of the keys and row numbers.
pub shape_by_order : (q : Statement) (tables : List (List (List Value))) (cs ds : List (List ℕ)) → q.groups ≡ []
    → IsPermutation cs ds → Rises (is_earlier tables q.order) ds
    → shape_of q tables cs ≡ map (λ c. shown_row tables q.items (c ∷ []) c) ds
shape_by_order q tables cs ds g p r =
    rows_of_plain tables q.items q.groups q.order (in_order is_lower cs) g
    ∙ ap (map (λ c. shown_row tables q.items (c ∷ []) c)) (one_sort tables q.order cs
    ∙ sym (risen_is_sorted is_same exact_lists (is_earlier tables q.order) (earlier_full tables q.order) cs ds
    (λ c. sym (same_from_permutation is_same cs ds p c)) r))
