-- The shapes of lists of combinations, without groups and with them.
use Rattle.std.proofs.Common.{ℕ, ◌≡◌, ◌<◌, ◌≤◌, ◌++◌, List, [], ◌∷◌, length, map, ap, ap₂, sym, ◌∙◌, refl, arith, subst}
use Rattle.std.specs.Prelude.{All, IsPermutation, IsTrue, filter}
use Rattle.std.proofs.lemmas.List.{length-map}
use Rattle.std.proofs.lemmas.List.Elements.{All-head, All-tail}
use Rattle.std.proofs.lemmas.List.Sorted.{All-permutation, IsPermutation-map, length_permutation}
use Rattle.row_values.specs.Sorting.{Rises, heads, in_order, times}
use Rattle.row_values.specs.Statements.{AreGrouped, IsSoundQuery, Statement, is_among, is_grouped_item}
use Rattle.row_values.specs.declared.values.Value.{Value}
use Rattle.row_values.specs.declared.statement.ColRef.{ColRef}
use Rattle.row_values.specs.declared.statement.Item.{Item}
use Rattle.row_values.specs.declared.statement.OrderKey.{OrderKey}
use Rattle.row_values.proofs.Counting.{same_from_permutation}
use Rattle.row_values.proofs.InOrder.{rises_in_order, times_in_order}
use Rattle.csv_tables.specs.StatementTables.{rows_in}
use Rattle.csv_tables.specs.Tables.{TableValue}
use Rattle.statement_meaning.specs.FullOrder.{is_earlier}
use Rattle.statement_meaning.specs.Meaning.{Shown, group_keys, group_rows, is_before, is_lower, is_same_group, rows_shown}
use Rattle.statement_meaning.specs.Meaning.{shape_of, shown_row}
use Rattle.statement_meaning.specs.PartialCombinations.{is_same}
use Rattle.statement_meaning.proofs.AnyOrder.{count_any}
use Rattle.statement_meaning.proofs.FullOrders.{keys_ranked}
use Rattle.statement_meaning.proofs.Groups.{groups_by_heads, shape_by_order}
use Rattle.result_shape.specs.Tallies.{AreTalliesOf, tallies_shown}
use Rattle.result_shape.specs.declared.tallies.Tally.{Tally}
use Rattle.result_shape.specs.declared.rows.TheConstants.{ROW_LIMIT}
use Rattle.result_shape.proofs.Tallying.{tallies_are}

-- without groups each combination gives a row
pub plain_length : (q : Statement) (tables : List (List (List Value))) (h : List (List ℕ)) → q.groups ≡ []
    → length (shape_of q tables h) ≡ length h
plain_length q tables h g =
    ap (λ (groups : List ColRef). length (rows_shown tables q.items groups q.order (in_order is_lower h))) g
    ∙ (length-map (in_order (is_before tables q.order) (in_order is_lower h))
    (λ (c : List ℕ). shown_row tables q.items (c ∷ []) c)
    ∙ (count_any (in_order (is_before tables q.order) (in_order is_lower h)) (in_order is_lower h)
    (λ c. times_in_order is_same (is_before tables q.order) (in_order is_lower h) c)
    ∙ count_any (in_order is_lower h) h (λ c. times_in_order is_same is_lower h c)))

rows_of_groups : (tables : List (List (List Value))) (items : List Item) (groups : List ColRef) (order : List OrderKey)
    (cs : List (List ℕ))
    → 0 < length groups → rows_shown tables items groups order cs ≡ group_rows tables items groups order cs
rows_of_groups tables items [] order cs h = absurd (omega (arith, h))
rows_of_groups tables items (group ∷ groups) order cs h = refl

grouped_items : (groups : List ColRef) (items : List Item) (order : List OrderKey) → 0 < length groups
    → AreGrouped groups items order
    → All (λ item. IsTrue (is_grouped_item groups item)) items × All (λ key. IsTrue (is_among groups key.at)) order
grouped_items [] items order h g = absurd (omega (arith, h))
grouped_items (group ∷ groups) items order h g = g

-- with groups the heads of the classes, in order of all keys, give a row each
shape_by_heads : (q : Statement) (tables : List (List (List Value))) (h fs : List (List ℕ)) → IsSoundQuery q
    → 0 < length q.groups
    → ((c : List ℕ) → times is_same c (heads (is_same_group tables q.groups) h) ≡ times is_same c fs)
    → Rises (is_before tables (q.order ++ group_keys q.groups)) fs
    → shape_of q tables h ≡ map (λ c. shown_row tables q.items (filter (is_same_group tables q.groups c) h) c) fs
shape_by_heads q tables h fs s g k r =
    let grouped = grouped_items q.groups q.items q.order g s.grouped in
    rows_of_groups tables q.items q.groups q.order (in_order is_lower h) g
    ∙ groups_by_heads tables q.items q.groups q.order grouped.0 grouped.1 (in_order is_lower h) h fs
    (times_in_order is_same is_lower h) k r

-- Groups of any form, each with its first member and its tallies.
module _ {G : Type 0} (first : G → List ℕ) (tallies : G → List Tally) where
  abbrev pub ShowsGroup : Statement → List (List (List Value)) → List (List ℕ) → G → Type 0
  ShowsGroup q tables h group =
      AreTalliesOf tables (first group) (filter (is_same_group tables q.groups (first group)) h) q.items (tallies group)

  rows_go : (q : Statement) (tables : List (List (List Value))) (h : List (List ℕ)) (gs : List G)
      → All (ShowsGroup q tables h) gs
      → map (λ c. shown_row tables q.items (filter (is_same_group tables q.groups c) h) c) (map first gs)
      ≡ map (λ group. tallies_shown tables (tallies group)) gs
  rows_go q tables h [] a = refl
  rows_go q tables h (g ∷ gs) a =
      ap₂ (λ (row : List Shown) (rows : List (List Shown)). row ∷ rows)
      (sym (tallies_are tables (first g) (filter (is_same_group tables q.groups (first g)) h) q.items (tallies g)
      (All-head (ShowsGroup q tables h) g gs a)))
      (rows_go q tables h gs (All-tail (ShowsGroup q tables h) g gs a))

  -- the rows of groups, once these are in order of all keys
  pub grouped_shape : (q : Statement) (tables : List (List (List Value))) (h : List (List ℕ)) (gs sorted : List G)
      → IsSoundQuery q → 0 < length q.groups
      → ((c : List ℕ) → times is_same c (heads (is_same_group tables q.groups) h) ≡ times is_same c (map first gs))
      → All (ShowsGroup q tables h) gs → IsPermutation gs sorted
      → Rises (is_before tables (q.order ++ group_keys q.groups)) (map first sorted)
      → shape_of q tables h ≡ map (λ group. tallies_shown tables (tallies group)) sorted
  grouped_shape q tables h gs sorted s g k a p r =
      shape_by_heads q tables h (map first sorted) s g
      (λ c. k c
      ∙ same_from_permutation is_same (map first gs) (map first sorted) (IsPermutation-map first gs sorted p) c) r
      ∙ rows_go q tables h sorted (All-permutation (ShowsGroup q tables h) gs sorted p a)

  pub grouped_shaped : (q : Statement) (tables copies : List TableValue) (h : List (List ℕ)) (gs sorted : List G)
      → IsSoundQuery q → 0 < length q.groups
      → ((c : List ℕ) → times is_same c (heads (is_same_group (rows_in tables) q.groups) h)
      ≡ times is_same c (map first gs))
      → All (ShowsGroup q (rows_in tables) h) gs → copies ≡ tables → IsPermutation gs sorted
      → Rises (is_before (rows_in tables) (q.order ++ group_keys q.groups)) (map first sorted) → length gs ≤ ROW_LIMIT
      → (map (λ group. tallies_shown (rows_in copies) (tallies group)) sorted ≡ shape_of q (rows_in tables) h)
      × (length (map (λ group. tallies_shown (rows_in copies) (tallies group)) sorted) ≤ ROW_LIMIT)
  grouped_shaped q tables copies h gs sorted s g k a e p r few = (
    ap (λ (ts : List TableValue). map (λ (group : G). tallies_shown (rows_in ts) (tallies group)) sorted) e
        ∙ sym (grouped_shape q (rows_in tables) h gs sorted s g k a p r),
    subst (λ (n : ℕ). n ≤ ROW_LIMIT) (sym (length_permutation gs sorted p)
        ∙ sym (length-map sorted (λ (group : G). tallies_shown (rows_in copies) (tallies group)))) few,
  )

-- The rows as they are kept, over the tables that are shared a second time.

pub plain_shaped : (q : Statement) (tables copies : List TableValue) (h sorted : List (List ℕ)) → q.groups ≡ []
    → copies ≡ tables → IsPermutation h sorted → Rises (is_earlier (rows_in tables) q.order) sorted
    → length h ≤ ROW_LIMIT
    → (map (λ c. shown_row (rows_in copies) q.items (c ∷ []) c) sorted ≡ shape_of q (rows_in tables) h)
    × (length (map (λ c. shown_row (rows_in copies) q.items (c ∷ []) c) sorted) ≤ ROW_LIMIT)
plain_shaped q tables copies h sorted g e p r few =
    let same : map (λ c. shown_row (rows_in copies) q.items (c ∷ []) c) sorted ≡ shape_of q (rows_in tables) h =
    ap (λ (ts : List TableValue). map (λ c. shown_row (rows_in ts) q.items (c ∷ []) c) sorted) e
    ∙ sym (shape_by_order q (rows_in tables) h sorted g p r) in (
      same,
      subst (λ (n : ℕ). n ≤ ROW_LIMIT) (sym (ap (λ (rows : List (List Shown)). length rows) same
          ∙ plain_length q (rows_in tables) h g)) few,
    )

-- with groups each group gives one
pub grouped_length : (q : Statement) (tables : List (List (List Value))) (h fs : List (List ℕ))
    → IsSoundQuery q → 0 < length q.groups
    → ((c : List ℕ) → times is_same c (heads (is_same_group tables q.groups) h) ≡ times is_same c fs)
    → length (shape_of q tables h) ≡ length fs
grouped_length q tables h fs s g k =
    let sorted : List (List ℕ) = in_order (is_before tables (q.order ++ group_keys q.groups)) fs in
    ap (λ (rows : List (List Shown)). length rows)
    (shape_by_heads q tables h sorted s g
    (λ c. k c ∙ sym (times_in_order is_same (is_before tables (q.order ++ group_keys q.groups)) fs c))
    (rises_in_order (is_before tables (q.order ++ group_keys q.groups))
    (keys_ranked tables (q.order ++ group_keys q.groups)) fs))
    ∙ (length-map sorted (λ c. shown_row tables q.items (filter (is_same_group tables q.groups c) h) c)
    ∙ count_any sorted fs (λ c. times_in_order is_same
    (is_before tables (q.order ++ group_keys q.groups)) fs c))
