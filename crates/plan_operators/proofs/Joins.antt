-- What the loops of the joins give, by the laws of joins.
--
-- The edges that they test are ready, and do what the statement's edges between the two sides ask.
use Rattle.std.proofs.Common.{ℕ, ◌≡◌, ◌<◌, ◌+◌, ◌&&◌, ◌==◌, not, Bool, true, false, List, [], ◌∷◌, length, map, set, ap, sym, ◌∙◌}
use Rattle.std.proofs.Common.{refl, subst, zero, suc, ◌||◌, ◌⊎◌, inl, inr}
use Rattle.std.specs.Prelude.{nat_eq, All, IsPermutation, Option, Some, bit_and, filter, flat_map, slice_get}
use Rattle.std.specs.Ordering.{is_eq}
use Rattle.std.proofs.lemmas.Bool.{and_parts, eq-eqb, eqb-true, false≢true, ne_eqb}
use Rattle.std.proofs.lemmas.List.Elements.{All-nil, All-cons, All-head, All-tail}
use Rattle.std.proofs.lemmas.List.Sorted.{All-permutation}
use Rattle.row_values.proofs.Counting.{HaveSame}
use Rattle.row_values.specs.Orders.{compares}
use Rattle.row_values.specs.RowNumbers.{row_numbers}
use Rattle.row_values.specs.Sorting.{Rises}
use Rattle.row_values.specs.Statements.{Statement, IsSoundQuery}
use Rattle.row_values.specs.declared.values.Value.{Value}
use Rattle.row_values.specs.declared.statement.ColRef.{ColRef}
use Rattle.row_values.specs.declared.statement.Edge.{Edge}
use Rattle.row_values.specs.declared.statement.OrderKey.{OrderKey}
use Rattle.plan_trees.specs.PlaceSets.{are_apart, has, one}
use Rattle.plan_trees.specs.PlanSpace.{column_in, column_of, connects, has_all_keys, is_only_key, is_sorted_access, joins_to}
use Rattle.plan_trees.specs.PlanSpace.{wanted_order}
use Rattle.plan_trees.specs.Trees.{place_of}
use Rattle.plan_trees.specs.declared.plans.Access.{Access}
use Rattle.plan_trees.specs.declared.plans.Access.TheVariants.{Seq, Range, Full}
use Rattle.statement_meaning.specs.Combinations.{World, edges_hold, row_at, world_of}
use Rattle.statement_meaning.specs.Meaning.{cell_of, is_before}
use Rattle.statement_meaning.specs.PartialCombinations.{Fits, Once, RowsOnce, end_in, is_between, merged, placed, single}
use Rattle.statement_meaning.proofs.Keeping.{once_permuted}
use Rattle.statement_meaning.proofs.JoinOrder.{by_column, placed_rises}
use Rattle.statement_meaning.proofs.Operators.{access_once, hash_once, hash_rises, loop_once, probe_once}
use Rattle.statement_meaning.proofs.Operators.{rows_join_rises}
use Rattle.statement_meaning.proofs.PlaceSets.{has_place_single}
use Rattle.plan_operators.specs.Edges.{all_meet}
use Rattle.plan_operators.specs.Sources.{AreInOrderOf, is_row_before, rows_read, world_read}
use Rattle.plan_operators.specs.declared.edges.ReadyEdge.{ReadyEdge}
use Rattle.plan_operators.specs.declared.source.Source.{Source}

-- these edges ask what the statement's edges between two sets of places ask
abbrev pub AreBetween : Statement → List (List (List Value)) → List Value → ℕ → ℕ → List ReadyEdge → Type 0
AreBetween q tables args outer inner ready =
    (c : List ℕ)
    → all_meet ready c ≡ edges_hold (world_of q tables args) (filter (is_between (has outer) (has inner)) q.edges) c

edges_of_place : (q : Statement) (outer place : ℕ)
    → filter (is_between (has outer) (has (one place))) q.edges
    ≡ filter (is_between (has outer) (single place)) q.edges
edges_of_place q outer place =
    ap (λ (inner : ℕ → Bool). filter (is_between (has outer) inner) q.edges) (λ i t. has_place_single place t i)

-- the rows of a place as combinations over it
pub placed_once : (q : Statement) (tables : List (List (List Value))) (args : List Value) → IsSoundQuery q
    → (place : ℕ) → place < length q.places → (rows : List ℕ) → RowsOnce (world_of q tables args) place rows
    → (v : List (List ℕ)) → v ≡ map (placed (world_of q tables args) place) rows
    → Once (world_of q tables args) (has (one place)) v
placed_once q tables args s place there rows r v is = access_once q tables args s place there rows r v is

only_key : (keys : List OrderKey) (at : ColRef) → is_only_key keys at ≡ true → keys ≡ by_column at
only_key [] at h = cc
only_key (key ∷ []) at h =
    let parts = and_parts (key.at.place == at.place && key.at.column == at.column) (not key.descending) h in
    let both = and_parts (key.at.place == at.place) (key.at.column == at.column) parts.0 in
    let place : key.at.place ≡ at.place = eqb-true key.at.place at.place both.0 in
    let column : key.at.column ≡ at.column = eqb-true key.at.column at.column both.1 in
    let rising : key.descending ≡ false = is_not key.descending parts.1 in
    λ i. record { at = record { place = place i; column = column i }; descending = rising i } ∷ []
  where
    is_not : (b : Bool) → not b ≡ true → b ≡ false
    is_not true e = absurd (false≢true e)
    is_not false e = refl
only_key (key ∷ other ∷ keys) at h = cc

by_the_column : (source : Source) (at : ColRef) → at.place < length source.q.now.places
    → is_only_key (wanted_order source.q.now) at ≡ true → (rows : List ℕ) → Rises (is_row_before source at) rows
    → (v : List (List ℕ)) → v ≡ map (placed (world_read source) at.place) rows
    → Rises (is_before (rows_read source) (wanted_order source.q.now)) v
by_the_column source at there h rows r v is =
    subst (λ (keys : List OrderKey). Rises (is_before (rows_read source) keys) v)
    (sym (only_key (wanted_order source.q.now) at h))
    (subst (Rises (is_before (rows_read source) (by_column at))) (sym is)
    (placed_rises (world_read source) (rows_read source) at there rows r))

-- the rows of an access that gives the wanted order, as combinations
pub placed_in_order : (source : Source) (access : Access) → place_of access < length source.q.now.places
    → is_sorted_access source.q.now access ≡ true → (rows : List ℕ) → AreInOrderOf source access rows
    → (v : List (List ℕ)) → v ≡ map (placed (world_read source) (place_of access)) rows
    → Rises (is_before (rows_read source) (wanted_order source.q.now)) v
placed_in_order source (Seq place) there h rows r v is = cc
placed_in_order source (Range place column pred) there h rows r v is =
    by_the_column source (column_of place column) there h rows r v is
placed_in_order source (Full place column) there h rows r v is =
    by_the_column source (column_of place column) there h rows r v is

pub looped_once : (q : Statement) (tables : List (List (List Value))) (args : List Value) → IsSoundQuery q
    → (outer place : ℕ) → has outer place ≡ false → place < length q.places
    → (rows : List ℕ) → RowsOnce (world_of q tables args) place rows
    → (cs : List (List ℕ)) → Once (world_of q tables args) (has outer) cs
    → (ready : List ReadyEdge) → AreBetween q tables args outer (one place) ready → (v : List (List ℕ))
    → v ≡ flat_map (λ c. filter (all_meet ready) (map (set c place) rows)) cs
    → Once (world_of q tables args) (has (outer + one place)) v
looped_once q tables args s outer place out there rows r cs o ready tests v is =
    loop_once q tables args s outer place out there rows r cs o
    (filter (is_between (has outer) (has (one place))) q.edges) (edges_of_place q outer place) v
    (is ∙ ap (λ (test : List ℕ → Bool). flat_map (λ c. filter test (map (set c place) rows)) cs) (λ i c. tests c i))

-- the keys of an order whose places are all in a set
keys_inside : (places : ℕ) (keys : List OrderKey) → has_all_keys places keys ≡ true
    → All (λ key. has places key.at.place ≡ true) keys
keys_inside places [] h = All-nil (λ key. has places key.at.place ≡ true)
keys_inside places (key ∷ keys) h =
    let both = and_parts (has places key.at.place) (has_all_keys places keys) h in
    All-cons (λ key. has places key.at.place ≡ true) key keys both.0 (keys_inside places keys both.1)

-- a join by one place keeps the order of its outer side, whatever rows are offered
pub rows_rise : (q : Statement) (tables : List (List (List Value))) (args : List Value) (outer place : ℕ)
    → has outer place ≡ false → (keys : List OrderKey) → has_all_keys outer keys ≡ true
    → (offered : List ℕ → List ℕ) (cs : List (List ℕ)) → Rises (is_before tables keys) cs
    → (ready : List ReadyEdge) → AreBetween q tables args outer (one place) ready → (v : List (List ℕ))
    → v ≡ flat_map (λ c. filter (all_meet ready) (map (set c place) (offered c))) cs → Rises (is_before tables keys) v
rows_rise q tables args outer place out keys inside offered cs r ready tests v is =
    rows_join_rises q tables args outer place out keys (keys_inside outer keys inside) offered cs r
    (filter (is_between (has outer) (has (one place))) q.edges) (edges_of_place q outer place) v
    (is ∙ ap (λ (test : List ℕ → Bool). flat_map (λ c. filter test (map (set c place) (offered c))) cs)
    (λ i c. tests c i))

-- An edge by which a place enters, and its column there.

or_parts : (a b : Bool) → (a || b) ≡ true → (a ≡ true) ⊎ (b ≡ true)
or_parts true b h = inl refl
or_parts false b h = inr h

or_true : (a : Bool) → (a || true) ≡ true
or_true true = refl
or_true false = refl

pub entering_between : (outer place : ℕ) (edge : Edge) → joins_to outer place edge ≡ true
    → is_between (has outer) (single place) edge ≡ true
entering_between outer place edge h =
    by_end
    (or_parts (edge.right.place == place && has outer edge.left.place)
    (edge.left.place == place && has outer edge.right.place) h)
  where
    by_end : ((edge.right.place == place && has outer edge.left.place) ≡ true)
        ⊎ ((edge.left.place == place && has outer edge.right.place) ≡ true)
        → is_between (has outer) (single place) edge ≡ true
    by_end (inl e) =
        let both = and_parts (edge.right.place == place) (has outer edge.left.place) e in
        rw (both.1, eq-eqb place edge.right.place (sym (eqb-true edge.right.place place both.0))) refl
    by_end (inr e) =
        let both = and_parts (edge.left.place == place) (has outer edge.right.place) e in
        rw (both.1, eq-eqb place edge.left.place (sym (eqb-true edge.left.place place both.0)))
        (or_true (has outer edge.left.place && (place == edge.right.place)))

pub column_entering : (outer place : ℕ) (edge : Edge) → (edge.left.place == edge.right.place) ≡ false
    → joins_to outer place edge ≡ true → column_in place edge ≡ (end_in (single place) edge).column
column_entering outer place edge apart h =
    by_end
    (or_parts (edge.right.place == place && has outer edge.left.place)
    (edge.left.place == place && has outer edge.right.place) h)
  where
    by_end : ((edge.right.place == place && has outer edge.left.place) ≡ true)
        ⊎ ((edge.left.place == place && has outer edge.right.place) ≡ true)
        → column_in place edge ≡ (end_in (single place) edge).column
    by_end (inl e) =
        let here = (and_parts (edge.right.place == place) (has outer edge.left.place) e).0 in
        let same : edge.right.place ≡ place = eqb-true edge.right.place place here in
        let other : (place == edge.left.place) ≡ false =
        ne_eqb place edge.left.place (λ q. false≢true (sym apart
        ∙ eq-eqb edge.left.place edge.right.place (sym q ∙ sym same))) in
        rw (here, other) refl
    by_end (inr e) =
        let here = (and_parts (edge.left.place == place) (has outer edge.right.place) e).0 in
        let same : edge.left.place ≡ place = eqb-true edge.left.place place here in
        let other : (edge.right.place == place) ≡ false =
        ne_eqb edge.right.place place (λ q. false≢true (sym apart
        ∙ eq-eqb edge.left.place edge.right.place (same ∙ sym q))) in
        rw (other, eq-eqb place edge.left.place (sym same)) refl

-- what holds of each edge holds of the one of a number
pub each_edge : (P : Edge → Type 0) (edges : List Edge) (number : ℕ) (edge : Edge) → slice_get edges number ≡ Some edge
    → All P edges → P edge
each_edge P [] number edge e all = cc
each_edge P (one ∷ edges) zero edge e all =
    let same : one ≡ edge = cc in subst P same (All-head P one edges all)
each_edge P (one ∷ edges) (suc number) edge e all = each_edge P edges number edge e (All-tail P one edges all)

-- the join by an index, of which each combination is offered what it finds
pub probed_once : (q : Statement) (tables : List (List (List Value))) (args : List Value) → IsSoundQuery q
    → (outer place : ℕ) → has outer place ≡ false → place < length q.places
    → (number : ℕ) (edge : Edge) → slice_get q.edges number ≡ Some edge → joins_to outer place edge ≡ true
    → (rows : List ℕ) → HaveSame nat_eq (row_numbers ((world_of q tables args).size place)) rows
    → (cs : List (List ℕ)) → Once (world_of q tables args) (has outer) cs
    → (ready : List ReadyEdge) → AreBetween q tables args outer (one place) ready
    → (offered : List ℕ → List ℕ)
    → ((c : List ℕ) → offered c
    ≡ filter ((world_of q tables args).passes place)
    (filter (λ row. compares is_eq (cell_of tables c (end_in (has outer) edge))
    (slice_get (row_at tables place row) (end_in (single place) edge).column)) rows))
    → (v : List (List ℕ)) → v ≡ flat_map (λ c. filter (all_meet ready) (map (set c place) (offered c))) cs
    → Once (world_of q tables args) (has (outer + one place)) v
probed_once q tables args s outer place out there number edge at enters rows same cs o ready tests offered offers v is =
    probe_once q tables args s outer place out there number edge at (entering_between outer place edge enters) rows same
    cs o (filter (is_between (has outer) (has (one place))) q.edges) (edges_of_place q outer place) v
    (is ∙ (λ i. flat_map (λ c. filter (λ e. tests e i) (map (set c place) (offers c i))) cs))

-- A hash join of what its outer side offers, by keys that both sides read; its inner side may stand in any order.
pub record IsLookedUp (q : Statement) (tables : List (List (List Value))) (outer inner : ℕ) (edge : Edge)
    (cs ds : List (List ℕ)) (ready : List ReadyEdge) (first second : List ℕ
    → Option Value) (v : List (List ℕ)) : Type 0 where
  pub first_is : (c : List ℕ) → first c ≡ cell_of tables c (end_in (has outer) edge)
  pub second_is : (d : List ℕ) → second d ≡ cell_of tables d (end_in (has inner) edge)
  pub made : v ≡ flat_map (λ c. filter (all_meet ready)
      (map (merged (has outer) c) (filter (λ d. compares is_eq (first c) (second d)) ds))) cs

looked_up : (q : Statement) (tables : List (List (List Value))) (args : List Value) (outer inner : ℕ) (edge : Edge)
    (cs ds : List (List ℕ)) (ready : List ReadyEdge) (first second : List ℕ → Option Value) (v : List (List ℕ))
    → AreBetween q tables args outer inner ready
    → IsLookedUp q tables outer inner edge cs ds ready first second v
    → v
    ≡ flat_map (λ c. filter
    (edges_hold (world_of q tables args) (filter (is_between (has outer) (has inner)) q.edges))
    (map (merged (has outer) c)
    (filter (λ d. compares is_eq (cell_of tables c (end_in (has outer) edge))
    (cell_of tables d (end_in (has inner) edge))) ds))) cs
looked_up q tables args outer inner edge cs ds ready first second v tests l =
    l.made
    ∙ (λ i. flat_map (λ c. filter (λ e. tests e i)
    (map (merged (has outer) c) (filter (λ d. compares is_eq (l.first_is c i) (l.second_is d i)) ds))) cs)

pub hashed_once : (q : Statement) (tables : List (List (List Value))) (args : List Value) (outer inner number : ℕ)
    (edge : Edge)
    → bit_and outer inner ≡ 0 → slice_get q.edges number ≡ Some edge → connects outer inner edge ≡ true
    → (cs ds es : List (List ℕ)) → Once (world_of q tables args) (has outer) cs
    → Once (world_of q tables args) (has inner) ds → IsPermutation ds es
    → (ready : List ReadyEdge) → AreBetween q tables args outer inner ready
    → (first second : List ℕ → Option Value) (v : List (List ℕ))
    → IsLookedUp q tables outer inner edge cs es ready first second v
    → Once (world_of q tables args) (has (outer + inner)) v
hashed_once q tables args outer inner number edge apart at between cs ds es o p perm ready tests first second v l =
    hash_once q tables args outer inner apart number edge at between cs es o
    (once_permuted (world_of q tables args) (has inner) ds es perm p)
    (filter (is_between (has outer) (has inner)) q.edges) refl v
    (looked_up q tables args outer inner edge cs es ready first second v tests l)

pub hashed_rises : (q : Statement) (tables : List (List (List Value))) (args : List Value) (outer inner number : ℕ)
    (edge : Edge)
    → bit_and outer inner ≡ 0 → slice_get q.edges number ≡ Some edge → connects outer inner edge ≡ true
    → (keys : List OrderKey) → has_all_keys outer keys ≡ true
    → (cs ds es : List (List ℕ)) → Once (world_of q tables args) (has outer) cs
    → Once (world_of q tables args) (has inner) ds → IsPermutation ds es → Rises (is_before tables keys) cs
    → (ready : List ReadyEdge) → AreBetween q tables args outer inner ready
    → (first second : List ℕ → Option Value) (v : List (List ℕ))
    → IsLookedUp q tables outer inner edge cs es ready first second v
    → Rises (is_before tables keys) v
hashed_rises q tables args outer inner number edge apart at between keys inside cs ds es o p perm r ready tests first
    second v l =
    hash_rises q tables args outer inner apart number edge at between keys (keys_inside outer keys inside) cs es o
    (once_permuted (world_of q tables args) (has inner) ds es perm p) r
    (filter (is_between (has outer) (has inner)) q.edges) refl v
    (looked_up q tables args outer inner edge cs es ready first second v tests l)

pub apart_is : (outer inner : ℕ) → are_apart outer inner ≡ true → bit_and outer inner ≡ 0
apart_is outer inner h = eqb-true (bit_and outer inner) 0 h

-- combinations over two sets of places are equally long
pub same_length : (world : World) (first second : ℕ → Bool) (cs ds es : List (List ℕ)) → Once world first cs
    → Once world second ds → IsPermutation ds es → (given : List (List ℕ)) → given ≡ cs
    → All (λ c. All (λ d. length c ≡ length d) es) given
same_length world first second cs ds es o p perm given is =
    subst (All (λ c. All (λ d. length c ≡ length d) es)) (sym is)
    (λ k d l j e m. (o.only k d l).long ∙ sym (All-permutation (Fits world second) ds es perm p.only j e m).long)
