-- What each operator has to show of the list that it gives, over sets of places as numbers.
--
-- An operator gives a list by its own loops: v, of which it knows how it was made. The edges that it tests are those
-- between the two sides, as a list of its own.
use Rattle.std.proofs.Common.{ℕ, ◌≡◌, ◌<◌, ◌+◌, ◌^◌, true, false, List, length, map, set, ap, sym, ◌∙◌, subst}
use Rattle.std.specs.Prelude.{All, filter, flat_map, nat_eq, slice_get, Some, bit_and}
use Rattle.std.specs.Ordering.{is_eq}
use Rattle.row_values.specs.Statements.{Statement, IsSoundQuery}
use Rattle.row_values.specs.declared.values.Value.{Value}
use Rattle.row_values.specs.declared.statement.Edge.{Edge}
use Rattle.row_values.specs.declared.statement.OrderKey.{OrderKey}
use Rattle.row_values.specs.RowNumbers.{row_numbers}
use Rattle.statement_meaning.specs.Combinations.{row_at, edges_hold, world_of}
use Rattle.row_values.specs.Orders.{compares}
use Rattle.statement_meaning.specs.Meaning.{cell_of, is_before}
use Rattle.statement_meaning.specs.PartialCombinations.{single, is_between, end_in, Fits, Once, merged, joined, Offers}
use Rattle.statement_meaning.specs.PartialCombinations.{placed, joined_rows, RowsOnce, OffersRows}
use Rattle.row_values.specs.Sorting.{Rises}
use Rattle.row_values.proofs.Counting.{HaveSame}
use Rattle.statement_meaning.proofs.Entering.{rows_once, joined_rows_once, all_rows_offered}
use Rattle.statement_meaning.proofs.JoinOrder.{joined_rises, joined_rows_rises}
use Rattle.statement_meaning.proofs.Joining.{joined_once}
use Rattle.statement_meaning.proofs.Keeping.{sound_edges}
use Rattle.statement_meaning.proofs.KeyedOffers.{equal_offered, equal_rows_offered}
use Rattle.statement_meaning.proofs.PlaceSets.{has_place, disjoint_apart, once_single, once_more, once_both}

-- Access paths: rows of a place that meet the predicates on it, each once.
pub access_once : (q : Statement) (tables : List (List (List Value))) (args : List Value) → IsSoundQuery q → (place : ℕ)
    → place < length q.places → (rows : List ℕ) → RowsOnce (world_of q tables args) place rows → (v : List (List ℕ))
    → v ≡ map (placed (world_of q tables args) place) rows → Once (world_of q tables args) (has_place (2 ^ place)) v
access_once q tables args s place i rows o v is =
    subst (Once (world_of q tables args) (has_place (2 ^ place))) (sym is)
    (once_single (world_of q tables args) place (map (placed (world_of q tables args) place) rows)
    (rows_once (world_of q tables args) (sound_edges q tables args s) place i rows o))

-- Joins by one place, whatever rows are offered,
pub rows_join_once : (q : Statement) (tables : List (List (List Value))) (args : List Value) → IsSoundQuery q
    → (outer place : ℕ) → has_place outer place ≡ false → place < length q.places →
    (offered : List ℕ → List ℕ)
    → ((c : List ℕ) → Fits (world_of q tables args) (has_place outer) c
    → OffersRows (world_of q tables args) (has_place outer) place c (offered c)) →
    (cs : List (List ℕ)) → Once (world_of q tables args) (has_place outer) cs →
    (es : List Edge) → es ≡ filter (is_between (has_place outer) (single place)) q.edges → (v : List (List ℕ))
    → v ≡ flat_map (λ c. filter (edges_hold (world_of q tables args) es) (map (set c place) (offered c))) cs →
    Once (world_of q tables args) (has_place (outer + 2 ^ place)) v
rows_join_once q tables args s outer place out i offered offers cs o es edges v is =
    subst (Once (world_of q tables args) (has_place (outer + 2 ^ place)))
    (sym (is ∙ ap (λ (es : List Edge). flat_map (λ c. filter (edges_hold (world_of q tables args) es)
    (map (set c place) (offered c))) cs) edges))
    (once_more (world_of q tables args) outer place out (joined_rows (world_of q tables args) (has_place outer) place
    offered cs)
    (joined_rows_once (world_of q tables args) (sound_edges q tables args s) (has_place outer) place out i offered cs
    offers o))

-- the nested loop over an access path,
pub loop_once : (q : Statement) (tables : List (List (List Value))) (args : List Value) → IsSoundQuery q
    → (outer place : ℕ) → has_place outer place ≡ false → place < length q.places →
    (rows : List ℕ) → RowsOnce (world_of q tables args) place rows →
    (cs : List (List ℕ)) → Once (world_of q tables args) (has_place outer) cs →
    (es : List Edge) → es ≡ filter (is_between (has_place outer) (single place)) q.edges → (v : List (List ℕ))
    → v ≡ flat_map (λ c. filter (edges_hold (world_of q tables args) es) (map (set c place) rows)) cs →
    Once (world_of q tables args) (has_place (outer + 2 ^ place)) v
loop_once q tables args s outer place out i rows r cs o es edges v is =
    rows_join_once q tables args s outer place out i (λ c. rows)
    (λ c f. all_rows_offered (world_of q tables args) (has_place outer) place c rows r) cs o es edges v is

-- and the probe of an index by one of the edges: of all rows in the index's order those whose cell equals the key, and
-- of
-- these those that meet the predicates.
pub probe_once : (q : Statement) (tables : List (List (List Value))) (args : List Value) → IsSoundQuery q
    → (outer place : ℕ) → has_place outer place ≡ false → place < length q.places →
    (number : ℕ) (edge : Edge) → slice_get q.edges number ≡ Some edge
    → is_between (has_place outer) (single place) edge ≡ true →
    (rows : List ℕ) → HaveSame nat_eq (row_numbers ((world_of q tables args).size place)) rows →
    (cs : List (List ℕ)) → Once (world_of q tables args) (has_place outer) cs →
    (es : List Edge) → es ≡ filter (is_between (has_place outer) (single place)) q.edges → (v : List (List ℕ)) →
    v ≡ flat_map (λ c. filter (edges_hold (world_of q tables args) es)
    (map (set c place) (filter ((world_of q tables args).passes place)
    (filter (λ row. compares is_eq (cell_of tables c (end_in (has_place outer) edge))
    (slice_get (row_at tables place row) (end_in (single place) edge).column)) rows)))) cs →
    Once (world_of q tables args) (has_place (outer + 2 ^ place)) v
probe_once q tables args s outer place out i number edge at between rows r cs o es edges v is =
    rows_join_once q tables args s outer place out i
    (λ c. filter ((world_of q tables args).passes place)
    (filter (λ row. compares is_eq (cell_of tables c (end_in (has_place outer) edge))
    (slice_get (row_at tables place row) (end_in (single place) edge).column)) rows))
    (λ c f. equal_rows_offered q tables args (has_place outer) place out i number edge at between c rows f r) cs o es
    edges v is

-- Joins of two sides, whatever is offered,
pub sides_join_once : (q : Statement) (tables : List (List (List Value))) (args : List Value) (outer inner : ℕ)
    → bit_and outer inner ≡ 0 →
    (offered : List ℕ → List (List ℕ))
    → ((c : List ℕ) → Fits (world_of q tables args) (has_place outer) c
    → Offers (world_of q tables args) (has_place outer) (has_place inner) c (offered c)) →
    (cs : List (List ℕ)) → Once (world_of q tables args) (has_place outer) cs →
    (es : List Edge) → es ≡ filter (is_between (has_place outer) (has_place inner)) q.edges → (v : List (List ℕ))
    → v ≡ flat_map (λ c. filter (edges_hold (world_of q tables args) es) (map (merged (has_place outer) c) (offered c)))
    cs →
    Once (world_of q tables args) (has_place (outer + inner)) v
sides_join_once q tables args outer inner apart offered offers cs o es edges v is =
    subst (Once (world_of q tables args) (has_place (outer + inner)))
    (sym (is ∙ ap (λ (es : List Edge). flat_map (λ c. filter (edges_hold (world_of q tables args) es)
    (map (merged (has_place outer) c) (offered c))) cs) edges))
    (once_both (world_of q tables args) outer inner apart (joined (world_of q tables args) (has_place outer)
    (has_place inner) offered cs)
    (joined_once (world_of q tables args) (has_place outer) (has_place inner) (disjoint_apart outer inner apart) offered
    cs offers o))

-- and the hash join on one of the edges: of the inner side those whose cell equals the key.
pub hash_once : (q : Statement) (tables : List (List (List Value))) (args : List Value) (outer inner : ℕ)
    → bit_and outer inner ≡ 0 →
    (number : ℕ) (edge : Edge) → slice_get q.edges number ≡ Some edge
    → is_between (has_place outer) (has_place inner) edge ≡ true →
    (cs ds : List (List ℕ)) → Once (world_of q tables args) (has_place outer) cs
    → Once (world_of q tables args) (has_place inner) ds →
    (es : List Edge) → es ≡ filter (is_between (has_place outer) (has_place inner)) q.edges → (v : List (List ℕ)) →
    v ≡ flat_map (λ c. filter (edges_hold (world_of q tables args) es)
    (map (merged (has_place outer) c)
    (filter (λ d. compares is_eq (cell_of tables c (end_in (has_place outer) edge))
    (cell_of tables d (end_in (has_place inner) edge))) ds))) cs →
    Once (world_of q tables args) (has_place (outer + inner)) v
hash_once q tables args outer inner apart number edge at between cs ds o p es edges v is =
    sides_join_once q tables args outer inner apart
    (λ c. filter (λ d. compares is_eq (cell_of tables c (end_in (has_place outer) edge))
    (cell_of tables d (end_in (has_place inner) edge))) ds)
    (λ c f. equal_offered q tables args (has_place outer) (has_place inner) (disjoint_apart outer inner apart) number
    edge at between c ds f p)
    cs o es edges v is

-- Each join keeps the order of its outer side by keys that are columns of that side.
pub rows_join_rises : (q : Statement) (tables : List (List (List Value))) (args : List Value) (outer place : ℕ)
    → has_place outer place ≡ false → (keys : List OrderKey) → All (λ key. has_place outer key.at.place ≡ true) keys
    → (offered : List ℕ → List ℕ) (cs : List (List ℕ)) → Rises (is_before tables keys) cs →
    (es : List Edge) → es ≡ filter (is_between (has_place outer) (single place)) q.edges → (v : List (List ℕ))
    → v ≡ flat_map (λ c. filter (edges_hold (world_of q tables args) es) (map (set c place) (offered c))) cs
    → Rises (is_before tables keys) v
rows_join_rises q tables args outer place out keys inside offered cs r es edges v is =
    subst (Rises (is_before tables keys))
    (sym (is ∙ ap (λ (es : List Edge). flat_map (λ c. filter (edges_hold (world_of q tables args) es)
    (map (set c place) (offered c))) cs) edges))
    (joined_rows_rises (world_of q tables args) (has_place outer) place out tables keys inside offered cs r)

pub hash_rises : (q : Statement) (tables : List (List (List Value))) (args : List Value) (outer inner : ℕ)
    → bit_and outer inner ≡ 0 →
    (number : ℕ) (edge : Edge) → slice_get q.edges number ≡ Some edge
    → is_between (has_place outer) (has_place inner) edge ≡ true →
    (keys : List OrderKey) → All (λ key. has_place outer key.at.place ≡ true) keys →
    (cs ds : List (List ℕ)) → Once (world_of q tables args) (has_place outer) cs
    → Once (world_of q tables args) (has_place inner) ds → Rises (is_before tables keys) cs →
    (es : List Edge) → es ≡ filter (is_between (has_place outer) (has_place inner)) q.edges → (v : List (List ℕ)) →
    v ≡ flat_map (λ c. filter (edges_hold (world_of q tables args) es)
    (map (merged (has_place outer) c)
    (filter (λ d. compares is_eq (cell_of tables c (end_in (has_place outer) edge))
    (cell_of tables d (end_in (has_place inner) edge))) ds))) cs →
    Rises (is_before tables keys) v
hash_rises q tables args outer inner apart number edge at between keys inside cs ds o p r es edges v is =
    subst (Rises (is_before tables keys))
    (sym (is ∙ ap (λ (es : List Edge). flat_map (λ c. filter (edges_hold (world_of q tables args) es)
    (map (merged (has_place outer) c)
    (filter (λ d. compares is_eq (cell_of tables c (end_in (has_place outer) edge))
    (cell_of tables d (end_in (has_place inner) edge))) ds))) cs) edges))
    (joined_rises (world_of q tables args) (has_place outer) (has_place inner) tables keys inside
    (λ c. filter (λ d. compares is_eq (cell_of tables c (end_in (has_place outer) edge))
    (cell_of tables d (end_in (has_place inner) edge))) ds) cs
    (λ c f. equal_offered q tables args (has_place outer) (has_place inner) (disjoint_apart outer inner apart) number
    edge at between c ds f p)
    o.only r)
