-- Combinations over some of the places, and what a join makes of two lists of them.
--
-- A set of places is the test whether a place is in. A partial combination has 0 at the places that are not in.
use Rattle.std.specs.Prelude.{ℕ, suc, ◌≡◌, ◌<◌, Bool, true, false, ◌&&◌, ◌||◌, ◌==◌, nat_eq, nat_lt, List, [], ◌∷◌}
use Rattle.std.specs.Prelude.{length, map, replicate, set, slice_index_or, All, if◌then◌else◌}
use Rattle.std.specs.List.{filter, flat_map}
use Rattle.std.specs.Str.{bytes_eq}
use Rattle.row_values.specs.declared.statement.ColRef.{ColRef}
use Rattle.row_values.specs.declared.statement.Edge.{Edge}
use Rattle.statement_meaning.specs.Combinations.{World, edges_hold}
use Rattle.row_values.specs.Sorting.{times}

-- the set of this place alone, of the places of two sets, and of all places of a statement
abbrev pub single : ℕ → ℕ → Bool
single place other = place == other

abbrev pub either : (ℕ → Bool) → (ℕ → Bool) → ℕ → Bool
either outer inner place = outer place || inner place

abbrev pub all_places : World → ℕ → Bool
all_places world place = nat_lt place world.places

-- no place is in both sets
abbrev pub AreApart : (ℕ → Bool) → (ℕ → Bool) → Type 0
AreApart outer inner = (place : ℕ) → outer place ≡ true → inner place ≡ false

-- each edge joins two different places of the statement
pub record HasSoundEdges (world : World) : Type 0 where
  pub there : All (λ edge. (edge.left.place < world.places) × (edge.right.place < world.places)) world.edges
  pub two_places : All (λ edge. (edge.left.place == edge.right.place) ≡ false) world.edges

-- whether an edge has both its places in a set, and whether it joins a place of one set to one of the other
abbrev pub is_inside : (ℕ → Bool) → Edge → Bool
is_inside places edge = places edge.left.place && places edge.right.place

abbrev pub is_between : (ℕ → Bool) → (ℕ → Bool) → Edge → Bool
is_between outer inner edge =
    (outer edge.left.place && inner edge.right.place) || (outer edge.right.place && inner edge.left.place)

-- the column of an edge that is of a place of the set, where just one is
abbrev pub end_in : (ℕ → Bool) → Edge → ColRef
end_in places edge = if places edge.left.place then edge.left else edge.right

abbrev pub edges_inside : World → (ℕ → Bool) → List Edge
edges_inside world places = filter (is_inside places) world.edges

abbrev pub edges_between : World → (ℕ → Bool) → (ℕ → Bool) → List Edge
edges_between world outer inner = filter (is_between outer inner) world.edges

-- A combination over these places: each has a row that meets the predicates on it, every edge inside is met, and 0
-- stands at the other places.
pub record Fits (world : World) (places : ℕ → Bool) (c : List ℕ) : Type 0 where
  pub long : length c ≡ world.places
  pub within : (place : ℕ) → places place ≡ true
      → (slice_index_or c place 0 < world.size place) × (world.passes place (slice_index_or c place 0) ≡ true)
  pub zeros : (place : ℕ) → places place ≡ false → slice_index_or c place 0 ≡ 0
  pub met : edges_hold world (edges_inside world places) c ≡ true

-- whether two combinations are one
abbrev pub is_same : List ℕ → List ℕ → Bool
is_same = bytes_eq

-- the list has each combination over these places once, and no other
pub record Once (world : World) (places : ℕ → Bool) (cs : List (List ℕ)) : Type 0 where
  pub only : All (Fits world places) cs
  pub once : (c : List ℕ) → Fits world places c → times is_same c cs ≡ 1

-- Two combinations made one, from this place on: the row of the first at the places of its set, else the second's.
abbrev pub merged_from : (ℕ → Bool) → ℕ → List ℕ → List ℕ → List ℕ
merged_from outer place [] ds = []
merged_from outer place (row ∷ rows) [] = []
merged_from outer place (row ∷ rows) (other ∷ others) =
    (if outer place then row else other) ∷ merged_from outer (suc place) rows others

abbrev pub merged : (ℕ → Bool) → List ℕ → List ℕ → List ℕ
merged outer c d = merged_from outer 0 c d

-- What a join makes of the combinations of its outer side, where for each some of the inner side are offered: those
-- made one that meet every edge between the two sides, in the order of the outer side.
abbrev pub joined : World → (ℕ → Bool) → (ℕ → Bool) → (List ℕ → List (List ℕ)) → List (List ℕ) → List (List ℕ)
joined world outer inner offered cs =
    flat_map (λ c. filter (edges_hold world (edges_between world outer inner)) (map (merged outer c) (offered c))) cs

-- What is offered to a combination of the outer side has no other than combinations of the inner side, and each once
-- that meets with it every edge between.
pub record Offers (world : World) (outer : ℕ → Bool) (inner : ℕ
    → Bool) (c : List ℕ) (offered : List (List ℕ)) : Type 0 where
  pub only : All (Fits world inner) offered
  pub once : (d : List ℕ) → Fits world inner d
      → edges_hold world (edges_between world outer inner) (merged outer c d) ≡ true → times is_same d offered ≡ 1

-- The same where one place enters, and its rows are offered.

-- the combination over one place that has this row there
abbrev pub placed : World → ℕ → ℕ → List ℕ
placed world place row = set (replicate world.places 0) place row

abbrev pub joined_rows : World → (ℕ → Bool) → ℕ → (List ℕ → List ℕ) → List (List ℕ) → List (List ℕ)
joined_rows world outer place offered cs =
    flat_map (λ c. filter (edges_hold world (edges_between world outer (single place))) (map (set c place) (offered c)))
    cs

-- the rows of a place that meet the predicates on it, each once
pub record RowsOnce (world : World) (place : ℕ) (rows : List ℕ) : Type 0 where
  pub only : All (λ row. (row < world.size place) × (world.passes place row ≡ true)) rows
  pub once : (row : ℕ) → row < world.size place → world.passes place row ≡ true → times nat_eq row rows ≡ 1

-- What is offered to a combination has no other rows than these, and each once that meets with it every edge by which
-- the place enters.
pub record OffersRows (world : World) (outer : ℕ → Bool) (place : ℕ) (c : List ℕ) (rows : List ℕ) : Type 0 where
  pub only : All (λ row. (row < world.size place) × (world.passes place row ≡ true)) rows
  pub once : (row : ℕ) → row < world.size place → world.passes place row ≡ true
      → edges_hold world (edges_between world outer (single place)) (set c place row) ≡ true → times nat_eq row rows ≡ 1
