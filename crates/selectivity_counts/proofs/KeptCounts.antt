-- What is made of kept distinct counts is what is made of the tables.
use Rattle.std.proofs.Common.{ℕ, ◌≡◌, ◌<◌, ◌≤◌, ◌+◌, ◌++◌, ◌^◌, suc, zero-add, add-one, drop, drop-cons, get_or, max, List, [], ◌∷◌, length, map, Option, None, Some, IsSome, ap, sym, subst, ◌∙◌, refl, arith}
use Rattle.std.specs.Prelude.{All, option_and_then, slice_get, slice_index, slice_index_or}
use Rattle.std.specs.Int.{div_ceil}
use Rattle.std.specs.Option.{option_map}
use Rattle.std.specs.Rc.{rc_value}
use Rattle.std.specs.declared.rc.Rc.{Rc}
use Rattle.std.proofs.lemmas.List.{append_assoc, length-map}
use Rattle.std.proofs.lemmas.List.Elements.{All-map}
use Rattle.std.proofs.lemmas.Option.{get_or_from_slice_get, slice_get-map, slice_get_within}
use Rattle.row_values.specs.Statements.{IsColumn, IsEdge, IsSoundQuery, Statement}
use Rattle.row_values.specs.declared.columns.Column.{Column}
use Rattle.row_values.specs.declared.statement.ColRef.{ColRef}
use Rattle.row_values.specs.declared.statement.Place.{Place}
use Rattle.row_values.specs.declared.values.Kind.{Kind}
use Rattle.row_values.specs.declared.values.Value.{Value}
use Rattle.csv_tables.specs.StatementTables.{AreTablesOf, rows_in, tables_in}
use Rattle.csv_tables.specs.Tables.{TableValue}
use Rattle.csv_tables.specs.declared.table.TheConstants.{ROW_LIMIT}
use Rattle.plan_trees.specs.Statistics.{AreWeights, IsSoundStats, by_place, column_count, statistics_of}
use Rattle.plan_trees.specs.declared.statistics.Weights.{Weights}
use Rattle.statement_meaning.specs.Combinations.{rows_at}
use Rattle.statement_statistics.specs.Statistics.{distinct_count, edge_count, edge_counts, fan_count, fan_counts, first_wide, fixed_counts, matching_counts, numbered, row_count, row_counts, stats_of}
use Rattle.statement_statistics.proofs.SameRows.{map_agree}
use Rattle.statement_statistics.proofs.Numbered.{at_place, map-numbered}
use Rattle.statement_statistics.proofs.SoundStats.{sound_stats}
use Rattle.selectivity_counts.specs.Kept.{distinct_at, distinct_counts, fans_from, kept_edge}
use Rattle.selectivity_counts.proofs.ByPlace.{flat, flat_by_place, flat_long, numbered_here, numbered_map}

-- the rows of a place are those of its table
rows_there : (tables : List TableValue) (place : ℕ) (table : TableValue) → slice_get tables place ≡ Some table
    → rows_at (rows_in tables) place ≡ table.rows
rows_there tables place table at =
    get_or_from_slice_get (rows_in tables) place table.rows []
    (slice_get-map (λ table. table.rows) tables place ∙ ap (option_map (λ (table : TableValue). table.rows)) at)

-- Distinct counts.

by_table : (tables : List TableValue) (at : ColRef) (found : Option TableValue) (schema : List Column)
    → slice_get tables at.place ≡ found → option_map (λ table. table.schema) found ≡ Some schema
    → at.column < length schema
    → distinct_at (map distinct_counts tables) at ≡ distinct_count (rows_at (rows_in tables) at.place) at.column
by_table tables at None schema there same inside = cc
by_table tables at (Some table) schema there same inside =
    let one : table.schema ≡ schema = cc in
    let wide : at.column < length table.schema = subst (λ (s : List Column). at.column < length s) (sym one) inside in
    let here : slice_index_or (map distinct_counts tables) at.place [] ≡ distinct_counts table =
    get_or_from_slice_get (map distinct_counts tables) at.place (distinct_counts table) []
    (slice_get-map distinct_counts tables at.place ∙ ap (option_map distinct_counts) there) in
    ap (λ (counts : List ℕ). slice_index counts at.column) here
    ∙ (at_place (distinct_count table.rows) table.schema at.column 0 wide
    ∙ ap (λ (rows : List (List Value)). distinct_count rows at.column) (sym (rows_there tables at.place table there)))

in_schema : (schema : List Column) (column : ℕ) (found : Option Column) → slice_get schema column ≡ found
    → IsSome (option_map (λ (column : Column). column.kind) found) → column < length schema
in_schema schema column (Some one) e there = slice_get_within schema column one e
in_schema schema column None e there = cc

by_entry : (at : ColRef) (found : Option Place)
    → IsSome (option_and_then (λ place. option_map (λ column. column.kind) (slice_get place.schema at.column)) found)
    → (schema : List Column) × (option_map (λ (place : Place). place.schema) found ≡ Some schema)
    × (at.column < length schema)
by_entry at (Some place) there =
    (place.schema, refl, in_schema place.schema at.column (slice_get place.schema at.column) refl there)
by_entry at None there = cc

kept_distinct : (q : Statement) (tables : List TableValue) → AreTablesOf q tables → (at : ColRef)
    → IsColumn q.places at
    → distinct_at (map distinct_counts tables) at ≡ distinct_count (rows_at (rows_in tables) at.place) at.column
kept_distinct q tables are at there =
    let it = by_entry at (slice_get q.places at.place) there in
    let same : option_map (λ (table : TableValue). table.schema) (slice_get tables at.place) ≡ Some it.0 =
    sym (slice_get-map (λ (table : TableValue). table.schema) tables at.place)
    ∙ (ap (λ (schemas : List (List Column)). slice_get schemas at.place) are.columns
    ∙ (slice_get-map (λ (place : Place). place.schema) q.places at.place ∙ it.1)) in
    by_table tables at (slice_get tables at.place) it.0 refl same it.2

-- Edges.

pub kept_edges : (q : Statement) (tables : List TableValue) → IsSoundQuery q → AreTablesOf q tables
    → map (kept_edge (map distinct_counts tables)) q.edges ≡ edge_counts q (rows_in tables)
kept_edges q tables sound are =
    map_agree (kept_edge (map distinct_counts tables)) (edge_count (rows_in tables)) (IsEdge q.places) q.edges
    sound.edges
    (λ edge is.
    ap (λ (n : ℕ). max 1 (max n (distinct_at (map distinct_counts tables) edge.right)))
    (kept_distinct q tables are edge.left is.there)
    ∙ ap (λ (n : ℕ). max 1 (max (distinct_count (rows_at (rows_in tables) edge.left.place) edge.left.column) n))
    (kept_distinct q tables are edge.right (subst (λ (k : Option Kind). IsSome k) is.one_kind is.there)))

-- Fans.

abbrev fans_of_counts : ℕ → List ℕ → List ℕ
fans_of_counts rows counts = map (λ count. div_ceil rows (max 1 count)) counts

fans_listed : (rows : List ℕ) (place : ℕ) (distincts : List (List ℕ))
    → fans_from rows place distincts
    ≡ flat (numbered (λ number counts. fans_of_counts (slice_index rows number) counts) place distincts)
fans_listed rows place [] = refl
fans_listed rows place (counts ∷ distincts) =
    ap (λ (fans : List ℕ). fans_of_counts (slice_index rows place) counts ++ fans)
    (fans_listed rows (place + 1) distincts)

-- the fans of one more place
pub fans_next : {Z : Type 0} (rows : List ℕ) (shared : List (Rc (List ℕ) Z)) (place : ℕ) (item : Rc (List ℕ) Z)
    (fans new whole : List ℕ) → place < length shared → item ≡ get_or shared place item
    → new ≡ fans ++ fans_of_counts (slice_index rows place) item.value
    → fans ++ fans_from rows place (map rc_value (drop place shared)) ≡ whole
    → new ++ fans_from rows (place + 1) (map rc_value (drop (place + 1) shared)) ≡ whole
fans_next {Z = Z} rows shared place item fans new whole inside is made so_far =
    let cut : drop place shared ≡ item ∷ drop (place + 1) shared =
    rw add-one (drop-cons shared place item inside
    ∙ ap (λ (one : Rc (List ℕ) Z). one ∷ drop (suc place) shared) (sym is)) in
    let left = fans_from rows (place + 1) (map rc_value (drop (place + 1) shared)) in
    ap (λ (ns : List ℕ). ns ++ left) made
    ∙ (append_assoc fans (fans_of_counts (slice_index rows place) item.value) left
    ∙ (sym (ap (λ (lists : List (Rc (List ℕ) Z)). fans ++ fans_from rows place (map rc_value lists)) cut) ∙ so_far))

-- the fans of the columns of a place
abbrev fans_at : List TableValue → ℕ → List Column → List ℕ
fans_at tables number schema = numbered (λ column _. fan_count (rows_at (rows_in tables) number) column) 0 schema

fan_lists : (q : Statement) (tables : List TableValue) → AreTablesOf q tables
    → numbered (λ number counts. fans_of_counts (slice_index (row_counts q (rows_in tables)) number) counts) 0
    (map distinct_counts tables) ≡ fan_counts q (rows_in tables)
fan_lists q tables are =
    numbered_map (λ number counts. fans_of_counts (slice_index (row_counts q (rows_in tables)) number) counts)
    distinct_counts 0 tables
    ∙ (numbered_here _ (λ number (table : TableValue). fans_at tables number table.schema) 0 tables one
    ∙ (sym (numbered_map (fans_at tables) (λ (table : TableValue). table.schema) 0 tables)
    ∙ (ap (λ (schemas : List (List Column)). numbered (fans_at tables) 0 schemas) are.columns
    ∙ numbered_map (fans_at tables) (λ (place : Place). place.schema) 0 q.places)))
  where
    one : (i : ℕ) (table : TableValue) → slice_get tables i ≡ Some table
        → fans_of_counts (slice_index (row_counts q (rows_in tables)) (0 + i)) (distinct_counts table)
        ≡ fans_at tables (0 + i) table.schema
    one i table at =
        let inside : i < length q.places =
        omega (
          arith,
          slice_get_within tables i table at,
          ap length are.columns,
          length-map tables (λ (table : TableValue). table.schema),
          length-map q.places (λ (place : Place). place.schema),
        ) in
        let rows : slice_index (row_counts q (rows_in tables)) i ≡ row_count (rows_at (rows_in tables) i) =
        at_place (λ number. row_count (rows_at (rows_in tables) number)) q.places i 0 inside in
        rw zero-add
        (map-numbered (λ (count : ℕ). div_ceil (slice_index (row_counts q (rows_in tables)) i) (max 1 count))
        (λ column (_ : Column). distinct_count table.rows column) 0 table.schema
        ∙ (ap (λ (n : ℕ). numbered (λ column (_ : Column). div_ceil n (max 1 (distinct_count table.rows column))) 0
        table.schema) rows
        ∙ ap (λ (here : List (List Value)). numbered (λ column (_ : Column).
        div_ceil (row_count (rows_at (rows_in tables) i)) (max 1 (distinct_count here column))) 0 table.schema)
        (sym (rows_there tables i table at))))

-- the flat fans, as a list for each place
pub kept_fans : (q : Statement) (tables : List TableValue) → AreTablesOf q tables
    → fans_from (row_counts q (rows_in tables)) 0 (map distinct_counts tables) ≡ flat (fan_counts q (rows_in tables))
kept_fans q tables are =
    fans_listed (row_counts q (rows_in tables)) 0 (map distinct_counts tables) ∙ ap flat (fan_lists q tables are)

-- All of it.

-- the rows of each table are few
few_in : (tables : List TableValue) → All (λ table. length table.rows ≤ 2 ^ 20) tables
    → All (λ (rows : List (List Value)). length rows ≤ 2 ^ 20) (rows_in tables)
few_in tables few =
    All-map (λ (rows : List (List Value)). length rows ≤ 2 ^ 20) (λ (table : TableValue). table.rows) tables few

-- what was counted, list by list
pub record AreCounted (q : Statement) (tables : List TableValue)
    (rows fixed matching edges fans : List ℕ) : Type 0 where
  pub rows_are : rows ≡ row_counts q (rows_in tables)
  pub fixed_are : fixed ≡ fixed_counts q (rows_in tables)
  pub matching_are : matching ≡ matching_counts q (rows_in tables)
  pub edges_are : edges ≡ map (kept_edge (map distinct_counts tables)) q.edges
  pub fans_are : fans ≡ fans_from rows 0 (map distinct_counts tables)

pub are_counted : (q : Statement) (tables : List TableValue) (distincts : List (List ℕ))
    (rows slice fixed matching edges fans : List ℕ) → distincts ≡ map distinct_counts tables → slice ≡ rows
    → rows ≡ row_counts q (rows_in tables) → fixed ≡ fixed_counts q (rows_in tables)
    → matching ≡ matching_counts q (rows_in tables) → edges ≡ map (kept_edge distincts) q.edges
    → fans ≡ fans_from slice 0 distincts → AreCounted q tables rows fixed matching edges fans
are_counted q tables distincts rows slice fixed matching edges fans kept same rows_are fixed_are matching_are edges_are
    fans_are = record {
      rows_are = rows_are;
      fixed_are = fixed_are;
      matching_are = matching_are;
      edges_are = edges_are ∙ ap (λ (lists : List (List ℕ)). map (kept_edge lists) q.edges) kept;
      fans_are =
          fans_are
          ∙ (ap (λ (ns : List ℕ). fans_from ns 0 distincts) same
          ∙ ap (λ (lists : List (List ℕ)). fans_from rows 0 lists) kept);
    }

pub few_of : {Z : Type 0} (shared : List (Rc TableValue Z))
    → All (λ table. length table.value.rows ≤ ROW_LIMIT) shared
    → All (λ table. length table.rows ≤ 2 ^ 20) (tables_in shared)
few_of shared few = All-map (λ (table : TableValue). length table.rows ≤ 2 ^ 20) rc_value shared few

module _ (q : Statement) (tables : List TableValue) (rows fixed matching edges fans : List ℕ) (indexed : List ℕ)
    (weights : Weights) (sound : IsSoundQuery q) (are : AreTablesOf q tables) (w : AreWeights weights)
    (few : All (λ table. length table.rows ≤ 2 ^ 20) tables) (narrow : first_wide q (rows_in tables) ≡ None)
    (counted : AreCounted q tables rows fixed matching edges fans) where
  whole : IsSoundStats q (stats_of q (rows_in tables) indexed weights)
  whole = sound_stats q (rows_in tables) indexed weights sound (few_in tables few) w narrow

  flat_fans : fans ≡ flat (fan_counts q (rows_in tables))
  flat_fans =
      counted.fans_are
      ∙ (ap (λ (ns : List ℕ). fans_from ns 0 (map distinct_counts tables)) counted.rows_are ∙ kept_fans q tables are)

  pub fans_long : length fans ≡ column_count q.places
  fans_long = ap length flat_fans ∙ flat_long q.places (fan_counts q (rows_in tables)) whole.fan_counts

  pub stats_are : statistics_of q.places rows fixed matching edges fans indexed weights
      ≡ stats_of q (rows_in tables) indexed weights
  stats_are =
      let fans_are : by_place q.places fans ≡ fan_counts q (rows_in tables) =
      ap (by_place q.places) flat_fans ∙ flat_by_place q.places (fan_counts q (rows_in tables)) whole.fan_counts in
      rw (
        counted.rows_are,
        counted.fixed_are,
        counted.matching_are,
        counted.edges_are ∙ kept_edges q tables sound are,
        fans_are,
      ) refl

  pub stats_sound : IsSoundStats q (statistics_of q.places rows fixed matching edges fans indexed weights)
  stats_sound = subst (IsSoundStats q) (sym stats_are) whole
