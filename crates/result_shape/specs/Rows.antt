-- What result rows show, and what a shaper stands for.
use Rattle.std.specs.Prelude.{ℕ, ◌≡◌, ◌<◌, ◌≤◌, ◌++◌, ◌^◌, List, [], ◌∷◌, MatchResult, Result, length, map}
use Rattle.row_values.specs.Statements.{Statement}
use Rattle.row_values.specs.declared.values.Value.{Value}
use Rattle.row_values.specs.declared.statement.Item.{Item}
use Rattle.csv_tables.specs.StatementTables.{rows_in, tables_in}
use Rattle.csv_tables.specs.Tables.{TableValue}
use Rattle.statement_meaning.specs.Meaning.{Shown, shape_of, shown_row}
use Rattle.result_shape.specs.Groups.{AreGroupsOf, AreReadyFor, AreRuns, groups_in}
use Rattle.result_shape.specs.Numbered.{AreNumbered, AreWhole, IsNumberOf, tallies_from}
use Rattle.result_shape.specs.Tallies.{tallies_shown}
use Rattle.plan_operators.specs.declared.keys.ReadyKey.{ReadyKey}
use Rattle.result_shape.specs.declared.numbered.NumberGroups.{NumberGroups}
use Rattle.result_shape.specs.declared.shaper.Gathered.{Gathered}
use Rattle.result_shape.specs.declared.shaper.Gathered.TheVariants.{ByNumber, ByKeys}
use Rattle.result_shape.specs.declared.tallies.ReadyItem.{ReadyItem}
use Rattle.result_shape.specs.declared.rows.Kept.{Kept}
use Rattle.result_shape.specs.declared.rows.Kept.TheVariants.{Plain, Groups, Numbered}
use Rattle.result_shape.specs.declared.rows.Rows.{Rows}
use Rattle.result_shape.specs.declared.rows.RowsFault.{RowsFault}
use Rattle.result_shape.specs.declared.rows.RowsFault.TheVariants.{TooManyRows, Memory}
use Rattle.result_shape.specs.declared.rows.TheConstants.{ROW_LIMIT}
use Rattle.result_shape.specs.declared.shaper.Pushed.{Pushed}
use Rattle.result_shape.specs.declared.shaper.Pushed.TheVariants as pushed
use Rattle.result_shape.specs.declared.shaper.Shaper.{Shaper}

-- what is shown of rows as they are kept
abbrev pub kept_shown : List (List (List Value)) → List Item → Kept → List (List Shown)
kept_shown tables items (Plain combos) = map (λ c. shown_row tables items (c ∷ []) c) combos.items
kept_shown tables items (Groups groups) = map (λ group. tallies_shown tables group.tallies.items) groups.items
kept_shown tables items (Numbered rows) =
    map (λ one. tallies_shown tables (tallies_from rows.tallies.items (length items) one)) rows.places.items

-- the rows that a statement shows
abbrev pub rows_seen : Statement → Rows → List (List Shown)
rows_seen q rows = kept_shown (rows_in (tables_in rows.tables.items)) q.items rows.kept

-- groups by their one number stand for these combinations
pub record AreByNumber (q : Statement) (tables : List (List (List Value))) (keys : List ReadyKey)
    (items : List ReadyItem) (h : List (List ℕ)) (groups : NumberGroups) : Type 0 where
  pub number : IsNumberOf keys groups.column
  pub whole : AreWhole (length items) groups
  pub numbered : AreNumbered q tables h groups.firsts.items groups.tallies.items

-- groups that were gathered stand for these combinations
abbrev pub StandForGroups : Statement → List (List (List Value)) → List ReadyKey → List ReadyItem → List (List ℕ)
    → Gathered → Type 0
StandForGroups q tables keys items h (ByNumber groups) = AreByNumber q tables keys items h groups
StandForGroups q tables keys items h (ByKeys runs) = AreGroupsOf q tables h (groups_in runs.items) × AreRuns runs.items

-- they stand for some combinations, fewer than 2 ^ 63
abbrev pub AreStanding : List ReadyKey → List ReadyItem → Gathered → Type 0
AreStanding keys items groups =
    (q : Statement) × ((tables : List (List (List Value))) × ((h : List (List ℕ))
    × (AreReadyFor q tables keys items × (StandForGroups q tables keys items h groups × (length h < 2 ^ 63)))))

-- the shaper has these tables, and stands for these combinations: without GROUP BY it keeps their row numbers, with
-- GROUP BY their groups
pub record StandsFor (q : Statement) (tables : List TableValue) (shaper : Shaper) (h : List (List ℕ)) : Type 0 where
  pub tables_are : tables_in shaper.tables.now ≡ tables
  pub ready : AreReadyFor q (rows_in tables) shaper.keys.items shaper.items.items
  pub combos : q.groups ≡ [] → shaper.combos.items ≡ h
  pub groups : 0 < length q.groups
      → StandForGroups q (rows_in tables) shaper.keys.items shaper.items.items h shaper.groups

-- the shaper stands for some combinations, fewer than 2 ^ 63
abbrev pub IsStanding : Statement → Shaper → Type 0
IsStanding q shaper = (tables : List TableValue) × ((h : List (List ℕ)) × (StandsFor q tables shaper h × (length h < 2 ^ 63)))

-- what a push answers, and what the shaper stands for then
abbrev pub IsPushed : Statement → List TableValue → List (List ℕ) → List ℕ → Shaper → Pushed → Type 0
IsPushed q tables h c shaper pushed.More =
    StandsFor q tables shaper (h ++ c ∷ []) × (q.groups ≡ [] → length h < ROW_LIMIT)
IsPushed q tables h c shaper pushed.TooManyRows =
    StandsFor q tables shaper h × (q.groups ≡ []) × (ROW_LIMIT ≤ length h)

-- a refusal of this number of rows
abbrev pub IsRefusedRows : ℕ → RowsFault → Type 0
IsRefusedRows count TooManyRows = ROW_LIMIT < count
IsRefusedRows count Memory = Unit {0}

-- the rows of the shape; or there are too many
abbrev pub IsShaped : Statement → List TableValue → List (List ℕ) → Result Rows RowsFault → Type 0
IsShaped q tables h result =
    MatchResult result
    (λ rows. (rows_seen q rows ≡ shape_of q (rows_in tables) h) × (length (rows_seen q rows) ≤ ROW_LIMIT))
    (IsRefusedRows (length (shape_of q (rows_in tables) h)))
