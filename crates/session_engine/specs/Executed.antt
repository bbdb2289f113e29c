-- What executing an instance gives.
use Rattle.std.specs.Prelude.{ℕ, ◌≡◌, List, length, map, nat_le, true, false, Option, Some, None, Result, MatchResult}
use Rattle.std.specs.Option.{option_map}
use Rattle.row_values.specs.Statements.{Statement}
use Rattle.row_values.specs.declared.values.Value.{Value}
use Rattle.csv_tables.specs.StatementTables.{AreTablesOf, rows_in, tables_in}
use Rattle.table_index.specs.StatementIndexes.{AreIndexesOf, indexes_in, masks_of}
use Rattle.plan_trees.specs.Spelling.{top_text}
use Rattle.plan_trees.specs.Statistics.{Statistics, IsSoundStats, IsSoundVector}
use Rattle.plan_trees.specs.Trees.{TopTree}
use Rattle.cost_model.specs.Costs.{top_cost}
use Rattle.cache_model.specs.Caches.{Anchor, CacheState}
use Rattle.cache_model.specs.Choices.{ByCost, BySelectivity, Choice}
use Rattle.plan_operators.specs.declared.source.Source.{Source}
use Rattle.bound_certificate.specs.declared.certificates.Cert.{Cert}
use Rattle.bound_certificate.specs.declared.certificates.Cert.TheVariants as cert
use Rattle.statement_meaning.specs.Meaning.{meaning_of}
use Rattle.statement_meaning.specs.Spelling.{row_line}
use Rattle.statement_statistics.specs.Statistics.{row_counts}
use Rattle.result_shape.specs.Rows.{IsRefusedRows, rows_seen}
use Rattle.result_shape.specs.declared.rows.Rows.{Rows}
use Rattle.result_shape.specs.declared.rows.RowsFault.{RowsFault}
use Rattle.script_report.specs.declared.replies.By.{By}
use Rattle.script_report.specs.declared.replies.Execution.{Execution}
use Rattle.session_model.specs.declared.TheConstants.{RESULT_LIMIT}
use Rattle.session_model.specs.declared.settings.Settings.{Settings}
use Rattle.session_model.specs.Executions.{IsChosen, IsExecution, by_cost, by_selectivity}
use Rattle.session_store.specs.declared.instances.Instance as stored
use Rattle.session_engine.specs.declared.execution.Check.{Check}
use Rattle.session_engine.specs.declared.execution.Check.TheVariants.{Cost, Selectivity}

-- the rows that a statement means, or there are too many
abbrev pub HasRowsOf : Statement → List (List (List Value)) → List Value → Result Rows RowsFault → Type 0
HasRowsOf q tables args result = MatchResult result
    (λ rows. (rows_seen q rows ≡ meaning_of q tables args) × (nat_le (length (meaning_of q tables args)) RESULT_LIMIT ≡
    true))
    (IsRefusedRows (length (meaning_of q tables args)))

-- the same of rows that were found, or of none since there are too many
abbrev pub AreFewRows : Statement → List (List (List Value)) → List Value → Option Rows → Type 0
AreFewRows q tables args None = nat_le (length (meaning_of q tables args)) RESULT_LIMIT ≡ false
AreFewRows q tables args (Some rows) = (rows_seen q rows ≡ meaning_of q tables args)
    × (nat_le (length (meaning_of q tables args)) RESULT_LIMIT ≡ true)

-- the tables and indexes are those of the statement, and the instance has its sound statistics over them
pub record IsReady (source : Source) (instance : stored.Instance) : Type 0 where
  pub tables : AreTablesOf source.q.now (tables_in source.tables.now)
  pub indexes : AreIndexesOf source.q.now (tables_in source.tables.now) (indexes_in source.indexes.now)
  pub stats : IsSoundStats source.q.now instance.stats
  pub rows : instance.stats.rows ≡ row_counts source.q.now (rows_in (tables_in source.tables.now))
  pub masks : instance.stats.indexed ≡ masks_of source.q.now.places source.indexes.now
  pub vector : IsSoundVector source.q.now instance.stats instance.at

-- Reuses.

-- what is told of a reuse by this check, and its certificate
abbrev pub way_of : Check → Anchor → By
way_of Selectivity = by_selectivity
way_of (Cost tried) = by_cost tried

abbrev pub certificate_of : Check → ℕ → Cert
certificate_of Selectivity = cert.Selectivity
certificate_of (Cost tried) = cert.Cost

-- the choice of the anchor at this position by this check
abbrev pub reused_by : Check → ℕ → Choice
reused_by Selectivity position = BySelectivity position
reused_by (Cost tried) position = ByCost position tried

-- Executions.

-- the execution by this choice with the lines of the rows that the statement means, and the cache after it
pub record RanBy (choice : Choice) (settings : Settings) (number : ℕ) (name : List ℕ) (q : Statement)
    (tables : List (List (List Value))) (args : List Value) (s : Statistics) (vector : List ℕ) (before : CacheState)
    (execution : Execution) (lines : List (List ℕ)) (after : CacheState) : Type 0 where
  pub few : nat_le (length (meaning_of q tables args)) RESULT_LIMIT ≡ true
  pub named : execution.name ≡ name
  pub numbered : execution.number ≡ number
  pub plan : TopTree
  pub spelled : execution.spelled ≡ top_text q.places plan
  pub costs : execution.cost ≡ top_cost q s vector plan
  pub at : execution.at ≡ vector
  pub chosen : IsChosen settings number q s vector before plan execution after choice
  pub rows : lines ≡ map row_line (meaning_of q tables args)

-- the execution, and the lines that its answer shows
abbrev pub shown_by : {A : Type 0} → (A → List (List ℕ)) → Option (Execution × A)
    → Option (Execution × List (List ℕ))
shown_by lines ran = option_map (λ one. (one.0, lines one.1)) ran

-- too many rows, and the cache is as it was; or the execution by this choice and its lines
abbrev pub ExecutedBy : Choice → Settings → ℕ → List ℕ → Statement → List (List (List Value)) → List Value → Statistics
    → List ℕ → CacheState → CacheState → Option (Execution × List (List ℕ)) → Type 0
ExecutedBy choice settings number name q tables args s vector before after None =
    (nat_le (length (meaning_of q tables args)) RESULT_LIMIT ≡ false) × (after ≡ before)
ExecutedBy choice settings number name q tables args s vector before after (Some ran) =
    RanBy choice settings number name q tables args s vector before ran.0 ran.1 after

-- the execution, and the lines of the rows that the statement means
pub record Ran (settings : Settings) (number : ℕ) (name : List ℕ) (q : Statement) (tables : List (List (List Value)))
    (args : List Value) (s : Statistics) (vector : List ℕ) (before : CacheState) (execution : Execution)
    (lines : List (List ℕ)) (after : CacheState) : Type 0 where
  pub few : nat_le (length (meaning_of q tables args)) RESULT_LIMIT ≡ true
  pub shows : IsExecution settings number name q s vector before execution after
  pub rows : lines ≡ map row_line (meaning_of q tables args)

-- too many rows, and the cache is as it was; or the execution and its lines
abbrev pub Executed : Settings → ℕ → List ℕ → Statement → List (List (List Value)) → List Value → Statistics → List ℕ
    → CacheState → CacheState → Option (Execution × List (List ℕ)) → Type 0
Executed settings number name q tables args s vector before after None =
    (nat_le (length (meaning_of q tables args)) RESULT_LIMIT ≡ false) × (after ≡ before)
Executed settings number name q tables args s vector before after (Some ran) =
    Ran settings number name q tables args s vector before ran.0 ran.1 after
