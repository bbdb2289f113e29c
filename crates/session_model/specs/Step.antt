-- What one line may answer, and what it leaves.
use Rattle.std.specs.Prelude.{ℕ, ◌≡◌, ◌+◌, List, [], ◌∷◌, ◌++◌, drop, length, map, set, take, option_and_then, Option, Some, None}
use Rattle.std.specs.Prelude.{MatchOption, MatchResult}
use Rattle.outside_model.specs.Files.{Files}
use Rattle.row_values.specs.Names.{canonical_name}
use Rattle.row_values.specs.Refusals as refused
use Rattle.row_values.specs.Statements.{Statement, kinds_of}
use Rattle.row_values.specs.declared.refusals.Refusal.{Refusal}
use Rattle.row_values.specs.declared.values.Value.{Value}
use Rattle.sql_parser.specs.Statement.{Parts}
use Rattle.statement_meaning.specs.Meaning.{meaning_of}
use Rattle.statement_meaning.specs.Spelling.{row_line}
use Rattle.script_report.specs.Commands.{Reading, Silent, Says, Bad}
use Rattle.script_report.specs.declared.commands.Command.{Command}
use Rattle.script_report.specs.declared.commands.Command.TheVariants.{Load, Index, Prepare, Run, Cursor, Fetch, Close, Evict, Show}
use Rattle.script_report.specs.declared.replies.Execution.{Execution}
use Rattle.script_report.specs.declared.replies.Reply.{Reply}
use Rattle.script_report.specs.declared.replies.Reply.TheVariants as reply
use Rattle.script_report.specs.declared.shown.ShownAnchor.{ShownAnchor}
use Rattle.script_report.specs.declared.shown.ShownPlan.{ShownPlan}
use Rattle.cache_model.specs.Caches.{Anchor, CachedPlan, CacheState, anchors_of, empty_cache, top_numbered, uses_of, without}
use Rattle.plan_trees.specs.Spelling.{top_text}
use Rattle.plan_trees.specs.Statistics.{Statistics}
use Rattle.statement_meaning.specs.Vectors.{vector_of}
use Rattle.catalog_model.specs.Catalogs.{Version, find_statement, number_of, with_version, with_index, with_statement}
use Rattle.catalog_model.specs.Catalogs.{stats_now, tables_of}
use Rattle.catalog_model.specs.Held.{holding_refusal, versions_of}
use Rattle.catalog_model.specs.Indexing.{indexing_of}
use Rattle.catalog_model.specs.Instances.{instance_of}
use Rattle.catalog_model.specs.Loading.{loading_of}
use Rattle.catalog_model.specs.Preparing.{preparing_of}
use Rattle.session_model.specs.Executions.{IsExecution, rows_refusal}
use Rattle.session_model.specs.State.{CursorState, State, cache_at, cleared_for, closed_from, cursor_named, fetched_from}
use Rattle.session_model.specs.State.{held_versions, holds_of}

-- the line is turned down: the reply says why, and nothing changes
pub record Refuses (why : Refusal) (old : State) (answer : Reply) (new : State) : Type 0 where
  pub says : answer ≡ reply.Refused why
  pub unchanged : new ≡ old

-- the version is kept, in the place of the one before, or in a new table behind the others; the caches of the statements
-- that read the table are cleared
pub record Loads (old : State) (name : List ℕ) (version : Version) (answer : Reply) (new : State) : Type 0 where
  pub says : answer ≡ reply.Loaded name (length version.content.rows) (length version.content.schema)
  pub keeps : new ≡ record old {
    catalog = with_version old.catalog name version;
    caches = cleared_for name old.catalog.statements old.caches;
  }

-- `load T FILE`: the file is there, and nothing speaks against it
abbrev pub LoadStep : State → List ℕ → Option (List ℕ) → Reply → State → Type 0
LoadStep old name file answer new = MatchOption file
    (Refuses refused.missing_file old answer new)
    (λ bytes. MatchResult (loading_of (held_versions old.cursors) old.catalog name bytes)
    (λ version. Loads old name version answer new)
    (λ why. Refuses why old answer new))

-- the column is indexed, and the caches of the statements that read the table are cleared
pub record Indexes (old : State) (table column : List ℕ) (number : ℕ) (answer : Reply) (new : State) : Type 0 where
  pub says : answer ≡ reply.Indexed table column
  pub keeps : new ≡ record old {
    catalog = with_index old.catalog table number;
    caches = cleared_for table old.catalog.statements old.caches;
  }

-- `index T COL`
abbrev pub IndexStep : State → List ℕ → List ℕ → Reply → State → Type 0
IndexStep old table column answer new = MatchResult (indexing_of old.catalog table column)
    (λ number. Indexes old table column number answer new)
    (λ why. Refuses why old answer new)

-- the statement is kept behind the others, with an empty cache
pub record Prepares (old : State) (name : List ℕ) (q : Statement) (answer : Reply) (new : State) : Type 0 where
  pub says : answer ≡ reply.Prepared name (length q.places) (length q.preds) (length (kinds_of q.places q.preds))
  pub keeps : new ≡ record old {
    catalog = with_statement old.catalog name q;
    caches = old.caches ++ empty_cache ∷ [];
  }

-- `prepare NAME SELECT ..`
abbrev pub PrepareStep : State → List ℕ → Parts → Reply → State → Type 0
PrepareStep old name select answer new = MatchResult (preparing_of old.catalog name select)
    (λ q. Prepares old name q answer new)
    (λ why. Refuses why old answer new)

-- the rows of each place of a statement, as its table is loaded now
abbrev pub present_tables : State → Statement → List (List (List Value))
present_tables state q = tables_of state.catalog.tables q

-- the numbers that its plans are costed by, as its tables are loaded and indexed now
abbrev pub present_stats : State → Statement → Statistics
present_stats state q = stats_now state.catalog.tables state.catalog.weights q

-- its selectivity vector for these arguments
abbrev pub present_vector : State → Statement → List Value → List ℕ
present_vector state q args = vector_of q (present_tables state q) args

-- a statement's number, its execution, and its cache after it
pub record ExecutionStep (old : State) (name : List ℕ) (q : Statement) (args : List Value) (new : State) : Type 0 where
  pub number : ℕ
  pub its_number : number_of old.catalog.statements name ≡ Some number
  pub execution : Execution
  pub cache : CacheState
  pub shows : IsExecution old.settings (old.executions + 1) name q (present_stats old q) (present_vector old q args)
      (cache_at old.caches number) execution cache
  pub keeps : new ≡ record old { caches = set old.caches number cache; executions = old.executions + 1 }

-- the statement is executed: the reply has the execution, and a line for each row that the statement means
pub record Executes (old : State) (name : List ℕ) (q : Statement) (args : List Value) (answer : Reply)
    (new : State) : Type 0 where
  pub step : ExecutionStep old name q args new
  pub says : answer ≡ reply.Ran step.execution (map row_line (meaning_of q (present_tables old q) args))

-- an instance, which is executed unless it has too many rows
abbrev pub InstanceStep : State → List ℕ → Statement → List Value → Reply → State → Type 0
InstanceStep old name q args answer new = MatchOption (rows_refusal (length (meaning_of q (present_tables old q) args)))
    (Executes old name q args answer new)
    (λ why. Refuses why old answer new)

-- `run NAME ARG*`
abbrev pub RunStep : State → List ℕ → List Value → Reply → State → Type 0
RunStep old name args answer new = MatchResult (instance_of old.catalog name args)
    (λ instance. InstanceStep old name instance.statement instance.args answer new)
    (λ why. Refuses why old answer new)

-- the plan of this number goes from the statement's cache with its anchors
pub record Evicts (old : State) (name : List ℕ) (number plan : ℕ) (answer : Reply) (new : State) : Type 0 where
  pub says : answer ≡ reply.Evicted name plan (length (anchors_of (cache_at old.caches number).anchors plan))
  pub drops : new ≡ record old { caches = set old.caches number (without (cache_at old.caches number) plan) }

abbrev pub EvictFrom : State → List ℕ → ℕ → ℕ → Reply → State → Type 0
EvictFrom old name plan number answer new = MatchOption (top_numbered (cache_at old.caches number).plans plan)
    (Refuses (refused.unknown_plan plan) old answer new)
    (λ top. Evicts old name number plan answer new)

-- `evict NAME PLAN`
abbrev pub EvictStep : State → List ℕ → ℕ → Reply → State → Type 0
EvictStep old name plan answer new = MatchOption (number_of old.catalog.statements name)
    (Refuses (refused.unknown_statement (canonical_name name)) old answer new)
    (λ number. EvictFrom old name plan number answer new)

-- a kept plan of a statement, how often its anchors were used, and how it is spelled
abbrev pub plan_shown : Statement → List Anchor → CachedPlan → ShownPlan
plan_shown q anchors plan = record {
  number = plan.number;
  uses = uses_of anchors plan.number;
  text = top_text q.places plan.top;
}

abbrev pub anchor_shown : Anchor → ShownAnchor
anchor_shown anchor = record {
  execution = anchor.execution;
  plan = anchor.plan;
  uses = anchor.uses;
  cost = anchor.plan_cost;
  least = anchor.least;
  at = anchor.at;
}

-- what the statement's cache holds is told, and nothing changes
pub record Shows (old : State) (name : List ℕ) (number : ℕ) (answer : Reply) (new : State) : Type 0 where
  pub statement : Statement
  pub prepared : find_statement old.catalog.statements name ≡ Some statement
  pub says : answer ≡ reply.Shown name
      (map (plan_shown statement (cache_at old.caches number).anchors) (cache_at old.caches number).plans)
      (map anchor_shown (cache_at old.caches number).anchors)
  pub unchanged : new ≡ old

-- `show NAME`
abbrev pub ShowStep : State → List ℕ → Reply → State → Type 0
ShowStep old name answer new = MatchOption (number_of old.catalog.statements name)
    (Refuses (refused.unknown_statement (canonical_name name)) old answer new)
    (λ number. Shows old name number answer new)

-- Cursors.

-- the statement is executed, and its row lines wait in a new cursor, which holds the versions of its tables
pub record Opens (old : State) (cursor name : List ℕ) (q : Statement) (args : List Value) (answer : Reply)
    (new : State) : Type 0 where
  pub middle : State
  pub step : ExecutionStep old name q args middle
  pub says : answer ≡ reply.Opened cursor step.execution
  pub keeps : new ≡ record middle {
    cursors = old.cursors ++ record {
      name = cursor;
      held = versions_of old.catalog.tables q;
      lines = map row_line (meaning_of q (present_tables old q) args);
    } ∷ [];
  }

abbrev pub OpenInstanceStep : State → List ℕ → List ℕ → Statement → List Value → Reply → State → Type 0
OpenInstanceStep old cursor name q args answer new =
    MatchOption (rows_refusal (length (meaning_of q (present_tables old q) args)))
    (Opens old cursor name q args answer new)
    (λ why. Refuses why old answer new)

abbrev pub OpenStep : State → List ℕ → List ℕ → List Value → Reply → State → Type 0
OpenStep old cursor name args answer new = MatchResult (instance_of old.catalog name args)
    (λ instance. OpenInstanceStep old cursor name instance.statement instance.args answer new)
    (λ why. Refuses why old answer new)

-- `cursor CUR NAME ARG*`
abbrev pub CursorStep : State → List ℕ → List ℕ → List Value → Reply → State → Type 0
CursorStep old cursor name args answer new = MatchOption (holding_refusal (holds_of old.cursors) cursor)
    (OpenStep old cursor name args answer new)
    (λ why. Refuses why old answer new)

-- the first so many of the row lines that wait, or all of them; they leave the cursor
pub record Fetches (old : State) (cursor : List ℕ) (waiting : CursorState) (count : ℕ) (answer : Reply)
    (new : State) : Type 0 where
  pub says : answer ≡ reply.Fetched cursor (take count waiting.lines) (length (drop count waiting.lines))
  pub keeps : new ≡ record old { cursors = fetched_from old.cursors cursor count }

-- `fetch CUR N`
abbrev pub FetchStep : State → List ℕ → ℕ → Reply → State → Type 0
FetchStep old cursor count answer new = MatchOption (cursor_named old.cursors cursor)
    (Refuses (refused.unknown_cursor (canonical_name cursor)) old answer new)
    (λ waiting. Fetches old cursor waiting count answer new)

-- the cursor goes
pub record Closes (old : State) (cursor : List ℕ) (answer : Reply) (new : State) : Type 0 where
  pub says : answer ≡ reply.Closed cursor
  pub drops : new ≡ record old { cursors = closed_from old.cursors cursor }

-- `close CUR`
abbrev pub CloseStep : State → List ℕ → Reply → State → Type 0
CloseStep old cursor answer new = MatchOption (cursor_named old.cursors cursor)
    (Refuses (refused.unknown_cursor (canonical_name cursor)) old answer new)
    (λ waiting. Closes old cursor answer new)

-- what a command may answer, with the file that it asks for
abbrev pub CommandStep : State → Command → Option (List ℕ) → Reply → State → Type 0
CommandStep old (Load table name) file answer new = LoadStep old table file answer new
CommandStep old (Index table column) file answer new = IndexStep old table column answer new
CommandStep old (Prepare name select) file answer new = PrepareStep old name select answer new
CommandStep old (Run name args) file answer new = RunStep old name args answer new
CommandStep old (Cursor cursor name args) file answer new = CursorStep old cursor name args answer new
CommandStep old (Fetch cursor rows) file answer new = FetchStep old cursor rows answer new
CommandStep old (Close cursor) file answer new = CloseStep old cursor answer new
CommandStep old (Evict name plan) file answer new = EvictStep old name plan answer new
CommandStep old (Show name) file answer new = ShowStep old name answer new

-- what a line may answer, by what it says
unfoldable pub Step : State → Reading → Option (List ℕ) → Reply → State → Type 0
Step old Silent file answer new = ⊥
Step old (Says command) file answer new = CommandStep old command file answer new
Step old Bad file answer new = Refuses refused.syntax old answer new

-- the name of the file that a line asks for
abbrev pub asks_for : Reading → Option (List ℕ)
asks_for Silent = None
asks_for Bad = None
asks_for (Says (Load table name)) = Some name
asks_for (Says (Index table column)) = None
asks_for (Says (Prepare name select)) = None
asks_for (Says (Run name args)) = None
asks_for (Says (Cursor cursor name args)) = None
asks_for (Says (Fetch cursor rows)) = None
asks_for (Says (Close cursor)) = None
asks_for (Says (Evict name plan)) = None
asks_for (Says (Show name)) = None

-- the file that it gets
abbrev pub file_of : Files → Reading → Option (List ℕ)
file_of files reading = option_and_then files (asks_for reading)

-- there is a step: some reply and some state after it
abbrev pub CanStep : State → Reading → Option (List ℕ) → Type 0
CanStep old reading file = (answer : Reply) × (new : State) × Step old reading file answer new
