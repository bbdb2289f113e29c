-- What executing a statement by its name gives, for whatever answer its rows are made into.
use Rattle.std.specs.Prelude.{ℕ, ◌≡◌, ◌+◌, List, Some, Ok, Err, Result}
use Rattle.row_values.specs.Statements.{Statement}
use Rattle.row_values.specs.declared.refusals.Refusal.{Refusal}
use Rattle.row_values.specs.declared.values.Value.{Value}
use Rattle.anchor_cache.specs.Contents.{Contents}
use Rattle.catalog_model.specs.Catalogs.{Catalog, find_statement}
use Rattle.script_report.specs.declared.replies.Execution.{Execution}
use Rattle.script_report.specs.declared.replies.Reply.TheVariants as reply
use Rattle.session_model.specs.State.{CursorState, State}
use Rattle.session_model.specs.Step.{RunStep}
use Rattle.session_model.specs.declared.settings.Settings.{Settings}
use Rattle.session_engine.specs.Serving.{IsSessionKept, session_of}

-- a run with this outcome: the execution, with the lines that its answer shows of the statement's rows; or the refusal
abbrev pub RunsTo : {A : Type 0} → (Statement → A → List (List ℕ)) → State → List ℕ → List Value
    → Result (Execution × A) Refusal → State → Type 0
RunsTo lines old name args (Ok ran) new = (q : Statement) × (find_statement old.catalog.statements name ≡ Some q)
    × RunStep old name args (reply.Ran ran.0 (lines q ran.1)) new
RunsTo lines old name args (Err why) new = RunStep old name args (reply.Refused why) new

-- so many executions there are then
abbrev pub executions_after : {T E : Type 0} → ℕ → Result T E → ℕ
executions_after executions (Ok ran) = executions + 1
executions_after executions (Err why) = executions

-- the session with these cursors runs to this outcome, and stays a session
pub record RunsKept {A : Type 0} (lines : Statement → A → List (List ℕ)) (catalog : Catalog) (olds news : List Contents)
    (executions : ℕ) (settings : Settings) (name : List ℕ) (args : List Value)
    (outcome : Result (Execution × A) Refusal)
    (cursors : List CursorState) : Type 0 where
  pub runs : RunsTo lines (session_of catalog olds cursors executions settings) name args outcome
      (session_of catalog news cursors (executions_after executions outcome) settings)
  pub kept : IsSessionKept catalog news cursors (executions_after executions outcome) settings

-- the session with these cursors is as it was
pub record IsUnchanged (catalog : Catalog) (olds news : List Contents) (executions : ℕ) (settings : Settings)
    (cursors : List CursorState) : Type 0 where
  pub seen : session_of catalog news cursors executions settings ≡ session_of catalog olds cursors executions settings
  pub kept : IsSessionKept catalog news cursors executions settings
