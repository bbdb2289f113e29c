-- What an engine is: a session, and counts.
use Rattle.std.specs.Prelude.{ℕ, ◌≡◌, ◌⊎◌, ◌+◌, ◌*◌, ◌^◌, ◌≤◌, ◌<◌, Bool, true, false, Option, Some, None, Result, Ok}
use Rattle.std.specs.Prelude.{Err}
use Rattle.row_values.specs.declared.refusals.Refusal.{Refusal}
use Rattle.row_values.specs.declared.refusals.TheConstants.{TOO_MANY_ROWS}
use Rattle.script_report.specs.declared.replies.Reply.{Reply}
use Rattle.script_report.specs.declared.replies.By.{By}
use Rattle.script_report.specs.declared.replies.By.TheVariants as by
use Rattle.script_report.specs.declared.replies.Execution.{Execution}
use Rattle.script_report.specs.declared.replies.Reply.TheVariants.{Closed, Evicted, Fetched, Indexed, Loaded, Opened}
use Rattle.script_report.specs.declared.replies.Reply.TheVariants.{Prepared, Ran, Refused, Shown, Spent}
use Rattle.session_model.specs.State.{State}

-- the session's state, the steps so far, the calls of a planner, and whether memory was short
pub record EngineState : Type 0 where
  pub state : State
  pub steps : ℕ
  pub optimised : ℕ
  pub spent : Bool

-- no count passes 4,096 times the steps, which are few enough for all counts to fit
pub record IsCounted (state : State) (asked steps : ℕ) : Type 0 where
  pub executions : state.executions ≤ 4096 * steps
  pub optimised : asked ≤ 4096 * steps
  pub versions : state.catalog.versions ≤ 4096 * steps
  pub few_steps : steps ≤ 2 ^ 50

-- there is room for one more of each count
pub record HasRoom (state : State) : Type 0 where
  pub executions : state.executions < 2 ^ 62
  pub versions : state.catalog.versions < 2 ^ 62

-- a command raises each count by one at most
pub record CountsOn (old new : State) : Type 0 where
  pub executions : new.executions ≤ old.executions + 1
  pub versions : new.catalog.versions ≤ old.catalog.versions + 1

-- a planner is asked once at most
abbrev pub MayAsk : ℕ → ℕ → Type 0
MayAsk old new = (new ≡ old) ⊎ (new ≡ old + 1)

-- memory was short
abbrev pub is_spent : Reply → Bool
is_spent Spent = true
is_spent (Loaded table rows columns) = false
is_spent (Indexed table column) = false
is_spent (Prepared name tables predicates parameters) = false
is_spent (Ran execution rows) = false
is_spent (Opened cursor execution) = false
is_spent (Fetched cursor rows left) = false
is_spent (Closed cursor) = false
is_spent (Evicted name plan anchors) = false
is_spent (Shown name plans anchors) = false
is_spent (Refused refusal) = false

-- how often a planner was asked for an execution: once where it is by optimum, and not at all for a reuse
abbrev pub IsAskedBy : ℕ → By → ℕ → Type 0
IsAskedBy old (by.Optimum tried) new = new ≡ old + 1
IsAskedBy old (by.Selectivity anchor plan) new = new ≡ old
IsAskedBy old (by.Cost anchor plan tried) new = new ≡ old

-- the same where there were too many rows for one: once at most
abbrev pub IsAskedFor : {A : Type 0} → ℕ → Option (Execution × A) → ℕ → Type 0
IsAskedFor old None new = MayAsk old new
IsAskedFor old (Some ran) new = IsAskedBy old ran.0.by new

-- the same, where it may be refused for another reason too: then not at all
abbrev pub IsAskedIn : {A : Type 0} → ℕ → Result (Execution × A) Refusal → ℕ → Type 0
IsAskedIn old (Ok ran) new = IsAskedBy old ran.0.by new
IsAskedIn old (Err why) new = (new ≡ old) ⊎ ((why.code ≡ TOO_MANY_ROWS) × (new ≡ old + 1))

-- how often for the answer to a line: as for its execution, not at all for another reply; once at most where there were
-- too many rows or memory was short
abbrev pub IsAsked : ℕ → Reply → ℕ → Type 0
IsAsked old (Ran execution rows) new = IsAskedBy old execution.by new
IsAsked old (Opened cursor execution) new = IsAskedBy old execution.by new
IsAsked old (Refused why) new = (new ≡ old) ⊎ ((why.code ≡ TOO_MANY_ROWS) × (new ≡ old + 1))
IsAsked old Spent new = MayAsk old new
IsAsked old (Loaded table rows columns) new = new ≡ old
IsAsked old (Indexed table column) new = new ≡ old
IsAsked old (Prepared name tables predicates parameters) new = new ≡ old
IsAsked old (Fetched cursor rows left) new = new ≡ old
IsAsked old (Closed cursor) new = new ≡ old
IsAsked old (Evicted name plan anchors) new = new ≡ old
IsAsked old (Shown name plans anchors) new = new ≡ old
