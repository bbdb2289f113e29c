-- What is told of a run of the demo: seven numbers over its replies and over the cache at its end.
use Rattle.std.specs.Prelude.{ℕ, ◌+◌, Bool, true, false, if◌then◌else◌, List, [], ◌∷◌, ◌++◌, codes, length}
use Rattle.std.specs.Prelude.{Option, Some, None}
use Rattle.std.specs.Fmt.{decimal}
use Rattle.script_report.specs.declared.replies.By.{By}
use Rattle.script_report.specs.declared.replies.By.TheVariants.{Selectivity, Cost, Optimum}
use Rattle.script_report.specs.declared.replies.Reply.{Reply}
use Rattle.script_report.specs.declared.replies.Reply.TheVariants.{Loaded, Indexed, Prepared, Ran, Opened, Fetched}
use Rattle.script_report.specs.declared.replies.Reply.TheVariants.{Closed, Evicted, Shown, Refused, Spent}

-- How an execution got its plan.

abbrev pub in_any_way : By → Bool
in_any_way by = true

abbrev pub is_optimum : By → Bool
is_optimum (Optimum tried) = true
is_optimum (Selectivity anchor plan) = false
is_optimum (Cost anchor plan tried) = false

abbrev pub is_by_selectivity : By → Bool
is_by_selectivity (Selectivity anchor plan) = true
is_by_selectivity (Cost anchor plan tried) = false
is_by_selectivity (Optimum tried) = false

abbrev pub is_by_cost : By → Bool
is_by_cost (Cost anchor plan tried) = true
is_by_cost (Selectivity anchor plan) = false
is_by_cost (Optimum tried) = false

-- Executions.

-- how an execution got its plan, and how many rows came with it; none where a reply is no execution
abbrev pub executed : Reply → Option (By × ℕ)
executed (Ran execution rows) = Some (execution.by, length rows)
executed (Opened cursor execution) = Some (execution.by, 0)
executed (Loaded table rows columns) = None
executed (Indexed table column) = None
executed (Prepared name tables predicates parameters) = None
executed (Fetched cursor rows left) = None
executed (Closed cursor) = None
executed (Evicted name plan anchors) = None
executed (Shown name plans anchors) = None
executed (Refused refusal) = None
executed Spent = None

-- 1 for an execution that got its plan in such a way
abbrev pub one_for : (By → Bool) → Option (By × ℕ) → ℕ
one_for such None = 0
one_for such (Some (by, rows)) = if such by then 1 else 0

abbrev pub rows_of : Option (By × ℕ) → ℕ
rows_of None = 0
rows_of (Some (by, rows)) = rows

-- how many executions got their plan in such a way
abbrev pub executions : (By → Bool) → List Reply → ℕ
executions such [] = 0
executions such (reply ∷ replies) = one_for such (executed reply) + executions such replies

-- the rows of all executions
abbrev pub all_rows : List Reply → ℕ
all_rows [] = 0
all_rows (reply ∷ replies) = rows_of (executed reply) + all_rows replies

-- the counts over replies
pub record Counts : Type 0 where
  pub executions : ℕ
  pub optimised : ℕ
  pub by_selectivity : ℕ
  pub by_cost : ℕ
  pub rows : ℕ

abbrev pub counts_of : List Reply → Counts
counts_of replies = record {
  executions = executions in_any_way replies;
  optimised = executions is_optimum replies;
  by_selectivity = executions is_by_selectivity replies;
  by_cost = executions is_by_cost replies;
  rows = all_rows replies;
}

-- the counts once this was counted too
abbrev pub with_execution : Counts → Option (By × ℕ) → Counts
with_execution counts execution = record {
  executions = counts.executions + one_for in_any_way execution;
  optimised = counts.optimised + one_for is_optimum execution;
  by_selectivity = counts.by_selectivity + one_for is_by_selectivity execution;
  by_cost = counts.by_cost + one_for is_by_cost execution;
  rows = counts.rows + rows_of execution;
}

-- What a cache holds: the plans and the anchors that a `show` tells.

abbrev pub plans_in : Reply → ℕ
plans_in (Shown name plans anchors) = length plans
plans_in (Ran execution rows) = 0
plans_in (Opened cursor execution) = 0
plans_in (Loaded table rows columns) = 0
plans_in (Indexed table column) = 0
plans_in (Prepared name tables predicates parameters) = 0
plans_in (Fetched cursor rows left) = 0
plans_in (Closed cursor) = 0
plans_in (Evicted name plan anchors) = 0
plans_in (Refused refusal) = 0
plans_in Spent = 0

abbrev pub anchors_in : Reply → ℕ
anchors_in (Shown name plans anchors) = length anchors
anchors_in (Ran execution rows) = 0
anchors_in (Opened cursor execution) = 0
anchors_in (Loaded table rows columns) = 0
anchors_in (Indexed table column) = 0
anchors_in (Prepared name tables predicates parameters) = 0
anchors_in (Fetched cursor rows left) = 0
anchors_in (Closed cursor) = 0
anchors_in (Evicted name plan anchors) = 0
anchors_in (Refused refusal) = 0
anchors_in Spent = 0

-- The text.

-- `LABEL N`
unfoldable pub count_line : List ℕ → ℕ → List ℕ
count_line label number = label ++ (codes " " ++ (decimal number ++ codes "\n"))

-- the lines of the executions
abbrev pub execution_lines : Counts → List ℕ
execution_lines counts =
    count_line (codes "executions") counts.executions
    ++ count_line (codes "optimised") counts.optimised
    ++ count_line (codes "by selectivity") counts.by_selectivity
    ++ count_line (codes "by cost") counts.by_cost

-- the lines of what a reply shows of the cache
abbrev pub cache_lines : Reply → List ℕ
cache_lines shown = count_line (codes "plans") (plans_in shown) ++ count_line (codes "anchors") (anchors_in shown)

-- the seven lines, in their order
abbrev pub summary_text : Counts → Reply → List ℕ
summary_text counts shown = execution_lines counts ++ cache_lines shown ++ count_line (codes "rows") counts.rows

-- the summary of a script's replies, and of the reply to the `show` behind it
abbrev pub demo_text : List Reply → Reply → List ℕ
demo_text replies shown = summary_text (counts_of replies) shown
