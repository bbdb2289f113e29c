-- Executions: what an execution shows, what it leaves in its statement's cache, and when it is turned down.
use Rattle.std.specs.Prelude.{ℕ, ◌≡◌, nat_le, List, Option, Some, None, slice_get, if◌then◌else◌}
use Rattle.std.specs.Option.{option_map}
use Rattle.row_values.specs.Refusals as refused
use Rattle.row_values.specs.Statements.{Statement}
use Rattle.row_values.specs.declared.refusals.Refusal.{Refusal}
use Rattle.plan_trees.specs.Spelling.{top_text}
use Rattle.plan_trees.specs.Statistics.{Statistics}
use Rattle.plan_trees.specs.Trees.{TopTree}
use Rattle.cost_model.specs.Costs.{top_cost}
use Rattle.plan_costs.specs.BestPlans.{IsOptimum}
use Rattle.plan_costs.specs.LowerBounds.{LowerBounds}
use Rattle.cache_model.specs.Caches.{Anchor, CacheState, reused, top_numbered}
use Rattle.cache_model.specs.Choices.{ByCost, ByOptimum, BySelectivity, Choice, choice_of}
use Rattle.cache_model.specs.Keeping.{Eviction, KeptNew, KeptNote, KeptNothing, KeptOld, Keeping, Optimum, kept_after}
use Rattle.bound_certificate.specs.declared.certificates.Cert.{Cert}
use Rattle.bound_certificate.specs.declared.certificates.Cert.TheVariants as cert
use Rattle.script_report.specs.declared.replies.By.{By}
use Rattle.script_report.specs.declared.replies.By.TheVariants as by
use Rattle.script_report.specs.declared.replies.Execution.{Execution}
use Rattle.script_report.specs.declared.replies.KeptNote as report
use Rattle.script_report.specs.declared.replies.KeptNote.TheVariants as note
use Rattle.session_model.specs.declared.TheConstants.{RESULT_LIMIT}
use Rattle.session_model.specs.declared.settings.Settings.{Settings}

-- why a statement with so many result rows isn't executed
abbrev pub rows_refusal : ℕ → Option Refusal
rows_refusal row_count = if nat_le row_count RESULT_LIMIT then None else Some refused.too_many_rows

-- Reuses.

-- the plan of the anchor at this position is used again, which says by which check and names the anchor; the anchor has
-- served one execution more, and all else stays in the cache
pub record Reuses (before : CacheState) (position : ℕ) (way : Anchor → By) (claimed : ℕ → Cert) (plan : TopTree)
    (execution : Execution) (after : CacheState) : Type 0 where
  pub anchor : Anchor
  pub there : slice_get before.anchors position ≡ Some anchor
  pub its_plan : top_numbered before.plans anchor.plan ≡ Some plan
  pub by : execution.by ≡ way anchor
  pub certified : execution.cert ≡ claimed anchor.execution
  pub not_evicted : execution.evicted ≡ None
  pub not_kept : execution.kept ≡ note.Reused
  pub uses : after ≡ reused before position

abbrev pub by_selectivity : Anchor → By
by_selectivity anchor = by.Selectivity anchor.execution anchor.plan

abbrev pub by_cost : ℕ → Anchor → By
by_cost tried anchor = by.Cost anchor.execution anchor.plan tried

-- Optima.

-- the plan that went for room, and how many anchors went with it
abbrev pub eviction_shown : Eviction → ℕ × ℕ
eviction_shown eviction = (eviction.plan, eviction.anchors)

abbrev pub note_shown : KeptNote → report.KeptNote
note_shown (KeptNew number) = note.New number
note_shown (KeptOld number) = note.Old number
note_shown KeptNothing = note.Nothing

-- the execution shows what was kept, and this is the cache then
pub record Keeps (keeping : Keeping) (execution : Execution) (after : CacheState) : Type 0 where
  pub evicted : execution.evicted ≡ option_map eviction_shown keeping.evicted
  pub kept : execution.kept ≡ note_shown keeping.kept
  pub cache : after ≡ keeping.cache

abbrev pub optimum_of : ℕ → List ℕ → TopTree → ℕ → Optimum
optimum_of number vector plan cost = record { execution = number; at = vector; top = plan; least = cost }

-- the plan is of least cost, the certificate is the tight table, and the keeping rule says what is kept
pub record Optimises (settings : Settings) (number : ℕ) (q : Statement) (s : Statistics) (vector : List ℕ)
    (before : CacheState) (tried : ℕ) (plan : TopTree) (execution : Execution) (after : CacheState) : Type 0 where
  pub bounds : LowerBounds
  pub optimum : IsOptimum q s vector plan execution.cost bounds
  pub certified : execution.cert ≡ cert.Optimum bounds
  pub by : execution.by ≡ by.Optimum tried
  pub keeps : Keeps (kept_after before q s (optimum_of number vector plan execution.cost) settings.keep settings.budget)
      execution after

-- Executions.

-- the plan, by the choice for the instance
abbrev pub IsChosen : Settings → ℕ → Statement → Statistics → List ℕ → CacheState → TopTree → Execution → CacheState
    → Choice → Type 0
IsChosen settings number q s vector before plan execution after (BySelectivity position) =
    Reuses before position by_selectivity cert.Selectivity plan execution after
IsChosen settings number q s vector before plan execution after (ByCost position tried) =
    Reuses before position (by_cost tried) cert.Cost plan execution after
IsChosen settings number q s vector before plan execution after (ByOptimum tried) =
    Optimises settings number q s vector before tried plan execution after

-- what an execution of this number shows, of the statement of this name with these statistics, at this vector and with
-- this cache, and the cache after it
pub record IsExecution (settings : Settings) (number : ℕ) (name : List ℕ) (q : Statement) (s : Statistics)
    (vector : List ℕ) (before : CacheState) (execution : Execution) (after : CacheState) : Type 0 where
  pub named : execution.name ≡ name
  pub numbered : execution.number ≡ number
  -- the plan, how it is spelled, and what it costs
  pub plan : TopTree
  pub spelled : execution.spelled ≡ top_text q.places plan
  pub costs : execution.cost ≡ top_cost q s vector plan
  -- the selectivity vector
  pub at : execution.at ≡ vector
  -- a kept plan exactly where a check lets it through, else an optimum
  pub chosen : IsChosen settings number q s vector before plan execution after
      (choice_of before q s vector settings.lambda settings.recosts)
