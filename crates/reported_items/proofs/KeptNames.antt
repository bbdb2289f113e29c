-- What a run keeps: names of one line. With them its executions and plans are plain.
use Rattle.std.proofs.Common.{ℕ, ◌≡◌, ◌∙◌, ◌==◌, ◌<◌, ◌+◌, ◌^◌, List, [], ◌∷◌, ◌++◌, codes, map, All, Option, Some}
use Rattle.std.proofs.Common.{None, Bool, true, false, cond, sym, subst, ap, arith}
use Rattle.std.specs.List.{AllByRecursion}
use Rattle.row_values.specs.Statements.{Statement}
use Rattle.row_values.specs.declared.values.Value.{Value}
use Rattle.row_values.specs.Names.{canonical_name}
use Rattle.sql_parser.specs.Statement.{is_name}
use Rattle.plan_trees.specs.PlanSpace.{IsValidTop}
use Rattle.plan_trees.specs.Statistics.{Statistics}
use Rattle.plan_trees.specs.Trees.{TopTree}
use Rattle.cache_model.specs.Caches.{Anchor, CachedPlan, CacheState, top_numbered}
use Rattle.cache_model.specs.Choices.{ByCost, ByOptimum, BySelectivity, Choice, choice_of}
use Rattle.cache_model.specs.Faithful.{IsFaithfulPlan}
use Rattle.cache_model.proofs.Lists.{each_from}
use Rattle.script_report.specs.declared.replies.Execution.{Execution}
use Rattle.catalog_model.specs.Catalogs.{StatementState, find_statement, number_of}
use Rattle.catalog_model.specs.Sound.{IsLoaded}
use Rattle.report_items.specs.Written.{IsNumber}
use Rattle.session_model.specs.Executions.{IsChosen}
use Rattle.session_model.specs.Session.{IsCacheOf, IsSession}
use Rattle.session_model.specs.State.{CursorState, State, cache_at}
use Rattle.session_model.specs.Step.{ExecutionStep, plan_shown, present_stats, present_vector}
use Rattle.session_model.specs.declared.settings.Settings.{Settings}
use Rattle.session_model.proofs.EachCache.{each_at}
use Rattle.session_model.proofs.Sessions.{same_statement}
use Rattle.reported_items.specs.Reported.{AreRows, IsPlain, Stays, is_one_line}
use Rattle.reported_items.proofs.LineCertificates.{certificate_line, certificate_stays}
use Rattle.reported_items.proofs.LineCommands.{IsName}
use Rattle.reported_items.proofs.LineIndexes.{IsTableLine, plan_names}
use Rattle.reported_items.proofs.LineNames.{canonical_line}
use Rattle.reported_items.proofs.LinePlans.{ArePlanNames, top_line, top_stays}
use Rattle.reported_items.proofs.LineRefusals.{IfThere}
use Rattle.reported_items.proofs.PlainOutcomes.{HasPlaceLines, found_has}
use Rattle.reported_items.proofs.PlainReplies.{ArePlainPlans}

-- indexed columns and aliases have names of one line, and waiting rows are rows
pub record AreKeptNames (state : State) : Type 0 where
  pub tables : AllByRecursion IsTableLine state.catalog.tables
  pub statements : AllByRecursion (λ (prepared : StatementState). HasPlaceLines prepared.statement)
      state.catalog.statements
  pub cursors : AllByRecursion (λ (cursor : CursorState). AreRows cursor.lines) state.cursors

-- what is there has what was shown of it
pub there_has : {X : Type 0} (P : X → Type 0) (o : Option X) (x : X) → IfThere P o → o ≡ Some x → P x
there_has P None x h e = absurd cc
there_has P (Some y) x h e = let same : y ≡ x = cc in subst P same h

-- the names that a statement's plans are spelled by
names_at : (old : State) (name : List ℕ) (q : Statement) → IsSession old → AreKeptNames old
    → find_statement old.catalog.statements name ≡ Some q → ArePlanNames q.places (present_stats old q).indexed
names_at old name q session kept found =
    let loaded = each_from (λ (prepared : StatementState). All (IsLoaded old.catalog.tables) prepared.statement.places)
    old.catalog.statements session.catalog.loaded in
    let here : All (IsLoaded old.catalog.tables) q.places =
    there_has (λ (p : Statement). All (IsLoaded old.catalog.tables) p.places)
    (find_statement old.catalog.statements name) q
    (found_has (λ (p : Statement). All (IsLoaded old.catalog.tables) p.places) old.catalog.statements name loaded)
    found in
    let aliases : HasPlaceLines q = there_has HasPlaceLines (find_statement old.catalog.statements name) q
    (found_has HasPlaceLines old.catalog.statements name kept.statements) found in
    plan_names old.catalog.tables q.places kept.tables (each_from (IsLoaded old.catalog.tables) q.places here) aliases

-- a plan of this number is valid
numbered_valid : (q : Statement) (s : Statistics) (anchors : List Anchor) (next : ℕ) (plans : List CachedPlan)
    (number : ℕ) (top : TopTree) → AllByRecursion (IsFaithfulPlan q s anchors next) plans
    → top_numbered plans number ≡ Some top → IsValidTop q s.indexed top
numbered_valid q s anchors next [] number top h e = absurd cc
numbered_valid q s anchors next (plan ∷ plans) number top h e =
    by_test (plan.number == number) e (λ k. numbered_valid q s anchors next plans number top h.1 k)
  where
    by_test : (test : Bool) → cond test (Some plan.top) (top_numbered plans number) ≡ Some top
        → (top_numbered plans number ≡ Some top → IsValidTop q s.indexed top) → IsValidTop q s.indexed top
    by_test true k later =
        let same : plan.top ≡ top = cc in subst (λ (t : TopTree). IsValidTop q s.indexed t) same (h.0).valid
    by_test false k later = later k

chosen_valid : (settings : Settings) (number : ℕ) (q : Statement) (s : Statistics) (vector : List ℕ)
    (before : CacheState) (plan : TopTree) (execution : Execution) (after : CacheState) (choice : Choice)
    → AllByRecursion (IsFaithfulPlan q s before.anchors before.next_plan) before.plans
    → IsChosen settings number q s vector before plan execution after choice → IsValidTop q s.indexed plan
chosen_valid settings number q s vector before plan execution after (BySelectivity position) h chosen =
    numbered_valid q s before.anchors before.next_plan before.plans _ plan h chosen.its_plan
chosen_valid settings number q s vector before plan execution after (ByCost position tried) h chosen =
    numbered_valid q s before.anchors before.next_plan before.plans _ plan h chosen.its_plan
chosen_valid settings number q s vector before plan execution after (ByOptimum tried) h chosen = chosen.optimum.valid

-- the plans of a statement's cache are valid
pub cached_valid : (old : State) (name : List ℕ) (q : Statement) (number : ℕ) → IsSession old
    → number_of old.catalog.statements name ≡ Some number → find_statement old.catalog.statements name ≡ Some q
    → AllByRecursion (IsFaithfulPlan q (present_stats old q) (cache_at old.caches number).anchors
    (cache_at old.caches number).next_plan) (cache_at old.caches number).plans
cached_valid old name q number session is found =
    let at = each_at (IsCacheOf old) name old.catalog.statements old.caches number is session.caches in
    let same : at.prepared.statement ≡ q =
    same_statement (find_statement old.catalog.statements name) at.prepared.statement q at.found found in
    subst (λ (p : Statement). AllByRecursion (IsFaithfulPlan p (present_stats old p)
    (cache_at old.caches number).anchors (cache_at old.caches number).next_plan) (cache_at old.caches number).plans)
    same
    (each_from (IsFaithfulPlan at.prepared.statement (present_stats old at.prepared.statement)
    (cache_at old.caches number).anchors (cache_at old.caches number).next_plan) (cache_at old.caches number).plans
    at.has.faithful.plans)

-- an execution is plain
pub execution_plain : (old new : State) (name : List ℕ) (q : Statement) (args : List Value) → IsName name
    → IsSession old → AreKeptNames old → old.executions + 1 < 2 ^ 63
    → find_statement old.catalog.statements name ≡ Some q → (step : ExecutionStep old name q args new)
    → IsPlain step.execution
execution_plain old new name q args is session kept few found step =
    let s : Statistics = present_stats old q in
    let cached = cached_valid old name q step.number session step.its_number found in
    let valid = chosen_valid old.settings (old.executions + 1) q s (present_vector old q args)
    (cache_at old.caches step.number) step.shows.plan step.execution step.cache
    (choice_of (cache_at old.caches step.number) q s (present_vector old q args) old.settings.lambda
    old.settings.recosts) cached step.shows.chosen in
    let names = names_at old name q session kept found in
    let line = top_line q s.indexed step.shows.plan names valid in
    let number : IsNumber (old.executions + 1) = record { positive = omega arith; small = few } in
    record {
      name = ap is_name step.shows.named ∙ is.named;
      name_line = ap (λ (z : List ℕ). is_one_line (canonical_name z)) step.shows.named ∙ canonical_line name is.line;
      number = subst IsNumber (sym step.shows.numbered) number;
      plan_line = ap is_one_line step.shows.spelled ∙ line;
      plan_stays = subst (λ (text : List ℕ). Stays (codes "plan " ++ text)) (sym step.shows.spelled)
          (top_stays q.places step.shows.plan);
      cert_line = certificate_line step.execution.cert;
      cert_stays = certificate_stays step.execution.cert;
    }

plans_plain : (q : Statement) (s : Statistics) (anchors shown : List Anchor) (next : ℕ) (plans : List CachedPlan)
    → ArePlanNames q.places s.indexed → AllByRecursion (IsFaithfulPlan q s anchors next) plans
    → ArePlainPlans (map (plan_shown q shown) plans)
plans_plain q s anchors shown next [] names h = tt
plans_plain q s anchors shown next (plan ∷ plans) names h =
    (top_line q s.indexed plan.top names (h.0).valid, plans_plain q s anchors shown next plans names h.1)

-- and so are the plans that are shown
pub shown_plain : (old : State) (name : List ℕ) (q : Statement) (number : ℕ) → IsSession old → AreKeptNames old
    → number_of old.catalog.statements name ≡ Some number → find_statement old.catalog.statements name ≡ Some q
    → ArePlainPlans (map (plan_shown q (cache_at old.caches number).anchors) (cache_at old.caches number).plans)
shown_plain old name q number session kept is found =
    plans_plain q (present_stats old q) (cache_at old.caches number).anchors (cache_at old.caches number).anchors
    (cache_at old.caches number).next_plan (cache_at old.caches number).plans (names_at old name q session kept found)
    (cached_valid old name q number session is found)
