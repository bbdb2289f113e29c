-- The lines that would be executed, as the walk takes them: the next item is their block, or tells too many rows.
use Rattle.std.proofs.Common.{ℕ, suc, ◌≡◌, ◌∙◌, ◌<◌, ◌+◌, ◌^◌, ◌==◌, Bool, true, false, cond, List, []}
use Rattle.std.proofs.Common.{◌∷◌, Option, Some, Ok, MatchBool, decimal}
use Rattle.std.proofs.Common.{ap, refl, sym, subst, arith}
use Rattle.std.specs.Str.{bytes_eq}
use Rattle.std.proofs.lemmas.Bool.Decides.{nat_tests}
use Rattle.std.proofs.lemmas.Option.{none-some, same_Some}
use Rattle.std.proofs.lemmas.Slice.Eq.{bytes_eq-Decides}
use Rattle.row_values.specs.Statements.{Statement}
use Rattle.row_values.specs.declared.values.Value.{Value}
use Rattle.plan_trees.specs.Spelling.{top_text}
use Rattle.plan_trees.specs.Trees.{TopTree}
use Rattle.cost_model.proofs.CostBounds.{costs_fit}
use Rattle.bound_certificate.specs.Certificates.{certificate_text}
use Rattle.cache_model.specs.Choices.{choice_of}
use Rattle.catalog_model.specs.Catalogs.{StatementState, find_statement, number_of}
use Rattle.catalog_model.specs.Instances.{Instance, instance_of}
use Rattle.catalog_model.proofs.Measures.{measured, statement_found}
use Rattle.catalog_model.proofs.Numbers.{position_next}
use Rattle.certificate_check.specs.Verdicts.{IsVerdict, claim_of}
use Rattle.certificate_check.specs.declared.entries.Entry.{Entry}
use Rattle.certificate_check.specs.declared.verdicts.Verdict.TheVariants.{Accepted}
use Rattle.script_report.specs.declared.replies.Execution.{Execution}
use Rattle.report_items.specs.declared.items.ReportItem.{ReportItem}
use Rattle.report_items.specs.declared.items.ReportItem.TheVariants.{TooLarge}
use Rattle.reported_items.specs.Reported.{block_told}
use Rattle.session_model.specs.Session.{IsSession}
use Rattle.session_model.specs.State.{State, cache_at, held_versions, holds_of}
use Rattle.session_model.specs.Step.{ExecutionStep, present_stats, present_vector}
use Rattle.session_bound.specs.Bound.{IsBounded, claim_in}
use Rattle.session_bound.specs.Ledger.{with_execution}
use Rattle.report_verifier.specs.Claims.{IsBlockJudged}
use Rattle.report_verifier.specs.Findings.{Accepts, FindsBlock, SaidTooLarge, TurnsDown, is_for}
use Rattle.report_verifier.specs.Walk.{Matches, cursors_after}
use Rattle.report_verifier.specs.declared.rejections.Why.TheVariants as why
use Rattle.accepted_reports.proofs.Blocks.{execution_judged}
use Rattle.accepted_reports.proofs.DatedLedgers.{AreDated, entered_by_both}
use Rattle.accepted_reports.proofs.Walked.{walk_in}

-- The item is for the line.

same_number : (n m : ℕ) → n ≡ m → (n == m) ≡ true
same_number n m h = grind (arith, nat_tests)

for_the_line : (line : ℕ) (name named : List ℕ) (execution number : ℕ) → named ≡ name → number ≡ execution
    → is_for line name execution line named number ≡ true
for_the_line line name named execution number e f =
    rw (same_number line line refl, (bytes_eq-Decides named name).1 e, same_number number execution f) refl

where_true : (test : Bool) (F G : Type 0) → test ≡ true → F → MatchBool test F G
where_true true F G e f = f
where_true false F G e f = absurd cc

-- A statement that is found has a number.

numbered : (statements : List StatementState) (name : List ℕ) (q : Statement) → find_statement statements name ≡ Some q
    → (number : ℕ) × (number_of statements name ≡ Some number)
numbered [] name q e = absurd (none-some q e)
numbered (prepared ∷ others) name q e = by_test (bytes_eq name prepared.name) refl e (numbered others name q)
  where
    by_test : (test : Bool) → bytes_eq name prepared.name ≡ test
        → cond test (Some prepared.statement) (find_statement others name) ≡ Some q
        → (find_statement others name ≡ Some q → (number : ℕ) × (number_of others name ≡ Some number))
        → (number : ℕ) × (number_of (prepared ∷ others) name ≡ Some number)
    by_test true is e later =
        (0, position_next (λ (p : StatementState). bytes_eq name p.name) prepared others ∙ (rw is refl))
    by_test false is e later =
        let before = later e in (
          suc before.0,
          position_next (λ (p : StatementState). bytes_eq name p.name) prepared others
              ∙ (rw (is, before.1) refl),
        )

-- Executions.

-- a verdict on another name of the same claim
verdict_as : (ledger : List Entry) (old : State) (e : Execution) (plan : TopTree) (number other : ℕ) (q p : Statement)
    (vector : List ℕ) → number ≡ other → q ≡ p → e.at ≡ vector
    → IsVerdict ledger number (claim_in old q plan e) Accepted
    → IsVerdict ledger other
    (claim_of p (present_stats old p) vector old.settings.lambda plan e.cost e.cert) Accepted
verdict_as ledger old e plan number other q p vector n s v h =
    subst (λ (k : ℕ). IsVerdict ledger k
    (claim_of p (present_stats old p) vector old.settings.lambda plan e.cost e.cert) Accepted) n
    (subst (λ (r : Statement). IsVerdict ledger number
    (claim_of r (present_stats old r) vector old.settings.lambda plan e.cost e.cert) Accepted) s
    (subst (λ (at : List ℕ). IsVerdict ledger number
    (claim_of q (present_stats old q) at old.settings.lambda plan e.cost e.cert) Accepted) v h))

-- the execution of an instance is accepted
judged : (ledger : List Entry) (old new : State) (name : List ℕ) (args : List Value) (instance : Instance)
    → IsSession old → AreDated old.executions ledger → old.executions < 2 ^ 63
    → instance_of old.catalog name args ≡ Ok instance
    → (step : ExecutionStep old name instance.statement instance.args new) → IsBounded old ledger step.execution
    → IsBlockJudged ledger step.number (old.executions + 1) instance.statement
    (claim_of instance.statement (present_stats old instance.statement)
    (present_vector old instance.statement instance.args) old.settings.lambda)
    step.execution.spelled (decimal step.execution.cost) (certificate_text step.execution.cert)
    (Ok (with_execution old.catalog.statements step.execution ledger))
judged ledger old new name args instance session dated few i step bounded =
    let shows = step.shows in
    let e : Execution = step.execution in
    let q : Statement = instance.statement in
    let vector : List ℕ = present_vector old q instance.args in
    let known = measured (held_versions old.cursors) old.catalog name args instance session.catalog i in
    let there : number_of old.catalog.statements e.name ≡ Some step.number =
    ap (number_of old.catalog.statements) shows.named ∙ step.its_number in
    let number : bounded.number ≡ step.number =
    same_Some bounded.number step.number (sym bounded.its_number ∙ there) in
    let found : find_statement old.catalog.statements e.name ≡ Some q =
    ap (find_statement old.catalog.statements) shows.named ∙ (statement_found old.catalog name args instance i).0 in
    let same : bounded.statement ≡ q =
    same_Some bounded.statement q
    (sym (statement_found old.catalog e.name bounded.args
    (record { statement = bounded.statement; args = bounded.args }) bounded.instance).0 ∙ found) in
    let verdict = verdict_as ledger old e bounded.plan bounded.number step.number bounded.statement
    q vector number same
    shows.at bounded.accepted in
    execution_judged old.settings (old.executions + 1) q (present_stats old q) vector
    (cache_at old.caches step.number) shows.plan bounded.plan e step.cache
    (choice_of (cache_at old.caches step.number) q (present_stats old q) vector old.settings.lambda
    old.settings.recosts) ledger (with_execution old.catalog.statements e ledger) step.number old.executions
    (costs_fit q (present_stats old q) vector known.sound known.stats known.vector) known.sound.few_places dated few
    verdict shows.chosen (bounded.spelled ∙ ap (λ (p : Statement). top_text p.places bounded.plan) same)
    (entered_by_both (number_of old.catalog.statements e.name) e ledger step.number (old.executions + 1) vector there
    shows.numbered shows.at)

-- the walk takes an execution with its block
pub execution_matched : (ledger : List Entry) (count : ℕ) (later : List ReportItem) (line : ℕ)
    (cursor : Option (List ℕ)) (old new : State) (name : List ℕ) (args : List Value) (instance : Instance)
    → IsSession old → AreDated old.executions ledger → old.executions < 2 ^ 63
    → instance_of old.catalog name args ≡ Ok instance
    → (step : ExecutionStep old name instance.statement instance.args new) → IsBounded old ledger step.execution
    → Matches (walk_in old ledger count (block_told line step.execution ∷ later)) line cursor name instance.statement
    instance.args
    (Ok (record (walk_in old (with_execution old.catalog.statements step.execution ledger) count later) {
      cursors = cursors_after (holds_of old.cursors) old.catalog.tables cursor instance.statement;
      executions = old.executions + 1;
    }))
execution_matched ledger count later line cursor old new name args instance session dated few i step bounded = record {
  statement = step.number;
  its_number = step.its_number;
  finding = Accepts (with_execution old.catalog.statements step.execution ledger);
  finds = where_true
      (is_for line name (old.executions + 1) line step.execution.name step.execution.number)
      (FindsBlock (IsBlockJudged ledger step.number (old.executions + 1) instance.statement
      (claim_of instance.statement (present_stats old instance.statement)
      (present_vector old instance.statement instance.args) old.settings.lambda)) step.execution.spelled
      (decimal step.execution.cost) (certificate_text step.execution.cert)
      (Accepts (with_execution old.catalog.statements step.execution ledger)))
      (Accepts (with_execution old.catalog.statements step.execution ledger) ≡ TurnsDown why.Block)
      (for_the_line line name step.execution.name (old.executions + 1) step.execution.number step.shows.named
      step.shows.numbered)
      (record {
        outcome = Ok (with_execution old.catalog.statements step.execution ledger);
        judged = judged ledger old new name args instance session dated few i step bounded;
        finds = refl;
      });
  goes = refl;
}

-- and one with too many rows as that
pub too_large_matched : (ledger : List Entry) (count : ℕ) (later : List ReportItem) (line : ℕ)
    (cursor : Option (List ℕ)) (old : State) (name : List ℕ) (args : List Value) (instance : Instance)
    → instance_of old.catalog name args ≡ Ok instance
    → Matches (walk_in old ledger count (TooLarge line ∷ later)) line cursor name instance.statement instance.args
    (Ok (walk_in old ledger (count + 1) later))
too_large_matched ledger count later line cursor old name args instance i =
    let there = numbered old.catalog.statements name instance.statement
    (statement_found old.catalog name args instance i).0 in
    record {
      statement = there.0;
      its_number = there.1;
      finding = SaidTooLarge;
      finds = rw (same_number line line refl) refl;
      goes = refl;
    }
