-- The block that tells an execution within the bound is judged as accepted.
use Rattle.std.proofs.Common.{ℕ, suc, zero, ◌≡◌, ◌≤◌, ◌<◌, ◌^◌, Bool, true, false, inr, List, length, slice_get}
use Rattle.std.proofs.Common.{Option, Some, None, IfSome, Ok, option_and_then, ap, refl, sym, subst, arith, decimal}
use Rattle.std.proofs.lemmas.Option.{slice_get-get_or}
use Rattle.row_values.specs.Statements.{Statement}
use Rattle.plan_trees.specs.Spelling.{top_text}
use Rattle.plan_trees.specs.Statistics.{Statistics}
use Rattle.plan_trees.specs.Trees.{TopTree}
use Rattle.plan_trees.proofs.ValidPlans.{spelled_valid_as}
use Rattle.cost_model.specs.Laws.{CostsFit}
use Rattle.cost_model.specs.LeastCost.{IsPlaceSet, IsTight, IsTightCell}
use Rattle.plan_costs.specs.BestPlans.{IsOptimum, in_cell, table_of_cells}
use Rattle.plan_costs.specs.LowerBounds.{LowerBounds}
use Rattle.plan_costs.specs.declared.potentials.Cell.{Cell}
use Rattle.cache_model.specs.Caches.{CacheState}
use Rattle.cache_model.specs.Choices.{ByCost, ByOptimum, BySelectivity, Choice}
use Rattle.bound_certificate.specs.Certificates.{IsCell, IsCertificate, certificate_text}
use Rattle.bound_certificate.specs.declared.certificates.Cert.{Cert}
use Rattle.bound_certificate.specs.declared.certificates.Cert.TheVariants as cert
use Rattle.certificate_check.specs.Headline.{entered}
use Rattle.certificate_check.specs.Ledgers.{ledger_after}
use Rattle.certificate_check.specs.Verdicts.{Claim, IsCertVerdict, IsVerdict, PassesByCost, PassesBySelectivity}
use Rattle.certificate_check.specs.Verdicts.{claim_of}
use Rattle.certificate_check.specs.declared.entries.Entry.{Entry}
use Rattle.certificate_check.specs.declared.verdicts.Verdict.TheVariants.{Accepted}
use Rattle.script_report.specs.declared.replies.Execution.{Execution}
use Rattle.session_model.specs.Executions.{IsChosen}
use Rattle.session_model.specs.declared.settings.Settings.{Settings}
use Rattle.report_verifier.specs.Claims.{IsBlockJudged}
use Rattle.accepted_reports.proofs.Certificates.{certificate_read}
use Rattle.accepted_reports.proofs.DatedLedgers.{AreDated, named_past}

-- Optima: the tight table is small.

power_small : (n : ℕ) → n ≤ 5 → 2 ^ n ≤ 32
power_small zero h = omega arith
power_small (suc zero) h = omega arith
power_small (suc (suc zero)) h = omega arith
power_small (suc (suc (suc zero))) h = omega arith
power_small (suc (suc (suc (suc zero)))) h = omega arith
power_small (suc (suc (suc (suc (suc zero))))) h = omega arith
power_small (suc (suc (suc (suc (suc (suc n)))))) h = absurd (omega (arith, h))

module _ (q : Statement) (s : Statistics) (vector : List ℕ) (fit : CostsFit q s vector) where
  number_small : (sorted : Bool) (set : ℕ) (number : Option ℕ) → IsTightCell q s vector sorted set number
      → IfSome number (λ cost. cost < 2 ^ 128)
  number_small sorted set None tight = tt
  number_small sorted set (Some cost) tight = let high = (fit.cells sorted set cost tight).high in omega (arith, high)

  cell_small : (bounds : LowerBounds) (k : ℕ) (cell : Cell) → IsTight q s vector (table_of_cells
      bounds.cells) bounds.least
      → IsPlaceSet q (suc k) → slice_get bounds.cells k ≡ Some cell → IsCell cell
  cell_small bounds k cell tight there is =
      record {
        any = number_small false (suc k) (Some cell.any)
            (subst (IsTightCell q s vector false (suc k)) (ap (option_and_then (in_cell false)) is)
            (tight.cells false (suc k) there));
        sorted = number_small true (suc k) cell.sorted
            (subst (IsTightCell q s vector true (suc k)) (ap (option_and_then (in_cell true)) is)
            (tight.cells true (suc k) there));
      }

  optimum_certified : (top : TopTree) (cost : ℕ) (bounds : LowerBounds) → length q.places ≤ 5
      → IsOptimum q s vector top cost bounds → IsCertificate (cert.Optimum bounds)
  optimum_certified top cost bounds few o =
      let size = power_small (length q.places) few in
      let cells = o.one_each in
      let high = (fit.tops top o.valid).high in
      let costs = o.costs in
      let same = o.same in (
        omega (arith, size, cells),
        (
          omega (arith, high, costs, same),
          λ k d less. cell_small bounds k _ o.tight (record { some = omega arith; there = omega (arith, cells, less) })
              (slice_get-get_or bounds.cells k d less),
        ),
      )

-- The certificate of an execution is one that is read again.

chosen_certified : (settings : Settings) (number : ℕ) (q : Statement) (s : Statistics) (vector : List ℕ)
    (before : CacheState) (plan top : TopTree) (execution : Execution) (after : CacheState) (choice : Choice)
    (ledger : List Entry) (statement executions : ℕ) → CostsFit q s vector → length q.places ≤ 5
    → AreDated executions ledger → executions < 2 ^ 63
    → IsCertVerdict ledger statement (claim_of q s vector settings.lambda top execution.cost execution.cert)
    execution.cert Accepted
    → IsChosen settings number q s vector before plan execution after choice → IsCertificate execution.cert
chosen_certified settings number q s vector before plan top execution after (BySelectivity position) ledger statement
    executions fit few dated small verdict chosen =
    let c : Claim = claim_of q s vector settings.lambda top execution.cost execution.cert in
    subst IsCertificate (sym chosen.certified) (
      named_past (PassesBySelectivity q s vector settings.lambda top) statement
          chosen.anchor.execution executions ledger
          dated small
          (subst (λ (claimed : Cert). IsCertVerdict ledger statement c claimed Accepted) chosen.certified verdict),
      tt,
    )
chosen_certified settings number q s vector before plan top execution after (ByCost position tried) ledger statement
    executions fit few dated small verdict chosen =
    let c : Claim = claim_of q s vector settings.lambda top execution.cost execution.cert in
    subst IsCertificate (sym chosen.certified) (
      named_past (PassesByCost vector settings.lambda execution.cost) statement
          chosen.anchor.execution executions ledger
          dated small
          (subst (λ (claimed : Cert). IsCertVerdict ledger statement c claimed Accepted) chosen.certified verdict),
      tt,
    )
chosen_certified settings number q s vector before plan top execution after (ByOptimum tried) ledger statement
    executions fit few dated small verdict chosen =
    subst IsCertificate (sym chosen.certified)
    (optimum_certified q s vector fit plan execution.cost chosen.bounds few chosen.optimum)

-- Blocks.

block_judged : (ledger new : List Entry) (statement number : ℕ) (q : Statement) (s : Statistics) (vector : List ℕ)
    (settings : Settings) (top : TopTree) (execution : Execution) → CostsFit q s vector → length q.places ≤ 5
    → IsVerdict ledger statement (claim_of q s vector settings.lambda top execution.cost execution.cert) Accepted
    → execution.spelled ≡ top_text q.places top → IsCertificate execution.cert
    → new ≡ ledger_after ledger
    (entered statement number (claim_of q s vector settings.lambda top execution.cost execution.cert)) execution.cert
    Accepted
    → IsBlockJudged ledger statement number q (claim_of q s vector settings.lambda) execution.spelled
    (decimal execution.cost) (certificate_text execution.cert) (Ok new)
block_judged ledger new statement number q s vector settings top execution fit few verdict spelled certificate left =
    let high = (fit.tops top verdict.0).high in
    let costs = verdict.1 in
    inr (
      top,
      spelled_valid_as q s.indexed execution.spelled top few spelled verdict.0,
      inr (
        execution.cost,
        record { spelled = refl; small = omega (arith, high, costs) },
        inr (
          execution.cert,
          record { certificate = certificate; spelled = certificate_read execution.cert certificate },
          record { verdict = Accepted; is_verdict = verdict; follows = ap Ok left },
        ),
      ),
    )

pub execution_judged : (settings : Settings) (number : ℕ) (q : Statement) (s : Statistics) (vector : List ℕ)
    (before : CacheState) (plan top : TopTree) (execution : Execution) (after : CacheState) (choice : Choice)
    (ledger new : List Entry) (statement executions : ℕ) → CostsFit q s vector → length q.places ≤ 5
    → AreDated executions ledger → executions < 2 ^ 63
    → IsVerdict ledger statement (claim_of q s vector settings.lambda top execution.cost execution.cert) Accepted
    → IsChosen settings number q s vector before plan execution after choice
    → execution.spelled ≡ top_text q.places top
    → new ≡ ledger_after ledger
    (entered statement number (claim_of q s vector settings.lambda top execution.cost execution.cert)) execution.cert
    Accepted
    → IsBlockJudged ledger statement number q (claim_of q s vector settings.lambda) execution.spelled
    (decimal execution.cost) (certificate_text execution.cert) (Ok new)
execution_judged settings number q s vector before plan top execution after choice ledger new
    statement executions fit few
    dated small verdict chosen spelled left =
    block_judged ledger new statement number q s vector settings top execution fit few verdict spelled
    (chosen_certified settings number q s vector before plan top execution after choice ledger statement executions fit
    few dated small verdict.2 chosen) left
