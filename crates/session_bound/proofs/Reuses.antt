-- The plan of an execution is within the bound, and its certificate is accepted beside a ledger that knows the anchors.
use Rattle.std.proofs.Common.{ℕ, ◌≡◌, ◌∙◌, ◌≤◌, ◌+◌, ◌*◌, List, Option, Some, ap, arith, sym, subst}
use Rattle.std.proofs.Common.{mul-le-mul, mul_comm, slice_get}
use Rattle.std.specs.List.{AllByRecursion}
use Rattle.std.proofs.lemmas.Option.{same_Some}
use Rattle.fraction_math.specs.Fraction.{Fraction}
use Rattle.row_values.specs.Statements.{Statement}
use Rattle.plan_trees.specs.PlanSpace.{IsValidTop}
use Rattle.plan_trees.specs.Statistics.{IsSoundVector, Statistics}
use Rattle.plan_trees.specs.Trees.{TopTree}
use Rattle.cost_model.specs.Checks.{PassesCostCheck, PassesSelectivityCheck}
use Rattle.cost_model.specs.Costs.{top_cost}
use Rattle.plan_costs.specs.BestPlans.{IsOptimum}
use Rattle.plan_costs.specs.LowerBounds.{LowerBounds}
use Rattle.cache_model.specs.Caches.{Anchor, CacheState, top_numbered}
use Rattle.cache_model.specs.Choices.{ByCost, ByOptimum, BySelectivity, Candidate, Choice, by_nearness, candidates_of}
use Rattle.cache_model.specs.Choices.{choice_of}
use Rattle.cache_model.specs.Choices.{placed_from, position_chosen}
use Rattle.cache_model.specs.Faithful.{IsFaithfulAnchor, IsFaithfulCache}
use Rattle.cache_model.specs.Laws.{IsChoice, IsWithinBound as IsReusable}
use Rattle.cache_model.proofs.Candidates.{StandsIn, each_in_order, each_placed}
use Rattle.cache_model.proofs.Lists.{each_from, each_take}
use Rattle.bound_certificate.specs.declared.certificates.Cert.{Cert}
use Rattle.bound_certificate.specs.declared.certificates.Cert.TheVariants as cert
use Rattle.certificate_check.specs.Headline.{IsWithinBound}
use Rattle.certificate_check.specs.Ledgers.{entry_of}
use Rattle.certificate_check.specs.Verdicts.{Claim, IsCertVerdict, IsReuseVerdict, IsVerdict, PassesByCost}
use Rattle.certificate_check.specs.Verdicts.{PassesBySelectivity, claim_of}
use Rattle.certificate_check.specs.declared.entries.Entry.{Entry}
use Rattle.certificate_check.specs.declared.verdicts.Verdict.TheVariants.{Accepted}
use Rattle.certificate_check.proofs.Judging.{optimal_accepted}
use Rattle.script_report.specs.declared.replies.Execution.{Execution}
use Rattle.session_model.specs.Executions.{IsChosen, Reuses}
use Rattle.session_model.specs.declared.settings.Settings.{Settings}
use Rattle.session_model.proofs.Reuse.{within_bound}
use Rattle.session_bound.proofs.Finds.{each_there}
use Rattle.session_bound.proofs.Ledgers.{HasEntries, HasEntry, entry_for}

-- it is within the bound, and accepted
pub record IsGood (ledger : List Entry) (number : ℕ) (claim : Claim) : Type 0 where
  pub within : IsWithinBound claim
  pub accepted : IsVerdict ledger number claim Accepted

-- Optima.

scaled : (cost least num den : ℕ) → cost ≤ least → den ≤ num → cost * den ≤ num * least
scaled cost least num den h k = let m : cost * den ≤ least * num = mul-le-mul h k in
    let e : least * num ≡ num * least = mul_comm least num in omega arith

pub optimum_good : (ledger : List Entry) (number : ℕ) (q : Statement) (s : Statistics) (vector : List ℕ)
    (lambda : Fraction) (top : TopTree) (cost : ℕ) (certificate : Cert) (bounds : LowerBounds)
    → lambda.den ≤ lambda.num → certificate ≡ cert.Optimum bounds → IsOptimum q s vector top cost bounds
    → IsGood ledger number (claim_of q s vector lambda top cost certificate)
optimum_good ledger number q s vector lambda top cost certificate bounds ratio e o = record {
  within = record {
    valid = o.valid;
    costs = sym o.costs;
    bound = λ least is.
        let low : cost ≤ least = subst (λ n. cost ≤ n) is.reached.costs
        (o.least.below_all is.reached.top is.reached.valid) in
        scaled cost least lambda.num lambda.den low ratio;
  };
  accepted = optimal_accepted ledger number (claim_of q s vector lambda top cost certificate) bounds e
      (record { valid = o.valid; costs = o.costs; one_each = o.one_each; tight = o.tight; same = o.same });
}

-- Reuses.

-- the candidates stand where they say
candidates_stand : (P : Anchor → Type 0) (instance : List ℕ) (recosts : ℕ) (anchors : List Anchor)
    → AllByRecursion P anchors → AllByRecursion (StandsIn anchors P) (candidates_of instance recosts anchors)
candidates_stand P instance recosts anchors h =
    each_take (StandsIn anchors P) recosts (by_nearness instance (placed_from 0 anchors))
    (each_in_order (StandsIn anchors P) instance (placed_from 0 anchors)
    (each_placed P anchors 0 anchors (λ k. ap (slice_get anchors) (omega arith)) h))

-- what is used again is within the bound
reuse_within : (cache : CacheState) (q : Statement) (s : Statistics) (vector : List ℕ) (lambda : Fraction)
    (position cost : ℕ) (anchor : Anchor) (plan : TopTree) (certificate : Cert)
    → IsReusable cache q s vector lambda position → slice_get cache.anchors position ≡ Some anchor
    → top_numbered cache.plans anchor.plan ≡ Some plan → cost ≡ top_cost q s vector plan
    → IsWithinBound (claim_of q s vector lambda plan cost certificate)
reuse_within cache q s vector lambda position cost anchor plan certificate h there numbered costs =
    let one : h.anchor ≡ anchor = same_Some h.anchor anchor (sym h.there ∙ there) in
    let same : h.top ≡ plan = same_Some h.top plan
    (sym h.plan ∙ (ap (λ (a : Anchor). top_numbered cache.plans a.plan) one ∙ numbered)) in
    record {
      valid = subst (IsValidTop q s.indexed) same h.valid;
      costs = costs;
      bound = λ least is.
          subst (λ n. n * lambda.den ≤ lambda.num * least)
          (ap (top_cost q s vector) same ∙ sym costs) (h.bound least is);
    }

-- an entry that is there, and passes
passed : (Passes : Entry → Type 0) (execution : ℕ) (found : Option Entry) (entry : Entry) → found ≡ Some entry
    → Passes entry → IsReuseVerdict Passes execution found Accepted
passed Passes execution found entry e h =
    subst (λ (o : Option Entry). IsReuseVerdict Passes execution o Accepted) (sym e) h

-- a certificate that names an entry that passes is accepted
reuse_good : (ledger : List Entry) (number : ℕ) (claim : Claim) (certificate : Cert) → IsWithinBound claim
    → claim.cert ≡ certificate → IsCertVerdict ledger number claim certificate Accepted → IsGood ledger number claim
reuse_good ledger number claim certificate within e judged = record {
  within = within;
  accepted = (
    within.valid,
    within.costs,
    subst (λ (c : Cert). IsCertVerdict ledger number claim c Accepted) (sym e) judged,
  );
}

-- what is said of the cache, the instance and the ledger, where a plan is chosen
pub record IsServed (ledger : List Entry) (number : ℕ) (cache : CacheState) (q : Statement) (s : Statistics)
    (vector : List ℕ) (executions budget : ℕ) : Type 0 where
  pub faithful : IsFaithfulCache cache q s executions budget
  pub sound : IsSoundVector q s vector
  pub entries : HasEntries ledger number cache

module _ (ledger : List Entry) (number : ℕ) (cache : CacheState) (q : Statement) (s : Statistics) (vector : List ℕ)
    (executions budget : ℕ) (served : IsServed ledger number cache q s vector executions budget)
    (lambda : Fraction) where
  selectivity_good : (position cost : ℕ) (anchor : Anchor) (plan : TopTree) (certificate : Cert)
      → IsReusable cache q s vector lambda position → slice_get cache.anchors position ≡ Some anchor
      → top_numbered cache.plans anchor.plan ≡ Some plan → cost ≡ top_cost q s vector plan
      → certificate ≡ cert.Selectivity anchor.execution
      → PassesSelectivityCheck lambda.num lambda.den anchor.plan_cost anchor.least anchor.at vector
      → IsGood ledger number (claim_of q s vector lambda plan cost certificate)
  selectivity_good position cost anchor plan certificate h there numbered costs e passes =
      let f : IsFaithfulAnchor q s cache.plans executions anchor =
      each_there (IsFaithfulAnchor q s cache.plans executions) cache.anchors position anchor
      (each_from (IsFaithfulAnchor q s cache.plans executions) cache.anchors served.faithful.anchors) there in
      let same : f.top ≡ plan = same_Some f.top plan (sym f.there ∙ numbered) in
      let paid : anchor.plan_cost ≡ top_cost q s anchor.at plan =
      f.plan_cost ∙ ap (top_cost q s anchor.at) same in
      reuse_good ledger number (claim_of q s vector lambda plan cost certificate) (cert.Selectivity anchor.execution)
      (reuse_within cache q s vector lambda position cost anchor plan certificate h there numbered costs) e
      (passed (PassesBySelectivity q s vector lambda plan) anchor.execution (entry_of ledger number anchor.execution)
      (entry_for number anchor)
      (each_there (HasEntry ledger number) cache.anchors position anchor served.entries there)
      (subst (λ n. PassesSelectivityCheck lambda.num lambda.den n anchor.least anchor.at vector) paid passes))

  cost_good : (position cost : ℕ) (anchor : Anchor) (plan : TopTree) (certificate : Cert)
      → IsReusable cache q s vector lambda position → slice_get cache.anchors position ≡ Some anchor
      → top_numbered cache.plans anchor.plan ≡ Some plan → cost ≡ top_cost q s vector plan
      → certificate ≡ cert.Cost anchor.execution
      → PassesCostCheck lambda.num lambda.den (top_cost q s vector plan) anchor.least anchor.at vector
      → IsGood ledger number (claim_of q s vector lambda plan cost certificate)
  cost_good position cost anchor plan certificate h there numbered costs e passes =
      reuse_good ledger number (claim_of q s vector lambda plan cost certificate) (cert.Cost anchor.execution)
      (reuse_within cache q s vector lambda position cost anchor plan certificate h there numbered costs) e
      (passed (PassesByCost vector lambda cost) anchor.execution (entry_of ledger number anchor.execution)
      (entry_for number anchor)
      (each_there (HasEntry ledger number) cache.anchors position anchor served.entries there)
      (subst (λ n. PassesCostCheck lambda.num lambda.den n anchor.least anchor.at vector) (sym costs) passes))

-- The choice.

-- the plan that is chosen for an instance is within the bound, and accepted
pub chosen_good : (settings : Settings) (ledger : List Entry) (number executions : ℕ) (q : Statement) (s : Statistics)
    (vector : List ℕ) (cache : CacheState) (plan : TopTree) (execution : Execution) (after : CacheState)
    (choice : Choice) → settings.lambda.den ≤ settings.lambda.num
    → IsServed ledger number cache q s vector executions settings.budget
    → execution.cost ≡ top_cost q s vector plan
    → choice_of cache q s vector settings.lambda settings.recosts ≡ choice
    → IsChoice cache q s vector settings.lambda settings.recosts choice
    → IsChosen settings (executions + 1) q s vector cache plan execution after choice
    → IsGood ledger number (claim_of q s vector settings.lambda plan execution.cost execution.cert)
chosen_good settings ledger number executions q s vector cache plan execution after (BySelectivity position) ratio
    served costs e choice chosen =
    let reusable = within_bound cache q s executions settings.budget vector settings.lambda settings.recosts position
    served.faithful served.sound (ap position_chosen e) in
    let one : choice.item ≡ chosen.anchor = same_Some choice.item chosen.anchor (sym choice.there ∙ chosen.there) in
    selectivity_good ledger number cache q s vector executions settings.budget served settings.lambda position
    execution.cost chosen.anchor plan execution.cert reusable chosen.there chosen.its_plan costs chosen.certified
    (subst (λ (a : Anchor). PassesSelectivityCheck settings.lambda.num settings.lambda.den a.plan_cost a.least a.at
    vector) one choice.passes)
chosen_good settings ledger number executions q s vector cache plan execution after (ByCost position tried) ratio served
    costs e choice chosen =
    let reusable = within_bound cache q s executions settings.budget vector settings.lambda settings.recosts position
    served.faithful served.sound (ap position_chosen e) in
    let candidate : Candidate = choice.first.item in
    let stands = each_there (StandsIn cache.anchors (HasEntry ledger number))
    (candidates_of vector settings.recosts cache.anchors) choice.before candidate
    (candidates_stand (HasEntry ledger number) vector settings.recosts cache.anchors served.entries)
    choice.first.there in
    let one : candidate.anchor ≡ chosen.anchor = same_Some candidate.anchor chosen.anchor
    (sym stands.0 ∙ (ap (slice_get cache.anchors) choice.placed ∙ chosen.there)) in
    let passes = choice.first.passes in
    let same : passes.top ≡ plan = same_Some passes.top plan
    (sym passes.plan ∙ (ap (λ (a : Anchor). top_numbered cache.plans a.plan) one ∙ chosen.its_plan)) in
    cost_good ledger number cache q s vector executions settings.budget served settings.lambda position execution.cost
    chosen.anchor plan execution.cert reusable chosen.there chosen.its_plan costs chosen.certified
    (subst (λ (t : TopTree). PassesCostCheck settings.lambda.num settings.lambda.den (top_cost q s vector t)
    chosen.anchor.least chosen.anchor.at vector) same
    (subst (λ (a : Anchor). PassesCostCheck settings.lambda.num settings.lambda.den (top_cost q s vector passes.top)
    a.least a.at vector) one passes.check))
chosen_good settings ledger number executions q s vector cache plan execution after (ByOptimum tried) ratio served
    costs e choice chosen =
    optimum_good ledger number q s vector settings.lambda plan execution.cost execution.cert chosen.bounds ratio
    chosen.certified chosen.optimum
