-- What a verdict is worth.
use Rattle.std.proofs.Common.{ℕ, ◌≡◌, ◌≤◌, ◌*◌, ◌++◌, ◌==◌, true, not, List, [], ◌∷◌, Option}
use Rattle.std.proofs.Common.{Some, None, refl, sym, ◌∙◌, ◌≢◌, subst, subst₂, arith, mul-le-mul, mul_comm}
use Rattle.std.specs.List.{AllByRecursion}
use Rattle.std.proofs.lemmas.Bool.Decides.{nat_tests}
use Rattle.row_values.specs.Statements.{Statement}
use Rattle.plan_trees.specs.PlanSpace.{IsValidTop}
use Rattle.plan_trees.specs.Statistics.{Statistics, IsSoundVector}
use Rattle.plan_trees.specs.Trees.{TopTree}
use Rattle.cost_model.specs.Costs.{top_cost}
use Rattle.cost_model.specs.Laws.{IsReuse}
use Rattle.cost_model.specs.LeastCost.{IsLeastCost}
use Rattle.cost_model.proofs.CheckBounds.{cost_check_bound, selectivity_check_bound}
use Rattle.cost_model.proofs.LowerBounds.{below_every_top, feasible_if_tight}
use Rattle.cache_model.proofs.Counts.{counts_some}
use Rattle.cache_model.proofs.Lists.{all_from, each_filter, each_from, each_push}
use Rattle.plan_costs.specs.BestPlans.{table_of_cells}
use Rattle.plan_costs.specs.LowerBounds.{LowerBounds}
use Rattle.bound_certificate.specs.declared.certificates.Cert.{Cert}
use Rattle.bound_certificate.specs.declared.certificates.Cert.TheVariants.{Optimum, Selectivity, Cost}
use Rattle.certificate_check.specs.declared.entries.Entry.{Entry}
use Rattle.certificate_check.specs.declared.verdicts.Verdict.{Verdict}
use Rattle.certificate_check.specs.declared.verdicts.Verdict.TheVariants.{Accepted, Memory}
use Rattle.certificate_check.specs.Headline.{IsOptimal, IsWithinBound}
use Rattle.certificate_check.specs.Ledgers.{IsTrueEntry, IsTrueLedger, entry_of, is_of, ledger_after, without}
use Rattle.certificate_check.specs.Verdicts.{Claim, HasCost, HasPlan, HasTable, IsCertVerdict, IsLowest, IsReuseVerdict}
use Rattle.certificate_check.specs.Verdicts.{IsVerdict, PassesByCost, PassesBySelectivity}
use Rattle.certificate_check.proofs.Comparing.{found_entry}

-- Optima.

scaled : (cost least num den : ℕ) → cost ≤ least → den ≤ num → cost * den ≤ num * least
scaled cost least num den h k = let m : cost * den ≤ least * num = mul-le-mul h k in
    let e : least * num ≡ num * least = mul_comm least num in omega arith

-- an accepted optimum costs no more than any valid plan
below_least : (c : Claim) (bounds : LowerBounds) → HasTable c.query c.stats c.at bounds
    → IsLowest c.query c.stats c.at c.cost bounds → (top : TopTree) → IsValidTop c.query c.stats.indexed top
    → c.cost ≤ top_cost c.query c.stats c.at top
below_least c bounds table lowest top valid =
    let below = below_every_top c.query c.stats c.at (table_of_cells bounds.cells) bounds.least top table.feasible
    lowest.fits valid in
    let same = lowest.same in
    omega arith

pub optimum_least : (c : Claim) (bounds : LowerBounds) → HasPlan c → HasCost c → HasTable c.query c.stats c.at bounds
    → IsLowest c.query c.stats c.at c.cost bounds → IsLeastCost c.query c.stats c.at c.cost
optimum_least c bounds plan cost table lowest = record {
  reached = record { top = c.top; valid = plan; costs = sym cost };
  below_all = below_least c bounds table lowest;
}

optimum_bound : (c : Claim) (bounds : LowerBounds) (least : ℕ) → c.lambda.den ≤ c.lambda.num
    → HasTable c.query c.stats c.at bounds → IsLowest c.query c.stats c.at c.cost bounds
    → IsLeastCost c.query c.stats c.at least → c.cost * c.lambda.den ≤ c.lambda.num * least
optimum_bound c bounds least ratio table lowest is_least =
    let below = below_least c bounds table lowest is_least.reached.top is_least.reached.valid in
    let same = is_least.reached.costs in
    scaled c.cost least c.lambda.num c.lambda.den (omega arith) ratio

-- Reuses.

reuse_of : (c : Claim) (entry : Entry) (least : ℕ) → HasPlan c → IsSoundVector c.query c.stats c.at
    → IsTrueEntry c.query c.stats entry → IsLeastCost c.query c.stats c.at least
    → IsReuse c.query c.stats c.top c.at entry.at least entry.least
reuse_of c entry least plan sound true_entry is_least = record {
  valid = plan;
  instance_vector = sound.one_each;
  anchor_vector = true_entry.vector.one_each;
  anchor_counts = counts_some c.query c.stats entry.at true_entry.vector;
  least_there = is_least;
  least_known = true_entry.least;
}

-- an accepted reuse names an entry that passes
passed : (Passes : Entry → Type 0) (ledger : List Entry) (statement execution : ℕ) (found : Option Entry)
    → entry_of ledger statement execution ≡ found → IsReuseVerdict Passes execution found Accepted
    → (entry : Entry) × (entry_of ledger statement execution ≡ Some entry) × Passes entry
passed Passes ledger statement execution None e h = absurd h
passed Passes ledger statement execution (Some entry) e h = (entry, e, h)

selectivity_bound : (c : Claim) (entry : Entry) (least : ℕ) → HasPlan c → HasCost c
    → IsSoundVector c.query c.stats c.at → IsTrueEntry c.query c.stats entry
    → IsLeastCost c.query c.stats c.at least → PassesBySelectivity c.query c.stats c.at c.lambda c.top entry
    → c.cost * c.lambda.den ≤ c.lambda.num * least
selectivity_bound c entry least plan cost sound true_entry is_least passes =
    subst (λ n. n * c.lambda.den ≤ c.lambda.num * least) (sym cost)
    (selectivity_check_bound c.query c.stats c.top c.at entry.at c.lambda.num c.lambda.den least entry.least
    (reuse_of c entry least plan sound true_entry is_least) passes)

cost_bound : (c : Claim) (entry : Entry) (least : ℕ) → HasPlan c → HasCost c → IsSoundVector c.query c.stats c.at
    → IsTrueEntry c.query c.stats entry → IsLeastCost c.query c.stats c.at least
    → PassesByCost c.at c.lambda c.cost entry → c.cost * c.lambda.den ≤ c.lambda.num * least
cost_bound c entry least plan cost sound true_entry is_least passes =
    subst (λ n. n * c.lambda.den ≤ c.lambda.num * least) (sym cost)
    (cost_check_bound c.query c.stats c.top c.at entry.at c.lambda.num c.lambda.den least entry.least
    (reuse_of c entry least plan sound true_entry is_least)
    (subst (λ n. PassesByCost c.at c.lambda n entry) cost passes))

-- Accepted claims.

bound_by : (ledger : List Entry) (statement : ℕ) (c : Claim) (claimed : Cert) (least : ℕ)
    → c.lambda.den ≤ c.lambda.num → IsSoundVector c.query c.stats c.at
    → IsTrueLedger c.query c.stats statement ledger → HasPlan c → HasCost c
    → IsCertVerdict ledger statement c claimed Accepted → IsLeastCost c.query c.stats c.at least
    → c.cost * c.lambda.den ≤ c.lambda.num * least
bound_by ledger statement c (Optimum bounds) least ratio sound truth plan cost h is_least =
    optimum_bound c bounds least ratio h.0 h.1 is_least
bound_by ledger statement c (Selectivity execution) least ratio sound truth plan cost h is_least =
    let by = passed (PassesBySelectivity c.query c.stats c.at c.lambda c.top) ledger statement execution
    (entry_of ledger statement execution) refl h in
    selectivity_bound c by.0 least plan cost sound
    (found_entry (IsTrueEntry c.query c.stats) ledger statement execution by.0 truth by.1) is_least by.2
bound_by ledger statement c (Cost execution) least ratio sound truth plan cost h is_least =
    let by = passed (PassesByCost c.at c.lambda c.cost) ledger statement execution
    (entry_of ledger statement execution) refl h in
    cost_bound c by.0 least plan cost sound
    (found_entry (IsTrueEntry c.query c.stats) ledger statement execution by.0 truth by.1) is_least by.2

pub accepted_bound : (ledger : List Entry) (statement : ℕ) (c : Claim) → c.lambda.den ≤ c.lambda.num
    → IsSoundVector c.query c.stats c.at → IsTrueLedger c.query c.stats statement ledger
    → IsVerdict ledger statement c Accepted → IsWithinBound c
accepted_bound ledger statement c ratio sound truth h = record {
  valid = h.0;
  costs = h.1;
  bound = λ least is_least. bound_by ledger statement c c.cert least ratio sound truth h.0 h.1 h.2 is_least;
}

accepted_not_memory : (verdict : Verdict) → verdict ≡ Accepted → ¬ (verdict ≡ Memory)
accepted_not_memory verdict e f = let one : Accepted ≡ Memory = sym e ∙ f in cc

-- what is accepted by the entries of a ledger
pub verdict_there : (ledger entries : List Entry) (statement : ℕ) (c : Claim) (verdict : Verdict) → entries ≡ ledger
    → (verdict ≢ Memory → IsVerdict entries statement c verdict) → verdict ≡ Accepted
    → IsVerdict ledger statement c verdict
verdict_there ledger entries statement c verdict e h k =
    subst (λ xs. IsVerdict xs statement c verdict) e (h (λ m. accepted_not_memory verdict k m))

pub within_bound : (ledger entries : List Entry) (statement : ℕ) (c : Claim) (verdict : Verdict)
    → c.lambda.den ≤ c.lambda.num → IsSoundVector c.query c.stats c.at → IsTrueLedger c.query c.stats statement ledger
    → entries ≡ ledger → (verdict ≢ Memory → IsVerdict entries statement c verdict) → verdict ≡ Accepted
    → IsWithinBound c
within_bound ledger entries statement c verdict ratio sound truth e h k =
    accepted_bound ledger statement c ratio sound truth
    (subst (IsVerdict ledger statement c) k (verdict_there ledger entries statement c verdict e h k))

-- Ledgers.

-- an optimum that is entered is true
entered_by : (ledger : List Entry) (statement : ℕ) (c : Claim) (claimed : Cert) (verdict : Verdict) (entry : Entry)
    → entry.at ≡ c.at → entry.least ≡ c.cost → IsSoundVector c.query c.stats c.at
    → IsTrueLedger c.query c.stats statement ledger → HasPlan c → HasCost c
    → IsCertVerdict ledger statement c claimed verdict
    → IsTrueLedger c.query c.stats statement (ledger_after ledger entry claimed verdict)
entered_by ledger statement c (Optimum bounds) Accepted entry e f sound truth plan cost h =
    let P = λ (x : Entry). x.statement ≡ statement → IsTrueEntry c.query c.stats x in
    all_from P (ledger ++ entry ∷ []) (each_push P ledger entry (each_from P ledger truth) (λ same. record {
      vector = subst (IsSoundVector c.query c.stats) (sym e) sound;
      least = subst (λ n. IsLeastCost c.query c.stats entry.at n) (sym f)
          (subst (λ xs. IsLeastCost c.query c.stats xs c.cost) (sym e)
          (optimum_least c bounds plan cost h.0 h.1));
    }))
entered_by ledger statement c claimed verdict entry e f sound truth plan cost h = truth

-- an optimum stands last where it was accepted
pub entered_is : (ledger after : List Entry) (entry : Entry) (claimed : Cert) (bounds : LowerBounds)
    (verdict : Verdict) → claimed ≡ Optimum bounds → verdict ≡ Accepted → after ≡ ledger ++ entry ∷ []
    → after ≡ ledger_after ledger entry claimed verdict
entered_is ledger after entry claimed bounds verdict e f g =
    subst₂ (λ x v. after ≡ ledger_after ledger entry x v) (sym e) (sym f) g

pub not_entered : (ledger : List Entry) (entry : Entry) (claimed : Cert) (verdict : Verdict) → ¬ (verdict ≡ Accepted)
    → ledger_after ledger entry claimed verdict ≡ ledger
not_entered ledger entry (Optimum bounds) Accepted never = absurd (never refl)
not_entered ledger entry claimed verdict never = refl

unaccepted_stays : (ledger : List Entry) (statement : ℕ) (c : Claim) (verdict : Verdict) (entry : Entry)
    → ¬ (verdict ≡ Accepted) → IsTrueLedger c.query c.stats statement ledger
    → IsTrueLedger c.query c.stats statement (ledger_after ledger entry c.cert verdict)
unaccepted_stays ledger statement c verdict entry never truth =
    subst (IsTrueLedger c.query c.stats statement) (sym (not_entered ledger entry c.cert verdict never)) truth

pub stays_true : (ledger : List Entry) (statement : ℕ) (c : Claim) (verdict : Verdict) (entry : Entry)
    → entry.at ≡ c.at → entry.least ≡ c.cost → IsSoundVector c.query c.stats c.at
    → IsTrueLedger c.query c.stats statement ledger → IsVerdict ledger statement c verdict
    → IsTrueLedger c.query c.stats statement (ledger_after ledger entry c.cert verdict)
stays_true ledger statement c Accepted entry e f sound truth h =
    entered_by ledger statement c c.cert Accepted entry e f sound truth h.0 h.1 h.2
stays_true ledger statement c verdict entry e f sound truth h =
    unaccepted_stays ledger statement c verdict entry (λ k. cc) truth

-- the entries of other statements are as true as before
pub others_stay : (ledger : List Entry) (statement other : ℕ) (q : Statement) (s : Statistics) (entry : Entry)
    (claimed : Cert) (verdict : Verdict) → entry.statement ≡ statement → ¬ (other ≡ statement)
    → IsTrueLedger q s other ledger → IsTrueLedger q s other (ledger_after ledger entry claimed verdict)
others_stay ledger statement other q s entry (Optimum bounds) Accepted e never truth =
    let P = λ (x : Entry). x.statement ≡ other → IsTrueEntry q s x in
    all_from P (ledger ++ entry ∷ []) (each_push P ledger entry (each_from P ledger truth)
    (λ same. absurd (never (sym same ∙ e))))
others_stay ledger statement other q s entry claimed verdict e never truth = truth

-- Forgetting.

differs : (a b : ℕ) → not (a == b) ≡ true → ¬ (a ≡ b)
differs a b h e = grind (arith, nat_tests)

each_unit : (ledger : List Entry) → AllByRecursion (λ entry. Unit {0}) ledger
each_unit [] = tt
each_unit (entry ∷ ledger) = (tt, each_unit ledger)

pub forgotten : (ledger : List Entry) (statement : ℕ) (q : Statement) (s : Statistics)
    → IsTrueLedger q s statement (without ledger statement)
forgotten ledger statement q s =
    let P = λ (x : Entry). x.statement ≡ statement → IsTrueEntry q s x in
    all_from P (without ledger statement)
    (each_filter (λ entry. Unit {0}) P (λ entry. not (is_of statement entry))
    (λ x kept h same. absurd (differs x.statement statement kept same)) ledger (each_unit ledger))

pub rest_true : (ledger : List Entry) (statement other : ℕ) (q : Statement) (s : Statistics)
    → IsTrueLedger q s other ledger → IsTrueLedger q s other (without ledger statement)
rest_true ledger statement other q s truth =
    let P = λ (x : Entry). x.statement ≡ other → IsTrueEntry q s x in
    all_from P (without ledger statement)
    (each_filter P P (λ entry. not (is_of statement entry)) (λ x kept h. h) ledger (each_from P ledger truth))

-- Tight tables.

pub optimal_accepted : (ledger : List Entry) (statement : ℕ) (c : Claim) (bounds : LowerBounds)
    → c.cert ≡ Optimum bounds → IsOptimal c bounds → IsVerdict ledger statement c Accepted
optimal_accepted ledger statement c bounds e h =
    let both = feasible_if_tight c.query c.stats c.at (table_of_cells bounds.cells) bounds.least h.tight in
    let judged : IsCertVerdict ledger statement c (Optimum bounds) Accepted =
    (record { one_each = h.one_each; feasible = both.0 }, record { same = sym h.same; fits = both.1 }) in
    (h.valid, sym h.costs, subst (λ x. IsCertVerdict ledger statement c x Accepted) (sym e) judged)
