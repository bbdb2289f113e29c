-- What a cache that serves its statement gives to the checks, to a reuse, and to the keeping rule.
use Rattle.std.proofs.Common.{ℕ, zero, suc, ◌≡◌, ◌≤◌, ◌<◌, ◌+◌, ◌^◌, ◌==◌, ◌∙◌, Bool, true, false, cond, List, [], ◌∷◌}
use Rattle.std.proofs.Common.{length, map, All}
use Rattle.std.proofs.Common.{ap₂, Option, Some, None, IfSome, ap, refl, sym, subst, arith, slice_index_or, slice_get}
use Rattle.std.proofs.Common.{find}
use Rattle.std.specs.List.{AllByRecursion}
use Rattle.std.specs.Option.{option_map}
use Rattle.row_values.specs.Statements.{Statement, IsSoundQuery}
use Rattle.plan_trees.specs.PlanSpace.{IsValidTop}
use Rattle.plan_trees.specs.Statistics.{Statistics, IsSoundStats, IsSoundVector}
use Rattle.plan_trees.specs.Trees.{TopTree, top_tree}
use Rattle.fraction_math.specs.Fraction.{Fraction}
use Rattle.cost_model.specs.Costs.{top_cost}
use Rattle.cost_model.specs.LeastCost.{IsLeastCost}
use Rattle.cache_model.specs.Caches.{CachedPlan, top_numbered}
use Rattle.cache_model.specs.Caches as model
use Rattle.cache_model.specs.Faithful.{IsFaithfulAnchor, IsFaithfulPlan}
use Rattle.cache_model.specs.Laws.{IsWithinBound}
use Rattle.cache_model.proofs.Counts.{counts_some}
use Rattle.cache_model.proofs.Lists.{all_from, each_from, each_to, found_is}
use Rattle.cache_model.proofs.Sizes.{vectors_fit}
use Rattle.anchor_cache.specs.Anchors.{held}
use Rattle.anchor_cache.specs.Contents.{Contents, cached, has_number, state_of}
use Rattle.anchor_cache.specs.Instances.{IsInstanceFor, cost_at}
use Rattle.anchor_cache.specs.declared.anchors.Anchor.{Anchor}
use Rattle.anchor_cache.specs.declared.kept_plans.Kept.{Kept}
use Rattle.std.specs.declared.alloc.Global.{Global}
use Rattle.std.specs.declared.rc.Rc.{Rc}
use Rattle.cost_polynomials.specs.Polynomial.{IsVectorFor, value_of}
use Rattle.plan_trees.specs.declared.plans.Top.{Top}
use Rattle.cost_model.specs.Laws.{IsCost, IsVectorOf}
use Rattle.cache_model.specs.Caches.{CacheState}
use Rattle.plan_recost.specs.declared.kept_costs.Costed.{Costed}
use Rattle.script_report.specs.declared.replies.Execution.{Execution}
use Rattle.session_model.specs.Executions.{IsChosen, Reuses}
use Rattle.session_model.specs.declared.settings.Settings.{Settings}
use Rattle.session_engine.specs.declared.execution.Check.{Check}
use Rattle.session_engine.specs.declared.execution.Check.TheVariants.{Cost, Selectivity}
use Rattle.session_engine.specs.Executed.{certificate_of, reused_by, way_of}
use Rattle.session_engine.specs.Keeping.{CostsAt}
use Rattle.session_engine.specs.Serving.{IsCosted, IsServing}

-- The checks.

pub instance_served : (q : Statement) (s : Statistics) (executions budget : ℕ) (cache : Contents) (at : List ℕ)
    → IsSoundQuery q → IsSoundStats q s → IsServing q s executions budget cache → IsSoundVector q s at
    → IsInstanceFor cache.anchors at
instance_served q s executions budget cache at query stats h sound = record {
  numbers = counts_some q s at sound;
  as_long = λ k d less. (h.faithful.anchors k d less).vector.one_each ∙ sym sound.one_each;
  near = λ k d less. vectors_fit q s at (slice_index_or cache.anchors k d).at query stats sound
      (h.faithful.anchors k d less).vector;
}

pub costs_are : (q : Statement) (s : Statistics) (executions budget : ℕ) (cache : Contents) (at : List ℕ)
    → IsServing q s executions budget cache → IsSoundVector q s at → All (CostsAt (top_cost q s at) at) cache.plans
costs_are q s executions budget cache at h sound = λ k d less. (h.costed k d less).costs at sound

-- Keeping.

unmapped : (P : CachedPlan → Type 0) (plans : List Kept) → AllByRecursion P (map cached plans)
    → AllByRecursion (λ kept. P (cached kept)) plans
unmapped P [] h = tt
unmapped P (kept ∷ plans) h = (h.0, unmapped P plans h.1)

pub no_less_served : (q : Statement) (s : Statistics) (executions budget : ℕ) (cache : Contents) (at : List ℕ)
    (least : ℕ) → IsServing q s executions budget cache → IsSoundVector q s at → IsLeastCost q s at least
    → All (λ kept. least ≤ cost_at at kept) cache.plans
no_less_served q s executions budget cache at least h sound is = λ k d less.
    let valid = all_from (λ kept. IsValidTop q s.indexed (top_tree kept.costed.plan.value)) cache.plans
    (unmapped (λ plan. IsValidTop q s.indexed plan.top) cache.plans
    (each_to (IsFaithfulPlan q s cache.anchors cache.next_plan) (λ plan. IsValidTop q s.indexed plan.top)
    (λ plan f. f.valid) (map cached cache.plans)
    (each_from (IsFaithfulPlan q s cache.anchors cache.next_plan) (map cached cache.plans) h.faithful.plans))) in
    let kept : Kept = slice_index_or cache.plans k d in
    subst (λ n. least ≤ n) (sym ((h.costed k d less).costs at sound))
    (is.below_all (top_tree kept.costed.plan.value) (valid k d less))

-- Reuses.

-- the anchor that was read at its place
anchor_by : (anchors : List Anchor) (place : ℕ) (anchor : model.Anchor) (d : Anchor)
    → slice_get (map held anchors) place ≡ Some anchor → held (slice_index_or anchors place d) ≡ anchor
anchor_by [] place anchor d e = absurd cc
anchor_by (first ∷ anchors) zero anchor d e = cc
anchor_by (first ∷ anchors) (suc place) anchor d e = anchor_by anchors place anchor d e

pub anchor_read : (anchors : List Anchor) (all : List model.Anchor) (place : ℕ) (anchor : model.Anchor) (read : Anchor)
    → map held anchors ≡ all → slice_get all place ≡ Some anchor → read ≡ slice_index_or anchors place read
    → held read ≡ anchor
anchor_read anchors all place anchor read same there is =
    ap held is ∙ anchor_by anchors place anchor read
    (subst (λ (some : List model.Anchor). slice_get some place ≡ Some anchor) (sym same) there)

abbrev top_kept : Kept → TopTree
top_kept kept = top_tree kept.costed.plan.value

numbered_by : (test : Bool) (kept : Kept) (rest : Option Kept) (later : Option TopTree) → later ≡ option_map top_kept
    rest
    → cond test (Some (top_kept kept)) later ≡ option_map top_kept (cond test (Some kept) rest)
numbered_by true kept rest later e = refl
numbered_by false kept rest later e = e

numbered_tops : (plans : List Kept) (number : ℕ)
    → top_numbered (map cached plans) number ≡ option_map top_kept (find (has_number number) plans)
numbered_tops [] number = refl
numbered_tops (kept ∷ plans) number =
    numbered_by (kept.number == number) kept (find (has_number number) plans) (top_numbered (map cached plans) number)
    (numbered_tops plans number)

-- the kept plan of the anchor's number has its tree and its cost
pub record IsPlanOf (q : Statement) (s : Statistics) (top : TopTree) (kept : Kept) : Type 0 where
  pub same : top_kept kept ≡ top
  pub costed : IsCosted q s kept

plan_by : (o : Option Kept) (kept : Kept) (top : TopTree) → o ≡ Some kept → option_map top_kept o ≡ Some top
    → top_kept kept ≡ top
plan_by None kept top e h = absurd cc
plan_by (Some other) kept top e h = let same : other ≡ kept = cc in ap top_kept (sym same) ∙ cc

pub plan_found : (q : Statement) (s : Statistics) (executions budget : ℕ) (cache : Contents) (number : ℕ)
    (top : TopTree) (kept : Kept) → IsServing q s executions budget cache
    → top_numbered (state_of cache).plans number ≡ Some top → find (has_number number) cache.plans ≡ Some kept
    → IsPlanOf q s top kept
plan_found q s executions budget cache number top kept h there found = record {
  same = plan_by (find (has_number number) cache.plans) kept top found
      (sym (numbered_tops cache.plans number) ∙ there);
  costed = (found_is (IsCosted q s) (has_number number) cache.plans kept
      (each_from (IsCosted q s) cache.plans h.costed) found).0;
}

pub plan_there : (cache : Contents) (number : ℕ) (top : TopTree) → top_numbered (state_of cache).plans number ≡ Some top
    → find (has_number number) cache.plans ≡ None → ⊥
plan_there cache number top there none =
    let same : None ≡ Some top = ap (option_map top_kept) (sym none) ∙ sym (numbered_tops cache.plans number) ∙ there in
    absurd cc

-- the anchor may be used once more
within_by : (anchors : List model.Anchor) (place : ℕ) (anchor : model.Anchor) → slice_get anchors place ≡ Some anchor
    → place < length anchors
within_by [] place anchor e = absurd cc
within_by (first ∷ anchors) zero anchor e = omega arith
within_by (first ∷ anchors) (suc place) anchor e = let less = within_by anchors place anchor e in omega (arith, less)

pub within_anchors : (anchors : List model.Anchor) (place : ℕ) (anchor : model.Anchor)
    → slice_get anchors place ≡ Some anchor → place < length anchors
within_anchors = within_by

uses_by : (P : model.Anchor → Type 0) (anchors : List model.Anchor) (place : ℕ) (anchor : model.Anchor)
    → slice_get anchors place ≡ Some anchor → AllByRecursion P anchors → P anchor
uses_by P [] place anchor e h = absurd cc
uses_by P (first ∷ anchors) zero anchor e h = let same : first ≡ anchor = cc in subst P same h.0
uses_by P (first ∷ anchors) (suc place) anchor e h = uses_by P anchors place anchor e h.1

pub use_fits : (q : Statement) (s : Statistics) (executions budget : ℕ) (cache : Contents) (place : ℕ)
    (anchor : model.Anchor) → IsServing q s executions budget cache → executions < 2 ^ 62
    → slice_get cache.anchors place ≡ Some anchor
    → IfSome (slice_get cache.anchors place) (λ a. a.uses + 1 < 2 ^ 64)
use_fits q s executions budget cache place anchor h few there =
    let true_of = uses_by (IsFaithfulAnchor q s (state_of cache).plans executions) cache.anchors place anchor there
    (each_from (IsFaithfulAnchor q s (state_of cache).plans executions) cache.anchors h.faithful.anchors) in
    let most = true_of.uses.high in
    let small : anchor.uses + 1 < 2 ^ 64 = omega (arith, most, few) in
    subst (λ (o : Option model.Anchor). IfSome o (λ a. a.uses + 1 < 2 ^ 64)) (sym there) small

-- the anchor that was read, and the kept plan of its number
pub record IsReusedPlan (q : Statement) (s : Statistics) (top : TopTree) (anchor : model.Anchor) (read : Anchor)
    (kept : Kept) : Type 0 where
  pub anchor_is : held read ≡ anchor
  pub plan : IsPlanOf q s top kept

pub reused_plan : (q : Statement) (s : Statistics) (executions budget : ℕ) (cache : Contents) (at : List ℕ)
    (lambda : Fraction) (place : ℕ) (anchors : List Anchor) (read : Anchor) (plans : List Kept) (kept : Kept)
    → IsServing q s executions budget cache → (b : IsWithinBound (state_of cache) q s at lambda place)
    → map held anchors ≡ cache.anchors → read ≡ slice_index_or anchors place read → plans ≡ cache.plans
    → Some kept ≡ find (has_number read.plan) plans → IsReusedPlan q s b.top b.anchor read kept
reused_plan q s executions budget cache at lambda place anchors read plans kept h b all is same found =
    let anchor = anchor_read anchors cache.anchors place b.anchor read all b.there is in
    let there : top_numbered (state_of cache).plans read.plan ≡ Some b.top =
    subst (λ n. top_numbered (state_of cache).plans n ≡ Some b.top) (sym (ap (λ (a : model.Anchor). a.plan) anchor))
    b.plan in
    let here : find (has_number read.plan) cache.plans ≡ Some kept =
    ap (λ (ps : List Kept). find (has_number read.plan) ps) (sym same) ∙ sym found in
    record {
      anchor_is = anchor;
      plan = plan_found q s executions budget cache read.plan b.top kept h there here;
    }

pub never_missing : (q : Statement) (s : Statistics) (cache : Contents) (at : List ℕ) (lambda : Fraction) (place : ℕ)
    (anchors : List Anchor) (read : Anchor) (plans : List Kept)
    → (b : IsWithinBound (state_of cache) q s at lambda place) → map held anchors ≡ cache.anchors
    → read ≡ slice_index_or anchors place read → plans ≡ cache.plans → None ≡ find (has_number read.plan) plans → ⊥
never_missing q s cache at lambda place anchors read plans b all is same none =
    let anchor = anchor_read anchors cache.anchors place b.anchor read all b.there is in
    let there : top_numbered (state_of cache).plans read.plan ≡ Some b.top =
    subst (λ n. top_numbered (state_of cache).plans n ≡ Some b.top) (sym (ap (λ (a : model.Anchor). a.plan) anchor))
    b.plan in
    plan_there cache read.plan b.top there
    (ap (λ (ps : List Kept). find (has_number read.plan) ps) (sym same) ∙ sym none)

-- Choices.

pub chosen_by : (check : Check) (settings : Settings) (number : ℕ) (q : Statement) (s : Statistics) (vector : List ℕ)
    (before : CacheState) (place : ℕ) (plan : TopTree) (execution : Execution) (after : CacheState)
    → Reuses before place (way_of check) (certificate_of check) plan execution after
    → IsChosen settings number q s vector before plan execution after (reused_by check place)
chosen_by Selectivity settings number q s vector before place plan execution after r = r
chosen_by (Cost tried) settings number q s vector before place plan execution after r = r

-- the same plans, anchors and next number
pub same_state : (one other : Contents) → one.plans ≡ other.plans → one.anchors ≡ other.anchors
    → one.next_plan ≡ other.next_plan → state_of one ≡ state_of other
same_state one other plans anchors next =
    ap₂ (λ (ps : List CachedPlan) (some : List model.Anchor).
    let state : CacheState = record { plans = ps; anchors = some; next_plan = one.next_plan } in state)
    (ap (map cached) plans) anchors
    ∙ ap (λ (n : ℕ).
    let state : CacheState = record { plans = map cached other.plans; anchors = other.anchors; next_plan = n } in state)
    next

-- a plan that was costed anew
pub costed_anew : (q : Statement) (s : Statistics) (plan : Rc Top Global) (costed : Costed)
    → costed.plan ≡ plan
    → ((v : List ℕ) → IsVectorOf q v → value_of costed.poly v ≡ top_cost q s v (top_tree plan.value))
    → ((v : List ℕ) → IsSoundVector q s v → IsVectorFor costed.poly v × IsCost (value_of costed.poly v))
    → (number : ℕ) → IsCosted q s (record { number = number; costed = costed })
costed_anew q s plan costed same value fits number = record {
  costs = λ v sound. value v sound.one_each
      ∙ ap (λ (p : Rc Top Global). top_cost q s v (top_tree p.value)) (sym same);
  fits = λ v sound. let f = fits v sound in let small = f.1.high in
      record { vector = f.0; some = f.1.low; fits = omega (arith, small) };
}
