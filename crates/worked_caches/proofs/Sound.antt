-- What is of a statement stays so, and what a check asks of an instance holds of a sound one.
use Rattle.std.proofs.Common.{ℕ, zero, suc, ◌≡◌, ◌≤◌, ◌<◌, ◌+◌, ◌^◌, Bool, not, List, [], ◌∷◌, ◌++◌, length, filter}
use Rattle.std.proofs.Common.{All, sym, ◌∙◌}
use Rattle.std.proofs.Common.{slice_index_or, arith}
use Rattle.std.proofs.Common.{Option, Some, None, OnSome, IfNone, map, subst, ap, refl}
use Rattle.std.specs.List.{AllByRecursion}
use Rattle.row_values.specs.Statements.{Statement, IsSoundQuery}
use Rattle.plan_trees.specs.Statistics.{Statistics, IsSoundStats, IsSoundVector}
use Rattle.cost_polynomials.specs.Polynomial.{IsVectorFor, value_of}
use Rattle.cost_model.specs.Laws.{IsCost}
use Rattle.cache_model.specs.Caches.{Anchor, CacheState, is_of, used_at}
use Rattle.cache_model.specs.Caches as model
use Rattle.cache_model.proofs.Counts.{counts_some}
use Rattle.cache_model.proofs.Lists.{all_from, each_filter, each_from, each_push, each_to}
use Rattle.cache_model.proofs.Reusing.{used}
use Rattle.cache_model.proofs.Sizes.{vectors_fit}
use Rattle.anchor_cache.specs.declared.kept_plans.Kept.{Kept}
use Rattle.anchor_cache.specs.Contents.{Contents, cached, has_number, state_of}
use Rattle.anchor_cache.specs.Instances.{HasCostAt, IsInstanceFor}
use Rattle.worked_caches.specs.OfStatement.{HasCosts, IsOfStatement}

-- What a check asks.

pub instance_for : (q : Statement) (s : Statistics) (plans : List Kept) (anchors : List Anchor) (executions : ℕ)
    (vector : List ℕ) → IsSoundQuery q → IsSoundStats q s → IsOfStatement q s plans anchors executions
    → IsSoundVector q s vector → IsInstanceFor anchors vector
instance_for q s plans anchors executions vector query stats kept sound = record {
  numbers = counts_some q s vector sound;
  as_long = λ k d less. (kept.vectors k d less).one_each ∙ sym sound.one_each;
  near = λ k d less. vectors_fit q s vector (slice_index_or anchors k d).at query stats sound (kept.vectors k d less);
}

pub costs_at : (q : Statement) (s : Statistics) (plans : List Kept) (anchors : List Anchor) (executions : ℕ)
    (vector : List ℕ) → IsOfStatement q s plans anchors executions → IsSoundVector q s vector
    → All (HasCostAt vector) plans
costs_at q s plans anchors executions vector kept sound = λ k d less. kept.costs k d less vector sound

-- What stays.

none_of : (q : Statement) (s : Statistics) (executions : ℕ) → IsOfStatement q s [] [] executions
none_of q s executions = record {
  costs = λ k d less. absurd (omega arith);
  vectors = λ k d less. absurd (omega arith);
  executed = λ k d less. absurd (omega arith);
}

pub with_plan : (q : Statement) (s : Statistics) (plans : List Kept) (anchors : List Anchor) (executions : ℕ)
    (new : Kept) → IsOfStatement q s plans anchors executions
    → ((vector : List ℕ) → IsSoundVector q s vector → IsVectorFor new.costed.poly vector
    × IsCost (value_of new.costed.poly vector)) → IsOfStatement q s (plans ++ new ∷ []) anchors executions
with_plan q s plans anchors executions new kept costs = record {
  costs = all_from (HasCosts q s) (plans ++ new ∷ [])
      (each_push (HasCosts q s) plans new (each_from (HasCosts q s) plans kept.costs)
      (λ vector sound.
      let cost = costs vector sound in
      let some = cost.1.low in
      let fits = cost.1.high in
      record { vector = cost.0; some = cost.1.low; fits = omega arith }));
  vectors = kept.vectors;
  executed = kept.executed;
}

pub with_anchor : (q : Statement) (s : Statistics) (plans : List Kept) (anchors : List Anchor) (executions : ℕ)
    (new : Anchor) → IsOfStatement q s plans anchors executions → IsSoundVector q s new.at
    → new.execution ≡ executions + 1 → IsOfStatement q s plans (anchors ++ new ∷ []) (executions + 1)
with_anchor q s plans anchors executions new kept sound e = record {
  costs = kept.costs;
  vectors = all_from (λ anchor. IsSoundVector q s anchor.at) (anchors ++ new ∷ [])
      (each_push (λ anchor. IsSoundVector q s anchor.at) anchors new
      (each_from (λ anchor. IsSoundVector q s anchor.at) anchors kept.vectors) sound);
  executed = all_from (λ anchor. anchor.execution ≤ executions + 1) (anchors ++ new ∷ [])
      (each_push (λ anchor. anchor.execution ≤ executions + 1) anchors new
      (each_to (λ anchor. anchor.execution ≤ executions) (λ anchor. anchor.execution ≤ executions + 1)
      (λ anchor h. omega arith) anchors (each_from (λ anchor. anchor.execution ≤ executions) anchors kept.executed))
      (omega arith));
}

pub later_than_all : (q : Statement) (s : Statistics) (plans : List Kept) (anchors : List Anchor) (executions : ℕ)
    → IsOfStatement q s plans anchors executions → All (λ anchor. anchor.execution < executions + 1) anchors
later_than_all q s plans anchors executions kept = λ k d less. let h = kept.executed k d less in omega arith

pub without : (q : Statement) (s : Statistics) (plans : List Kept) (anchors : List Anchor) (executions gone : ℕ)
    → IsOfStatement q s plans anchors executions
    → IsOfStatement q s (filter (λ kept. not (has_number gone kept)) plans)
    (filter (λ anchor. not (is_of gone anchor)) anchors) executions
without q s plans anchors executions gone kept = record {
  costs = all_from (HasCosts q s) (filter (λ k. not (has_number gone k)) plans)
      (each_filter (HasCosts q s) (HasCosts q s) (λ k. not (has_number gone k)) (λ k e h. h) plans
      (each_from (HasCosts q s) plans kept.costs));
  vectors = all_from (λ anchor. IsSoundVector q s anchor.at) (filter (λ anchor. not (is_of gone anchor)) anchors)
      (each_filter (λ anchor. IsSoundVector q s anchor.at) (λ anchor. IsSoundVector q s anchor.at)
      (λ anchor. not (is_of gone anchor)) (λ anchor e h. h) anchors
      (each_from (λ anchor. IsSoundVector q s anchor.at) anchors kept.vectors));
  executed = all_from (λ anchor. anchor.execution ≤ executions) (filter (λ anchor. not (is_of gone anchor)) anchors)
      (each_filter (λ anchor. anchor.execution ≤ executions) (λ anchor. anchor.execution ≤ executions)
      (λ anchor. not (is_of gone anchor)) (λ anchor e h. h) anchors
      (each_from (λ anchor. anchor.execution ≤ executions) anchors kept.executed));
}

pub with_use : (q : Statement) (s : Statistics) (plans : List Kept) (anchors : List Anchor) (executions place : ℕ)
    → IsOfStatement q s plans anchors executions → IsOfStatement q s plans (used_at anchors place) executions
with_use q s plans anchors executions place kept = record {
  costs = kept.costs;
  vectors = all_from (λ anchor. IsSoundVector q s anchor.at) (used_at anchors place)
      (each_used (λ anchor. IsSoundVector q s anchor.at) (λ anchor h. h) anchors place
      (each_from (λ anchor. IsSoundVector q s anchor.at) anchors kept.vectors));
  executed = all_from (λ anchor. anchor.execution ≤ executions) (used_at anchors place)
      (each_used (λ anchor. anchor.execution ≤ executions) (λ anchor h. h) anchors place
      (each_from (λ anchor. anchor.execution ≤ executions) anchors kept.executed));
}
  where
    each_used : (P : Anchor → Type 0) → ((anchor : Anchor) → P anchor → P (used anchor)) → (xs : List Anchor) (i : ℕ)
        → AllByRecursion P xs → AllByRecursion P (used_at xs i)
    each_used P still [] i h = tt
    each_used P still (x ∷ xs) zero h = (still x h.0, h.1)
    each_used P still (x ∷ xs) (suc i) h = (h.0, each_used P still xs i h.1)

-- Through the calls of a cache.

pub moved : (q : Statement) (s : Statistics) (plans others : List Kept) (anchors apart : List Anchor) (executions : ℕ)
    → others ≡ plans → apart ≡ anchors → IsOfStatement q s plans anchors executions
    → IsOfStatement q s others apart executions
moved q s plans others anchors apart executions e f kept =
    subst (λ xs. IsOfStatement q s xs apart executions) (sym e)
    (subst (λ xs. IsOfStatement q s plans xs executions) (sym f) kept)

none_mapped : {X Y : Type 0} (f : X → Y) (xs : List X) → map f xs ≡ [] → xs ≡ []
none_mapped f [] e = refl
none_mapped f (x ∷ xs) e = absurd (cc)

pub nothing_kept : (q : Statement) (s : Statistics) (cache : Contents) (executions next : ℕ)
    → state_of cache ≡ record { plans = []; anchors = []; next_plan = next }
    → IsOfStatement q s cache.plans cache.anchors executions
nothing_kept q s cache executions next e =
    moved q s [] cache.plans [] cache.anchors executions
    (none_mapped cached cache.plans (ap (λ (state : CacheState). state.plans) e))
    (ap (λ (state : CacheState). state.anchors) e) (none_of q s executions)

pub after_eviction : (q : Statement) (s : Statistics) (old new : Contents) (executions gone : ℕ) (count : Option ℕ)
    → OnSome count (new.plans ≡ filter (λ kept. not (has_number gone kept)) old.plans)
    → OnSome count (state_of new ≡ model.without (state_of old) gone) → IfNone count (new ≡ old)
    → IsOfStatement q s old.plans old.anchors executions → IsOfStatement q s new.plans new.anchors executions
after_eviction q s old new executions gone (Some count) plans state same kept =
    moved q s (filter (λ k. not (has_number gone k)) old.plans) new.plans
    (filter (λ anchor. not (is_of gone anchor)) old.anchors) new.anchors executions plans
    (ap (λ (state : CacheState). state.anchors) state) (without q s old.plans old.anchors executions gone kept)
after_eviction q s old new executions gone None plans state same kept =
    subst (λ cache. IsOfStatement q s cache.plans cache.anchors executions) (sym same) kept
