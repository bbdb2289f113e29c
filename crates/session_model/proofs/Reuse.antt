-- What a faithful cache lets be used again is within the bound.
use Rattle.std.proofs.Common.{ℕ, ◌≡◌, List, Some}
use Rattle.fraction_math.specs.Fraction.{Fraction}
use Rattle.row_values.specs.Statements.{Statement}
use Rattle.plan_trees.specs.Statistics.{IsSoundVector, Statistics}
use Rattle.cache_model.specs.Caches.{CacheState}
use Rattle.cache_model.specs.Choices.{choice_of, position_chosen}
use Rattle.cache_model.specs.Faithful.{IsFaithfulCache}
use Rattle.cache_model.specs.Laws.{IsWithinBound}
use Rattle.cache_model.proofs.Choosing.{choice_bounded}
use Rattle.cache_model.proofs.Tests.{cost_tells, selectivity_tells}
use Rattle.cost_model.proofs.CheckBounds.{cost_check_bound, selectivity_check_bound}

pub within_bound : (cache : CacheState) (q : Statement) (s : Statistics) (executions budget : ℕ) (instance : List ℕ)
    (lambda : Fraction) (recosts position : ℕ) → IsFaithfulCache cache q s executions budget
    → IsSoundVector q s instance → position_chosen (choice_of cache q s instance lambda recosts) ≡ Some position
    → IsWithinBound cache q s instance lambda position
within_bound cache q s executions budget instance lambda recosts position h sound is =
    choice_bounded (λ q s top instance anchor num den least known reuse passes. selectivity_check_bound q s top instance
    anchor num den least known reuse passes)
    (λ q s top instance anchor num den least known reuse passes. cost_check_bound q s top instance anchor num den least
    known reuse passes)
    (λ lambda instance anchor. selectivity_tells lambda instance anchor) (λ q s lambda instance plans anchor top there.
    cost_tells q s lambda instance plans anchor top there)
    cache q s executions budget instance lambda recosts position h sound is
