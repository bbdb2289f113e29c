use Rattle.cost_model.proofs.CheckBounds.{cost_check_bound, selectivity_check_bound}
use Rattle.cache_model.proofs.Choosing.{choice_bounded}
use Rattle.cache_model.proofs.Tests.{cost_tells, selectivity_tells}
use Rattle.cache_model.proofs.laws.choice_is_within_bound.Goals as goal

pub returns : goal.returns
returns c = λ cache q s executions budget instance lambda recosts position h sound is.
    choice_bounded (λ q s top instance anchor num den least known reuse passes. selectivity_check_bound q s top instance
    anchor num den least known reuse passes)
    (λ q s top instance anchor num den least known reuse passes. cost_check_bound q s top instance anchor num den least
    known reuse passes)
    (λ lambda instance anchor. selectivity_tells lambda instance anchor) (λ q s lambda instance plans anchor top there.
    cost_tells q s lambda instance plans anchor top there)
    cache q s executions budget instance lambda recosts position h sound is
