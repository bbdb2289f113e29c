use Rattle.cache_model.proofs.Distances.{fails_outside}
use Rattle.cache_model.proofs.laws.outside_the_window_fails.Goals as goal

pub returns : goal.returns
returns c = λ lambda instance anchor more some dear long outside. fails_outside lambda instance anchor more some dear
    long outside
