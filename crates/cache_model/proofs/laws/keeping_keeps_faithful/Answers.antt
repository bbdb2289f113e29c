use Rattle.cache_model.proofs.Saving.{faithful_kept}
use Rattle.cache_model.proofs.laws.keeping_keeps_faithful.Goals as goal

pub returns : goal.returns
returns c = λ cache q s executions optimum keep budget some narrow is_optimum now h. faithful_kept cache q s executions
    optimum keep budget some narrow is_optimum now h
