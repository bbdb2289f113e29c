use Rattle.cache_model.proofs.Candidates.{are_by_nearness}
use Rattle.cache_model.proofs.laws.candidates_are_by_nearness.Goals as goal

pub returns : goal.returns
returns c = λ instance anchors counts vectors. are_by_nearness instance anchors counts vectors
