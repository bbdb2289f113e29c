-- The numbers of a sound vector are at least 1.
use Rattle.std.proofs.Common.{ℕ, ◌≤◌, List, All, subst}
use Rattle.std.proofs.lemmas.List.{get_or_default}
use Rattle.row_values.specs.Statements.{Statement}
use Rattle.plan_trees.specs.Statistics.{Statistics, IsSoundVector}
use Rattle.cost_model.proofs.SoundNumbers.{vector_some}

pub counts_some : (q : Statement) (s : Statistics) (vector : List ℕ) → IsSoundVector q s vector
    → All (λ count. 1 ≤ count) vector
counts_some q s vector sound =
    λ k d less. subst (λ n. 1 ≤ n) (get_or_default vector k 0 d less) (vector_some q s vector sound k less)
