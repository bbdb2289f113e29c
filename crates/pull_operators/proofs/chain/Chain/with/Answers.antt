use Rattle.std.proofs.Common.{◌++◌, ◌∙◌, ℕ, List, ap}
use Rattle.std.specs.Prelude.{flat_map}
use Rattle.pull_operators.specs.Pieces.{piece}
use Rattle.pull_operators.specs.StillToCome.{above, chain_to_come, pulled_to_come}
use Rattle.pull_operators.proofs.chain.Chain.with.Goals as goal

pub returns-clause-to_come : goal.returns-clause-to_come
returns-clause-to_come c =
    (λ i. above (c.in_ok-new.ensures.ok i).top (pulled_to_come (c.in_ok-new.ensures.ok i).below))
    ∙ ap (λ (xs : List (List ℕ)). xs ++ flat_map (piece c.args.join) (chain_to_come c.args.self)) c.requires.none
