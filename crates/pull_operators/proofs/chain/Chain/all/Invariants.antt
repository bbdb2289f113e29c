use Rattle.std.proofs.Common.{◌≡◌, ◌++◌, length}
use Rattle.pull_operators.specs.StillToCome.{IsReadyChain, chain_to_come}
use Rattle.pull_operators.proofs.chain.Chain.all.Given as goal

-- what was given, and behind it what is still to come
abbrev pub invariant-loop-combo : goal.invariant-loop-combo
invariant-loop-combo l =
    IsReadyChain l.chain × (l.combos.items ++ chain_to_come l.chain ≡ chain_to_come l.initial.chain)

abbrev pub decreases-loop-combo : goal.decreases-loop-combo
decreases-loop-combo l = length (chain_to_come l.chain)
