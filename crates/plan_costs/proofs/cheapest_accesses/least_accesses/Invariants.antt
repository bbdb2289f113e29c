use Rattle.plan_costs.specs.Least.{AreLeastAccesses}
use Rattle.plan_costs.proofs.cheapest_accesses.least_accesses.Given as goal

-- the places so far have theirs
abbrev pub invariant-loop-place : goal.invariant-loop-place
invariant-loop-place l = AreLeastAccesses l.q l.stats l.s l.place l.list.items
