use Rattle.std.proofs.Common.{◌≡◌, drop}
use Rattle.plan_operators.specs.Edges.{all_meet}
use Rattle.plan_operators.proofs.edges.meets_all.Given as goal

-- what is left decides
abbrev pub invariant-loop-edge : goal.invariant-loop-edge
invariant-loop-edge l = all_meet (drop l.edge-index l.edges) l.combo ≡ all_meet l.edges l.combo
