use Rattle.std.proofs.Common.{◌≡◌, ◌++◌, drop}
use Rattle.name_binder.specs.Binding.{edges_of}
use Rattle.name_binder.proofs.parts.bound_edges.Given as goal

-- the conditions that are left add the rest
abbrev pub invariant-loop-cond : goal.invariant-loop-cond
invariant-loop-cond l = l.edges.items ++ edges_of l.places (drop l.cond-index l.conds) ≡ edges_of l.places l.conds
