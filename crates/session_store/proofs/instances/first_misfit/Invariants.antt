use Rattle.std.proofs.Common.{◌≡◌, ◌+◌, drop}
use Rattle.catalog_model.specs.Instances.{first_misfit}
use Rattle.session_store.proofs.instances.first_misfit.Given as goal

-- the arguments so far fit
abbrev pub invariant-loop-i : goal.invariant-loop-i
invariant-loop-i l = first_misfit (1 + l.i) (drop l.i l.kinds) (drop l.i l.args) ≡ first_misfit 1 l.kinds l.args
