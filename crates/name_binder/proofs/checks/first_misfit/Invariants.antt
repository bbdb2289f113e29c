use Rattle.std.proofs.Common.{◌≡◌, drop}
use Rattle.name_binder.specs.Refusals.{first_misfit}
use Rattle.name_binder.proofs.checks.first_misfit.Given as goal

-- the conditions that are left decide
abbrev pub invariant-loop-cond : goal.invariant-loop-cond
invariant-loop-cond l = first_misfit l.places (drop l.cond-index l.conds) ≡ first_misfit l.places l.conds
