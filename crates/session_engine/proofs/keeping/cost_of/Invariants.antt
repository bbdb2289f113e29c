use Rattle.std.proofs.Common.{◌≡◌, drop}
use Rattle.std.specs.List.{find}
use Rattle.anchor_cache.specs.Contents.{has_number}
use Rattle.session_engine.proofs.keeping.cost_of.Given as goal

-- none of the plans so far has the number
abbrev pub invariant-loop-kept : goal.invariant-loop-kept
invariant-loop-kept l = find (has_number l.number) l.plans ≡ find (has_number l.number) (drop l.kept-index l.plans)
