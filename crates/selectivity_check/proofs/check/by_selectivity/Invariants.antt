use Rattle.std.proofs.Common.{take}
use Rattle.cache_model.specs.Choices.{passes_selectivity_check}
use Rattle.selectivity_check.specs.Search.{IsFirstOf}
use Rattle.selectivity_check.proofs.check.by_selectivity.Given as goal

-- the first of the entries so far
abbrev pub invariant-loop-entry : goal.invariant-loop-entry
invariant-loop-entry l =
    IsFirstOf (passes_selectivity_check l.lambda l.q) l.cache.anchors (take l.entry-index l.near) l.found
