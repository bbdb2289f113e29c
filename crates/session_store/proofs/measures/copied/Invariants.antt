use Rattle.std.proofs.Common.{◌≡◌, take}
use Rattle.session_store.proofs.measures.copied.Given as goal

abbrev pub invariant-loop-measure : goal.invariant-loop-measure
invariant-loop-measure l = l.copies.items ≡ take l.measure-index l.measures
