use Rattle.std.proofs.Common.{map, take}
use Rattle.std.specs.Rc.{rc_value}
use Rattle.selectivity_counts.specs.Kept.{AreDistinctsOf}
use Rattle.session_store.specs.Kept.{contents_of}
use Rattle.session_store.proofs.held.distincts_of.Given as goal

abbrev pub invariant-loop-one : goal.invariant-loop-one
invariant-loop-one l = AreDistinctsOf (contents_of (take l.one-index l.held)) (map rc_value l.distincts.items)
