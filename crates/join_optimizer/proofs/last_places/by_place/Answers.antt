use Rattle.std.proofs.Common.{arith}
use Rattle.join_optimizer.proofs.Sets.{lost}
use Rattle.join_optimizer.proofs.Parts.{place_absent}
use Rattle.join_optimizer.proofs.last_places.by_place.Goals as goal

pub returns-then-not-has_place : goal.returns-then-not-has_place
returns-then-not-has_place c = place_absent c.args.q.now c.args.stats.now c.args.s.now _ c.args.set c.args.place
    c.args.first (cc) c.requires.first

pub by_steps-requires-clause-absent : goal.by_steps-requires-clause-absent
by_steps-requires-clause-absent c = lost _ c.args.place c.args.set (omega arith) (cc)
