use Rattle.std.proofs.Common.{refl}
use Rattle.plan_trees.specs.PlanSpace.{wanted_order}
use Rattle.plan_trees.specs.Trees.{place_of}
use Rattle.plan_trees.proofs.SoundParts.{access_in_range}
use Rattle.plan_operators.specs.Sources.{masks_read, rows_read}
use Rattle.plan_operators.proofs.Joins.{looped_once, rows_rise}
use Rattle.pull_operators.proofs.nested_loop_join.LoopJoin.open.Goals as goal

pub returns-clause-joins : goal.returns-clause-joins
returns-clause-joins c =
    let there = access_in_range c.args.source.now.q.now (masks_read c.args.source.now) c.args.access c.requires.valid in
    let tests = rw (c.one_place.ensures.value, c.place_read-place.ensures) at c.in_ok-edges.ensures in
    rw c.place_read-place.ensures
    (record {
      each_once =
          λ cs o. looped_once c.args.source.now.q.now (rows_read c.args.source.now) c.args.source.now.args.now
          c.requires.sound.sound c.args.places (place_of c.args.access) c.requires.absent there
          c.in_ok-rows.rows.items c.in_ok-rows.ensures.each_once cs o c.in_ok-edges.edges.items tests _ refl;
      in_order =
          λ wanted cs o rises. rows_rise c.args.source.now.q.now (rows_read c.args.source.now)
          c.args.source.now.args.now c.args.places (place_of c.args.access) c.requires.absent
          (wanted_order c.args.source.now.q.now) wanted (λ combo. c.in_ok-rows.rows.items) cs rises
          c.in_ok-edges.edges.items tests _ refl;
    })
