use Rattle.std.proofs.Common.{rules}
use Rattle.plan_trees.specs.PlanSpace.{wanted_order}
use Rattle.plan_trees.specs.Trees.{place_of}
use Rattle.plan_trees.proofs.SoundParts.{access_in_range}
use Rattle.plan_operators.specs.Sources.{masks_read, rows_read}
use Rattle.plan_operators.proofs.Joins.{looped_once, rows_rise}
use Rattle.plan_operators.proofs.nested_loop_join.nested_loop_join.Goals as goal

pub returns : goal.returns
returns c =
    let there = access_in_range c.args.source.now.q.now (masks_read c.args.source.now) c.args.access c.requires.valid in
    let tests = rw (c.one_place.ensures.value, c.place_read-place.ensures) at c.in_ok-edges.ensures in
    let is = rw (
      c.deref.ensures.value,
      c.deref-2.ensures.value,
      c.deref-3.ensures.value,
      c.place_read-place.ensures,
    ) at c.in_ok-combos.ensures in
    record {
      places = search rules;
      small = search rules;
      each_once =
          rw (c.with_place.ensures.value, c.place_read-place.ensures)
          (looped_once c.args.source.now.q.now (rows_read c.args.source.now) c.args.source.now.args.now
          c.requires.sound.sound c.args.outer.now.places (place_of c.args.access) c.requires.absent there
          c.in_ok-rows.rows.items c.in_ok-rows.ensures.each_once c.args.outer.now.combos.items c.requires.each_once
          c.in_ok-edges.edges.items tests c.in_ok-combos.combos.items is);
      in_order =
          λ wanted rises. rows_rise c.args.source.now.q.now (rows_read c.args.source.now)
          c.args.source.now.args.now c.args.outer.now.places (place_of c.args.access) c.requires.absent
          (wanted_order c.args.source.now.q.now) wanted (λ combo. c.in_ok-rows.rows.items)
          c.args.outer.now.combos.items rises c.in_ok-edges.edges.items tests c.in_ok-combos.combos.items is;
    }
