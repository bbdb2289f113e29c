use Rattle.std.proofs.Common.{rules}
use Rattle.plan_trees.specs.Trees.{place_of}
use Rattle.plan_trees.proofs.SoundParts.{access_in_range}
use Rattle.plan_operators.specs.Sources.{masks_read, rows_read}
use Rattle.plan_operators.proofs.Joins.{placed_in_order, placed_once}
use Rattle.plan_operators.proofs.access.base.Goals as goal

pub returns : goal.returns
returns c =
    let there = access_in_range c.args.source.now.q.now (masks_read c.args.source.now) c.args.access c.requires.valid in
    let is = rw (c.place_read-place.ensures, c.as_slice.ensures.value) at c.in_ok-combos.ensures in
    record {
      places = search rules;
      small = search rules;
      each_once =
          rw (c.one_place.ensures.value, c.place_read-place.ensures)
          (placed_once c.args.source.now.q.now (rows_read c.args.source.now) c.args.source.now.args.now
          c.requires.sound.sound (place_of c.args.access) there c.in_ok-rows.rows.items
          c.in_ok-rows.ensures.each_once c.in_ok-combos.combos.items is);
      in_order =
          λ sorted. placed_in_order c.args.source.now c.args.access there sorted c.in_ok-rows.rows.items
          c.in_ok-rows.ensures.in_order c.in_ok-combos.combos.items is;
    }
