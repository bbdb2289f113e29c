use Rattle.std.proofs.Common.{sym, ap, ◌∙◌, arith}
use Rattle.std.specs.Option.{option_map}
use Rattle.index_ranges.proofs.TakenRows.{all_taken, fewer_left, taken_first, taken_next}
use Rattle.index_ranges.proofs.test_ranges.ranges_of_values.Goals as goal

pub loop-value-init : goal.loop-value-init
loop-value-init c =
    taken_first c.args.args.now c.args.operands.now c.args.t.now c.args.index.now.column c.args.index.now.rows
    c.none-ranges.result c.none-ranges.ensures

pub push-requires : goal.push-requires
push-requires c =
    omega (
      arith,
      c.loop-value.invariant.room,
      c.requires.few.few,
      fewer_left c.args.args.now _ c.args.operands.now c.in-Some.value.now
          (sym c.next_value.ensures ∙ ap (option_map (λ value. value.now)) c.in-Some.is),
    )

pub loop-value-smaller : goal.loop-value-smaller
loop-value-smaller c =
    omega (
      arith,
      fewer_left c.args.args.now _ c.args.operands.now c.in-Some.value.now
          (sym c.next_value.ensures ∙ ap (option_map (λ value. value.now)) c.in-Some.is),
    )

pub loop-value-preserved : goal.loop-value-preserved
loop-value-preserved c =
    taken_next c.args.args.now _ c.args.operands.now c.args.t.now c.args.index.now.column c.args.index.now.rows
    c.loop-value.ranges c.push.new.self c.within.result c.in-Some.value.now c.requires.built.rows_are
    (sym c.next_value.ensures ∙ ap (option_map (λ value. value.now)) c.in-Some.is) c.within.ensures.rows
    c.within.ensures.in_range c.push.ensures c.loop-value.invariant

pub returns-clause-rows : goal.returns-clause-rows
returns-clause-rows c =
    c.loop-value.invariant.rows_are
    ∙ all_taken c.args.args.now _ c.args.operands.now
    (sym c.next_value.ensures ∙ ap (option_map (λ value. value.now)) c.in_default.is) c.args.t.now
    c.args.index.now.column c.args.index.now.rows
