use Rattle.std.proofs.Common.{◌≡◌, ◌+◌, ◌-◌, ◌/◌, suc, get_or, ap, sym, ◌∙◌, subst, arith}
use Rattle.std.specs.Prelude.{Vec}
use Rattle.std.specs.declared.alloc.Global.{Global}
use Rattle.std.specs.Ordering.{is_gt}
use Rattle.plan_operators.specs.Keys.{keys_rank}
use Rattle.result_shape.specs.Groups.{LiesBetween}
use Rattle.result_shape.specs.declared.groups.Group.{Group}
use Rattle.result_shape.proofs.RunPlaces.{high_moves, low_moves}
use Rattle.result_shape.proofs.runs.run_of.Goals as goal

pub loop-high-preserved-then-is_gt : goal.loop-high-preserved-then-is_gt
loop-high-preserved-then-is_gt c = record {
  some = omega (arith, c.loop-high-test.true);
  bound = omega (arith, c.loop-high-test.true, c.loop-high.invariant.bound);
  between =
      high_moves c.args.keys.now c.args.c.now c.args.runs.now
      (c.loop-high.low + (c.loop-high.high - c.loop-high.low) / 2)
      c.index-runs-middle.result c.index.result.now
      (omega (arith, c.loop-high-test.true, c.loop-high.invariant.bound)) c.requires.runs c.loop-high.low
      c.loop-high.high
      c.loop-high.invariant.between
      (ap (λ (run : Vec Group Global). is_gt (keys_rank c.args.keys.now (get_or run.items 0 c.index.result.now).first
      c.args.c.now)) (sym c.index-runs-middle.is)
      ∙ (ap (λ (group : Group). is_gt (keys_rank c.args.keys.now group.first c.args.c.now)) (sym c.index.ensures)
      ∙ (ap is_gt (sym c.keys_order_of.ensures) ∙ (sym c.is_gt.ensures ∙ c.if-is_gt.true))));
}

pub loop-high-preserved : goal.loop-high-preserved
loop-high-preserved c = record {
  some = omega (arith, c.loop-high-test.true);
  bound = c.loop-high.invariant.bound;
  between =
      low_moves c.args.keys.now c.args.c.now c.args.runs.now
      (c.loop-high.low + (c.loop-high.high - c.loop-high.low) / 2)
      c.index-runs-middle.result c.index.result.now
      (omega (arith, c.loop-high-test.true, c.loop-high.invariant.bound)) c.requires.runs c.loop-high.low
      c.loop-high.high
      c.loop-high.invariant.between
      (ap (λ (run : Vec Group Global). is_gt (keys_rank c.args.keys.now (get_or run.items 0 c.index.result.now).first
      c.args.c.now)) (sym c.index-runs-middle.is)
      ∙ (ap (λ (group : Group). is_gt (keys_rank c.args.keys.now group.first c.args.c.now)) (sym c.index.ensures)
      ∙ (ap is_gt (sym c.keys_order_of.ensures) ∙ (sym c.is_gt.ensures ∙ c.if-is_gt.false))));
}

pub returns-clause-place : goal.returns-clause-place
returns-clause-place c =
    let next : c.loop-high.high ≡ suc c.loop-high.low =
    omega (arith, c.loop-high-test.false, c.loop-high.invariant.some) in
    subst (LiesBetween c.args.keys.now c.args.c.now c.args.runs.now c.loop-high.low) next
    c.loop-high.invariant.between
