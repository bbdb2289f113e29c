use Rattle.std.proofs.Common.{◌≡◌, Some, sym, rules}
use Rattle.script_report.specs.Parts.{value_part}
use Rattle.script_report.proofs.Arguments.{value_shorter, read_one}
use Rattle.script_report.proofs.commands.args_in.Goals as goal

pub loop-rest-smaller : goal.loop-rest-smaller
loop-rest-smaller c =
    let e : value_part c.loop-rest.rest.now ≡ Some (c.in-Some.value, c.in-Some.next.now) =
    sym (rw c.in-Some.is at c.in_ok-value.ensures) in
    value_shorter c.loop-rest.rest.now c.in-Some.value c.in-Some.next.now e

pub loop-rest-preserved : goal.loop-rest-preserved
loop-rest-preserved c =
    let e : value_part c.loop-rest.rest.now ≡ Some (c.in-Some.value, c.in-Some.next.now) =
    sym (rw c.in-Some.is at c.in_ok-value.ensures) in (
      search rules,
      rw (c.in_ok-push.ensures.items)
          (read_one c.args.parts.now c.loop-rest.values.items c.loop-rest.rest.now c.in-Some.value c.in-Some.next.now
          c.loop-rest.invariant.1 e),
    )
