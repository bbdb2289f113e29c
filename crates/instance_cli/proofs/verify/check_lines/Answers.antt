use Rattle.std.proofs.Common.{◌∙◌, arith, refl}
use Rattle.std.proofs.lemmas.List.{take_all}
use Rattle.instance_cli.proofs.Walked.{halted_next, walked_next}
use Rattle.instance_cli.proofs.verify.check_lines.Goals as goal

pub loop-i-init : goal.loop-i-init
loop-i-init g c =
    let none = c.requires.new in
    record { same = refl; made = omega (arith, none); failed = omega arith; missed = omega arith; walked = refl }

pub loop-i-preserved : goal.loop-i-preserved
loop-i-preserved g c =
    let i = c.loop-i.invariant in
    let made = i.made in
    let failed = i.failed in
    let missed = i.missed in
    let more = c.in-Ok.ensures.versions in
    let faults = c.check_line.ensures.faults in
    let misses = c.check_line.ensures.misses in
    record {
      same = c.check_line.ensures.files ∙ i.same;
      made = omega (arith, made, more);
      failed = omega (arith, failed, faults);
      missed = omega (arith, missed, misses);
      walked = walked_next _ _ _ _ _ c.args.lines.now c.loop-i.i _ _ _ _ c.loop-i-test.true i.same missed misses i.walked
          c.in-Ok.ensures.ok;
    }

pub returns-in-Err-clause-err : goal.returns-in-Err-clause-err
returns-in-Err-clause-err g c =
    let i = c.loop-i.invariant in
    halted_next _ _ _ _ _ _ _ _ c.args.lines.now c.loop-i.i _ _ _ c.in-Err.halt c.loop-i-test.true i.same i.missed
    c.check_line.ensures.misses i.failed i.walked c.in-Err.ensures.err

pub returns-clause-ok : goal.returns-clause-ok
returns-clause-ok g c =
    let all = c.loop-i-test.false in
    rw (take_all c.loop-i.i c.args.lines.now all) at c.loop-i.invariant.walked
