use Rattle.std.proofs.Common.{arith, rules}
use Rattle.std.proofs.lemmas.Grind.{common_steps}
use Rattle.std.proofs.lemmas.Str.{IsCharBoundary-start}
use Rattle.script_report.proofs.Blanks.{after_blank}
use Rattle.script_report.proofs.parts.skip_blanks.Goals as goal

pub loop-i-init : goal.loop-i-init
loop-i-init c = record { same = search rules; cut = IsCharBoundary-start c.args.text.now c.utf8.text }

pub loop-i-preserved : goal.loop-i-preserved
loop-i-preserved c = record {
  same = grind (arith, common_steps, c.loop-i.invariant.same);
  cut = after_blank c.args.text.now c.loop-i.i c.utf8.text (omega arith) (search rules);
}
