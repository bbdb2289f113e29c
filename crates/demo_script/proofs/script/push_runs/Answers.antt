use Rattle.std.proofs.Common.{◌∙◌, ap, sym, append-nil}
use Rattle.demo_script.specs.Draws.{next}
use Rattle.demo_script.proofs.Rows.{after_none, after_three, run_lines_none, runs_go_on}
use Rattle.demo_script.proofs.script.push_runs.Goals as goal

pub loop-before-init : goal.loop-before-init
loop-before-init c = record { runs = rw run_lines_none (sym (append-nil _)); draws = sym (after_none _) }

pub loop-before-preserved : goal.loop-before-preserved
loop-before-preserved c = record {
  runs = runs_go_on _ _ _ c.loop-before.before _ c.loop-before.draws _ c.in_ok-draw_run.ensures.value
      c.in_ok-push.ensures.items c.loop-before.invariant.runs c.loop-before.invariant.draws;
  draws = c.in_ok-draw_run.ensures.draws
      ∙ (ap (λ x. next (next (next x))) c.loop-before.invariant.draws ∙ sym (after_three _ _));
}
