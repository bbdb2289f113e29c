use Rattle.std.proofs.Common.{◌∙◌, ap}
use Rattle.demo_script.specs.Summary.{execution_lines}
use Rattle.demo_script.proofs.Counting.{four_lines}
use Rattle.demo_script.proofs.summary.Summary.execution_lines.Goals as goal

pub returns : goal.returns
returns c =
    four_lines _ _ _ _ _ _ _ _ _ c.new-text.ensures.bytes c.in_ok-push_count.ensures c.in_ok-push_count-2.ensures
    c.in_ok-push_count-3.ensures c.in_ok-push_count-4.ensures
    ∙ ap execution_lines c.self.view_is
