use Rattle.demo_run.proofs.Serving.{show_step}
use Rattle.demo_run.proofs.demo.show_reply.Goals as goal

pub returns : goal.returns
returns g c = show_step _ _ _ _ c.in_ok-of.ensures c.in_ok-reply.ensures.ok
