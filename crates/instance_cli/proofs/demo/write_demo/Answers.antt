use Rattle.std.proofs.Common.{ap, refl, string_bytes, subst}
use Rattle.demo_run.specs.Demo.{TellsDemo}
use Rattle.session_engine.specs.Engines.{EngineState}
use Rattle.session_model.specs.declared.settings.Settings.{Settings}
use Rattle.instance_cli.proofs.Jobs.{demo_cut}
use Rattle.instance_cli.proofs.demo.write_demo.Goals as goal

pub returns-in-Failed : goal.returns-in-Failed
returns-in-Failed g c =
    demo_cut c.args.settings c.args.runs _ _ (string_bytes c.in-Ok.text) c.as_bytes.result.now
    (subst (λ (settings : Settings). TellsDemo settings c.args.runs (string_bytes c.in-Ok.text))
    (ap (λ (e : EngineState). e.state.settings) c.new-engine.ensures) c.in-Ok.ensures) c.as_bytes.ensures.value
    c.in-Failed.ensures.takes (c.in-Failed.ensures.failed refl)
