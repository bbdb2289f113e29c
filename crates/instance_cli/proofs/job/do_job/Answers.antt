use Rattle.std.proofs.Common.{inr, refl}
use Rattle.command_words.specs.Views.{meaning}
use Rattle.instance_cli.proofs.Jobs.{does_job, same_count}
use Rattle.instance_cli.proofs.job.do_job.Goals as goal

pub returns-in-Ok : goal.returns-in-Ok
returns-in-Ok g c =
    inr (inr (does_job (meaning c.args.job.now) _ _ _ _ c.in-Ok.weights c.settings.result c.settings.ensures.value
    c.settings.ensures.within c.in-Ok.ensures.ok
    (record {
      files = c.in-Ok.ensures.files;
      taken = refl;
      misses = c.in-Ok.ensures.misses;
      faults = c.in-Ok.ensures.faults;
      sink_faults = same_count _;
    }) c.do_mode.ensures))
