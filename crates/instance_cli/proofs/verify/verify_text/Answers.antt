use Rattle.std.proofs.Common.{refl}
use Rattle.instance_cli.proofs.Jobs.{same_count}
use Rattle.instance_cli.proofs.Promises.{of_items, told_items}
use Rattle.instance_cli.proofs.verify.verify_text.Goals as goal

pub returns-in-Ok-walk : goal.returns-in-Ok-walk
returns-in-Ok-walk g c =
    of_items c.args.settings c.args.script.now c.args.report.now c.in-Ok.items.items _ _ _ _
    (record {
      files = c.fetch_items.ensures.files;
      taken = refl;
      misses = c.fetch_items.ensures.misses;
      faults = c.fetch_items.ensures.faults;
      sink_faults = same_count _;
    }) c.in-Ok.ensures.ok
    (told_items c.args.settings c.requires.settings c.args.script.now c.in-Ok.items.items _ _
    c.in-Ok-walk.verification _ c.in-Ok-walk.ensures.ok c.write_verification.ensures)
