use Rattle.std.proofs.Common.{ℕ, List, sym, subst, refl, arith}
use Rattle.outside_io.specs.Calls.{Gives}
use Rattle.outside_io.specs.declared.Fetched.TheVariants.{Got}
use Rattle.outside_model.specs.declared.TheConstants.{SCRIPT_LIMIT}
use Rattle.outside_model.specs.Files.{Told}
use Rattle.instance_cli.proofs.Headlines.{got, missing, failed, short}
use Rattle.instance_cli.proofs.run.run_script.Goals as goal

pub returns-in-Missing : goal.returns-in-Missing
returns-in-Missing g c =
    missing c.args.settings c.args.name.now _ _ c.in-Missing.ensures.fetches.gives
    (c.in-Missing.ensures.fetches.missing refl) refl

pub returns-in-Failed : goal.returns-in-Failed
returns-in-Failed g c = failed c.args.settings c.args.name.now _ _ (c.in-Failed.ensures.fetches.failed refl) refl

pub returns-in-Memory : goal.returns-in-Memory
returns-in-Memory g c = short c.args.settings c.args.name.now _ _ refl

pub returns : goal.returns
returns g c =
    let files = g.F.Shelf.files c.args.shelf.now in
    let gives : Told files (λ fs. Gives fs c.args.name.now SCRIPT_LIMIT Got c.as_slice.result.now) =
    subst (λ (b : List ℕ). Told files (λ fs. Gives fs c.args.name.now SCRIPT_LIMIT Got b))
    (sym c.as_slice.ensures.value) c.in-Got.ensures.fetches.gives in
    got c.args.settings c.requires c.args.name.now c.as_slice.result.now _ _ _ _ gives
    (record {
      files = c.fetch.ensures.files;
      taken = refl;
      misses = c.in-Got.ensures.fetches.misses;
      faults =
          c.in-Got.ensures.fetches.faults;
      sink_faults = omega arith;
    }) c.run_bytes.ensures
