use Rattle.std.proofs.Common.{ℕ, List, subst, sym}
use Rattle.outside_io.specs.Calls.{Gives}
use Rattle.outside_io.specs.declared.Fetched.TheVariants.{Got}
use Rattle.outside_model.specs.Files.{Told}
use Rattle.weights_file.specs.declared.TheConstants.{WEIGHTS_LIMIT}
use Rattle.instance_cli.proofs.Jobs.{none_if, weights_if}
use Rattle.instance_cli.proofs.weights.weights_of_file.Goals as goal

pub returns-clause-ok : goal.returns-clause-ok
returns-clause-ok g c =
    let files = g.F.Shelf.files c.args.shelf.now in
    let gives : Told files (λ fs. Gives fs c.args.name.now WEIGHTS_LIMIT Got c.as_slice.result.now) =
    subst (λ (b : List ℕ). Told files (λ fs. Gives fs c.args.name.now WEIGHTS_LIMIT Got b))
    (sym c.as_slice.ensures.value) c.in-Got.ensures.fetches.gives in
    weights_if c.args.name.now c.as_slice.result.now files c.weights_in.result gives c.weights_in.ensures.ok

pub returns-clause-err : goal.returns-clause-err
returns-clause-err g c =
    let files = g.F.Shelf.files c.args.shelf.now in
    let gives : Told files (λ fs. Gives fs c.args.name.now WEIGHTS_LIMIT Got c.as_slice.result.now) =
    subst (λ (b : List ℕ). Told files (λ fs. Gives fs c.args.name.now WEIGHTS_LIMIT Got b))
    (sym c.as_slice.ensures.value) c.in-Got.ensures.fetches.gives in
    none_if c.args.name.now c.as_slice.result.now files _ _ _ _ c.weights_in.result gives c.weights_in.ensures.err
