use Rattle.std.proofs.Common.{◌≡◌, ◌∙◌, subst}
use Rattle.session_store.specs.Measures.{measures_of}
use Rattle.session_store.proofs.MeasureLists.{measure_at}
use Rattle.session_store.specs.Kept.{StoreState}
use Rattle.session_store.proofs.store.Store.kept_measure.Goals as goal

pub returns : goal.returns
returns c = λ q there.
    let measured : c.self.inside.measures.items
    ≡ measures_of c.args.self.now.catalog.tables c.args.self.now.catalog.weights c.args.self.now.catalog.statements =
    subst (λ (k : StoreState). c.self.inside.measures.items
    ≡ measures_of k.catalog.tables k.catalog.weights k.catalog.statements) c.self.view_is c.self.invariant.measured in
    measure_at c.args.self.now.catalog.tables c.args.self.now.catalog.weights c.args.self.now.catalog.statements
    c.as_slice.result.now c.args.statement q c.index-as_slice-statement.result (c.as_slice.ensures.value ∙ measured)
    c.index-as_slice-statement.is there
