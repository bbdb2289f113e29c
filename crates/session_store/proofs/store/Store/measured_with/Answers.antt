use Rattle.std.proofs.Common.{◌≡◌, ◌∙◌, List, IfOk, ap, ap₂, sym, subst}
use Rattle.row_values.specs.declared.statement.Place.{Place}
use Rattle.csv_tables.specs.StatementTables.{AreTablesOf, rows_in}
use Rattle.plan_trees.specs.declared.statistics.Weights.{Weights}
use Rattle.catalog_model.specs.Catalogs.{TableState}
use Rattle.session_store.specs.Kept.{AreHeld, HeldTable, StoreState, contents_of, masks_in, put_held}
use Rattle.session_store.specs.Measures.{measure_of, measure_over}
use Rattle.session_store.specs.declared.measures.Measure.{Measure}
use Rattle.session_store.proofs.PresentTables.{columns_told, held_present, measure_told}
use Rattle.session_store.proofs.store.Store.measured_with.Goals as goal

pub measure_held-requires-clause-tables : goal.measure_held-requires-clause-tables
measure_held-requires-clause-tables c =
    let after : List TableState = put_held c.args.self.now.catalog.tables c.args.name.now c.args.new.now in
    subst (λ (held : List HeldTable). AreTablesOf c.args.q.now (contents_of held)) (sym c.as_slice.ensures.value)
    (columns_told after c.args.q.now (contents_of c.in_ok-held.held.items) c.requires.after
    (held_present after c.args.q.now c.in_ok-held.held.items
    (subst (λ (ps : List Place). AreHeld after ps c.in_ok-held.held.items) c.places.ensures.value
    c.in_ok-held.ensures)))

pub returns : goal.returns
returns c =
    let after : List TableState = put_held c.args.self.now.catalog.tables c.args.name.now c.args.new.now in
    let held : AreHeld after c.args.q.now.places c.in_ok-held.held.items =
    subst (λ (ps : List Place). AreHeld after ps c.in_ok-held.held.items) c.places.ensures.value
    c.in_ok-held.ensures in
    let is = measure_told after c.args.q.now c.in_ok-held.held.items c.args.self.now.catalog.weights held in
    let there : measure_over c.args.q.now (rows_in (contents_of c.as_slice.result.now)) (masks_in c.as_slice.result.now)
    c.self.inside.weights ≡ measure_of after c.args.self.now.catalog.weights c.args.q.now =
    ap₂ (λ (hs : List HeldTable) (w : Weights). measure_over c.args.q.now (rows_in (contents_of hs)) (masks_in hs) w)
    c.as_slice.ensures.value (ap (λ (k : StoreState). k.catalog.weights) c.self.view_is) ∙ is in
    subst (λ (m : Measure). IfOk c.measure_held.result (λ measure. measure ≡ m)) there c.measure_held.ensures
