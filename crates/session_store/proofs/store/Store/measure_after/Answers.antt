use Rattle.std.proofs.Common.{◌≡◌, ◌∙◌, List, ap, false, rules, sym}
use Rattle.row_values.specs.Statements.{Statement}
use Rattle.row_values.specs.declared.statement.Place.{Place}
use Rattle.catalog_model.specs.Catalogs.{reads_table}
use Rattle.session_store.proofs.Changes.{measure_kept}
use Rattle.session_store.proofs.PresentTables.{same_statement}
use Rattle.session_store.proofs.store.Store.measure_after.Goals as goal

pub returns : goal.returns
returns c = λ q there.
    let same = same_statement c.query-q.result.now q (sym c.query-q.ensures.value ∙ there) in
    let unread : reads_table c.args.name.now c.places.result.now ≡ false = search rules in
    let unread_here : reads_table c.args.name.now q.places ≡ false =
    sym (ap (λ (ps : List Place). reads_table c.args.name.now ps)
    (c.places.ensures.value ∙ ap (λ (s : Statement). s.places) same)) ∙ unread in
    c.in_ok-measure-2.ensures ∙ (c.kept_measure.ensures q there
    ∙ sym (measure_kept c.args.self.now.catalog.tables c.args.name.now c.args.new.now c.args.self.now.catalog.weights q
    unread_here))
