use Rattle.std.proofs.Common.{◌≡◌, ◌∙◌, ap, sym, Err, List, Some, None, [], slice_get, rules, subst}
use Rattle.std.specs.Option.{option_map_or}
use Rattle.row_values.specs.Names.{canonical_name}
use Rattle.row_values.specs.Statements.{kinds_of}
use Rattle.row_values.specs.declared.values.Kind.{Kind}
use Rattle.row_values.specs.declared.statement.Place.{Place}
use Rattle.row_values.specs.Refusals.{wide as wide_refusal}
use Rattle.statement_statistics.specs.Statistics.{first_wide}
use Rattle.catalog_model.specs.Catalogs.{find_statement, stats_now, tables_of}
use Rattle.catalog_model.specs.Held.{held_by}
use Rattle.catalog_model.specs.Instances.{args_refusal}
use Rattle.catalog_model.specs.Sound.{IsCatalog}
use Rattle.session_store.specs.Kept.{StoreState}
use Rattle.session_store.proofs.Fittings.{unknown, misfit, too_wide, told, fitting, wide_is, narrow_is}
use Rattle.session_store.proofs.store.Store.instance.Goals as goal

pub returns-in_default : goal.returns-in_default
returns-in_default c =
    let shown = c.in_ok-shown.ensures ∙ ap canonical_name c.as_str.ensures in
    unknown c.args.self.now.catalog c.args.name.now c.args.args.now _ c.in_default.ensures.none shown
    ∙ ap Err (sym c.unknown_statement.ensures)

pub returns-in-Some-2 : goal.returns-in-Some-2
returns-in-Some-2 c =
    let found : find_statement c.args.self.now.catalog.statements c.args.name.now ≡ Some c.query-q.result.now =
    sym c.in-Some.ensures.found ∙ c.query-q.ensures.value in
    let why : Some c.in-Some-2.why ≡ args_refusal
    (kinds_of c.query-q.result.now.places c.query-q.result.now.preds) c.args.args.now =
    sym c.in-Some-2.is ∙ (c.in_ok-why.ensures
    ∙ ap (λ (kinds : List Kind). args_refusal kinds c.args.args.now) c.kinds.ensures.value) in
    misfit c.args.self.now.catalog c.args.name.now c.args.args.now c.query-q.result.now _ found why

pub returns-in_ok-shown-in-Wide : goal.returns-in_ok-shown-in-Wide
returns-in_ok-shown-in-Wide c =
    let found : find_statement c.args.self.now.catalog.statements c.args.name.now ≡ Some c.query-q.result.now =
    sym c.in-Some.ensures.found ∙ c.query-q.ensures.value in
    let fits : None ≡ args_refusal (kinds_of c.query-q.result.now.places c.query-q.result.now.preds) c.args.args.now =
    sym c.in_default-2.is ∙ (c.in_ok-why.ensures
    ∙ ap (λ (kinds : List Kind). args_refusal kinds c.args.args.now) c.kinds.ensures.value) in
    let wide = wide_is
    (first_wide c.query-q.result.now (tables_of c.args.self.now.catalog.tables c.query-q.result.now))
    (stats_now c.args.self.now.catalog.tables c.args.self.now.catalog.weights c.query-q.result.now) c.in-Wide.place
    (sym c.in-Wide.is ∙ c.kept_measure.ensures c.query-q.result.now c.query-q.ensures.value) in
    too_wide c.args.self.now.catalog c.args.name.now c.args.args.now c.query-q.result.now c.in-Wide.place found fits
    wide
    ∙ ap Err (ap wide_refusal (sym (c.in_ok-shown-in-Wide.ensures
    ∙ ap (λ (ps : List Place). canonical_name (option_map_or (λ there. there.alias) (slice_get ps c.in-Wide.place) []))
    c.places.ensures.value)) ∙ sym c.wide.ensures)

pub returns-in_ok-clone-in-Narrow : goal.returns-in_ok-clone-in-Narrow
returns-in_ok-clone-in-Narrow c =
    let found : find_statement c.args.self.now.catalog.statements c.args.name.now ≡ Some c.query-q.result.now =
    sym c.in-Some.ensures.found ∙ c.query-q.ensures.value in
    let fits : None ≡ args_refusal (kinds_of c.query-q.result.now.places c.query-q.result.now.preds) c.args.args.now =
    sym c.in_default-2.is ∙ (c.in_ok-why.ensures
    ∙ ap (λ (kinds : List Kind). args_refusal kinds c.args.args.now) c.kinds.ensures.value) in
    let narrow = narrow_is
    (first_wide c.query-q.result.now (tables_of c.args.self.now.catalog.tables c.query-q.result.now))
    (stats_now c.args.self.now.catalog.tables c.args.self.now.catalog.weights c.query-q.result.now) c.in-Narrow.stats
    (sym c.in-Narrow.is ∙ c.kept_measure.ensures c.query-q.result.now c.query-q.ensures.value) in
    let copied : c.in_ok-clone-in-Narrow.field-0 ≡ c.in-Narrow.stats = search rules in
    let is = fitting c.args.self.now.catalog c.args.name.now c.args.args.now c.query-q.result.now found fits narrow.0 in
    told c.args.self.now.catalog c.args.name.now c.args.args.now c.query-q.result.now _
    (held_by c.args.self.now.cursors)
    (subst (λ (k : StoreState). IsCatalog (held_by k.cursors) k.catalog) c.self.view_is c.self.invariant.sound) is
    (sym c.find.ensures.number ∙ c.in-Some.is) (c.in-Some.ensures.within, c.query-q.ensures.value) (copied ∙ narrow.1)
    c.in_ok-at-in-Narrow.ensures
