use Rattle.std.proofs.Common.{◌∙◌, ap, sym, length, ◌<◌, ◌≡◌, arith, ℕ, List, Some, All, subst}
use Rattle.std.specs.List.{slice_get}
use Rattle.std.specs.Option.{option_map}
use Rattle.row_values.specs.Statements.{Statement}
use Rattle.catalog_model.specs.Catalogs.{TableState, StatementState}
use Rattle.catalog_model.specs.Sound.{IsLoaded}
use Rattle.session_store.specs.Kept.{StoreState, statements_in, tables_in}
use Rattle.session_store.proofs.Entries.{all_at, statement_at, length-statements_in}
use Rattle.session_store.proofs.store.Store.query.Goals as goal

pub unreachable-requires : goal.unreachable-requires
unreachable-requires c =
    let l : length c.self.inside.statements.entries ≡ length c.args.self.now.catalog.statements =
    sym (length-statements_in c.self.inside.statements.entries)
    ∙ ap (λ (k : StoreState). length k.catalog.statements) c.self.view_is in
    let e : length c.as_slice.result ≡ length c.self.inside.statements.entries = ap length c.as_slice.ensures.entries in
    let r : c.args.statement < length c.args.self.now.catalog.statements = c.requires in
    let w : c.args.statement < length c.as_slice.result = omega arith in
    let f = c.in-None.ensures.found.1 w in
    absurd cc

pub returns-clause-value : goal.returns-clause-value
returns-clause-value c =
    sym (ap (λ (k : StoreState). option_map (λ (s : StatementState). s.statement)
    (slice_get k.catalog.statements c.args.statement)) c.self.view_is)
    ∙ (statement_at c.self.inside.statements.entries c.args.statement
    ∙ ap (option_map (λ (e : List ℕ × Statement). e.1))
    (sym (c.in-Some.ensures.entry
    ∙ ap (λ (es : List (List ℕ × Statement)). slice_get es c.args.statement) c.as_slice.ensures.entries)))

pub returns-clause-loaded : goal.returns-clause-loaded
returns-clause-loaded c =
    let found : option_map (λ (s : StatementState). s.statement)
    (slice_get (statements_in c.self.inside.statements.entries) c.args.statement) ≡ Some c.in-Some.q.now =
    statement_at c.self.inside.statements.entries c.args.statement
    ∙ ap (option_map (λ (e : List ℕ × Statement). e.1))
    (sym (c.in-Some.ensures.entry
    ∙ ap (λ (es : List (List ℕ × Statement)). slice_get es c.args.statement) c.as_slice.ensures.entries)) in
    subst (λ (ts : List TableState). All (IsLoaded ts) c.in-Some.q.now.places)
    (ap (λ (k : StoreState). k.catalog.tables) c.self.view_is)
    (all_at (λ q. All (IsLoaded (tables_in c.self.inside.tables.entries)) q.places)
    (statements_in c.self.inside.statements.entries) c.args.statement c.in-Some.q.now c.self.invariant.sound.loaded
    found)
