use Rattle.std.proofs.Common.{◌≡◌, ◌∙◌, Err, ap, arith, length, refl, sym}
use Rattle.row_values.specs.Names.{canonical_name}
use Rattle.catalog_model.proofs.Bindings.{bound_loaded}
use Rattle.catalog_model.proofs.Preparations.{none_of}
use Rattle.session_store.proofs.Entries.{length-statements_in}
use Rattle.session_store.proofs.Preparations.{crowded, known_name, prepared, taken, unbound}
use Rattle.session_store.specs.Kept.{StoreState}
use Rattle.session_store.proofs.store.Store.prepare.Goals as goal

pub returns-then-contains_key-clause-value : goal.returns-then-contains_key-clause-value
returns-then-contains_key-clause-value c =
    let here = known_name c.self.inside.statements.entries c.args.self.now.catalog.statements c.args.name.now _
    (ap (λ (k : StoreState). k.catalog.statements) c.self.view_is) c.contains_key.ensures ∙ c.if-contains_key.true in
    let shown = c.in_ok-shown.ensures ∙ ap canonical_name c.as_str.ensures in (
      taken c.args.self.now.catalog c.args.name.now c.args.select.now _ here shown ∙ ap Err (sym c.name_taken.ensures),
      refl,
    )

pub returns-in-Err-clause-value : goal.returns-in-Err-clause-value
returns-in-Err-clause-value c =
    let free = known_name c.self.inside.statements.entries c.args.self.now.catalog.statements c.args.name.now _
    (ap (λ (k : StoreState). k.catalog.statements) c.self.view_is) c.contains_key.ensures ∙ c.if-contains_key.false in
    (unbound c.args.self.now.catalog c.args.name.now c.args.select.now c.in-Err.fault free c.in-Err.ensures, refl)

pub returns-then-number-ge-STATEMENT_LIMIT-clause-value : goal.returns-then-number-ge-STATEMENT_LIMIT-clause-value
returns-then-number-ge-STATEMENT_LIMIT-clause-value c =
    let free = known_name c.self.inside.statements.entries c.args.self.now.catalog.statements c.args.name.now _
    (ap (λ (k : StoreState). k.catalog.statements) c.self.view_is) c.contains_key.ensures ∙ c.if-contains_key.false in
    let l : length c.self.inside.statements.entries ≡ length c.args.self.now.catalog.statements =
    sym (length-statements_in c.self.inside.statements.entries)
    ∙ ap (λ (k : StoreState). length k.catalog.statements) c.self.view_is in
    let n = c.len-number.ensures.len in
    let m = c.if-number-ge-STATEMENT_LIMIT.true in (
      crowded c.args.self.now.catalog c.args.name.now c.args.select.now c.in-Ok.q free c.in-Ok.ensures (omega arith)
          ∙ ap Err (sym c.in_ok-refusal.ensures),
      refl,
    )

pub put_statement-requires-clause-free : goal.put_statement-requires-clause-free
put_statement-requires-clause-free c =
    none_of _ (known_name c.self.inside.statements.entries c.args.self.now.catalog.statements c.args.name.now _
    (ap (λ (k : StoreState). k.catalog.statements) c.self.view_is) c.contains_key.ensures ∙ c.if-contains_key.false)

pub put_statement-requires-clause-loaded : goal.put_statement-requires-clause-loaded
put_statement-requires-clause-loaded c =
    bound_loaded c.args.self.now.catalog.tables c.args.select.now c.in-Ok.q c.in-Ok.ensures

pub put_statement-requires-clause-room : goal.put_statement-requires-clause-room
put_statement-requires-clause-room c =
    let l : length c.self.inside.statements.entries ≡ length c.args.self.now.catalog.statements =
    sym (length-statements_in c.self.inside.statements.entries)
    ∙ ap (λ (k : StoreState). length k.catalog.statements) c.self.view_is in
    let n = c.len-number.ensures.len in
    let m = c.if-number-ge-STATEMENT_LIMIT.false in
    omega arith

pub returns-clause-value : goal.returns-clause-value
returns-clause-value c =
    let free = known_name c.self.inside.statements.entries c.args.self.now.catalog.statements c.args.name.now _
    (ap (λ (k : StoreState). k.catalog.statements) c.self.view_is) c.contains_key.ensures ∙ c.if-contains_key.false in
    let l : length c.self.inside.statements.entries ≡ length c.args.self.now.catalog.statements =
    sym (length-statements_in c.self.inside.statements.entries)
    ∙ ap (λ (k : StoreState). length k.catalog.statements) c.self.view_is in
    let n = c.len-number.ensures.len in
    let m = c.if-number-ge-STATEMENT_LIMIT.false in (
      c.in-Ok.q,
      prepared c.args.self.now.catalog c.args.name.now c.args.select.now c.in-Ok.q free c.in-Ok.ensures (omega arith),
      n ∙ l,
      c.in_ok-put_statement.ensures.value,
    )
