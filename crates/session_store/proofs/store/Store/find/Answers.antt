use Rattle.std.proofs.Common.{◌∙◌, ap, sym, length, ◌<◌, ◌≤◌, ◌≡◌, arith}
use Rattle.std.specs.List.{slice_get}
use Rattle.std.specs.Option.{option_map}
use Rattle.catalog_model.specs.Catalogs.{StatementState, find_statement, number_of}
use Rattle.session_store.specs.Kept.{StoreState, statements_in}
use Rattle.session_store.proofs.Entries.{found_statement, number_at, statement_at, value_at, none_of}
use Rattle.session_store.proofs.Entries.{length-statements_in}
use Rattle.session_store.proofs.store.Store.find.Goals as goal

pub overflow_cast-result : goal.overflow_cast-result
overflow_cast-result c =
    let l = length-statements_in c.self.inside.statements.entries in
    let few : length (statements_in c.self.inside.statements.entries) ≤ 256 = c.self.invariant.sound.few_statements in
    let w : c.in-Some.number < length c.self.inside.statements.entries = c.in-Some.ensures.within in
    omega arith

pub returns-in-None-clause-none : goal.returns-in-None-clause-none
returns-in-None-clause-none c =
    sym (ap (λ (k : StoreState). find_statement k.catalog.statements c.args.name.now) c.self.view_is)
    ∙ (sym (found_statement c.self.inside.statements.entries c.args.name.now) ∙ none_of _ c.in-None.ensures.found)

pub returns-in-Some-clause-found : goal.returns-in-Some-clause-found
returns-in-Some-clause-found c =
    sym (ap (λ (k : StoreState). option_map (λ (s : StatementState). s.statement)
    (slice_get k.catalog.statements c.in-Some.number)) c.self.view_is)
    ∙ (statement_at c.self.inside.statements.entries c.in-Some.number
    ∙ (sym (value_at c.self.inside.statements.entries c.in-Some.number)
    ∙ (c.in-Some.ensures.value
    ∙ (found_statement c.self.inside.statements.entries c.args.name.now
    ∙ ap (λ (k : StoreState). find_statement k.catalog.statements c.args.name.now) c.self.view_is))))

pub returns-in-Some-clause-within : goal.returns-in-Some-clause-within
returns-in-Some-clause-within c =
    let l : length c.self.inside.statements.entries ≡ length c.args.self.now.catalog.statements =
    sym (length-statements_in c.self.inside.statements.entries)
    ∙ ap (λ (k : StoreState). length k.catalog.statements) c.self.view_is in
    let w : c.in-Some.number < length c.self.inside.statements.entries = c.in-Some.ensures.within in
    omega arith

pub returns-in-None-clause-number : goal.returns-in-None-clause-number
returns-in-None-clause-number c =
    c.in-None.ensures.index ∙ (number_at c.self.inside.statements.entries c.args.name.now
    ∙ ap (λ (k : StoreState). number_of k.catalog.statements c.args.name.now) c.self.view_is)

pub returns-in-Some-clause-number : goal.returns-in-Some-clause-number
returns-in-Some-clause-number c =
    c.in-Some.ensures.index ∙ (number_at c.self.inside.statements.entries c.args.name.now
    ∙ ap (λ (k : StoreState). number_of k.catalog.statements c.args.name.now) c.self.view_is)
