use Rattle.std.proofs.Common.{◌∙◌, ap, subst, sym}
use Rattle.session_store.specs.Kept.{IsKept, StoreState}
use Rattle.session_store.proofs.Changes.{catalog_kept}
use Rattle.session_store.proofs.Keeping.{state_is}
use Rattle.session_store.proofs.store.Store.keep_counts.Goals as goal

pub invariant_of-self-in-Some : goal.invariant_of-self-in-Some
invariant_of-self-in-Some c =
    let same = state_is c.args.self.now c.insert.new.self.entries c.self.inside.statements.entries
    c.self.inside.versions c.self.inside.weights c.self.inside.cursors.items c.args.self.now.catalog
    (catalog_kept c.args.self.now.catalog c.self.inside.tables.entries c.insert.new.self.entries
    c.self.inside.statements.entries c.self.inside.versions c.self.inside.weights c.in_ok-copy-in-Some.field-0
    c.args.table.now _ c.in-Some.held (ap (λ (k : StoreState). k.catalog) c.self.view_is)
    c.in_ok-insert-in-Some.ensures.entries
    c.in_ok-copy-in-Some.ensures c.in-Some.is c.in_ok-counted_at.ensures)
    (ap (λ (k : StoreState). k.cursors) c.self.view_is) in
    subst (λ (k : StoreState). IsKept k c.self.inside.measures.items) (c.self.view_is ∙ sym same) c.self.invariant

pub returns-in_ok-insert-in-Some : goal.returns-in_ok-insert-in-Some
returns-in_ok-insert-in-Some c =
    state_is c.args.self.now c.insert.new.self.entries c.self.inside.statements.entries
    c.self.inside.versions c.self.inside.weights c.self.inside.cursors.items c.args.self.now.catalog
    (catalog_kept c.args.self.now.catalog c.self.inside.tables.entries c.insert.new.self.entries
    c.self.inside.statements.entries c.self.inside.versions c.self.inside.weights c.in_ok-copy-in-Some.field-0
    c.args.table.now _ c.in-Some.held (ap (λ (k : StoreState). k.catalog) c.self.view_is)
    c.in_ok-insert-in-Some.ensures.entries
    c.in_ok-copy-in-Some.ensures c.in-Some.is c.in_ok-counted_at.ensures)
    (ap (λ (k : StoreState). k.cursors) c.self.view_is)
