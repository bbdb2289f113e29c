use Rattle.std.proofs.Common.{◌∙◌, ap, subst, sym}
use Rattle.catalog_model.specs.Held.{held_by}
use Rattle.catalog_model.proofs.Names.{new_statement}
use Rattle.catalog_model.proofs.Preparations.{kept}
use Rattle.session_store.specs.Kept.{IsKept, StoreState}
use Rattle.session_store.proofs.Keeping.{kept_statement, state_is}
use Rattle.session_store.proofs.MeasureLists.{measures_behind}
use Rattle.session_store.proofs.Preparations.{catalog_behind}
use Rattle.session_store.proofs.store.Store.insert_statement.Goals as goal

pub invariant_of-self-2 : goal.invariant_of-self-2
invariant_of-self-2 c =
    let old = subst (λ (k : StoreState). IsKept k c.self.inside.measures.items) c.self.view_is c.self.invariant in
    let after = state_is c.args.self.now c.self.inside.tables.entries c.insert.new.self.entries
    c.self.inside.versions c.self.inside.weights c.self.inside.cursors.items _
    (catalog_behind c.args.self.now.catalog c.self.inside.tables.entries c.self.inside.statements.entries
    c.insert.new.self.entries c.self.inside.versions c.self.inside.weights c.in_ok-copy.field-0
    c.args.name.now c.args.q (ap (λ (k : StoreState). k.catalog) c.self.view_is)
    c.in_ok-insert.ensures.entries c.in_ok-copy.ensures c.requires.free)
    (ap (λ (k : StoreState). k.cursors) c.self.view_is) in
    subst (λ (k : StoreState). IsKept k c.in_ok-measures.measures.items) (sym after)
    (kept_statement c.args.self.now c.self.inside.measures.items c.in_ok-measures.measures.items c.args.name.now
    c.args.q old
    (kept (held_by c.args.self.now.cursors) c.args.self.now.catalog c.args.name.now c.args.q (record {
      free = c.requires.free;
      query = c.sound.ensures.value;
      loaded = c.requires.loaded;
      room = c.requires.room;
    }) old.sound)
    (c.in_ok-measures.ensures ∙ sym (measures_behind c.args.self.now.catalog.tables c.args.self.now.catalog.weights
    c.args.self.now.catalog.statements (new_statement c.args.name.now c.args.q))))

pub returns-clause-value : goal.returns-clause-value
returns-clause-value c =
    catalog_behind c.args.self.now.catalog c.self.inside.tables.entries c.self.inside.statements.entries
    c.insert.new.self.entries c.self.inside.versions c.self.inside.weights c.in_ok-copy.field-0
    c.args.name.now c.args.q (ap (λ (k : StoreState). k.catalog) c.self.view_is)
    c.in_ok-insert.ensures.entries c.in_ok-copy.ensures c.requires.free
