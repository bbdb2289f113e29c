use Rattle.std.proofs.Common.{◌≡◌, ◌∙◌, List, None, Some, ap, refl, subst, sym}
use Rattle.catalog_model.specs.Held.{HeldCursor, cursor_number, is_open}
use Rattle.session_store.specs.Kept.{IsKept, StoreState}
use Rattle.session_store.proofs.Keeping.{kept_closed}
use Rattle.session_store.proofs.OpenCursors.{closed_already, gone, state_closed}
use Rattle.session_store.proofs.store.Store.close_cursor.Goals as goal

pub invariant_of-self : goal.invariant_of-self
invariant_of-self c =
    let found : Some c.in-Some.number ≡ cursor_number c.self.inside.cursors.items c.args.cursor.now =
    c.in-Some.ensures.value
    ∙ ap (λ (cs : List HeldCursor). cursor_number cs c.args.cursor.now) c.as_slice.ensures.value in
    let left = c.remove.ensures.items ∙ (gone c.args.cursor.now c.self.inside.cursors.items c.in-Some.number found).1 in
    subst (λ (k : StoreState). IsKept k c.self.inside.measures.items)
    (sym (state_closed c.args.self.now c.self.inside.tables.entries c.self.inside.statements.entries
    c.self.inside.versions c.self.inside.weights c.self.inside.cursors.items c.remove.new.self.items c.args.cursor.now
    c.self.view_is left))
    (kept_closed c.args.self.now c.self.inside.measures.items c.args.cursor.now
    (subst (λ (k : StoreState). IsKept k c.self.inside.measures.items) c.self.view_is c.self.invariant))

pub returns-in-None : goal.returns-in-None
returns-in-None c =
    let cursors : c.as_slice.result.now ≡ c.args.self.now.cursors =
    c.as_slice.ensures.value ∙ ap (λ (k : StoreState). k.cursors) c.self.view_is in
    let none : None ≡ cursor_number c.args.self.now.cursors c.args.cursor.now =
    c.in-None.ensures.value ∙ ap (λ (cs : List HeldCursor). cursor_number cs c.args.cursor.now) cursors in
    (closed_already c.args.cursor.now c.args.self.now.cursors none, refl)

pub returns-in-Some : goal.returns-in-Some
returns-in-Some c =
    let found : Some c.in-Some.number ≡ cursor_number c.self.inside.cursors.items c.args.cursor.now =
    c.in-Some.ensures.value
    ∙ ap (λ (cs : List HeldCursor). cursor_number cs c.args.cursor.now) c.as_slice.ensures.value in
    let there = gone c.args.cursor.now c.self.inside.cursors.items c.in-Some.number found in (
      sym (ap (λ (k : StoreState). is_open c.args.cursor.now k.cursors) c.self.view_is) ∙ there.0,
      state_closed c.args.self.now c.self.inside.tables.entries c.self.inside.statements.entries
          c.self.inside.versions c.self.inside.weights c.self.inside.cursors.items c.remove.new.self.items
          c.args.cursor.now c.self.view_is (c.remove.ensures.items ∙ there.1),
    )
