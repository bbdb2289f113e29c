use Rattle.std.proofs.Common.{◌≡◌, ◌∙◌, Some, ap, subst, sym}
use Rattle.session_store.specs.Kept.{StoreState, put_held}
use Rattle.session_store.proofs.Changes.{same_put}
use Rattle.session_store.proofs.store.Store.counted_at.Goals as goal

pub returns-in_ok-held-in-Some : goal.returns-in_ok-held-in-Some
returns-in_ok-held-in-Some c =
    subst (λ (k : StoreState). put_held k.catalog.tables c.args.table.now c.in_ok-held-in-Some.held ≡ k.catalog.tables)
    c.self.view_is
    (same_put c.self.inside.tables.entries c.args.table.now c.in_ok-held-in-Some.held
    (sym c.in-Some.ensures.value ∙ ap Some (sym c.in_ok-held-in-Some.ensures)))
