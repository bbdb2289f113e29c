use Rattle.std.proofs.Common.{◌∙◌, ap}
use Rattle.catalog_model.specs.Held.{without_cursor}
use Rattle.session_store.specs.Kept.{StoreState}
use Rattle.report_verifier.specs.Kept.{walk_of}
use Rattle.report_verifier.specs.Walk.{Walk}
use Rattle.report_verifier.proofs.KeptWalks.{closed as store_closed}
use Rattle.report_verifier.proofs.verifier.Verifier.close.Goals as goal

pub returns : goal.returns
returns c =
    let v = c.self.inside in
    ap (λ (s : StoreState). walk_of s v.ledger v.executions v.too_large v.items.items v.position v.lambda)
    (store_closed v.store c.close_cursor.new.self c.args.cursor.now c.close_cursor.result c.close_cursor.ensures)
    ∙ ap (λ (w : Walk). record w { cursors = without_cursor c.args.cursor.now w.cursors }) c.self.view_is
