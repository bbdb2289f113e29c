use Rattle.std.proofs.Common.{ap, option_map}
use Rattle.catalog_model.specs.Catalogs.{StatementState}
use Rattle.session_store.specs.Kept.{StoreState}
use Rattle.report_verifier.proofs.ForgottenEntries.{at}
use Rattle.report_verifier.proofs.verifier.hold.Goals as goal

pub returns-in_err-hold_cursor-clause-catalog : goal.returns-in_err-hold_cursor-clause-catalog
returns-in_err-hold_cursor-clause-catalog c =
    let here = at c.args.store.now.catalog.statements c.args.statement c.requires.there in
    ap (λ (s : StoreState). s.catalog) (c.in_err-hold_cursor.ensures here.prepared.statement
    (ap (option_map (λ (p : StatementState). p.statement)) here.there))

pub returns-in_ok-hold_cursor-clause-catalog : goal.returns-in_ok-hold_cursor-clause-catalog
returns-in_ok-hold_cursor-clause-catalog c =
    let here = at c.args.store.now.catalog.statements c.args.statement c.requires.there in
    ap (λ (s : StoreState). s.catalog) (c.in_ok-hold_cursor.ensures here.prepared.statement
    (ap (option_map (λ (p : StatementState). p.statement)) here.there))
