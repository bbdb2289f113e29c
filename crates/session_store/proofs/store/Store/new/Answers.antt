use Rattle.session_store.proofs.Keeping.{first_kept}
use Rattle.session_store.proofs.store.Store.new.Goals as goal

pub invariant_of-result : goal.invariant_of-result
invariant_of-result c =
    first_kept c.new.result.entries c.new-2.result.entries c.args.weights c.new-4.result.items c.new-3.result.items
    c.requires c.new.ensures.empty c.new-2.ensures.empty c.new-4.ensures.items c.new-3.ensures.items
