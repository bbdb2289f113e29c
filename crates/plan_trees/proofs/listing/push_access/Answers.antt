use Rattle.std.proofs.Common.{refl}
use Rattle.plan_trees.proofs.ListLaws.{gains_pushed}
use Rattle.plan_trees.proofs.listing.push_access.Goals as goal

pub returns-in_ok-push : goal.returns-in_ok-push
returns-in_ok-push c =
    gains_pushed _ _ _ _ (c.is_valid_access.ensures.0 c.if-is_valid_access.true, refl) c.in_ok-push.ensures.items
