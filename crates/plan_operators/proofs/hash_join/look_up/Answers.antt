use Rattle.std.proofs.Common.{◌≡◌, length}
use Rattle.std.proofs.lemmas.List.Elements.{All-filter}
use Rattle.plan_operators.proofs.hash_join.look_up.Goals as goal

pub extend_merged-requires : goal.extend_merged-requires
extend_merged-requires c =
    let each = c.requires.long c.loop-combo.combo-index c.combo-item.result c.loop-combo-test.true in
    rw c.with_key-found.ensures
    (All-filter _ (λ d. length c.combo-item.result ≡ length d) c.args.side.now.combos.items
    (rw (← c.combo-item.is) at each))
