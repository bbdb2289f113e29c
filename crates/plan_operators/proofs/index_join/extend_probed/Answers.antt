use Rattle.std.proofs.Common.{ℕ, List, ◌++◌, ap, append-nil, map, set, sym, ◌∙◌}
use Rattle.std.specs.Prelude.{filter}
use Rattle.plan_operators.specs.Edges.{all_meet}
use Rattle.plan_operators.proofs.PlaceRows.{none_probed}
use Rattle.plan_operators.proofs.index_join.extend_probed.Goals as goal

pub returns-in-None : goal.returns-in-None
returns-in-None c =
    sym
    (ap (λ (rows : List ℕ). c.args.into.now.items
    ++ filter (all_meet c.args.edges.now) (map (set c.args.combo c.args.place) rows))
    (none_probed c.args.probe.now c.args.combo (rw (c.row-row.ensures, c.from.ensures) at (sym c.in-None.ensures)))
    ∙ append-nil c.args.into.now.items)
