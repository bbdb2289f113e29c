use Rattle.std.proofs.Common.{◌≡◌, ◌++◌, drop, map}
use Rattle.std.specs.Rc.{rc_value}
use Rattle.selectivity_counts.specs.Kept.{fans_from}
use Rattle.selectivity_counts.proofs.lists.fan_counts.Given as goal

-- the places that are left put their fans behind
abbrev pub invariant-loop-place : goal.invariant-loop-place
invariant-loop-place l =
    l.fans.items ++ fans_from l.rows l.place (map rc_value (drop l.place l.distincts))
    ≡ fans_from l.rows 0 (map rc_value l.distincts)
