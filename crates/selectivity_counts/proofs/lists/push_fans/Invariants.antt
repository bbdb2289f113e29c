use Rattle.std.proofs.Common.{◌≡◌, ◌++◌, map, max, take}
use Rattle.std.specs.Int.{div_ceil}
use Rattle.selectivity_counts.proofs.lists.push_fans.Given as goal

-- the fans so far
abbrev pub invariant-loop-count : goal.invariant-loop-count
invariant-loop-count l =
    l.fans.items ≡ l.initial.fans.items ++ map (λ count. div_ceil l.row_count (max 1 count))
    (take l.count-index l.distincts)
