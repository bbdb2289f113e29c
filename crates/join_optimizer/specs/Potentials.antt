-- The numbers of what was found.
use Rattle.std.specs.Prelude.{unwrap_or}
use Rattle.plan_costs.specs.declared.potentials.Cell.{Cell}
use Rattle.join_optimizer.specs.declared.found.Cheapest.{Cheapest}
use Rattle.join_optimizer.specs.Found.{cost_of, seen}

-- the costs of both plans of a set; there is always one in some order
abbrev pub numbers : Cheapest → Cell
numbers cell = record { any = unwrap_or (cost_of (seen cell.any)) 0; sorted = cost_of (seen cell.sorted) }
