use Rattle.std.proofs.Common.{ℕ, ◌≡◌, List, All, take}
use Rattle.serde_json.specs.View.{items_view}
use Rattle.plan_costs.specs.declared.potentials.Cell.{Cell}
use Rattle.bound_certificate.specs.Certificates.{IsCell, cells_data}
use Rattle.bound_certificate.proofs.reading.cells_in.Given as goal

-- whichever cells the values are of, those so far are in the list
abbrev pub invariant-loop-value : goal.invariant-loop-value
invariant-loop-value l =
    record {
      fits : All IsCell l.list.items;
      found : (set : ℕ) (cells : List Cell) → All IsCell cells → items_view l.values ≡ cells_data set cells
          → l.list.items ≡ take l.value-index cells;
    }
