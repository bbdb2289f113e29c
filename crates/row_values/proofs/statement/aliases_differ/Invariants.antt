use Rattle.std.proofs.Common.{◌≡◌, ℕ, ◌<◌, drop, get_or}
use Rattle.row_values.specs.Columns.{IsSchema}
use Rattle.row_values.specs.Statements.{are_aliases}
use Rattle.row_values.specs.declared.statement.Place.{Place}
use Rattle.row_values.proofs.statement.aliases_differ.Given as goal

-- the places that are left decide, and the schemas of those before were read
abbrev pub invariant-loop-i : goal.invariant-loop-i
invariant-loop-i l =
    (are_aliases (drop l.i l.places) ≡ are_aliases l.places) × ((k : ℕ) (d : Place) → k < l.i
    → IsSchema (get_or l.places k d).schema)
