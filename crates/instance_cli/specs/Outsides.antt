-- The outside, as a shelf and a sink tell it, and what a sink took.
use Rattle.std.specs.Prelude.{ℕ, ◌≡◌, List, ◌++◌, take, Option, Some}
use Rattle.outside_model.specs.Files.{Files, Told}
use Rattle.outside_model.specs.Outside.{Outside}

-- these files and what was taken, where they are told; the shelf's faults and misses, the sink's faults
abbrev pub outside_of : Option Files → Option (List ℕ) → ℕ → ℕ → ℕ → Outside
outside_of files taken faults misses sink_faults =
    record { files = files; taken = taken; faults = faults; misses = misses; sink_faults = sink_faults }

-- where the sink is told, it took this behind what it had
abbrev pub Took : Outside → Outside → List ℕ → Type 0
Took before after bytes = Told before.taken (λ taken. after.taken ≡ Some (taken ++ bytes))

-- it took the first of these bytes
abbrev pub TookFirst : Outside → Outside → List ℕ → Type 0
TookFirst before after bytes =
    Told before.taken (λ taken. (count : ℕ) × (after.taken ≡ Some (taken ++ take count bytes)))

-- it took nothing
abbrev pub TookNothing : Outside → Outside → Type 0
TookNothing before after = Told before.taken (λ taken. after.taken ≡ Some taken)
