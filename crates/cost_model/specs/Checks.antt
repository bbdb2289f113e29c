-- The two checks by which a kept plan is used again: from its costs at an anchor, and how far the instance is
-- from that anchor. Each fails where a side is 2 ^ 128 or more.
use Rattle.std.specs.Prelude.{ℕ, ◌*◌, List}
use Rattle.fraction_math.specs.Product.{IsAtMost}
use Rattle.cost_polynomials.specs.Growth.{grown_to, grown_from, shrunk_to, shrunk_from}

-- the plan's own cost at the anchor, let grow as far as selectivities can make it, is within the ratio of the
-- least cost, let shrink likewise
abbrev pub PassesSelectivityCheck : ℕ → ℕ → ℕ → ℕ → List ℕ → List ℕ → Type 0
PassesSelectivityCheck num den cost_at_anchor least_at_anchor anchor instance =
    IsAtMost (cost_at_anchor * grown_to instance anchor * shrunk_from instance anchor * den)
    (num * least_at_anchor * grown_from instance anchor * shrunk_to instance anchor)

-- the plan's cost at the instance is within the ratio of the least cost at the anchor, let shrink likewise
abbrev pub PassesCostCheck : ℕ → ℕ → ℕ → ℕ → List ℕ → List ℕ → Type 0
PassesCostCheck num den cost_at_instance least_at_anchor anchor instance =
    IsAtMost (cost_at_instance * shrunk_from instance anchor * den) (num * least_at_anchor * shrunk_to instance anchor)
