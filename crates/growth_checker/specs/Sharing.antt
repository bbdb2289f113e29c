-- Where products of an expression share selectivities, with sets of selectivities as masks.
use Rattle.std.specs.Prelude.{ℕ, ◌≡◌, ◌==◌, Bool, false, ◌&&◌}
use Rattle.std.specs.Int.{bit_at}
use Rattle.growth_checker.specs.Expression.{Formula, Constant, Selectivity, Plus, Times, mentions}

-- the selectivity is in the set
abbrev pub has : ℕ → ℕ → Bool
has mask i = bit_at mask i == 1

-- no product has a selectivity on both sides, product by product
abbrev pub AreProductsApart : Formula → Type 0
AreProductsApart (Constant n) = Unit {0}
AreProductsApart (Selectivity i) = Unit {0}
AreProductsApart (Plus left right) = AreProductsApart left × AreProductsApart right
AreProductsApart (Times left right) =
    AreProductsApart left × AreProductsApart right × ((i : ℕ) → (mentions left i && mentions right i) ≡ false)
