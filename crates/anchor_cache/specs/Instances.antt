-- Instances that a cache may be asked about.
use Rattle.std.specs.Prelude.{ℕ, ◌≡◌, ◌<◌, ◌≤◌, ◌^◌, List, length, All}
use Rattle.cost_polynomials.specs.Polynomial.{IsVectorFor, value_of}
use Rattle.cache_model.specs.Caches.{Anchor}
use Rattle.cache_model.specs.Choices.{greater_product}
use Rattle.anchor_cache.specs.declared.kept_plans.Kept.{Kept}

-- as many numbers as each anchor has, each at least 1, and near enough to each anchor that the checks' products fit
pub record IsInstanceFor (anchors : List Anchor) (instance : List ℕ) : Type 0 where
  pub numbers : All (λ n. 1 ≤ n) instance
  pub as_long : All (λ anchor. length anchor.at ≡ length instance) anchors
  pub near : All (λ anchor. greater_product instance anchor.at ≤ 2 ^ 63) anchors

-- what the kept plan costs at the instance, by its polynomial
abbrev pub cost_at : List ℕ → Kept → ℕ
cost_at instance kept = value_of kept.costed.poly instance

-- the polynomial has a number for each variable, and its value fits
pub record HasCostAt (instance : List ℕ) (kept : Kept) : Type 0 where
  pub vector : IsVectorFor kept.costed.poly instance
  pub some : 1 ≤ cost_at instance kept
  pub fits : cost_at instance kept < 2 ^ 128
