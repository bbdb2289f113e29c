-- How near a candidate is to an instance, in two numbers.
use Rattle.std.specs.Prelude.{ℕ, ◌*◌, nat_lt, Bool, List, [], ◌∷◌, if◌then◌else◌}
use Rattle.cache_model.specs.Choices.{Candidate, greater_product, lesser_product}
use Rattle.cost_check.specs.declared.nearest.Near.{Near}

-- where it stands, and the greater and the lesser of each two numbers, multiplied
abbrev pub near_of : List ℕ → Candidate → Near
near_of instance candidate = record {
  position = candidate.position;
  greater = greater_product instance candidate.anchor.at;
  lesser = lesser_product instance candidate.anchor.at;
}

-- the ratio of the two is less at the first
abbrev pub is_nearer : Near → Near → Bool
is_nearer a b = nat_lt (a.greater * b.lesser) (b.greater * a.lesser)

-- put before the first that isn't nearer
abbrev pub put_near : Near → List Near → List Near
put_near new [] = new ∷ []
put_near new (near ∷ others) = if is_nearer near new then near ∷ put_near new others else new ∷ near ∷ others
