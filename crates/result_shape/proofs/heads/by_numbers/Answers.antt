use Rattle.std.proofs.Common.{ℕ, List, map, subst, ◌∙◌}
use Rattle.std.specs.Prelude.{IsPermutation}
use Rattle.std.proofs.lemmas.List.Sorted.{IsPermutation-map}
use Rattle.result_shape.specs.declared.heads.Headed.{Headed}
use Rattle.result_shape.proofs.heads.by_numbers.Goals as goal

pub returns : goal.returns
returns c =
    rw (c.in_ok-sorted.ensures, c.as_slice-2.ensures.value)
    (subst (λ (combos : List (List ℕ)). IsPermutation combos
    (map (λ (one : Headed). one.combo) c.sort_unstable_by.new.self.items))
    (c.in_ok-headed.ensures ∙ c.as_slice.ensures.value)
    (IsPermutation-map (λ (one : Headed). one.combo) c.in_ok-headed.headed.items c.sort_unstable_by.new.self.items
    c.sort_unstable_by.ensures.permutation))
