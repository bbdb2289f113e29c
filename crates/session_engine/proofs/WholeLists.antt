-- Lists shown whole, by what is kept of them.
use Rattle.std.proofs.Common.{ℕ, ◌≡◌, ◌≤◌, ◌∙◌, List, [], ◌∷◌, length, map, take, ap, refl, arith}
use Rattle.std.proofs.lemmas.List.{take_all}

pub map_twice : {X Y Z : Type 0} (f : Y → Z) (g : X → Y) (xs : List X) → map (λ x. f (g x)) xs ≡ map f (map g xs)
map_twice f g [] = refl
map_twice f g (x ∷ xs) = ap (λ rest. f (g x) ∷ rest) (map_twice f g xs)

-- what was shown up to the end, of what stands for these
pub shown_all : {X Y Z : Type 0} (f : Y → Z) (g : X → Y) (xs : List X) (ys : List Y) (shown : List Z) (i : ℕ)
    → shown ≡ map (λ x. f (g x)) (take i xs) → length xs ≤ i → map g xs ≡ ys → shown ≡ map f ys
shown_all f g xs ys shown i h end same =
    h ∙ ap (map (λ x. f (g x))) (take_all i xs (omega (arith, end))) ∙ map_twice f g xs ∙ ap (map f) same
