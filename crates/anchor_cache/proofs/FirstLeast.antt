-- The first of those for which a number is least: among mapped elements, and with one element more.
use Rattle.std.proofs.Common.{ℕ, ◌≡◌, nat_lt, Bool, true, false, cond, List, [], ◌∷◌, ◌++◌, map, Option, Some, None}
use Rattle.std.proofs.Common.{ap, ◌∙◌, refl}
use Rattle.std.specs.List.{best_of, fold}
use Rattle.std.specs.Option.{option_map}
use Rattle.cache_model.specs.Keeping.{first_least}

picked : {X Y : Type 0} (f : X → Y) (b : Bool) (x y : X) → cond b (f x) (f y) ≡ f (cond b x y)
picked f true x y = refl
picked f false x y = refl

best_map : {X Y : Type 0} (f : X → Y) (beats : Y → Y → Bool) (x : X) (xs : List X)
    → best_of beats (f x) (map f xs) ≡ f (best_of (λ a b. beats (f a) (f b)) x xs)
best_map f beats x [] = refl
best_map f beats x (y ∷ ys) = ap (λ z. best_of beats z (map f ys)) (picked f (beats (f y) (f x)) y x)
    ∙ best_map f beats (cond (beats (f y) (f x)) y x) ys

pub least_map : {X Y : Type 0} (f : X → Y) (number : Y → ℕ) (xs : List X)
    → first_least number (map f xs) ≡ option_map f (first_least (λ x. number (f x)) xs)
least_map f number [] = refl
least_map f number (x ∷ xs) = ap Some (best_map f (λ y least. nat_lt (number y) (number least)) x xs)

-- the first least so far, or the new one where it is less
abbrev pub or_less : {X : Type 0} → (X → ℕ) → Option X → X → X
or_less number None new = new
or_less number (Some least) new = cond (nat_lt (number new) (number least)) new least

best_more : {X : Type 0} (beats : X → X → Bool) (x : X) (xs : List X) (new : X)
    → best_of beats x (xs ++ new ∷ []) ≡ cond (beats new (best_of beats x xs)) new (best_of beats x xs)
best_more beats x [] new = refl
best_more beats x (y ∷ ys) new = best_more beats (cond (beats y x) y x) ys new

pub least_more : {X : Type 0} (number : X → ℕ) (xs : List X) (new : X)
    → first_least number (xs ++ new ∷ []) ≡ Some (or_less number (first_least number xs) new)
least_more number [] new = refl
least_more number (x ∷ xs) new = ap Some (best_more (λ y least. nat_lt (number y) (number least)) x xs new)
