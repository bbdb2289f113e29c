-- Where nothing is found, nothing is wrong.
use Rattle.std.proofs.Common.{◌≡◌, List, [], ◌∷◌, ◌++◌, map, Bool, true, false, cond, Option, Some, None, refl}
use Rattle.std.specs.Option.{option_map, option_or}
use Rattle.std.specs.List.{All, find}
use Rattle.std.proofs.lemmas.List.Elements.{All-cons, All-nil}

pub split_none : {T : Type 0} (b : Bool) (x : T) (rest : Option T) → cond b (Some x) rest ≡ None → (b ≡ false)
    × (rest ≡ None)
split_none true x rest h = cc
split_none false x rest h = (refl, h)

pub or_none : {T : Type 0} (a b : Option T) → option_or a b ≡ None → (a ≡ None) × (b ≡ None)
or_none None b h = (refl, h)
or_none (Some x) b h = cc

pub map_none : {T U : Type 0} (f : T → U) (a : Option T) → option_map f a ≡ None → a ≡ None
map_none f None h = refl
map_none f (Some x) h = cc

append_by : {T : Type 0} (b : Bool) (x : T) (front back whole : Option T)
    → (whole ≡ None → (front ≡ None) × (back ≡ None))
    → cond b (Some x) whole ≡ None → (cond b (Some x) front ≡ None) × (back ≡ None)
append_by true x front back whole later h = cc
append_by false x front back whole later h = later h

pub append_none : {T : Type 0} (p : T → Bool) (xs ys : List T) → find p (xs ++ ys) ≡ None → (find p xs ≡ None)
    × (find p ys ≡ None)
append_none p [] ys h = (refl, h)
append_none p (x ∷ xs) ys h = append_by (p x) x (find p xs) (find p ys) (find p (xs ++ ys)) (append_none p xs ys) h

-- what holds of each that fails the test holds of all
pub all_mapped : {X Y : Type 0} (p : X → Bool) (f : X → Y) (P : Y → Type 0) (xs : List X)
    → ((x : X) → p x ≡ false → P (f x)) → find p xs ≡ None → All P (map f xs)
all_mapped p f P [] each h = All-nil P
all_mapped p f P (x ∷ xs) each h =
    let both = split_none (p x) x (find p xs) h in
    All-cons P (f x) (map f xs) (each x both.0) (all_mapped p f P xs each both.1)
