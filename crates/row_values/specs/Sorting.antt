-- Lists in order, how often something stands in a list, and classes.
use Rattle.std.specs.Prelude.{ℕ, ◌≡◌, suc, Bool, false, not, List, [], ◌∷◌, All, map, if◌then◌else◌}
use Rattle.std.specs.List.{filter}

-- an element put before the first one that isn't less
abbrev pub put_in : {X : Type 0} → (X → X → Bool) → X → List X → List X
put_in lt x [] = x ∷ []
put_in lt x (y ∷ ys) = if lt y x then y ∷ put_in lt x ys else x ∷ (y ∷ ys)

-- the list sorted stably
abbrev pub in_order : {X : Type 0} → (X → X → Bool) → List X → List X
in_order lt [] = []
in_order lt (x ∷ xs) = put_in lt x (in_order lt xs)

-- no element is less than one before it
abbrev pub Rises : {X : Type 0} → (X → X → Bool) → List X → Type 0
Rises lt [] = Unit {0}
Rises lt (x ∷ xs) = All (λ y. lt y x ≡ false) xs × Rises lt xs

-- how often an element stands in a list
abbrev pub times : {X : Type 0} → (X → X → Bool) → X → List X → ℕ
times same x [] = 0
times same x (y ∷ ys) = if same x y then suc (times same x ys) else times same x ys

-- the first element of each class
abbrev pub heads : {X : Type 0} → (X → X → Bool) → List X → List X
heads same [] = []
heads same (x ∷ xs) = x ∷ filter (λ y. not (same x y)) (heads same xs)

-- the least of an element and a list, and of several that tie the first
abbrev pub least_of : {X : Type 0} → (X → X → Bool) → X → List X → X
least_of lt x [] = x
least_of lt x (y ∷ ys) = least_of lt (if lt y x then y else x) ys

-- an element put before the first run, and into it where it is in its class
abbrev pub put_front : {X : Type 0} → (X → X → Bool) → X → List (List X) → List (List X)
put_front same x [] = (x ∷ []) ∷ []
put_front same x ([] ∷ rest) = (x ∷ []) ∷ rest
put_front same x ((y ∷ ys) ∷ rest) = if same x y then (x ∷ (y ∷ ys)) ∷ rest else (x ∷ []) ∷ ((y ∷ ys) ∷ rest)

-- the list cut wherever the class changes
abbrev pub runs : {X : Type 0} → (X → X → Bool) → List X → List (List X)
runs same [] = []
runs same (x ∷ xs) = put_front same x (runs same xs)

-- the classes of a list, each with its members, in the order of their first ones
abbrev pub classes : {X : Type 0} → (X → X → Bool) → List X → List (List X)
classes same xs = map (λ head. filter (same head) xs) (heads same xs)
