-- One turn of an operator's loop: what stands first is passed over or given.
use Rattle.std.proofs.Common.{ℕ, ◌≡◌, ◌<◌, ◌≤◌, ◌+◌, ◌-◌, Bool, true, false, List, ◌∷◌, length, map, take, drop, get_or}
use Rattle.std.proofs.Common.{cond, ap, ◌∙◌, arith, suc}
use Rattle.std.specs.Prelude.{filter, slice_range}
use Rattle.std.proofs.lemmas.List.{drop_more}

pub passed : {X Y : Type 0} (f : X → Y) (p : Y → Bool) (xs rest : List X) (x : X) → xs ≡ x ∷ rest → p (f x) ≡ false
    → filter p (map f xs) ≡ filter p (map f rest)
passed f p xs rest x is e =
    ap (λ ys. filter p (map f ys)) is
    ∙ ap (λ (b : Bool). cond b (f x ∷ filter p (map f rest)) (filter p (map f rest))) e

pub taken : {X Y : Type 0} (f : X → Y) (p : Y → Bool) (xs rest : List X) (x : X) → xs ≡ x ∷ rest → p (f x) ≡ true
    → filter p (map f xs) ≡ f x ∷ filter p (map f rest)
taken f p xs rest x is e =
    ap (λ ys. filter p (map f ys)) is
    ∙ ap (λ (b : Bool). cond b (f x ∷ filter p (map f rest)) (filter p (map f rest))) e

-- the same where the rows are tested before they are placed

pub tested_no : {X : Type 0} (h : X → Bool) (xs rest : List X) (x : X) → xs ≡ x ∷ rest → h x ≡ false
    → filter h xs ≡ filter h rest
tested_no h xs rest x is e = ap (filter h) is ∙ ap (λ (b : Bool). cond b (x ∷ filter h rest) (filter h rest)) e

pub tested_yes : {X : Type 0} (h : X → Bool) (xs rest : List X) (x : X) → xs ≡ x ∷ rest → h x ≡ true
    → filter h xs ≡ x ∷ filter h rest
tested_yes h xs rest x is e = ap (filter h) is ∙ ap (λ (b : Bool). cond b (x ∷ filter h rest) (filter h rest)) e

-- the first of a range, and the others
pub range_more : {X : Type 0} (xs : List X) (i end : ℕ) (d : X) → i < end → end ≤ length xs
    → slice_range xs i end ≡ get_or xs i d ∷ slice_range xs (i + 1) end
range_more xs i end d low inside =
    let here : i < length xs = omega (arith, low, inside) in
    let one_more : end - i ≡ suc (end - (i + 1)) = omega (arith, low) in
    ap (take (end - i)) (drop_more xs i d here) ∙ ap (λ (n : ℕ). take n (get_or xs i d ∷ drop (i + 1) xs)) one_more
