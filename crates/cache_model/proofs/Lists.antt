-- Facts of each element of a list and of each two, by recursion, and how they survive what is done to the list.
use Rattle.std.proofs.Common.{ℕ, zero, suc, ◌≡◌, ◌≤◌, ◌<◌, ◌+◌, Bool, true, false, cond, List, [], ◌∷◌, ◌++◌, length}
use Rattle.std.proofs.Common.{take, slice_index_or, All, Option, Some, None, sym, refl, subst, arith}
use Rattle.std.specs.List.{AllPairs, AllByRecursion, filter, find}
use Rattle.std.proofs.lemmas.Option.{none-some, same_Some}

-- Each element.

pub each_from : {X : Type 0} (P : X → Type 0) (xs : List X) → All P xs → AllByRecursion P xs
each_from P [] h = tt
each_from P (x ∷ xs) h = (h 0 x (omega arith), each_from P xs (λ k d less. h (suc k) d (omega arith)))

all_at : {X : Type 0} (P : X → Type 0) (x : X) (xs : List X) → P x → All P xs → (k : ℕ) (d : X) → k < length (x ∷ xs)
    → P (slice_index_or (x ∷ xs) k d)
all_at P x xs first rest zero d less = first
all_at P x xs first rest (suc k) d less = rest k d (omega arith)

pub all_from : {X : Type 0} (P : X → Type 0) (xs : List X) → AllByRecursion P xs → All P xs
all_from P [] h = λ k d less. absurd (omega arith)
all_from P (x ∷ xs) h = all_at P x xs h.0 (all_from P xs h.1)

pub each_to : {X : Type 0} (P Q : X → Type 0) → ((x : X) → P x → Q x) → (xs : List X) → AllByRecursion P xs
    → AllByRecursion Q xs
each_to P Q to [] h = tt
each_to P Q to (x ∷ xs) h = (to x h.0, each_to P Q to xs h.1)

pub each_both : {X : Type 0} (P Q : X → Type 0) (xs : List X) → AllByRecursion P xs → AllByRecursion Q xs
    → AllByRecursion (λ x. P x × Q x) xs
each_both P Q [] h k = tt
each_both P Q (x ∷ xs) h k = ((h.0, k.0), each_both P Q xs h.1 k.1)

each_cond : {X : Type 0} (Q : X → Type 0) (b : Bool) (x : X) (ys : List X) → (b ≡ true → Q x) → AllByRecursion Q ys
    → AllByRecursion Q (cond b (x ∷ ys) ys)
each_cond Q true x ys first rest = (first refl, rest)
each_cond Q false x ys first rest = rest

pub each_filter : {X : Type 0} (P Q : X → Type 0) (p : X → Bool) → ((x : X) → p x ≡ true → P x → Q x) → (xs : List X)
    → AllByRecursion P xs → AllByRecursion Q (filter p xs)
each_filter P Q p to [] h = tt
each_filter P Q p to (x ∷ xs) h = each_cond Q (p x) x (filter p xs) (λ e. to x e h.0) (each_filter P Q p to xs h.1)

pub each_push : {X : Type 0} (P : X → Type 0) (xs : List X) (y : X) → AllByRecursion P xs → P y
    → AllByRecursion P (xs ++ y ∷ [])
each_push P [] y h last = (last, tt)
each_push P (x ∷ xs) y h last = (h.0, each_push P xs y h.1 last)

pub each_take : {X : Type 0} (P : X → Type 0) (n : ℕ) (xs : List X) → AllByRecursion P xs → AllByRecursion P (take n xs)
each_take P zero xs h = tt
each_take P (suc n) [] h = tt
each_take P (suc n) (x ∷ xs) h = (h.0, each_take P n xs h.1)

-- Each two.

abbrev pub EachTwo : {X : Type 0} → (X → X → Type 0) → List X → Type 0
EachTwo R [] = Unit {0}
EachTwo R (x ∷ xs) = AllByRecursion (R x) xs × EachTwo R xs

pub each_two_from : {X : Type 0} (R : X → X → Type 0) (xs : List X) → AllPairs R xs → EachTwo R xs
each_two_from R [] h = tt
each_two_from R (x ∷ xs) h = (
  each_from (R x) xs (λ k d less. h 0 (suc k) d (omega arith) (omega arith)),
  each_two_from R xs (λ i j d a b. h (suc i) (suc j) d (omega arith) (omega arith)),
)

pairs_at : {X : Type 0} (R : X → X → Type 0) (x : X) (xs : List X) → All (R x) xs → AllPairs R xs → (i j : ℕ) (d : X)
    → i < j → j < length (x ∷ xs) → R (slice_index_or (x ∷ xs) i d) (slice_index_or (x ∷ xs) j d)
pairs_at R x xs first rest zero zero d a b = absurd (omega arith)
pairs_at R x xs first rest zero (suc j) d a b = first j d (omega arith)
pairs_at R x xs first rest (suc i) zero d a b = absurd (omega arith)
pairs_at R x xs first rest (suc i) (suc j) d a b = rest i j d (omega arith) (omega arith)

pub pairs_from : {X : Type 0} (R : X → X → Type 0) (xs : List X) → EachTwo R xs → AllPairs R xs
pairs_from R [] h = λ i j d a b. absurd (omega arith)
pairs_from R (x ∷ xs) h = pairs_at R x xs (all_from (R x) xs h.0) (pairs_from R xs h.1)

two_cond : {X : Type 0} (R : X → X → Type 0) (b : Bool) (x : X) (ys : List X) → AllByRecursion (R x) ys → EachTwo R ys
    → EachTwo R (cond b (x ∷ ys) ys)
two_cond R true x ys first rest = (first, rest)
two_cond R false x ys first rest = rest

pub two_filter : {X : Type 0} (R : X → X → Type 0) (p : X → Bool) (xs : List X) → EachTwo R xs → EachTwo R (filter p xs)
two_filter R p [] h = tt
two_filter R p (x ∷ xs) h =
    two_cond R (p x) x (filter p xs) (each_filter (R x) (R x) p (λ y e k. k) xs h.0) (two_filter R p xs h.1)

pub two_push : {X : Type 0} (R : X → X → Type 0) (xs : List X) (y : X) → EachTwo R xs → AllByRecursion (λ x. R x y) xs
    → EachTwo R (xs ++ y ∷ [])
two_push R [] y h last = (tt, tt)
two_push R (x ∷ xs) y h last = (each_push (R x) xs y h.0 last.0, two_push R xs y h.1 last.1)

-- Lengths.

pub length_by : {X : Type 0} (b : Bool) (x : X) (ys : List X) → length (cond b (x ∷ ys) ys) ≤ length ys + 1
length_by true x ys = omega arith
length_by false x ys = omega arith

pub length-filter : {X : Type 0} (p : X → Bool) (xs : List X) → length (filter p xs) ≤ length xs
length-filter p [] = omega arith
length-filter p (x ∷ xs) = let a = length_by (p x) x (filter p xs) in let b = length-filter p xs in omega arith

-- What is found.

found_by : {X : Type 0} (P : X → Type 0) (p : X → Bool) (b : Bool) (x y : X) (rest : Option X) → p x ≡ b → P x
    → (rest ≡ Some y → P y × (p y ≡ true)) → cond b (Some x) rest ≡ Some y → P y × (p y ≡ true)
found_by P p true x y rest e first later h = let same =
    same_Some x y h in (subst P same first, subst (λ z. p z ≡ true) same e)
found_by P p false x y rest e first later h = later h

pub found_is : {X : Type 0} (P : X → Type 0) (p : X → Bool) (xs : List X) (y : X) → AllByRecursion P xs → find p xs
    ≡ Some y → P y × (p y ≡ true)
found_is P p [] y h e = absurd (none-some y e)
found_is P p (x ∷ xs) y h e = found_by P p (p x) x y (find p xs) refl h.0 (λ k. found_is P p xs y h.1 k) e

none_by : {X : Type 0} (b : Bool) (x : X) (rest : Option X) → cond b (Some x) rest ≡ None → (b ≡ false) × (rest ≡ None)
none_by true x rest h = absurd (none-some x (sym h))
none_by false x rest h = (refl, h)

pub none_found : {X : Type 0} (p : X → Bool) (xs : List X) → find p xs ≡ None → AllByRecursion (λ x. p x ≡ false) xs
none_found p [] e = tt
none_found p (x ∷ xs) e = let parts = none_by (p x) x (find p xs) e in (parts.0, none_found p xs parts.1)
