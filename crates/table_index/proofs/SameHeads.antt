-- Lists with the same elements have as many distinct ones.
use Rattle.std.proofs.Common.{ℕ, zero, suc, ◌≡◌, ◌≤◌, ◌+◌, Bool, true, false, not, ◌&&◌, List, [], ◌∷◌, ap, sym, ◌∙◌}
use Rattle.std.proofs.Common.{refl, length, arith, cond, min}
use Rattle.std.specs.Prelude.{IsPermutation}
use Rattle.std.specs.List.{filter}
use Rattle.std.specs.Cmp.{IsEquivalence}
use Rattle.std.proofs.lemmas.Bool.{false≢true}
use Rattle.std.proofs.lemmas.List.Sums.{count_by-le-length, length-filter}
use Rattle.std.proofs.lemmas.List.Sorted.{sum_by-IsPermutation}
use Rattle.row_values.specs.Sorting.{heads}

-- how many pass a test, element by element
abbrev count : {X : Type 0} → (X → Bool) → List X → ℕ
count p [] = 0
count p (x ∷ xs) = cond (p x) 1 0 + count p xs

count-is : {X : Type 0} (p : X → Bool) (xs : List X) → count p xs ≡ length (filter p xs)
count-is p [] = refl
count-is p (x ∷ xs) = by_test (p x) (count-is p xs)
  where
    by_test : (b : Bool) → count p xs ≡ length (filter p xs)
        → cond b 1 0 + count p xs ≡ length (cond b (x ∷ filter p xs) (filter p xs))
    by_test true more = omega (arith, more)
    by_test false more = omega (arith, more)

-- two lists in which every test passes equally often
abbrev pub CountSame : {X : Type 0} → List X → List X → Type 0
CountSame {X} xs ys = (p : X → Bool) → count p xs ≡ count p ys

pub same_from_permutation : {X : Type 0} (xs ys : List X) → IsPermutation xs ys → CountSame xs ys
same_from_permutation xs ys h p =
    let total = sum_by-IsPermutation (λ x. cond (p x) 1 0) xs ys h in
    count-is p xs ∙ (length-filter p xs ∙ (sym total ∙ (sym (length-filter p ys) ∙ sym (count-is p ys))))

-- a filter after a filter
filter_swap : {X : Type 0} (p q : X → Bool) (xs : List X) → filter p (filter q xs) ≡ filter q (filter p xs)
filter_swap p q [] = refl
filter_swap {X = X} p q (x ∷ xs) = by_tests (p x) (q x) refl refl (filter_swap p q xs)
  where
    by_tests : (a b : Bool) → p x ≡ a → q x ≡ b → filter p (filter q xs) ≡ filter q (filter p xs)
        → filter p (cond b (x ∷ filter q xs) (filter q xs)) ≡ filter q (cond a (x ∷ filter p xs) (filter p xs))
    by_tests true true e f more = rw (e, f) (ap (λ (zs : List X). x ∷ zs) more)
    by_tests true false e f more = rw f more
    by_tests false true e f more = rw e more
    by_tests false false e f more = more

count_filter : {X : Type 0} (p q : X → Bool) (xs : List X) → count p (filter q xs) ≡ count (λ x. q x && p x) xs
count_filter p q [] = refl
count_filter p q (x ∷ xs) = by_test (q x) (count_filter p q xs)
  where
    by_test : (b : Bool) → count p (filter q xs) ≡ count (λ x. q x && p x) xs
        → count p (cond b (x ∷ filter q xs) (filter q xs)) ≡ cond (b && p x) 1 0 + count (λ x. q x && p x) xs
    by_test true more = ap (λ (n : ℕ). cond (p x) 1 0 + n) more
    by_test false more = omega (arith, more)

-- where an element fails a test that can't tell equal ones apart, they fail it too
nothing_lost : {X : Type 0} (same : X → X → Bool) (p : X → Bool) → ((a b : X) → same a b ≡ true → p a ≡ p b) → (x : X)
    → p x ≡ false
    → (ys : List X) → filter p (filter (λ y. not (same x y)) ys) ≡ filter p ys
nothing_lost same p h x e [] = refl
nothing_lost {X = X} same p h x e (y ∷ ys) = by_same (nothing_lost same p h x e ys) (same x y) refl
  where
    by_same : filter p (filter (λ y. not (same x y)) ys) ≡ filter p ys → (b : Bool) → same x y ≡ b
        → filter p (cond (not b) (y ∷ filter (λ y. not (same x y)) ys) (filter (λ y. not (same x y)) ys))
        ≡ cond (p y) (y ∷ filter p ys) (filter p ys)
    by_same more true s = rw (sym (h x y s) ∙ e) more
    by_same more false s = ap (λ (zs : List X). cond (p y) (y ∷ zs) zs) more

-- a test that can't tell equal elements apart keeps the heads of what it keeps
heads_filter : {X : Type 0} (same : X → X → Bool) (p : X → Bool) → ((a b : X) → same a b ≡ true → p a ≡ p b)
    → (xs : List X)
    → filter p (heads same xs) ≡ heads same (filter p xs)
heads_filter same p h [] = refl
heads_filter {X = X} same p h (x ∷ xs) = by_test (heads_filter same p h xs) (p x) refl
  where
    by_test : filter p (heads same xs) ≡ heads same (filter p xs) → (b : Bool) → p x ≡ b
        → cond b (x ∷ filter p (filter (λ y. not (same x y)) (heads same xs)))
        (filter p (filter (λ y. not (same x y)) (heads same xs)))
        ≡ heads same (cond b (x ∷ filter p xs) (filter p xs))
    by_test more true e =
        ap (λ (zs : List X). x ∷ zs)
        (filter_swap p (λ y. not (same x y)) (heads same xs) ∙ ap (filter (λ y. not (same x y))) more)
    by_test more false e = nothing_lost same p h x e (heads same xs) ∙ more

count_none : {X : Type 0} (p : X → Bool) → ((x : X) → p x ≡ false) → (xs : List X) → count p xs ≡ 0
count_none p h [] = refl
count_none p h (x ∷ xs) = rw (h x) (omega (arith, count_none p h xs))

count_agree : {X : Type 0} (p q : X → Bool) → ((x : X) → p x ≡ q x) → (xs : List X) → count p xs ≡ count q xs
count_agree p q h [] = refl
count_agree p q h (x ∷ xs) = rw (h x) (ap (λ (n : ℕ). cond (q x) 1 0 + n) (count_agree p q h xs))

count_split : {X : Type 0} (p : X → Bool) (xs : List X) → length xs ≡ count p xs + length (filter (λ x. not (p x)) xs)
count_split p [] = refl
count_split p (x ∷ xs) = by_test (p x) (count_split p xs)
  where
    by_test : (b : Bool) → length xs ≡ count p xs + length (filter (λ x. not (p x)) xs)
        → suc (length xs)
        ≡ (cond b 1 0 + count p xs) + length (cond (not b) (x ∷ filter (λ x. not (p x)) xs)
        (filter (λ x. not (p x)) xs))
    by_test true more = omega (arith, more)
    by_test false more = omega (arith, more)

-- of the elements equal to one there is one head, if there are any
one_head : {X : Type 0} (same : X → X → Bool) → IsEquivalence same → (x : X) (xs : List X)
    → count (same x) (heads same xs) ≡ min 1 (count (same x) xs)
one_head same e x [] = refl
one_head {X = X} same e x (y ∷ ys) =
    rw (count_filter (same x) (λ z. not (same y z)) (heads same ys)) (by_test (one_head same e x ys) (same x y) refl)
  where
    differs : same x y ≡ true → (z : X) → (not (same y z) && same x z) ≡ false
    differs h z = rw (e.congr x y z h) (never (same y z))
      where
        never : (b : Bool) → (not b && b) ≡ false
        never true = refl
        never false = refl

    as_before : same x y ≡ false → (z : X) → (not (same y z) && same x z) ≡ same x z
    as_before h z = by_same (same y z) refl
      where
        by_same : (b : Bool) → same y z ≡ b → (not b && same x z) ≡ same x z
        by_same true s = sym (e.symm x z ∙ (sym (e.congr y z x s ∙ refl) ∙ (e.symm y x ∙ h)))
        by_same false s = refl

    by_test : count (same x) (heads same ys) ≡ min 1 (count (same x) ys) → (b : Bool) → same x y ≡ b
        → cond b 1 0 + count (λ z. not (same y z) && same x z) (heads same ys) ≡ min 1 (cond b 1 0 + count (same x) ys)
    by_test more true h =
        let none = count_none (λ z. not (same y z) && same x z) (differs h) (heads same ys) in omega (arith, none)
    by_test more false h =
        let agree = count_agree (λ z. not (same y z) && same x z) (same x) (as_before h) (heads same ys) in
        omega (arith, agree, more)

none_left : {X : Type 0} (ys : List X) → CountSame [] ys → 0 ≡ length ys
none_left [] h = refl
none_left (y ∷ ys) h = absurd (omega (arith, h (λ _. true)))

alike : {X : Type 0} (same : X → X → Bool) → IsEquivalence same → (fuel : ℕ) (xs ys : List X) → length xs ≤ fuel
    → CountSame xs ys
    → length (heads same xs) ≡ length (heads same ys)
alike same e fuel [] [] l h = refl
alike same e fuel [] (y ∷ ys) l h = absurd (omega (arith, none_left (y ∷ ys) h))
alike same e zero (x ∷ xs) ys l h = absurd (omega (arith, l))
alike {X = X} same e (suc fuel) (x ∷ xs) ys l h =
    let rest = alike same e fuel (filter (λ y. not (same x y)) xs) (filter (λ y. not (same x y)) ys) short fewer in
    let left = heads_filter same (λ y. not (same x y)) blind xs in
    let right = heads_filter same (λ y. not (same x y)) blind ys in
    let mine = one_head same e x ys in
    let here = h (same x) in
    let split = count_split (same x) (heads same ys) in
    let self = e.refl x in
    rw (left, split, right, mine, ← here, self) (omega (arith, rest))
  where
    blind : (a b : X) → same a b ≡ true → not (same x a) ≡ not (same x b)
    blind a b s = ap not (e.symm x a ∙ (e.congr a b x s ∙ e.symm b x))

    short : length (filter (λ y. not (same x y)) xs) ≤ fuel
    short = omega (arith, length-filter (λ y. not (same x y)) xs, count_by-le-length (λ y. not (same x y)) xs, l)

    fewer : CountSame (filter (λ y. not (same x y)) xs) (filter (λ y. not (same x y)) ys)
    fewer p =
        let both = h (λ y. not (same x y) && p y) in
        count_filter p (λ y. not (same x y)) xs
        ∙ (first (same x x) (e.refl x) both ∙ sym (count_filter p (λ y. not (same x y)) ys))
      where
        first : (b : Bool) → b ≡ true
            → cond (not b && p x) 1 0 + count (λ y. not (same x y) && p y) xs ≡ count (λ y. not (same x y) && p y) ys
            → count (λ y. not (same x y) && p y) xs ≡ count (λ y. not (same x y) && p y) ys
        first true s k = omega (arith, k)
        first false s k = absurd (false≢true s)

-- lists with the same elements have as many distinct ones
pub heads_of_permutation : {X : Type 0} (same : X → X → Bool) → IsEquivalence same → (xs ys : List X)
    → IsPermutation xs ys
    → length (heads same xs) ≡ length (heads same ys)
heads_of_permutation same e xs ys h = alike same e (length xs) xs ys (omega arith) (same_from_permutation xs ys h)
