-- Lists in strict order: where an element goes in, and what stands before and behind it.
use Rattle.std.proofs.Common.{zero, suc, ◌≡◌, ◌+◌, ◌++◌, List, [], ◌∷◌, map, get_or}
use Rattle.std.proofs.Common.{false, ap, sym, ◌∙◌, refl, arith}
use Rattle.std.specs.Prelude.{All, IsSortedBy}
use Rattle.std.specs.List.{AllByRecursion}
use Rattle.std.specs.List.Sorted.{IsStrictlySortedBy}
use Rattle.std.specs.Cmp.{IsTotalOrder}
use Rattle.std.specs.Ordering.{is_gt, is_lt, ordering_reverse}
use Rattle.std.specs.declared.cmp.Ordering.{Ordering}
use Rattle.std.specs.declared.cmp.Ordering.TheVariants.{Less, Equal, Greater}
use Rattle.std.proofs.lemmas.List.Elements.{All-nil, All-cons, All-head, All-tail, All-from_recursion}
use Rattle.std.proofs.lemmas.List.Elements.{recursion_from_All}

less_back : {X : Type 0} (cmp : X → X → Ordering) → IsTotalOrder cmp → (x y : X) → cmp x y ≡ Greater → cmp y x ≡ Less
less_back cmp o x y h = o.antisymm y x ∙ ap ordering_reverse h

greater_back : {X : Type 0} (cmp : X → X → Ordering) → IsTotalOrder cmp → (x y : X) → cmp x y ≡ Less
    → cmp y x ≡ Greater
greater_back cmp o x y h = o.antisymm y x ∙ ap ordering_reverse h

put_between : {X : Type 0} (P : X → Type 0) (xs ys : List X) (n : X) → AllByRecursion P (xs ++ ys) → P n
    → AllByRecursion P (xs ++ n ∷ ys)
put_between P [] ys n h p = (p, h)
put_between P (x ∷ xs) ys n h p = (h.0, put_between P xs ys n h.1 p)

all_back : {X : Type 0} (cmp : X → X → Ordering) → IsTotalOrder cmp → (n : X) (ys : List X)
    → All (λ y. cmp y n ≡ Greater) ys → AllByRecursion (λ y. cmp n y ≡ Less) ys
all_back cmp o n ys b =
    recursion_from_All (λ y. cmp n y ≡ Less) ys (λ k d l. less_back cmp o (get_or ys k d) n (b k d l))

-- an element goes in behind what is less and before what is greater
pub strict_put : {X : Type 0} (cmp : X → X → Ordering) → IsTotalOrder cmp → (xs ys : List X) (n : X)
    → IsStrictlySortedBy cmp (xs ++ ys) → All (λ x. cmp x n ≡ Less) xs → All (λ y. cmp y n ≡ Greater) ys
    → IsStrictlySortedBy cmp (xs ++ n ∷ ys)
unfolding IsStrictlySortedBy
strict_put cmp o [] ys n s a b = (all_back cmp o n ys b, s)
strict_put cmp o (x ∷ xs) ys n s a b = (
  put_between (λ y. cmp x y ≡ Less) xs ys n s.0 (All-head (λ x. cmp x n ≡ Less) x xs a),
  strict_put cmp o xs ys n s.1 (All-tail (λ x. cmp x n ≡ Less) x xs a) b,
)

stands_in : {X : Type 0} (P : X → Type 0) (xs ys : List X) (n : X) → AllByRecursion P (xs ++ n ∷ ys) → P n
stands_in P [] ys n h = h.0
stands_in P (x ∷ xs) ys n h = stands_in P xs ys n h.1

-- what stands before an element is less, and what stands behind it is greater
pub strict_before : {X : Type 0} (cmp : X → X → Ordering) (xs ys : List X) (n : X)
    → IsStrictlySortedBy cmp (xs ++ n ∷ ys) → All (λ x. cmp x n ≡ Less) xs
unfolding IsStrictlySortedBy
strict_before cmp [] ys n s = All-nil (λ x. cmp x n ≡ Less)
strict_before cmp (x ∷ xs) ys n s =
    All-cons (λ x. cmp x n ≡ Less) x xs (stands_in (λ y. cmp x y ≡ Less) xs ys n s.0)
    (strict_before cmp xs ys n s.1)

pub strict_behind : {X : Type 0} (cmp : X → X → Ordering) (xs ys : List X) (n : X)
    → IsStrictlySortedBy cmp (xs ++ n ∷ ys) → All (λ y. cmp n y ≡ Less) ys
unfolding IsStrictlySortedBy
strict_behind cmp [] ys n s = All-from_recursion (λ y. cmp n y ≡ Less) ys s.0
strict_behind cmp (x ∷ xs) ys n s = strict_behind cmp xs ys n s.1

-- each of two parts of a list in strict order is in strict order
before_part : {X : Type 0} (P : X → Type 0) (xs ys : List X) → AllByRecursion P (xs ++ ys) → AllByRecursion P xs
before_part P [] ys h = tt
before_part P (x ∷ xs) ys h = (h.0, before_part P xs ys h.1)

pub strict_front : {X : Type 0} (cmp : X → X → Ordering) (xs ys : List X) → IsStrictlySortedBy cmp (xs ++ ys)
    → IsStrictlySortedBy cmp xs
unfolding IsStrictlySortedBy
strict_front cmp [] ys s = tt
strict_front cmp (x ∷ xs) ys s = (before_part (λ y. cmp x y ≡ Less) xs ys s.0, strict_front cmp xs ys s.1)

pub strict_back : {X : Type 0} (cmp : X → X → Ordering) (xs ys : List X) → IsStrictlySortedBy cmp (xs ++ ys)
    → IsStrictlySortedBy cmp ys
unfolding IsStrictlySortedBy
strict_back cmp [] ys s = s
strict_back cmp (x ∷ xs) ys s = strict_back cmp xs ys s.1

-- what stands before an element that isn't greater is less, and what stands behind one that is greater is greater
pub less_through : {X : Type 0} (cmp : X → X → Ordering) → IsTotalOrder cmp → (x y n : X) → cmp x y ≡ Less
    → is_gt (cmp y n) ≡ false → cmp x n ≡ Less
less_through cmp o x y n l g = by_order (cmp y n) refl g
  where
    by_order : (r : Ordering) → cmp y n ≡ r → is_gt r ≡ false → cmp x n ≡ Less
    by_order Less e g = o.trans x y n l e
    by_order Equal e g =
        o.antisymm x n ∙ (ap ordering_reverse (sym (o.congr y n x e)) ∙ (sym (o.antisymm x y) ∙ l))
    by_order Greater e g = cc

pub greater_through : {X : Type 0} (cmp : X → X → Ordering) → IsTotalOrder cmp → (n x y : X) → cmp x y ≡ Less
    → cmp x n ≡ Greater → cmp y n ≡ Greater
greater_through cmp o n x y l g =
    o.antisymm y n ∙ ap ordering_reverse (o.trans n x y (less_back cmp o x n g) l)

-- a list in strict order by a key is sorted by it
pub strict_sorted : {X K : Type 0} (cmp : K → K → Ordering) → IsTotalOrder cmp → (f : X → K) (xs : List X)
    → IsStrictlySortedBy cmp (map f xs) → IsSortedBy (λ a b. is_lt (cmp (f a) (f b))) xs
unfolding IsStrictlySortedBy
strict_sorted cmp o f [] s k d l m = absurd (omega (arith, m))
strict_sorted cmp o f (x ∷ []) s k d l m = absurd (omega (arith, m))
strict_sorted cmp o f (x ∷ (y ∷ ys)) s zero d l m = ap is_lt (greater_back cmp o (f x) (f y) s.0.0)
strict_sorted cmp o f (x ∷ (y ∷ ys)) s (suc k) d l m =
    let step : suc k + 1 ≡ suc (k + 1) = omega arith in
    rw step (strict_sorted cmp o f (y ∷ ys) s.1 k d (omega arith) (omega (arith, m)))
