-- In a list in order equal elements stand side by side.
use Rattle.std.proofs.Common.{ℕ, zero, suc, ◌≡◌, ◌<◌, ◌≤◌, ◌+◌, ◌-◌, ◌++◌, Bool, true, false, not, ◌||◌, List, [], ◌∷◌}
use Rattle.std.proofs.Common.{ap, sym, ◌∙◌, refl, length, length-append, length-take, min, take, get_or, arith, cond}
use Rattle.std.specs.Prelude.{IsSortedBy}
use Rattle.std.specs.List.{filter, list_any}
use Rattle.std.specs.Cmp.{IsTotalOrder}
use Rattle.std.specs.Ordering.{is_eq, is_lt, is_ne, ordering_reverse}
use Rattle.std.specs.declared.cmp.Ordering.{Ordering}
use Rattle.std.specs.declared.cmp.Ordering.TheVariants.{Less, Equal, Greater}
use Rattle.std.proofs.lemmas.Bool.{false≢true}
use Rattle.std.proofs.lemmas.List.{get_or-take, take_more}
use Rattle.std.proofs.lemmas.List.Elements.{All-from_get_or, filter-append}
use Rattle.std.proofs.lemmas.List.Folds.{list_any_more, list_any_none}
use Rattle.std.proofs.lemmas.List.Sorted.{ranks_by, sorted_far}
use mir.Val.{bool_byte}
use Rattle.row_values.specs.Sorting.{heads}
use Rattle.table_index.specs.Distinct.{distinct_count, is_new}

-- an element behind a list is a head of its own where no element before equals it
pub heads_push : {X : Type 0} (same : X → X → Bool) (xs : List X) (y : X)
    → heads same (xs ++ y ∷ []) ≡ heads same xs ++ cond (list_any (λ x. same x y) xs) [] (y ∷ [])
heads_push same [] y = refl
heads_push {X = X} same (x ∷ xs) y =
    let more : heads same (xs ++ y ∷ []) ≡ heads same xs ++ cond (list_any (λ z. same z y) xs) [] (y ∷ []) =
    heads_push same xs y in
    let parts : filter (λ z. not (same x z)) (heads same xs ++ cond (list_any (λ z. same z y) xs) [] (y ∷ []))
    ≡ filter (λ z. not (same x z)) (heads same xs)
    ++ filter (λ z. not (same x z)) (cond (list_any (λ z. same z y) xs) [] (y ∷ [])) =
    filter-append (λ z. not (same x z)) (heads same xs) (cond (list_any (λ z. same z y) xs) [] (y ∷ [])) in
    let last = by_tests (list_any (λ z. same z y) xs) (same x y) refl in
    rw (more, parts, last) refl
  where
    by_tests : (any here : Bool) → same x y ≡ here
        → filter (λ z. not (same x z)) (cond any [] (y ∷ [])) ≡ cond (here || any) [] (y ∷ [])
    by_tests true true e = refl
    by_tests true false e = refl
    by_tests false true e = rw e refl
    by_tests false false e = rw e refl

-- the next element counts where no element before equals it
pub heads_more : {X : Type 0} (same : X → X → Bool) (xs : List X) (i : ℕ) (d : X) → i < length xs
    → length (heads same (take (i + 1) xs))
    ≡ length (heads same (take i xs)) + cond (list_any (λ x. same x (get_or xs i d)) (take i xs)) 0 1
heads_more same xs i d inside =
    rw (take_more xs i d inside, heads_push same (take i xs) (get_or xs i d), length-append)
    (ap (λ (n : ℕ). length (heads same (take i xs)) + n) (by_test (list_any (λ x. same x (get_or xs i d)) (take i xs))))
  where
    by_test : (any : Bool) → length (cond any [] (get_or xs i d ∷ [])) ≡ cond any 0 1
    by_test true = refl
    by_test false = refl

-- there are at most as many heads as elements
pub heads_few : {X : Type 0} (same : X → X → Bool) (xs : List X) → length (heads same xs) ≤ length xs
heads_few same [] = omega arith
heads_few same (x ∷ xs) = omega (arith, heads_few same xs, kept_few (λ y. not (same x y)) (heads same xs))
  where
    kept_few : {X : Type 0} (p : X → Bool) (xs : List X) → length (filter p xs) ≤ length xs
    kept_few p [] = omega arith
    kept_few p (x ∷ xs) = by_test (p x) (kept_few p xs)
      where
        by_test : (b : Bool) → length (filter p xs) ≤ length xs
            → length (cond b (x ∷ filter p xs) (filter p xs)) ≤ suc (length xs)
        by_test true more = omega (arith, more)
        by_test false more = omega (arith, more)

-- what lies between two equal elements equals them
between_equal : {X : Type 0} (cmp : X → X → Ordering) → IsTotalOrder cmp → (a b c : X) → is_lt (cmp b a) ≡ false
    → is_lt (cmp c b) ≡ false
    → is_eq (cmp a c) ≡ true → is_eq (cmp b c) ≡ true
between_equal cmp o a b c h k e =
    let q : cmp a c ≡ Equal = equal (cmp a c) e in
    let back : cmp b a ≡ ordering_reverse (cmp c b) = o.antisymm b a ∙ ap ordering_reverse (o.congr a c b q) in
    let tie : cmp c b ≡ Equal = neither (cmp c b) k (sym (ap is_lt back) ∙ h) in
    ap is_eq (o.antisymm b c ∙ ap ordering_reverse tie)
  where
    equal : (x : Ordering) → is_eq x ≡ true → x ≡ Equal
    equal Less h = absurd (false≢true h)
    equal Equal h = refl
    equal Greater h = absurd (false≢true h)

    neither : (x : Ordering) → is_lt x ≡ false → is_lt (ordering_reverse x) ≡ false → x ≡ Equal
    neither Less h k = absurd (false≢true (sym h))
    neither Equal h k = refl
    neither Greater h k = absurd (false≢true (sym k))

-- in a list in order an element equals one before it exactly where it equals the last one
pub equals_last : {X : Type 0} (cmp : X → X → Ordering) → IsTotalOrder cmp → (xs : List X)
    → IsSortedBy (λ a b. is_lt (cmp a b)) xs
    → (i : ℕ) (d : X) → i + 1 < length xs
    → list_any (λ x. is_eq (cmp x (get_or xs (i + 1) d))) (take (i + 1) xs)
    ≡ is_eq (cmp (get_or xs i d) (get_or xs (i + 1) d))
equals_last {X = X} cmp o xs s i d inside =
    list_any_more (λ x. is_eq (cmp x (get_or xs (i + 1) d))) xs i d (omega arith)
    ∙ by_last (is_eq (cmp (get_or xs i d) (get_or xs (i + 1) d))) refl
  where
    or_true : (b : Bool) → (b || true) ≡ true
    or_true true = refl
    or_true false = refl

    earlier : is_eq (cmp (get_or xs i d) (get_or xs (i + 1) d)) ≡ false → (k : ℕ) → k < i → (b : Bool)
        → is_eq (cmp (get_or xs k d) (get_or xs (i + 1) d)) ≡ b → b ≡ false
    earlier e k l true h =
        absurd (false≢true (sym e ∙ between_equal cmp o (get_or xs k d) (get_or xs i d) (get_or xs (i + 1) d)
        (sorted_far (λ a b. is_lt (cmp a b)) (ranks_by o (λ (x : X). x)) xs s k i d (omega arith) (omega arith))
        (sorted_far (λ a b. is_lt (cmp a b)) (ranks_by o (λ (x : X). x)) xs s i (i + 1) d (omega arith) inside) h))
    earlier e k l false h = refl

    by_last : (b : Bool) → is_eq (cmp (get_or xs i d) (get_or xs (i + 1) d)) ≡ b
        → (list_any (λ x. is_eq (cmp x (get_or xs (i + 1) d))) (take i xs) || b) ≡ b
    by_last true e = or_true (list_any (λ x. is_eq (cmp x (get_or xs (i + 1) d))) (take i xs))
    by_last false e =
        rw
        (list_any_none (λ x. is_eq (cmp x (get_or xs (i + 1) d))) (take i xs)
        (All-from_get_or (λ x. is_eq (cmp x (get_or xs (i + 1) d))
        ≡ false) (take i xs) d (λ k short. none k (rw length-take at short))))
        refl
      where
        none : (k : ℕ) → k < min i (length xs) → is_eq (cmp (get_or (take i xs) k d) (get_or xs (i + 1) d)) ≡ false
        none k short =
            let early : k < i = omega (arith, short) in
            rw (get_or-take i xs k d early) (earlier e k early (is_eq (cmp (get_or xs k d) (get_or xs (i + 1) d))) refl)

-- an element after the first is new exactly where it differs from the last one
pub new_by_last : {X : Type 0} (cmp : X → X → Ordering) → IsTotalOrder cmp → (xs : List X)
    → IsSortedBy (λ a b. is_lt (cmp a b)) xs
    → (position : ℕ) (d : X) → (position ≡ 0 → ⊥) → position < length xs
    → not (is_eq (cmp (get_or xs (position - 1) d) (get_or xs position d)))
    ≡ is_new (λ a b. is_eq (cmp a b)) xs position (get_or xs position d)
new_by_last cmp o xs s zero d later inside = absurd (later refl)
new_by_last cmp o xs s (suc before) d later inside =
    let last : suc before - 1 ≡ before = omega arith in rw last (after before (suc before) (omega arith) inside)
  where
    after : (before position : ℕ) → position ≡ before + 1 → position < length xs
        → not (is_eq (cmp (get_or xs before d) (get_or xs position d)))
        ≡ is_new (λ a b. is_eq (cmp a b)) xs position (get_or xs position d)
    after before position e inside = rw (e, equals_last cmp o xs s before d (rw e at inside)) refl

-- what a test adds to a count
pub byte-is : (b : Bool) → bool_byte b ≡ cond b 1 0
byte-is true = refl
byte-is false = refl

pub not_equal : (o : Ordering) → is_ne o ≡ not (is_eq o)
not_equal Less = refl
not_equal Equal = refl
not_equal Greater = refl

-- the count of distinct elements goes on
pub count_more : {X : Type 0} (same : X → X → Bool) (xs : List X) (position : ℕ) (d : X) → position < length xs
    → distinct_count same (take position xs) + cond (is_new same xs position (get_or xs position d)) 1 0
    ≡ distinct_count same (take (position + 1) xs)
count_more same xs position d inside =
    rw (heads_more same xs position d inside)
    (by_test (list_any (λ x. same x (get_or xs position d)) (take position xs)))
  where
    by_test : (any : Bool)
        → length (heads same (take position xs)) + cond (not any) 1 0
        ≡ length (heads same (take position xs)) + cond any 0 1
    by_test true = refl
    by_test false = refl

-- among the first so many there are at most as many distinct ones
pub count_few : {X : Type 0} (same : X → X → Bool) (xs : List X) (n : ℕ) → distinct_count same (take n xs) ≤ n
count_few same xs n = omega (arith, heads_few same (take n xs), length-take n xs)
