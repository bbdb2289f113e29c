-- Lists in order: a sort gives a list that rises with the same elements, and where no two different elements tie there
-- is one such list.
use Rattle.std.proofs.Common.{ℕ, ◌≡◌, ◌+◌, suc, zero, Bool, true, false, List, [], ◌∷◌, get_or, cond, ap, sym, ◌∙◌}
use Rattle.std.proofs.Common.{refl, arith, subst}
use Rattle.std.specs.Prelude.{All, IsPermutation, IsSortedBy}
use Rattle.std.specs.Cmp.{IsStrictWeakOrder, IsTotalOrder}
use Rattle.std.specs.Ordering.{is_lt, is_eq, ordering_reverse}
use Rattle.std.specs.declared.cmp.Ordering.{Ordering}
use Rattle.std.specs.declared.cmp.Ordering.TheVariants.{Less, Equal, Greater}
use Rattle.std.proofs.lemmas.Bool.{false≢true}
use Rattle.std.proofs.lemmas.List.Elements.{All-nil, All-cons, All-head, All-tail}
use Rattle.std.proofs.lemmas.List.Sorted.{sorted_far, ranks_by}
use Rattle.row_values.specs.Sorting.{put_in, in_order, Rises, times}
use Rattle.row_values.proofs.Counting.{IsExact, HaveSame, times_all, times_head, times_rest, same_from_permutation}

pub equal_of : (o : Ordering) → is_eq o ≡ true → o ≡ Equal
equal_of Less h = absurd (false≢true h)
equal_of Equal h = refl
equal_of Greater h = absurd (false≢true h)

-- two that neither is less than the other are equal
pub tie_of : {X : Type 0} (cmp : X → X → Ordering) → IsTotalOrder cmp → (x y : X) → is_lt (cmp x y) ≡ false
    → is_lt (cmp y x) ≡ false → cmp x y ≡ Equal
tie_of cmp o x y h k = by_case (cmp x y) refl
  where
    by_case : (r : Ordering) → cmp x y ≡ r → cmp x y ≡ Equal
    by_case Less e = absurd (false≢true (sym h ∙ ap is_lt e))
    by_case Equal e = e
    by_case Greater e = absurd (false≢true (sym k ∙ ap is_lt (o.antisymm y x ∙ ap ordering_reverse e)))

-- an order in which only equal elements tie
pub record IsFullOrder {X : Type 0} (lt : X → X → Bool) : Type 0 where
  pub ranks : IsStrictWeakOrder lt
  pub ties : (a b : X) → lt a b ≡ false → lt b a ≡ false → a ≡ b

-- by a comparison in which only equal elements are equal
pub full_order_from : {X : Type 0} (cmp : X → X → Ordering) → IsTotalOrder cmp → ((a b : X) → cmp a b ≡ Equal → a ≡ b)
    → IsFullOrder (λ a b. is_lt (cmp a b))
full_order_from {X = X} cmp o e = record {
  ranks = ranks_by o (λ (x : X). x);
  ties =
      λ a b h k. e a b (tie_of cmp o a b h k);
}

pub nothing_below_itself : {X : Type 0} (lt : X → X → Bool) → IsStrictWeakOrder lt → (x : X) → lt x x ≡ false
nothing_below_itself lt o x = by_test (lt x x) refl
  where
    by_test : (b : Bool) → lt x x ≡ b → lt x x ≡ false
    by_test true e = o.one_way x x e
    by_test false e = e

-- what std calls sorted rises
pub rises_from_sorted : {X : Type 0} (lt : X → X → Bool) → IsStrictWeakOrder lt → (xs : List X) → IsSortedBy lt xs
    → Rises lt xs
rises_from_sorted lt o [] h = tt
rises_from_sorted lt o (x ∷ xs) h = (
  λ k d l. sorted_far lt o (x ∷ xs) h zero (suc k) d (omega arith) (omega arith),
  rises_from_sorted lt o xs
      (λ k d l i. let e : suc k + 1 ≡ suc (k + 1) =
      omega arith in subst (λ (n : ℕ). lt (get_or (x ∷ xs) n d) (get_or xs k d)
      ≡ false) e (h (suc k) d (omega arith) (omega (arith, i)))),
)

least_head : {X : Type 0} (lt : X → X → Bool) → IsStrictWeakOrder lt → (x : X) (xs : List X) → Rises lt (x ∷ xs)
    → All (λ y. lt y x ≡ false) (x ∷ xs)
least_head lt o x xs h = All-cons (λ y. lt y x ≡ false) x xs (nothing_below_itself lt o x) h.0

-- lists that rise and have the same elements are one
pub same_risen : {X : Type 0} (same : X → X → Bool) → IsExact same → (lt : X → X → Bool) → IsFullOrder lt
    → (xs ys : List X) → Rises lt xs → Rises lt ys → HaveSame same xs ys → xs ≡ ys
same_risen same e lt o [] [] r s h = refl
same_risen same e lt o [] (y ∷ ys) r s h = absurd (omega (arith, h y, times_head same e y ys))
same_risen same e lt o (x ∷ xs) [] r s h = absurd (omega (arith, h x, times_head same e x xs))
same_risen {X = X} same e lt o (x ∷ xs) (y ∷ ys) r s h =
    let a : lt x y ≡ false =
    times_all same e (λ z. lt z y ≡ false) x (times same x xs) (y ∷ ys) (least_head lt o.ranks y ys s) (sym (h x)
    ∙ times_head same e x xs) in
    let b : lt y x ≡ false =
    times_all same e (λ z. lt z x ≡ false) y (times same y ys) (x ∷ xs) (least_head lt o.ranks x xs r) (h y
    ∙ times_head same e y ys) in
    let q : x ≡ y = o.ties x y a b in
    ap (λ (z : X). z ∷ xs) q
    ∙ ap (λ (zs : List X). y
    ∷ zs) (same_risen same e lt o xs ys r.1 s.1
    (λ c. times_rest same c y xs ys (ap (λ (z : X). times same c (z ∷ xs)) (sym q) ∙ h c)))

times_put : {X : Type 0} (same : X → X → Bool) (lt : X → X → Bool) (c x : X) (ys : List X)
    → times same c (put_in lt x ys) ≡ times same c (x ∷ ys)
times_put same lt c x [] = refl
times_put same lt c x (y ∷ ys) = by_test (lt y x) (times_put same lt c x ys)
  where
    by_test : (b : Bool) → times same c (put_in lt x ys) ≡ times same c (x ∷ ys)
        → times same c (cond b (y ∷ put_in lt x ys) (x ∷ (y ∷ ys))) ≡ times same c (x ∷ (y ∷ ys))
    by_test true more =
        rw more (elim (same c y) as (λ b. ◌≡◌ {A =
        ℕ} (cond b (suc (cond (same c x) (suc (times same c ys)) (times same c ys)))
        (cond (same c x) (suc (times same c ys)) (times same c ys)))
        (cond (same c x) (suc (cond b (suc (times same c ys)) (times same c ys)))
        (cond b (suc (times same c ys)) (times same c ys)))) [
          | true ↦ elim (same c x) as (λ b. ◌≡◌ {A =
              ℕ} (suc (cond b (suc (times same c ys)) (times same c ys)))
              (cond b (suc (suc (times same c ys))) (suc (times same c ys)))) [ true ↦ refl | false ↦ refl ]
          | false ↦ refl
        ])
    by_test false more = refl

-- a sort moves elements and nothing else
pub times_in_order : {X : Type 0} (same : X → X → Bool) (lt : X → X → Bool) (xs : List X)
    → HaveSame same (in_order lt xs) xs
times_in_order same lt [] c = refl
times_in_order same lt (x ∷ xs) c = times_put same lt c x (in_order lt xs)
    ∙ ap (λ (n : ℕ). cond (same c x) (suc n) n) (times_in_order same lt xs c)

pub all_put : {X : Type 0} (lt : X → X → Bool) (P : X → Type 0) (x : X) (ys : List X) → P x → All P ys
    → All P (put_in lt x ys)
all_put lt P x [] h a = All-cons P x [] h a
all_put lt P x (y ∷ ys) h a = by_test (lt y x) (all_put lt P x ys h (All-tail P y ys a))
  where
    by_test : (b : Bool) → All P (put_in lt x ys) → All P (cond b (y ∷ put_in lt x ys) (x ∷ (y ∷ ys)))
    by_test true more = All-cons P y (put_in lt x ys) (All-head P y ys a) more
    by_test false more = All-cons P x (y ∷ ys) h a

pub all_in_order : {X : Type 0} (lt : X → X → Bool) (P : X → Type 0) (xs : List X) → All P xs → All P (in_order lt xs)
all_in_order lt P [] a = a
all_in_order lt P (x ∷ xs) a =
    all_put lt P x (in_order lt xs) (All-head P x xs a) (all_in_order lt P xs (All-tail P x xs a))

rises_put : {X : Type 0} (lt : X → X → Bool) → IsStrictWeakOrder lt → (x : X) (ys : List X) → Rises lt ys
    → Rises lt (put_in lt x ys)
rises_put lt o x [] r = (All-nil (λ y. lt y x ≡ false), tt)
rises_put lt o x (y ∷ ys) r = by_test (lt y x) refl (rises_put lt o x ys r.1)
  where
    by_test : (b : Bool) → lt y x ≡ b → Rises lt (put_in lt x ys)
        → Rises lt (cond b (y ∷ put_in lt x ys) (x ∷ (y ∷ ys)))
    by_test true e more = (all_put lt (λ z. lt z y ≡ false) x ys (o.one_way y x e) r.0, more)
    by_test false e more = (All-cons (λ z. lt z x ≡ false) y ys e (λ k d l. o.chain _ y x (r.0 k d l) e), r)

pub rises_in_order : {X : Type 0} (lt : X → X → Bool) → IsStrictWeakOrder lt → (xs : List X) → Rises lt (in_order lt xs)
rises_in_order lt o [] = tt
rises_in_order lt o (x ∷ xs) = rises_put lt o x (in_order lt xs) (rises_in_order lt o xs)

-- a list that rises with the elements of another is that one in order
pub risen_is_sorted : {X : Type 0} (same : X → X → Bool) → IsExact same → (lt : X → X → Bool) → IsFullOrder lt
    → (xs ys : List X) → HaveSame same ys xs → Rises lt ys → ys ≡ in_order lt xs
risen_is_sorted same e lt o xs ys h r =
    same_risen same e lt o ys (in_order lt xs) r (rises_in_order lt o.ranks xs) (λ c. h c
    ∙ sym (times_in_order same lt xs c))

-- lists with the same elements are one in order
pub in_order_same : {X : Type 0} (same : X → X → Bool) → IsExact same → (lt : X → X → Bool) → IsFullOrder lt
    → (xs ys : List X) → HaveSame same xs ys → in_order lt xs ≡ in_order lt ys
in_order_same same e lt o xs ys h = risen_is_sorted same e lt o ys (in_order lt xs) (λ c. times_in_order same lt xs c
    ∙ h c) (rises_in_order lt o.ranks xs)

-- so std's sort, stable or not, gives the list in order
pub sorted_is : {X : Type 0} (same : X → X → Bool) → IsExact same → (lt : X → X → Bool) → IsFullOrder lt
    → (xs ys : List X) → IsPermutation xs ys → IsSortedBy lt ys → ys ≡ in_order lt xs
sorted_is same e lt o xs ys p s = risen_is_sorted same e lt o xs ys (λ c. sym (same_from_permutation same xs ys p c))
    (rises_from_sorted lt o.ranks ys s)
