-- Classes of a list: in a list where each class stands together the runs are the classes, and which elements are heads.
use Rattle.std.proofs.Common.{ℕ, ◌≡◌, suc, min, Bool, true, false, not, List, [], ◌∷◌, map, cond, ap, ap₂, sym, ◌∙◌}
use Rattle.std.proofs.Common.{refl, arith}
use Rattle.std.specs.Prelude.{All, filter}
use Rattle.std.specs.Cmp.{IsEquivalence, IsTotalOrder}
use Rattle.std.specs.Ordering.{is_lt, is_eq, ordering_reverse}
use Rattle.std.specs.declared.cmp.Ordering.{Ordering}
use Rattle.std.specs.declared.cmp.Ordering.TheVariants.{Less, Equal, Greater}
use Rattle.std.proofs.lemmas.Bool.{false≢true, not-true}
use Rattle.std.proofs.lemmas.Cmp.{tied_itself, alike_right}
use Rattle.std.proofs.lemmas.List.Elements.{All-cons, All-head, All-tail, All-filter, filter_agree, filter_passes}
use Rattle.std.proofs.lemmas.List.Elements.{All-weaker}
use Rattle.row_values.specs.Sorting.{Rises, times, heads, put_front, runs, classes}
use Rattle.row_values.proofs.Counting.{IsExact, times_rest, times-filter, times-filter_out}
use Rattle.row_values.proofs.InOrder.{equal_of, tie_of}
use Rattle.row_values.proofs.Rising.{filter_rises}

-- An element that isn't in the class of its follower is in no class after it.
abbrev pub Together : {X : Type 0} → (X → X → Bool) → List X → Type 0
Together same [] = Unit {0}
Together same (x ∷ []) = Unit {0}
Together same (x ∷ (y ∷ ys)) = (same x y ≡ false → All (λ z. same x z ≡ false) (y ∷ ys)) × Together same (y ∷ ys)

keep_all : {X : Type 0} (p : X → Bool) (xs : List X) → All (λ x. p x ≡ true) xs → filter p xs ≡ xs
keep_all p [] a = refl
keep_all {X = X} p (x ∷ xs) a =
    ap (λ (b : Bool). cond b (x ∷ filter p xs) (filter p xs)) (All-head (λ x. p x ≡ true) x xs a)
    ∙ ap (λ (zs : List X). x ∷ zs) (keep_all p xs (All-tail (λ x. p x ≡ true) x xs a))

keep_none : {X : Type 0} (p : X → Bool) (xs : List X) → All (λ x. p x ≡ false) xs → filter p xs ≡ []
keep_none p [] a = refl
keep_none p (x ∷ xs) a =
    ap (λ (b : Bool). cond b (x ∷ filter p xs) (filter p xs)) (All-head (λ x. p x ≡ false) x xs a)
    ∙ keep_none p xs (All-tail (λ x. p x ≡ false) x xs a)

-- heads of other classes don't see an element
unseen : {X : Type 0} (same : X → X → Bool) (x : X) (xs hs : List X) → All (λ h. same h x ≡ false) hs
    → map (λ h. filter (same h) (x ∷ xs)) hs ≡ map (λ h. filter (same h) xs) hs
unseen same x xs [] a = refl
unseen {X = X} same x xs (h ∷ hs) a =
    ap₂ (λ (g : List X) (gs : List (List X)). g ∷ gs)
    (ap (λ (b : Bool). cond b (x ∷ filter (same h) xs) (filter (same h) xs)) (All-head (λ h. same h x ≡ false) h hs a))
    (unseen same x xs hs (All-tail (λ h. same h x ≡ false) h hs a))

pub heads_all : {X : Type 0} (same : X → X → Bool) (P : X → Type 0) (xs : List X) → All P xs → All P (heads same xs)
heads_all same P [] a = a
heads_all same P (x ∷ xs) a =
    All-cons P x _ (All-head P x xs a)
    (All-filter (λ y. not (same x y)) P (heads same xs) (heads_all same P xs (All-tail P x xs a)))

pub heads_rise : {X : Type 0} (same lt : X → X → Bool) (xs : List X) → Rises lt xs → Rises lt (heads same xs)
heads_rise same lt [] r = tt
heads_rise same lt (x ∷ xs) r = (
  All-filter (λ y. not (same x y)) (λ y. lt y x ≡ false) (heads same xs) (heads_all same (λ y. lt y x
      ≡ false) xs r.0),
  filter_rises lt (λ y. not (same x y)) (heads same xs) (heads_rise same lt xs r.1),
)

-- where each class stands together, the runs are the classes
pub runs_are : {X : Type 0} (same : X → X → Bool) → IsEquivalence same → (xs : List X) → Together same xs
    → runs same xs ≡ classes same xs
runs_are same e [] t = refl
runs_are same e (x ∷ []) t = ap (λ (b : Bool). cond b (x ∷ []) [] ∷ []) (sym (e.refl x))
runs_are {X = X} same e (x ∷ (y ∷ ys)) t =
    ap (put_front same x) (runs_are same e (y ∷ ys) t.1) ∙ by_test (same x y) refl
  where
    first_class : filter (same y) (y ∷ ys) ≡ y ∷ filter (same y) ys
    first_class = ap (λ (b : Bool). cond b (y ∷ filter (same y) ys) (filter (same y) ys)) (e.refl y)

    hidden : All (λ z. same x z ≡ false) (filter (λ z. not (same y z)) (heads same ys))
        → All (λ h. same h x ≡ false) (filter (λ z. not (same y z)) (heads same ys))
    hidden a = λ k d l. e.symm _ x ∙ a k d l

    kept : All (λ z. same x z ≡ false) (filter (λ z. not (same y z)) (heads same ys))
        → filter (λ z. not (same x z)) (filter (λ z. not (same y z)) (heads same ys))
        ≡ filter (λ z. not (same y z)) (heads same ys)
    kept a = keep_all (λ z. not (same x z)) (filter (λ z. not (same y z)) (heads same ys)) (λ k d l. ap not (a k d l))

    left : (b : Bool) → same x y ≡ b
        → put_front same x (classes same (y ∷ ys))
        ≡ cond b ((x ∷ (y ∷ filter (same y) ys))
        ∷ map (λ h. filter (same h) (y ∷ ys)) (filter (λ z. not (same y z)) (heads same ys))) ((x ∷ [])
        ∷ ((y ∷ filter (same y) ys)
        ∷ map (λ h. filter (same h) (y ∷ ys)) (filter (λ z. not (same y z)) (heads same ys))))
    left b q =
        ap
        (λ (a : Bool). put_front same x (cond a (y ∷ filter (same y) ys) (filter (same y) ys)
        ∷ map (λ h. filter (same h) (y ∷ ys)) (filter (λ z. not (same y z)) (heads same ys))))
        (e.refl y)
        ∙ ap (λ (a : Bool). cond a ((x ∷ (y ∷ filter (same y) ys))
        ∷ map (λ h. filter (same h) (y ∷ ys)) (filter (λ z. not (same y z)) (heads same ys))) ((x ∷ [])
        ∷ ((y ∷ filter (same y) ys)
        ∷ map (λ h. filter (same h) (y ∷ ys)) (filter (λ z. not (same y z)) (heads same ys))))) q

    right : (b : Bool) → same x y ≡ b
        → classes same (x ∷ (y ∷ ys)) ≡ (x ∷ cond b (y ∷ filter (same x) ys) (filter (same x) ys))
        ∷ map (λ h. filter (same h) (x ∷ (y ∷ ys)))
        (cond (not b) (y ∷ filter (λ z. not (same x z)) (filter (λ z. not (same y z)) (heads same ys)))
        (filter (λ z. not (same x z)) (filter (λ z. not (same y z)) (heads same ys))))
    right b q =
        ap₂
        (λ (a : Bool) (b : Bool). cond a (x ∷ cond b (y ∷ filter (same x) ys) (filter (same x) ys))
        (cond b (y ∷ filter (same x) ys) (filter (same x) ys))
        ∷ map (λ h. filter (same h) (x ∷ (y ∷ ys)))
        (cond (not b) (y ∷ filter (λ z. not (same x z)) (filter (λ z. not (same y z)) (heads same ys)))
        (filter (λ z. not (same x z)) (filter (λ z. not (same y z)) (heads same ys)))))
        (e.refl x) q

    by_test : (b : Bool) → same x y ≡ b → put_front same x (classes same (y ∷ ys)) ≡ classes same (x ∷ (y ∷ ys))
    by_test true q =
        let a : All (λ z. same x z ≡ false) (filter (λ z. not (same y z)) (heads same ys)) = λ k d l. e.congr x y _ q
        ∙ not-true _ (filter_passes (λ z. not (same y z)) (heads same ys) k d l) in
        left true q
        ∙ (ap₂ (λ (f : List X) (m : List (List X)). (x ∷ (y ∷ f))
        ∷ m) (filter_agree (same y) (same x) (λ z. sym (e.congr x y z q)) ys)
        (sym (ap (map (λ h. filter (same h) (x ∷ (y ∷ ys)))) (kept a) ∙ unseen same x (y ∷ ys) _ (hidden a)))
        ∙ sym (right true q))
    by_test false q =
        let a : All (λ z. same x z ≡ false) (filter (λ z. not (same y z)) (heads same ys)) =
        All-filter (λ z. not (same y z)) (λ z. same x z ≡ false) (heads same ys) (heads_all same (λ z. same x z
        ≡ false) ys (All-tail (λ z. same x z ≡ false) y ys (t.0 q))) in
        left false q
        ∙ (ap₂ (λ (f : List X) (m : List (List X)). (x ∷ f)
        ∷ m) (sym (keep_none (same x) ys (All-tail (λ z. same x z ≡ false) y ys (t.0 q))))
        (sym (ap (λ (zs : List X). map (λ h. filter (same h) (x ∷ (y ∷ ys))) (y ∷ zs)) (kept a)
        ∙ (unseen same x (y ∷ ys) (y ∷ filter (λ z. not (same y z)) (heads same ys)) (All-cons (λ h. same h x
        ≡ false) y _ (e.symm y x ∙ q) (hidden a))
        ∙ ap (λ (zs : List X). zs ∷ map (λ h. filter (same h) (y ∷ ys)) (filter (λ z. not (same y z)) (heads same ys)))
        first_class))) ∙ sym (right false q))

-- A list that rises in an order, and the classes of those that tie in it: each class stands together.

-- one is less than a second, and a third not: the first doesn't tie the third
later_apart : {X : Type 0} (cmp : X → X → Ordering) → IsTotalOrder cmp → (x y z : X) → cmp x y ≡ Less
    → is_lt (cmp z y) ≡ false → is_eq (cmp x z) ≡ false
later_apart cmp o x y z less h = by_case (cmp x z) refl
  where
    by_case : (r : Ordering) → cmp x z ≡ r → is_eq r ≡ false
    by_case Less e = refl
    by_case Equal e =
        absurd (false≢true (sym h ∙ ap is_lt (o.congr z x y (o.antisymm z x ∙ ap ordering_reverse e) ∙ less)))
    by_case Greater e = refl

less_of : {X : Type 0} (cmp : X → X → Ordering) → IsTotalOrder cmp → (x y : X) → is_eq (cmp x y) ≡ false
    → is_lt (cmp y x) ≡ false → cmp x y ≡ Less
less_of cmp o x y n h = by_case (cmp x y) refl
  where
    by_case : (r : Ordering) → cmp x y ≡ r → cmp x y ≡ Less
    by_case Less e = e
    by_case Equal e = absurd (false≢true (sym n ∙ ap is_eq e))
    by_case Greater e = absurd (false≢true (sym h ∙ ap is_lt (o.antisymm y x ∙ ap ordering_reverse e)))

pub together_in_order : {X : Type 0} (cmp : X → X → Ordering) → IsTotalOrder cmp → (same : X → X → Bool)
    → ((a b : X) → same a b ≡ is_eq (cmp a b)) → (xs : List X) → Rises (λ a b. is_lt (cmp a b)) xs → Together same xs
together_in_order cmp o same s [] r = tt
together_in_order cmp o same s (x ∷ []) r = tt
together_in_order cmp o same s (x ∷ (y ∷ ys)) r = (
  (λ n. All-cons (λ z. same x z ≡ false) y ys n (All-weaker (λ z. is_lt (cmp z y) ≡ false) (λ z. same x z
      ≡ false) (λ z h. s x z
      ∙ later_apart cmp o x y z (less_of cmp o x y (sym (s x y) ∙ n) (All-head (λ z. is_lt (cmp z x) ≡ false) y ys r.0))
      h) ys r.1.0)),
  together_in_order cmp o same s (y ∷ ys) r.1,
)

-- Which elements are heads.

-- 1 where the first element is this one
abbrev pub is_first : {X : Type 0} → (X → X → Bool) → X → List X → ℕ
is_first one c [] = 0
is_first one c (x ∷ xs) = cond (one c x) 1 0

-- a head is the first of its class, and the first of a class is a head once
pub times_heads : {X : Type 0} (one : X → X → Bool) → IsExact one → (same : X → X → Bool) → IsEquivalence same
    → (c : X) (xs : List X) → times one c (heads same xs) ≡ is_first one c (filter (same c) xs)
times_heads one x same e c [] = refl
times_heads one exact same e c (x ∷ xs) = by_class (same c x) refl (times_heads one exact same e c xs)
  where
    other : same c x ≡ false → one c x ≡ false
    other n = by_test (one c x) refl
      where
        by_test : (b : Bool) → one c x ≡ b → b ≡ false
        by_test true k = absurd (false≢true (sym n ∙ (ap (same c) (sym (exact.one c x k)) ∙ e.refl c)))
        by_test false k = refl

    by_class : (b : Bool) → same c x ≡ b → times one c (heads same xs) ≡ is_first one c (filter (same c) xs)
        → times one c (x ∷ filter (λ y. not (same x y)) (heads same xs))
        ≡ is_first one c (cond b (x ∷ filter (same c) xs) (filter (same c) xs))
    by_class true k more =
        ap (λ (n : ℕ). cond (one c x) (suc n) n)
        (times-filter_out one exact (λ y. not (same x y)) c (ap not (e.symm x c ∙ k)) (heads same xs))
    by_class false k more =
        ap (λ (b : Bool). cond b (suc (times one c (filter (λ y. not (same x y)) (heads same xs))))
        (times one c (filter (λ y. not (same x y)) (heads same xs)))) (other k)
        ∙ (times-filter one exact (λ y. not (same x y)) c (ap not (e.symm x c ∙ k)) (heads same xs) ∙ more)

-- each class has one head, where it has a member
pub class_heads : {X : Type 0} (same : X → X → Bool) → IsEquivalence same → (c : X) (xs : List X)
    → times same c (heads same xs) ≡ min 1 (times same c xs)
class_heads same e c [] = refl
class_heads {X = X} same e c (x ∷ xs) = by_class (same c x) refl (class_heads same e c xs)
  where
    -- the filter leaves out c's class where x is in it, and nothing of it otherwise
    out : same c x ≡ true → (zs : List X) → ◌≡◌ {A = ℕ} (times same c (filter (λ y. not (same x y)) zs)) 0
    out k [] = refl
    out k (z ∷ zs) = by_test (same x z) refl (out k zs)
      where
        by_test : (b : Bool) → same x z ≡ b → ◌≡◌ {A = ℕ} (times same c (filter (λ y. not (same x y)) zs)) 0
            → ◌≡◌ {A = ℕ} (times same c (cond (not b) (z ∷ filter (λ y. not (same x y)) zs)
            (filter (λ y. not (same x y)) zs))) 0
        by_test true q more = more
        by_test false q more =
            ap (λ (b : Bool). cond b (suc (times same c (filter (λ y. not (same x y)) zs)))
            (times same c (filter (λ y. not (same x y)) zs))) (e.congr c x z k ∙ q)
            ∙ more

    stays : same c x ≡ false → (zs : List X) → times same c (filter (λ y. not (same x y)) zs) ≡ times same c zs
    stays n [] = refl
    stays n (z ∷ zs) = by_test (same x z) refl (stays n zs)
      where
        by_test : (b : Bool) → same x z ≡ b → times same c (filter (λ y. not (same x y)) zs) ≡ times same c zs
            → times same c (cond (not b) (z ∷ filter (λ y. not (same x y)) zs) (filter (λ y. not (same x y)) zs))
            ≡ cond (same c z) (suc (times same c zs)) (times same c zs)
        by_test true q more =
            more
            ∙ sym (ap (λ (b : Bool). cond b (suc (times same c zs)) (times same c zs)) (e.symm c z
            ∙ (sym (e.congr x z c q) ∙ (e.symm x c ∙ n))))
        by_test false q more = ap (λ (n : ℕ). cond (same c z) (suc n) n) more

    by_class : (b : Bool) → same c x ≡ b → times same c (heads same xs) ≡ min 1 (times same c xs)
        → cond b (suc (times same c (filter (λ y. not (same x y)) (heads same xs))))
        (times same c (filter (λ y. not (same x y)) (heads same xs)))
        ≡ min 1 (cond b (suc (times same c xs)) (times same c xs))
    by_class true k more = ap suc (out k (heads same xs)) ∙ omega arith
    by_class false k more = stays k (heads same xs) ∙ more

-- Lists that rise and have as many of each class: what goes by class is the same of both.

-- one whose class has a member above y is above y
class_above : {X : Type 0} (cmp : X → X → Ordering) → IsTotalOrder cmp → (same : X → X → Bool)
    → ((a b : X) → same a b ≡ is_eq (cmp a b)) → (x y : X) (n : ℕ) (zs : List X) → All (λ z. is_lt (cmp z y) ≡ false) zs
    → times same x zs ≡ suc n → is_lt (cmp x y) ≡ false
class_above cmp o same s x y n [] a h = absurd (omega (arith, h))
class_above cmp o same s x y n (z ∷ zs) a h =
    by_test (same x z) refl h
    (λ k. class_above cmp o same s x y n zs (All-tail (λ z. is_lt (cmp z y) ≡ false) z zs a) k)
  where
    by_test : (b : Bool) → same x z ≡ b → cond b (suc (times same x zs)) (times same x zs) ≡ suc n
        → (times same x zs ≡ suc n → is_lt (cmp x y) ≡ false) → is_lt (cmp x y) ≡ false
    by_test true t k more =
        ap is_lt (o.congr x z y (equal_of (cmp x z) (sym (s x z) ∙ t))) ∙ All-head (λ z. is_lt (cmp z y) ≡ false) z zs a
    by_test false t k more = more k

pub by_class_risen : {X Y : Type 0} (cmp : X → X → Ordering) → IsTotalOrder cmp → (same : X → X → Bool)
    → ((a b : X) → same a b ≡ is_eq (cmp a b)) → (P Q : X → Type 0) (f g : X → Y)
    → ((a b : X) → P a → Q b → same a b ≡ true → f a ≡ g b) → (xs ys : List X) → Rises (λ a b. is_lt (cmp a b)) xs
    → Rises (λ a b. is_lt (cmp a b)) ys → ((c : X) → times same c xs ≡ times same c ys) → All P xs → All Q ys
    → map f xs ≡ map g ys
by_class_risen cmp o same s P Q f g h [] [] r t n p q = refl
by_class_risen cmp o same s P Q f g h [] (y ∷ ys) r t n p q =
    absurd
    (omega (
      arith,
      n y,
      ap (λ (b : Bool). cond b (suc (times same y ys)) (times same y ys)) (s y y
          ∙ ap is_eq (tied_itself o y)),
    ))
by_class_risen cmp o same s P Q f g h (x ∷ xs) [] r t n p q =
    absurd
    (omega (
      arith,
      n x,
      ap (λ (b : Bool). cond b (suc (times same x xs)) (times same x xs)) (s x x
          ∙ ap is_eq (tied_itself o x)),
    ))
by_class_risen {Y = Y} cmp o same s P Q f g h (x ∷ xs) (y ∷ ys) r t n p q =
    let here : (z : _) (zs : List _) → times same z (z ∷ zs) ≡ suc (times same z zs) =
    λ z zs. ap (λ (b : Bool). cond b (suc (times same z zs)) (times same z zs)) (s z z ∙ ap is_eq (tied_itself o z))
    in
    let itself : (z : _) → is_lt (cmp z z) ≡ false = λ z. ap is_lt (tied_itself o z) in
    let a : is_lt (cmp x y) ≡ false =
    class_above cmp o same s x y (times same x xs) (y ∷ ys) (All-cons (λ z. is_lt (cmp z y)
    ≡ false) y ys (itself y) t.0) (sym (n x) ∙ here x xs) in
    let b : is_lt (cmp y x) ≡ false =
    class_above cmp o same s y x (times same y ys) (x ∷ xs) (All-cons (λ z. is_lt (cmp z x)
    ≡ false) x xs (itself x) r.0) (n y ∙ here y ys) in
    let tie : cmp x y ≡ Equal = tie_of cmp o x y a b in
    let alike : (c : _) → same c x ≡ same c y = λ c. s c x ∙ (ap is_eq (alike_right o x y c tie) ∙ sym (s c y)) in
    ap₂ (λ (z : Y) (zs : List Y). z ∷ zs) (h x y (All-head P x xs p) (All-head Q y ys q) (s x y ∙ ap is_eq tie))
    (by_class_risen cmp o same s P Q f g h xs ys r.1 t.1
    (λ c. times_rest same c y xs ys (ap (λ (b : Bool). cond b (suc (times same c xs)) (times same c xs))
    (sym (alike c)) ∙ n c)) (All-tail P x xs p) (All-tail Q y ys q))
