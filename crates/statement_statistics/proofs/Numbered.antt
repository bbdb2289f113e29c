-- Lists of what is made of each element and its number.
use Rattle.std.specs.Prelude.{Some, slice_get}
use Rattle.std.proofs.Common.{ℕ, zero, suc, ◌≡◌, ◌<◌, ◌+◌, ◌++◌, List, [], ◌∷◌, length, map, take, get_or, ap, ◌∙◌, refl, arith}
use Rattle.std.proofs.lemmas.List.{length-take-le, take_more}
use Rattle.statement_statistics.specs.Statistics.{numbered}

pub length-numbered : {A B : Type 0} (f : ℕ → A → B) (n : ℕ) (xs : List A) → length (numbered f n xs) ≡ length xs
length-numbered f n [] = refl
length-numbered f n (x ∷ xs) = ap suc (length-numbered f (n + 1) xs)

pub get_or-numbered : {A B : Type 0} (f : ℕ → A → B) (n : ℕ) (xs : List A) (i : ℕ) (d : A) (e : B) → i < length xs
    → get_or (numbered f n xs) i e ≡ f (n + i) (get_or xs i d)
get_or-numbered f n [] i d e h = absurd (omega (arith, h))
get_or-numbered f n (x ∷ xs) zero d e h = ap (λ (k : ℕ). f k x) (omega arith)
get_or-numbered f n (x ∷ xs) (suc i) d e h =
    get_or-numbered f (n + 1) xs i d e (omega (arith, h)) ∙ ap (λ (k : ℕ). f k (get_or xs i d)) (omega arith)

pub map-numbered : {A B C : Type 0} (g : B → C) (f : ℕ → A → B) (n : ℕ) (xs : List A)
    → map g (numbered f n xs) ≡ numbered (λ k x. g (f k x)) n xs
map-numbered g f n [] = refl
map-numbered {C = C} g f n (x ∷ xs) = ap (λ (ys : List C). g (f n x) ∷ ys) (map-numbered g f (n + 1) xs)

-- two functions that agree at each number below the end
pub numbered_agree : {A B : Type 0} (f g : ℕ → A → B) (n : ℕ) (xs : List A)
    → ((i : ℕ) (x : A) → i < n + length xs → f i x ≡ g i x) → numbered f n xs ≡ numbered g n xs
numbered_agree f g n [] h = refl
numbered_agree {B = B} f g n (x ∷ xs) h =
    let more = numbered_agree f g (n + 1) xs (λ i y l. h i y (omega (arith, l))) in
    ap (λ (y : B). y ∷ numbered f (n + 1) xs) (h n x (omega arith)) ∙ ap (λ (ys : List B). g n x ∷ ys) more

-- one more at the end
numbered_push : {A B : Type 0} (f : ℕ → A → B) (n : ℕ) (xs : List A) (x : A)
    → numbered f n (xs ++ x ∷ []) ≡ numbered f n xs ++ f (n + length xs) x ∷ []
numbered_push f n [] x = ap (λ (k : ℕ). f k x ∷ []) (omega arith)
numbered_push {B = B} f n (y ∷ ys) x =
    ap (λ (zs : List B). f n y ∷ zs)
    (numbered_push f (n + 1) ys x ∙ ap (λ (k : ℕ). numbered f (n + 1) ys ++ f k x ∷ []) (omega arith))

pub numbered_more : {A B : Type 0} (f : ℕ → A → B) (xs : List A) (i : ℕ) (d : A) → i < length xs
    → numbered f 0 (take (i + 1) xs) ≡ numbered f 0 (take i xs) ++ f i (get_or xs i d) ∷ []
numbered_more f xs i d h =
    ap (numbered f 0) (take_more xs i d h)
    ∙ (numbered_push f 0 (take i xs) (get_or xs i d)
    ∙ ap (λ (k : ℕ). numbered f 0 (take i xs) ++ f k (get_or xs i d) ∷ []) (omega (arith, length-take-le i xs (omega (arith, h)))))

-- an element of such a list is made of some element
pub at_number : {A B : Type 0} (f : ℕ → A → B) (n : ℕ) (xs : List A) (i : ℕ) (e : B) → i < length xs
    → (x : A) × (slice_get xs i ≡ Some x) × (get_or (numbered f n xs) i e ≡ f (n + i) x)
at_number f n [] i e h = absurd (omega (arith, h))
at_number f n (x ∷ xs) zero e h = (x, refl, ap (λ (k : ℕ). f k x) (omega arith))
at_number f n (x ∷ xs) (suc i) e h =
    let more = at_number f (n + 1) xs i e (omega (arith, h)) in
    (more.0, more.1, more.2 ∙ ap (λ (k : ℕ). f k more.0) (omega arith))

-- of one that is made of the number alone
pub at_place : {A B : Type 0} (f : ℕ → B) (xs : List A) (i : ℕ) (e : B) → i < length xs
    → get_or (numbered (λ number _. f number) 0 xs) i e ≡ f i
at_place f xs i e h =
    let it = at_number (λ number _. f number) 0 xs i e h in it.2 ∙ ap f (omega arith)
