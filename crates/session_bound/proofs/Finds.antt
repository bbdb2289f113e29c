-- What is found in a list, once something stands behind it or some of it is gone.
use Rattle.std.proofs.Common.{ℕ, suc, zero, ◌≡◌, ◌∙◌, Bool, true, false, cond, List, [], ◌∷◌, ◌++◌, Option, Some}
use Rattle.std.proofs.Common.{ap, refl, sym, subst, slice_get}
use Rattle.std.specs.List.{AllByRecursion, filter, find}
use Rattle.std.proofs.lemmas.Bool.{false≢true}
use Rattle.std.proofs.lemmas.Option.{none-some, same_Some}

more_by : {X : Type 0} (b : Bool) (x y : X) (rest more : Option X) → (rest ≡ Some y → more ≡ Some y)
    → cond b (Some x) rest ≡ Some y → cond b (Some x) more ≡ Some y
more_by true x y rest more later h = h
more_by false x y rest more later h = later h

-- what is found stays found, whatever stands behind
pub found_more : {X : Type 0} (p : X → Bool) (xs ys : List X) (y : X) → find p xs ≡ Some y → find p (xs ++ ys) ≡ Some y
found_more p [] ys y h = absurd (none-some y h)
found_more p (x ∷ xs) ys y h =
    more_by (p x) x y (find p xs) (find p (xs ++ ys)) (λ k. found_more p xs ys y k) h

-- what is put behind those that aren't meant is found
pub found_new : {X : Type 0} (p : X → Bool) (xs : List X) (y : X) → AllByRecursion (λ x. p x ≡ false) xs → p y ≡ true
    → find p (xs ++ y ∷ []) ≡ Some y
found_new p [] y none is = rw is refl
found_new p (x ∷ xs) y none is = rw none.0 (found_new p xs y none.1 is)

kept_by : {X : Type 0} (p keep : X → Bool) (x : X) (xs : List X) (k b : Bool) → keep x ≡ k → p x ≡ b
    → (p x ≡ true → keep x ≡ true) → find p (filter keep xs) ≡ find p xs
    → find p (cond k (x ∷ filter keep xs) (filter keep xs)) ≡ cond b (Some x) (find p xs)
kept_by p keep x xs true b e f all later = rw f (ap (cond b (Some x)) later)
kept_by p keep x xs false true e f all later = absurd (false≢true (sym e ∙ all f))
kept_by p keep x xs false false e f all later = later

-- the same is found, where all stay that are meant
pub found_kept : {X : Type 0} (p keep : X → Bool) → ((x : X) → p x ≡ true → keep x ≡ true) → (xs : List X)
    → find p (filter keep xs) ≡ find p xs
found_kept p keep all [] = refl
found_kept p keep all (x ∷ xs) =
    kept_by p keep x xs (keep x) (p x) refl refl (all x) (found_kept p keep all xs)

-- what holds of all holds of the one at a position
pub each_there : {X : Type 0} (P : X → Type 0) (xs : List X) (k : ℕ) (x : X) → AllByRecursion P xs
    → slice_get xs k ≡ Some x → P x
each_there P [] k x h e = absurd (none-some x e)
each_there P (first ∷ xs) zero x h e = subst P (same_Some first x e) h.0
each_there P (first ∷ xs) (suc k) x h e = each_there P xs k x h.1 e
