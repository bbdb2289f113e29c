-- Combinations over one place, one more at a time: one of zeros goes behind the others, and gets its row there.
use Rattle.std.proofs.Common.{ℕ, ◌≡◌, ◌<◌, ◌+◌, ◌-◌, ◌++◌, List, [], ◌∷◌, length, map, take, get_or, set, ap, sym, ◌∙◌, subst, arith}
use Rattle.std.proofs.lemmas.List.{length-map, length-take-le, map_more, set-append_right}
use Rattle.std.proofs.Math.Seq.{get_or-append_seam}

long : (f : ℕ → List ℕ) (rows : List ℕ) (i : ℕ) (items : List (List ℕ)) → i < length rows
    → items ≡ map f (take i rows) → length items ≡ i
long f rows i items inside e =
    ap length e ∙ (length-map (take i rows) f ∙ length-take-le i rows (omega (arith, inside)))

pub pushed_last : (f : ℕ → List ℕ) (rows : List ℕ) (i : ℕ) (items : List (List ℕ)) (none d : List ℕ) → i < length rows
    → items ≡ map f (take i rows) → get_or (items ++ none ∷ []) i d ≡ none
pushed_last f rows i items none d inside e =
    subst (λ (k : ℕ). get_or (items ++ none ∷ []) k d ≡ none) (long f rows i items inside e)
    (get_or-append_seam items none [] d)

pub placed_next : (f : ℕ → List ℕ) (rows : List ℕ) (i d : ℕ) (items pushed : List (List ℕ)) (none put : List ℕ)
    → i < length rows → items ≡ map f (take i rows) → pushed ≡ items ++ none ∷ [] → put ≡ f (get_or rows i d)
    → set pushed i put ≡ map f (take (i + 1) rows)
placed_next f rows i d items pushed none put inside e is there =
    let size = long f rows i items inside e in
    let none_left : i - i ≡ 0 = omega arith in
    ap (λ (xs : List (List ℕ)). set xs i put) is
    ∙ (set-append_right items (none ∷ []) i i put size (omega arith)
    ∙ (ap (λ (k : ℕ). items ++ set (none ∷ []) k put) none_left
    ∙ (ap (λ (xs : List (List ℕ)). xs ++ put ∷ []) e
    ∙ (ap (λ (last : List ℕ). map f (take i rows) ++ last ∷ []) there
    ∙ sym (map_more f rows i d inside)))))
