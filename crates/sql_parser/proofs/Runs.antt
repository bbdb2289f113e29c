-- Runs of bytes that pass a test, and where a text may be cut.
use Rattle.std.proofs.Common.{◌≡◌, ℕ, zero, suc, ◌+◌, ◌<◌, ◌≤◌, Bool, true, false, cond, List, [], ◌∷◌, ◌++◌}
use Rattle.std.proofs.Common.{length, get_or, take, drop, refl, subst, arith, add-one, one-add}
use Rattle.std.proofs.lemmas.List.Sums.{prefix_len-le-length, prefix_len_passes}
use Rattle.std.proofs.lemmas.Str.{IsCharBoundary-start, IsCharBoundary-after_ascii}
use Rattle.std.specs.List.{prefix_len}
use Rattle.std.specs.Str.{IsUtf8, IsCharBoundary}
use Rattle.sql_parser.specs.Statement.{each}
use Rattle.sql_parser.specs.Tokens.{begins_with}
use Rattle.std.proofs.lemmas.Bool.{and_from, and_parts}

pub each_parts : (p : ℕ → Bool) (b : ℕ) (bs : List ℕ) → each p (b ∷ bs) ≡ true → (p b ≡ true) × (each p bs ≡ true)
each_parts p b bs h = and_parts (p b) (each p bs) h

-- a text may be cut behind a byte below 128
pub cut_at : (bs : List ℕ) (n : ℕ) → IsUtf8 bs → n ≤ length bs → ((m : ℕ) → suc m ≡ n → get_or bs m 0 < 128)
    → IsCharBoundary bs n
cut_at bs zero u l h = IsCharBoundary-start bs u
cut_at bs (suc m) u l h = let P : ℕ → Type 0 = λ k. IsCharBoundary bs k in
    subst P (add-one m) (IsCharBoundary-after_ascii bs m u (omega arith) (h m refl))

-- a text may be cut behind a run of bytes below 128
pub cut_behind : (p : ℕ → Bool) (bs : List ℕ) → ((b : ℕ) → p b ≡ true → b < 128) → IsUtf8 bs
    → IsCharBoundary bs (prefix_len p bs)
cut_behind p bs ascii u = cut_at bs (prefix_len p bs) u (prefix_len-le-length p bs)
    (λ m e. ascii _ (prefix_len_passes p bs m 0 (omega arith)))

-- the run passes, and what follows it doesn't begin with a byte that passes
pub run_passes : (p : ℕ → Bool) (bs : List ℕ) → each p (take (prefix_len p bs) bs) ≡ true
run_passes p [] = refl
run_passes p (b ∷ bs) =
    let step : (v : Bool) → p b ≡ v → each p (take (cond v (1 + prefix_len p bs) 0) (b ∷ bs)) ≡ true =
    λ v. elim v as (λ v. p b ≡ v → each p (take (cond v (1 + prefix_len p bs) 0) (b ∷ bs)) ≡ true)
    [ true ↦ λ e. rw (one-add (prefix_len p bs)) (and_from (p b) _ e (run_passes p bs)) | false ↦ λ e. refl ]
    in step (p b) refl

pub run_stops : (p : ℕ → Bool) (bs : List ℕ) → begins_with p (drop (prefix_len p bs) bs) ≡ false
run_stops p [] = refl
run_stops p (b ∷ bs) =
    let step : (v : Bool) → p b ≡ v → begins_with p (drop (cond v (1 + prefix_len p bs) 0) (b ∷ bs)) ≡ false =
    λ v. elim v as (λ v. p b ≡ v → begins_with p (drop (cond v (1 + prefix_len p bs) 0) (b ∷ bs)) ≡ false)
    [ true ↦ λ e. rw (one-add (prefix_len p bs)) (run_stops p bs) | false ↦ λ e. e ]
    in step (p b) refl

-- no run is longer
pub run_longest : (p : ℕ → Bool) (prefix more : List ℕ) → each p prefix ≡ true
    → length prefix ≤ prefix_len p (prefix ++ more)
run_longest p [] more h = omega arith
run_longest p (b ∷ prefix) more h =
    let parts = and_parts (p b) (each p prefix) h in
    let ih = run_longest p prefix more parts.1 in
    rw (parts.0) (omega arith)

-- a run that goes before what doesn't begin so is the run
pub run_is : (p : ℕ → Bool) (prefix rest : List ℕ) → each p prefix ≡ true → begins_with p rest ≡ false
    → prefix_len p (prefix ++ rest) ≡ length prefix
run_is p [] [] h s = refl
run_is p [] (b ∷ rest) h s = rw s refl
run_is p (b ∷ prefix) rest h s =
    let parts = and_parts (p b) (each p prefix) h in
    rw (parts.0, run_is p prefix rest parts.1 s) (one-add (length prefix))

pub each_append : (p : ℕ → Bool) (a b : List ℕ) → each p a ≡ true → each p b ≡ true → each p (a ++ b) ≡ true
each_append p [] b h k = k
each_append p (x ∷ a) b h k = let parts = and_parts (p x) (each p a) h in
    and_from (p x) _ parts.0 (each_append p a b parts.1 k)

-- what holds where another test holds
pub each_weaker : (p q : ℕ → Bool) → ((b : ℕ) → p b ≡ true → q b ≡ true) → (bs : List ℕ) → each p bs ≡ true
    → each q bs ≡ true
each_weaker p q w [] h = refl
each_weaker p q w (b ∷ bs) h = let parts = and_parts (p b) (each p bs) h in
    and_from (q b) _ (w b parts.0) (each_weaker p q w bs parts.1)
