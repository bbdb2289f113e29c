-- What stands behind two dashes.
use Rattle.std.proofs.Common.{◌≡◌, ◌≢◌, ◌==◌, ◌&&◌, ℕ, List, [], ◌∷◌, Option, Some, None, Bor, MatchOption}
use Rattle.std.proofs.Common.{option_map, cond, refl, ap}
use Rattle.std.proofs.Common.{sym, arith}
use Rattle.std.proofs.lemmas.Bool.Decides.{nat_tests}
use Rattle.command_words.specs.Items.{after_dashes}

one_missing : (x y : ℕ) (rest : List ℕ) → x ≢ 45 → cond (x == 45 && y == 45) (Some rest) None ≡ None
one_missing x y rest h = grind (arith, nat_tests)

other_missing : (y : ℕ) (rest : List ℕ) → y ≢ 45 → cond (y == 45) (Some rest) None ≡ None
other_missing y rest h = grind (arith, nat_tests)

-- no dash in front
pub no_dash : (text : List ℕ) → ((rest : List ℕ) → text ≢ 45 ∷ rest) → after_dashes text ≡ None
no_dash [] h = refl
no_dash (x ∷ []) h = refl
no_dash (x ∷ y ∷ rest) h = one_missing x y rest (λ e. h (y ∷ rest) (ap (λ (n : ℕ). n ∷ y ∷ rest) e))

-- a dash in front, and no other behind it
pub one_dash : (text : List ℕ) → ((rest : List ℕ) → text ≢ 45 ∷ rest) → after_dashes (45 ∷ text) ≡ None
one_dash [] h = refl
one_dash (y ∷ rest) h = other_missing y rest (λ e. h rest (ap (λ (n : ℕ). n ∷ rest) e))

-- what is found behind a first dash is what stands behind two
pub behind_one : (text rest : List ℕ) (found : Option (Bor (List ℕ))) → text ≡ 45 ∷ rest
    → MatchOption found ((more : List ℕ) → rest ≢ 45 ∷ more) (λ more. rest ≡ 45 ∷ more.now)
    → option_map (λ (more : Bor (List ℕ)). more.now) found ≡ after_dashes text
behind_one text rest None is h = sym (rw is (one_dash rest h))
behind_one text rest (Some more) is h = sym (rw (is, h) refl)
