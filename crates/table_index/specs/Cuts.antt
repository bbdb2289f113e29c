-- Lists that a test cuts in two.
use Rattle.std.specs.Prelude.{◌≡◌, ℕ, zero, suc, Bool, true, false, List, [], ◌∷◌}

-- so many elements at the front pass a test, and none behind them does
abbrev pub Cut : {X : Type 0} → (X → Bool) → List X → ℕ → Type 0
Cut p [] zero = Unit {0}
Cut p [] (suc k) = ⊥
Cut p (x ∷ xs) zero = (p x ≡ false) × Cut p xs zero
Cut p (x ∷ xs) (suc k) = (p x ≡ true) × Cut p xs k
