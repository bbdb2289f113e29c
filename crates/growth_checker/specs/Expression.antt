-- Expressions of whole numbers and selectivities: what they mean, and their expanded form.
use Rattle.std.specs.Prelude.{ℕ, ◌≡◌, ◌+◌, ◌*◌, ◌^◌, ◌<◌, ◌≤◌, ◌==◌, Bool, true, false, ◌||◌, ◌&&◌, List, [], ◌∷◌}
use Rattle.std.specs.Prelude.{slice_index}
use Rattle.cost_polynomials.specs.Polynomial.{Term, number_at, poly_sum, poly_product}
use Rattle.growth_checker.specs.declared.expression.Expr.{Expr, Num, Sel, Sum', Mul'}

-- an expression without its pointers
pub data Formula : Type 0 where
  Constant : (n : ℕ) → Formula
  Selectivity : (i : ℕ) → Formula
  Plus : (left right : Formula) → Formula
  Times : (left right : Formula) → Formula

abbrev pub formula : Expr → Formula
formula (Num n) = Constant n
formula (Sel i) = Selectivity i
formula (Sum' p left q right) = Plus (formula left) (formula right)
formula (Mul' p left q right) = Times (formula left) (formula right)

-- each constant is at least 1, and each selectivity one of eight
abbrev pub IsSound : Formula → Type 0
IsSound (Constant n) = 1 ≤ n
IsSound (Selectivity i) = i < 8
IsSound (Plus left right) = IsSound left × IsSound right
IsSound (Times left right) = IsSound left × IsSound right

-- the value of an expression at a vector
abbrev pub value_at : Formula → List ℕ → ℕ
value_at (Constant n) s = n
value_at (Selectivity i) s = number_at s i
value_at (Plus left right) s = value_at left s + value_at right s
value_at (Times left right) s = value_at left s * value_at right s

-- the expanded form, where no product has a selectivity on both sides
abbrev pub expanded : Formula → List Term
expanded (Constant n) = (0, n) ∷ []
expanded (Selectivity i) = (2 ^ i, 1) ∷ []
expanded (Plus left right) = poly_sum (expanded left) (expanded right)
expanded (Times left right) = poly_product (expanded left) (expanded right)

-- the selectivity stands in the expression
abbrev pub mentions : Formula → ℕ → Bool
mentions (Constant n) i = false
mentions (Selectivity j) i = j == i
mentions (Plus left right) i = mentions left i || mentions right i
mentions (Times left right) i = mentions left i || mentions right i

-- some product has the selectivity on both sides
abbrev pub shares : Formula → ℕ → Bool
shares (Constant n) i = false
shares (Selectivity j) i = false
shares (Plus left right) i = shares left i || shares right i
shares (Times left right) i = shares left i || shares right i || mentions left i && mentions right i

-- no product has a selectivity on both sides
abbrev pub IsUnshared : Formula → Type 0
IsUnshared f = (i : ℕ) → shares f i ≡ false

-- the first selectivity that some product has on both sides
pub record IsFirstShared (f : Formula) (i : ℕ) : Type 0 where
  pub shared : shares f i ≡ true
  pub none_before : (j : ℕ) → j < i → shares f j ≡ false

-- each selectivity of the expression has a number, of at least 1
abbrev pub HasSelectivities : Formula → List ℕ → Type 0
HasSelectivities f s = (i : ℕ) → mentions f i ≡ true → 1 ≤ slice_index s i
