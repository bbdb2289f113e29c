-- What holds of every symbol, by trying each of them.
use Rattle.std.proofs.Common.{◌≡◌, ℕ, zero, suc, Bool, true, false, cond, ◌||◌, Option, Some, None, List, [], ◌∷◌}
use Rattle.std.proofs.Common.{find, refl, sym, ◌∙◌, ap, eq-eqb}
use Rattle.std.proofs.lemmas.Bool.{eqb-true, and_parts, or_left, or_right}
use Rattle.sql_parser.specs.Reading.{position_of, symbol_eq}
use Rattle.sql_parser.specs.Statement.{each}
use Rattle.sql_parser.specs.declared.tokens.Symbol.{Symbol}
use Rattle.sql_parser.specs.declared.tokens.Symbol.TheVariants as symbol

symbol_nth : List Symbol → ℕ → Option Symbol
symbol_nth [] k = None
symbol_nth (m ∷ ms) zero = Some m
symbol_nth (m ∷ ms) (suc k) = symbol_nth ms k

-- all symbols, each at its position
abbrev pub symbols : List Symbol
symbols =
    symbol.Select ∷ symbol.From ∷ symbol.Where ∷ symbol.And ∷ symbol.Group ∷ symbol.By ∷ symbol.Order ∷ symbol.Asc
    ∷ symbol.Desc ∷ symbol.Between
    ∷ symbol.Count ∷ symbol.Sum ∷ symbol.Min ∷ symbol.Max ∷ symbol.As ∷ symbol.Join ∷ symbol.Inner ∷ symbol.On
    ∷ symbol.In
    ∷ symbol.Comma ∷ symbol.Dot ∷ symbol.Open ∷ symbol.Close ∷ symbol.Star ∷ symbol.Question ∷ symbol.Semicolon
    ∷ symbol.Less ∷ symbol.AtMost ∷ symbol.Greater ∷ symbol.AtLeast ∷ symbol.Equals ∷ []

symbol_back : (m : Symbol) → symbol_nth symbols (position_of m) ≡ Some m
unfolding symbol_nth
symbol_back symbol.Select = refl
symbol_back symbol.From = refl
symbol_back symbol.Where = refl
symbol_back symbol.And = refl
symbol_back symbol.Group = refl
symbol_back symbol.By = refl
symbol_back symbol.Order = refl
symbol_back symbol.Asc = refl
symbol_back symbol.Desc = refl
symbol_back symbol.Between = refl
symbol_back symbol.Count = refl
symbol_back symbol.Sum = refl
symbol_back symbol.Min = refl
symbol_back symbol.Max = refl
symbol_back symbol.As = refl
symbol_back symbol.Join = refl
symbol_back symbol.Inner = refl
symbol_back symbol.On = refl
symbol_back symbol.In = refl
symbol_back symbol.Comma = refl
symbol_back symbol.Dot = refl
symbol_back symbol.Open = refl
symbol_back symbol.Close = refl
symbol_back symbol.Star = refl
symbol_back symbol.Question = refl
symbol_back symbol.Semicolon = refl
symbol_back symbol.Less = refl
symbol_back symbol.AtMost = refl
symbol_back symbol.Greater = refl
symbol_back symbol.AtLeast = refl
symbol_back symbol.Equals = refl

each_nth : (test : Symbol → Bool) (ms : List Symbol) (k : ℕ) (m : Symbol) → each test ms ≡ true
    → symbol_nth ms k ≡ Some m → test m ≡ true
unfolding symbol_nth
each_nth test [] k m h e = cc
each_nth test (x ∷ ms) zero m h e = (let same : x ≡ m = cc in rw (← same) (and_parts (test x) (each test ms) h).0)
each_nth test (x ∷ ms) (suc k) m h e = each_nth test ms k m (and_parts (test x) (each test ms) h).1 e

-- a test that each symbol passes
pub every : (test : Symbol → Bool) → each test symbols ≡ true → (m : Symbol) → test m ≡ true
every test h m = each_nth test symbols (position_of m) m h (symbol_back m)

pub symbol_same : (a b : Symbol) → symbol_eq a b ≡ true → a ≡ b
unfolding symbol_eq
symbol_same a b e =
    let p = eqb-true (position_of a) (position_of b) e in
    let t : Some a ≡ Some b = sym (symbol_back a) ∙ ap (symbol_nth symbols) p ∙ symbol_back b in
    cc

pub symbol_self : (m : Symbol) → symbol_eq m m ≡ true
unfolding symbol_eq
symbol_self m = eq-eqb (position_of m) (position_of m) refl

-- ---- being in a list

abbrev pub is_in : Symbol → List Symbol → Bool
is_in m [] = false
is_in m (x ∷ xs) = symbol_eq x m || is_in m xs

abbrev pub any : (Symbol → Bool) → List Symbol → Bool
any test [] = false
any test (x ∷ xs) = test x || any test xs

-- one passes that is in the list
pub any_in : (test : Symbol → Bool) (m : Symbol) (xs : List Symbol) → is_in m xs ≡ true → test m ≡ true
    → any test xs ≡ true
any_in test m [] h t = cc
any_in test m (x ∷ xs) h t =
    let step : (v : Bool) → symbol_eq x m ≡ v → (v || is_in m xs) ≡ true → (test x || any test xs) ≡ true =
    λ v. elim v as (λ v. symbol_eq x m ≡ v → (v || is_in m xs) ≡ true → (test x || any test xs) ≡ true) [
      | true ↦ λ e i. or_left (test x) (any test xs) (rw (symbol_same x m e) t)
      | false ↦ λ e i. or_right (test x) (any test xs) (any_in test m xs i t)
    ]
    in step (symbol_eq x m) refl h

-- what is found passes, and where none is found none in the list passes
pub find_passes : (test : Symbol → Bool) (xs : List Symbol) (m : Symbol) → find test xs ≡ Some m → test m ≡ true
find_passes test [] m e = cc
find_passes test (x ∷ xs) m e =
    let step : (v : Bool) → test x ≡ v → cond v (Some x) (find test xs) ≡ Some m → test m ≡ true =
    λ v. elim v as (λ v. test x ≡ v → cond v (Some x) (find test xs) ≡ Some m → test m ≡ true)
    [ true ↦ λ t f. (let same : x ≡ m = cc in rw (← same) t) | false ↦ λ t f. find_passes test xs m f ]
    in step (test x) refl e

pub none_passes : (test : Symbol → Bool) (xs : List Symbol) → find test xs ≡ None → any test xs ≡ false
none_passes test [] e = refl
none_passes test (x ∷ xs) e =
    let step : (v : Bool) → test x ≡ v → cond v (Some x) (find test xs) ≡ None → (v || any test xs) ≡ false =
    λ v. elim v as (λ v. test x ≡ v → cond v (Some x) (find test xs) ≡ None → (v || any test xs) ≡ false)
    [ true ↦ λ t f. cc | false ↦ λ t f. none_passes test xs f ]
    in step (test x) refl e
