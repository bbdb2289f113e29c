-- Between quotes: where the content ends.
use Rattle.std.proofs.Common.{◌≡◌, ℕ, Bool, true, false, cond, ◌==◌, not, List, [], ◌∷◌, ◌++◌, refl, eq-eqb, sym, ◌∙◌}
use Rattle.std.proofs.Common.{ap, ◌⊎◌, inl, inr}
use Rattle.std.proofs.lemmas.Bool.{eqb-true}
use Rattle.sql_parser.specs.Statement.{each}
use Rattle.sql_parser.specs.Tokens.{doubled, begins_with, is_quote}
use Rattle.sql_parser.proofs.Runs.{each_parts}

-- a byte doubled, or alone
pub double_at : (q b : ℕ) (bs : List ℕ)
    → ((b ≡ q) × (doubled q (b ∷ bs) ≡ q ∷ q ∷ doubled q bs))
    ⊎ (((b == q) ≡ false) × (doubled q (b ∷ bs) ≡ b ∷ doubled q bs))
double_at q b bs =
    let step : (v : Bool) → (b == q) ≡ v
    → ((b ≡ q) × (cond v (q ∷ q ∷ doubled q bs) (b ∷ doubled q bs) ≡ q ∷ q ∷ doubled q bs))
    ⊎ (((b == q) ≡ false) × (cond v (q ∷ q ∷ doubled q bs) (b ∷ doubled q bs) ≡ b ∷ doubled q bs)) =
    λ v. elim v as (λ v. (b == q) ≡ v
    → ((b ≡ q) × (cond v (q ∷ q ∷ doubled q bs) (b ∷ doubled q bs) ≡ q ∷ q ∷ doubled q bs))
    ⊎ (((b == q) ≡ false) × (cond v (q ∷ q ∷ doubled q bs) (b ∷ doubled q bs) ≡ b ∷ doubled q bs)))
    [ true ↦ λ e. inl (eqb-true b q e, refl) | false ↦ λ e. inr (e, refl) ]
    in step (b == q) refl

pub differ : (q b : ℕ) → (b == q) ≡ false → b ≡ q → ⊥
differ q b f e = let t = eq-eqb q q refl in let s : (b == q) ≡ true = rw e t in cc

pub begins : (q : ℕ) (x y : List ℕ) → x ≡ q ∷ y → begins_with (is_quote q) x ≡ false → ⊥
begins q x y e f = let t = eq-eqb q q refl in let s : begins_with (is_quote q) x ≡ true = rw e t in cc

-- one text has one content before its closing quote
pub quoted_once : (q : ℕ) (a b x y : List ℕ) → doubled q a ++ q ∷ x ≡ doubled q b ++ q ∷ y
    → begins_with (is_quote q) x ≡ false → begins_with (is_quote q) y ≡ false → (a ≡ b) × (x ≡ y)
quoted_once q [] [] x y e s t = (refl, cc)
quoted_once q [] (c ∷ b) x y e s t = elim (double_at q c b) [
  | inl h ↦ (let k = h.1 in let g : q ∷ x ≡ q ∷ q ∷ doubled q b ++ q ∷ y = e ∙ ap (λ z. z ++ q ∷ y) k in
      let f : x ≡ q ∷ (doubled q b ++ q ∷ y) = cc in absurd (begins q x _ f s))
  | inr h ↦ (let k = h.1 in let g : q ∷ x ≡ c ∷ doubled q b ++ q ∷ y = e ∙ ap (λ z. z ++ q ∷ y) k in
      let f : c ≡ q = cc in absurd (differ q c h.0 f))
]
quoted_once q (c ∷ a) [] x y e s t = elim (double_at q c a) [
  | inl h ↦ (let k = h.1 in let g : q ∷ y ≡ q ∷ q ∷ doubled q a ++ q ∷ x = sym e ∙ ap (λ z. z ++ q ∷ x) k in
      let f : y ≡ q ∷ (doubled q a ++ q ∷ x) = cc in absurd (begins q y _ f t))
  | inr h ↦ (let k = h.1 in let g : q ∷ y ≡ c ∷ doubled q a ++ q ∷ x = sym e ∙ ap (λ z. z ++ q ∷ x) k in
      let f : c ≡ q = cc in absurd (differ q c h.0 f))
]
quoted_once q (c ∷ a) (d ∷ b) x y e s t = elim (double_at q c a) [
  | inl h ↦ elim (double_at q d b) [
    | inl k ↦ (let g : q ∷ q ∷ doubled q a ++ q ∷ x ≡ q ∷ q ∷ doubled q b ++ q ∷ y = ap (λ z. z ++ q ∷ x) (sym h.1) ∙ e
        ∙ ap (λ z. z ++ q ∷ y) k.1 in
        let f : doubled q a ++ q ∷ x ≡ doubled q b ++ q ∷ y = cc in let r = quoted_once q a b x y f s t in
        let p = h.0 in let u = k.0 in let v = r.0 in (cc, r.1))
    | inr k ↦ (let g : q ∷ q ∷ doubled q a ++ q ∷ x ≡ d ∷ doubled q b ++ q ∷ y = ap (λ z. z ++ q ∷ x) (sym h.1) ∙ e
        ∙ ap (λ z. z ++ q ∷ y) k.1 in
        let f : d ≡ q = cc in absurd (differ q d k.0 f))
  ]
  | inr h ↦ elim (double_at q d b) [
    | inl k ↦ (let g : c ∷ doubled q a ++ q ∷ x ≡ q ∷ q ∷ doubled q b ++ q ∷ y = ap (λ z. z ++ q ∷ x) (sym h.1) ∙ e
        ∙ ap (λ z. z ++ q ∷ y) k.1 in
        let f : c ≡ q = cc in absurd (differ q c h.0 f))
    | inr k ↦ (let g : c ∷ doubled q a ++ q ∷ x ≡ d ∷ doubled q b ++ q ∷ y = ap (λ z. z ++ q ∷ x) (sym h.1) ∙ e
        ∙ ap (λ z. z ++ q ∷ y) k.1 in
        let f : doubled q a ++ q ∷ x ≡ doubled q b ++ q ∷ y = cc in let r = quoted_once q a b x y f s t in
        let u : c ≡ d = cc in let v = r.0 in (cc, r.1))
  ]
]

-- a quote is somewhere in what ends with one
has_quote : (q : ℕ) (a y : List ℕ) → each (λ b. not (b == q)) (a ++ q ∷ y) ≡ true → ⊥
has_quote q [] y h = let t = eq-eqb q q refl in let p = (each_parts (λ b. not (b == q)) q y h).0 in
    let s : not (q == q) ≡ false = rw t refl in cc
has_quote q (c ∷ a) y h = has_quote q a y (each_parts (λ b. not (b == q)) c (a ++ q ∷ y) h).1

-- where no quote is left, the quotes don't close
pub unclosed : (q : ℕ) (a rest b y : List ℕ) → doubled q a ++ rest ≡ doubled q b ++ q ∷ y
    → begins_with (is_quote q) y ≡ false
    → each (λ b. not (b == q)) rest ≡ true → ⊥
unclosed q [] rest b y e t h = has_quote q (doubled q b) y (rw (← e) h)
unclosed q (c ∷ a) rest [] y e t h = elim (double_at q c a) [
  | inl k ↦ (let g : q ∷ y ≡ q ∷ q ∷ doubled q a ++ rest = sym e ∙ ap (λ z. z ++ rest) k.1 in
      let f : y ≡ q ∷ (doubled q a ++ rest) = cc in begins q y _ f t)
  | inr k ↦ (let g : q ∷ y ≡ c ∷ doubled q a ++ rest = sym e ∙ ap (λ z. z ++ rest) k.1 in let f : c ≡ q = cc in
      differ q c k.0 f)
]
unclosed q (c ∷ a) rest (d ∷ b) y e t h = elim (double_at q c a) [
  | inl k ↦ elim (double_at q d b) [
    | inl j ↦ (let g : q ∷ q ∷ doubled q a ++ rest ≡ q ∷ q ∷ doubled q b ++ q ∷ y = ap (λ z. z ++ rest) (sym k.1) ∙ e
        ∙ ap (λ z. z ++ q ∷ y) j.1 in
        let f : doubled q a ++ rest ≡ doubled q b ++ q ∷ y = cc in unclosed q a rest b y f t h)
    | inr j ↦ (let g : q ∷ q ∷ doubled q a ++ rest ≡ d ∷ doubled q b ++ q ∷ y = ap (λ z. z ++ rest) (sym k.1) ∙ e
        ∙ ap (λ z. z ++ q ∷ y) j.1 in
        let f : d ≡ q = cc in differ q d j.0 f)
  ]
  | inr k ↦ elim (double_at q d b) [
    | inl j ↦ (let g : c ∷ doubled q a ++ rest ≡ q ∷ q ∷ doubled q b ++ q ∷ y = ap (λ z. z ++ rest) (sym k.1) ∙ e
        ∙ ap (λ z. z ++ q ∷ y) j.1 in
        let f : c ≡ q = cc in differ q c k.0 f)
    | inr j ↦ (let g : c ∷ doubled q a ++ rest ≡ d ∷ doubled q b ++ q ∷ y = ap (λ z. z ++ rest) (sym k.1) ∙ e
        ∙ ap (λ z. z ++ q ∷ y) j.1 in
        let f : doubled q a ++ rest ≡ doubled q b ++ q ∷ y = cc in unclosed q a rest b y f t h)
  ]
]

-- what holds no quote is doubled to itself
pub doubled_plain : (q : ℕ) (a : List ℕ) → each (λ b. not (b == q)) a ≡ true → doubled q a ≡ a
doubled_plain q [] h = refl
doubled_plain q (c ∷ a) h =
    let hs = each_parts (λ b. not (b == q)) c a h in
    elim (double_at q c a) [
      | inl k ↦ (let s : (c == q) ≡ true = rw (k.0) (eq-eqb q q refl) in let u : not (c == q) ≡ false = rw s refl in
          let v = hs.0 in cc)
      | inr k ↦ k.1 ∙ ap (λ z. c ∷ z) (doubled_plain q a hs.1)
    ]

pub doubled_append : (q : ℕ) (a b : List ℕ) → doubled q (a ++ b) ≡ doubled q a ++ doubled q b
doubled_append q [] b = refl
doubled_append q (c ∷ a) b = elim (double_at q c (a ++ b)) [
  | inl k ↦ elim (double_at q c a) [
    | inl j ↦ k.1 ∙ ap (λ z. q ∷ q ∷ z) (doubled_append q a b) ∙ ap (λ z. z ++ doubled q b) (sym j.1)
    | inr j ↦ absurd (differ q c j.0 k.0)
  ]
  | inr k ↦ elim (double_at q c a) [
    | inl j ↦ absurd (differ q c k.0 j.0)
    | inr j ↦ k.1 ∙ ap (λ z. c ∷ z) (doubled_append q a b) ∙ ap (λ z. z ++ doubled q b) (sym j.1)
  ]
]

pub doubled_quote : (q : ℕ) → doubled q (q ∷ []) ≡ q ∷ q ∷ []
doubled_quote q = rw (eq-eqb q q refl) refl
