-- What the printer writes.
use Rattle.std.proofs.Common.{◌≡◌, ℕ, Bool, true, false, cond, not, ◌==◌, List, [], ◌∷◌, ◌++◌, refl, sym, ◌∙◌, ap}
use Rattle.std.proofs.Common.{eq-eqb}
use Rattle.std.proofs.lemmas.List.{append_assoc}
use Rattle.std.specs.List.{flat_map}
use Rattle.row_values.specs.Names.{quoted_name}
use Rattle.row_values.specs.Names.{doubled as name_quote}
use Rattle.sql_parser.specs.Statement.{each}
use Rattle.sql_parser.specs.Tokens.{doubled, quoted}
use Rattle.sql_parser.proofs.QuotesClose.{doubled_plain, doubled_append}

pub quote_start : (q : ℕ) (o p x : List ℕ) → p ≡ o ++ q ∷ [] → p ++ x ≡ o ++ q ∷ x
quote_start q o p x e = ap (λ z. z ++ x) e ∙ append_assoc o (q ∷ []) x

doubled_head : (q : ℕ) (behind : List ℕ) → doubled q (q ∷ behind) ≡ q ∷ q ∷ doubled q behind
doubled_head q behind = rw (eq-eqb q q refl) refl

doubled_at : (q : ℕ) (rest part behind : List ℕ) → rest ≡ part ++ q ∷ behind → each (λ b. not (b == q)) part ≡ true
    → doubled q rest ≡ part ++ q ∷ q ∷ doubled q behind
doubled_at q rest part behind e h =
    ap (doubled q) e ∙ doubled_append q part (q ∷ behind)
    ∙ ap (λ z. z ++ doubled q (q ∷ behind)) (doubled_plain q part h) ∙ ap (λ z. part ++ z) (doubled_head q behind)

pub quote_step : (q : ℕ) (o o1 o2 whole rest part behind : List ℕ) → o1 ≡ o ++ part → o2 ≡ o1 ++ q ∷ q ∷ []
    → rest ≡ part ++ q ∷ behind
    → each (λ b. not (b == q)) part ≡ true → o ++ (doubled q rest ++ q ∷ []) ≡ whole
    → o2 ++ (doubled q behind ++ q ∷ []) ≡ whole
quote_step q o o1 o2 whole rest part behind a b e h w =
    let d : o ++ (doubled q rest ++ q ∷ []) ≡ o ++ ((part ++ q ∷ q ∷ doubled q behind) ++ q ∷ []) =
    ap (λ z. o ++ (z ++ q ∷ [])) (doubled_at q rest part behind e h) in
    let f : o2 ≡ (o ++ part) ++ q ∷ q ∷ [] = b ∙ ap (λ z. z ++ q ∷ q ∷ []) a in
    let g : ((o ++ part) ++ q ∷ q ∷ []) ++ (doubled q behind ++ q ∷ []) ≡ o
    ++ ((part ++ q ∷ q ∷ doubled q behind) ++ q ∷ []) = simp append_assoc in
    ap (λ z. z ++ (doubled q behind ++ q ∷ [])) f ∙ g ∙ sym d ∙ w

pub quote_end : (q : ℕ) (o o1 o2 whole rest : List ℕ) → o1 ≡ o ++ rest → o2 ≡ o1 ++ q ∷ []
    → each (λ b. not (b == q)) rest ≡ true
    → o ++ (doubled q rest ++ q ∷ []) ≡ whole → o2 ≡ whole
quote_end q o o1 o2 whole rest a b h w =
    b ∙ ap (λ z. z ++ q ∷ []) a ∙ append_assoc o rest (q ∷ [])
    ∙ ap (λ z. o ++ (z ++ q ∷ [])) (sym (doubled_plain q rest h)) ∙ w

-- ---- names

-- between double quotes
quoted_bytes : (name : List ℕ) → flat_map name_quote name ≡ doubled 34 name
quoted_bytes [] = refl
quoted_bytes (b ∷ bs) =
    let step : (v : Bool) → cond v (34 ∷ 34 ∷ []) (b ∷ []) ++ flat_map name_quote bs
    ≡ cond v (34 ∷ 34 ∷ doubled 34 bs) (b ∷ doubled 34 bs) =
    λ v. elim v as (λ v. cond v (34 ∷ 34 ∷ []) (b ∷ []) ++ flat_map name_quote bs
    ≡ cond v (34 ∷ 34 ∷ doubled 34 bs) (b ∷ doubled 34 bs))
    [ true ↦ ap (λ z. 34 ∷ 34 ∷ z) (quoted_bytes bs) | false ↦ ap (λ z. b ∷ z) (quoted_bytes bs) ]
    in step (b == 34)

pub quoted_is : (name : List ℕ) → quoted_name name ≡ quoted 34 name
quoted_is name = ap (λ z. 34 ∷ z ++ 34 ∷ []) (quoted_bytes name)
