-- Spellings of names and numbers can be told apart: none is the front of another, up to the byte that ends it.
use Rattle.std.proofs.Common.{ℕ, ◌≡◌, ◌==◌, ◌&&◌, ◌||◌, not, List, [], ◌∷◌, ◌++◌, Bool, true, false, if◌then◌else◌}
use Rattle.std.proofs.Common.{refl, sym, ap, ◌∙◌, subst, append_assoc, true≢false}
use Rattle.std.specs.Char.{is_ascii_alphanumeric, is_ascii_digit}
use Rattle.std.specs.List.{flat_map}
use Rattle.std.proofs.lemmas.Bool.{and_parts, eqb-true}
use Rattle.row_values.specs.Names.{canonical_name, doubled, quoted_name}
use Rattle.row_values.specs.Plain.{are_name_bytes, is_plain, is_reserved}

abbrev is_name_byte : ℕ → Bool
is_name_byte byte = is_ascii_alphanumeric byte || (byte == 95)

-- a byte that ends a name: a closing bracket, a comma or a dot
pub data IsEnd : ℕ → Type 0 where
  bracket : IsEnd 41
  comma : IsEnd 44
  dot : IsEnd 46

pub record Same (a b r s : List ℕ) : Type 0 where
  pub word : a ≡ b
  pub rest : r ≡ s

end_no_name : (end : ℕ) → IsEnd end → is_name_byte end ≡ false
end_no_name end bracket = refl
end_no_name end comma = refl
end_no_name end dot = refl

end_no_quote : (end : ℕ) → IsEnd end → (end == 34) ≡ false
end_no_quote end bracket = refl
end_no_quote end comma = refl
end_no_quote end dot = refl

-- words of name bytes
pub plain_words : (end : ℕ) (a b r s : List ℕ) → IsEnd end → are_name_bytes a ≡ true → are_name_bytes b ≡ true
    → a ++ end ∷ r ≡ b ++ end ∷ s → Same a b r s
plain_words end [] [] r s ends x y e = record { word = refl; rest = cc }
plain_words end [] (c ∷ b) r s ends x y e =
    let head : end ≡ c = cc in
    let named : is_name_byte end ≡ true = rw head (and_parts (is_name_byte c) (are_name_bytes b) y).0 in
    absurd (true≢false (sym named ∙ end_no_name end ends))
plain_words end (c ∷ a) [] r s ends x y e =
    let head : c ≡ end = cc in
    let named : is_name_byte end ≡ true = rw (← head) (and_parts (is_name_byte c) (are_name_bytes a) x).0 in
    absurd (true≢false (sym named ∙ end_no_name end ends))
plain_words end (c ∷ a) (d ∷ b) r s ends x y e =
    let head : c ≡ d = cc in
    let tail : a ++ end ∷ r ≡ b ++ end ∷ s = cc in
    let same = plain_words end a b r s ends (and_parts (is_name_byte c) (are_name_bytes a) x).1
    (and_parts (is_name_byte d) (are_name_bytes b) y).1 tail in
    let tails : a ≡ b = same.word in
    record { word = cc; rest = same.rest }

-- a byte in quotes, by whether it is a quote
abbrev piece : Bool → ℕ → List ℕ
piece quote byte = if quote then 34 ∷ 34 ∷ [] else byte ∷ []

no_name_left : (quote : Bool) (end c : ℕ) (r tail : List ℕ) → (c == 34) ≡ quote → (end == 34) ≡ false → 34 ∷ end ∷ r
    ≡ piece quote c ++ tail → ⊥
no_name_left true end c r tail is other e =
    let same : end ≡ 34 = cc in
    let never : (34 == 34) ≡ false = subst (λ (byte : ℕ). (byte == 34) ≡ false) same other in
    true≢false never
no_name_left false end c r tail is other e =
    let same : c ≡ 34 = cc in
    let never : (34 == 34) ≡ false = subst (λ (byte : ℕ). (byte == 34) ≡ false) same is in
    true≢false never

same_piece : (p q : Bool) (c d : ℕ) (t u : List ℕ) → (c == 34) ≡ p → (d == 34) ≡ q → piece p c ++ t ≡ piece q d ++ u
    → (c ≡ d) × (t ≡ u)
same_piece true true c d t u x y e = (eqb-true c 34 x ∙ sym (eqb-true d 34 y), cc)
same_piece true false c d t u x y e =
    let same : d ≡ 34 = cc in
    let never : (34 == 34) ≡ false = subst (λ (byte : ℕ). (byte == 34) ≡ false) same y in
    absurd (true≢false never)
same_piece false true c d t u x y e =
    let same : c ≡ 34 = cc in
    let never : (34 == 34) ≡ false = subst (λ (byte : ℕ). (byte == 34) ≡ false) same x in
    absurd (true≢false never)
same_piece false false c d t u x y e = (cc, cc)

-- names in quotes, from behind the first quote
quoted_words : (end : ℕ) (a b r s : List ℕ) → (end == 34) ≡ false → flat_map doubled a ++ 34 ∷ end ∷ r
    ≡ flat_map doubled b ++ 34 ∷ end ∷ s → Same a b r s
quoted_words end [] [] r s other e = record { word = refl; rest = cc }
quoted_words end [] (d ∷ b) r s other e =
    absurd (no_name_left (d == 34) end d r (flat_map doubled b ++ 34 ∷ end ∷ s) refl other (e
    ∙ append_assoc (doubled d) (flat_map doubled b) (34 ∷ end ∷ s)))
quoted_words end (c ∷ a) [] r s other e =
    absurd (no_name_left (c == 34) end c s (flat_map doubled a ++ 34 ∷ end ∷ r) refl other (sym e
    ∙ append_assoc (doubled c) (flat_map doubled a) (34 ∷ end ∷ r)))
quoted_words end (c ∷ a) (d ∷ b) r s other e =
    let each = same_piece (c == 34) (d == 34) c d (flat_map doubled a ++ 34 ∷ end ∷ r) (flat_map doubled b ++ 34 ∷ end
    ∷ s) refl refl
    (sym (append_assoc (doubled c) (flat_map doubled a) (34 ∷ end ∷ r)) ∙ e
    ∙ append_assoc (doubled d) (flat_map doubled b) (34 ∷ end ∷ s)) in
    let same = quoted_words end a b r s other each.1 in
    let head : c ≡ d = each.0 in
    let tails : a ≡ b = same.word in
    record { word = cc; rest = same.rest }

plain_bytes : (a : List ℕ) → is_plain a ≡ true → are_name_bytes a ≡ true
plain_bytes [] plain = absurd (true≢false (sym plain))
plain_bytes (c ∷ a) plain =
    (and_parts (not (is_ascii_digit c)) (are_name_bytes (c ∷ a)) (and_parts (not (is_ascii_digit c)
    && are_name_bytes (c ∷ a)) (not (is_reserved (c ∷ a))) plain).0).1

-- a plain name doesn't begin with a quote
plain_no_quote : (a t u : List ℕ) → is_plain a ≡ true → a ++ t ≡ 34 ∷ u → ⊥
plain_no_quote [] t u plain e = true≢false (sym plain)
plain_no_quote (c ∷ a) t u plain e =
    let head : c ≡ 34 = cc in
    let named : is_name_byte c ≡ true = (and_parts (is_name_byte c) (are_name_bytes a) (plain_bytes (c ∷ a) plain)).0 in
    let quote : is_name_byte 34 ≡ true = subst (λ (byte : ℕ). is_name_byte byte ≡ true) head named in
    true≢false (sym quote)

quoted_end : (name rest : List ℕ) → quoted_name name ++ rest ≡ 34 ∷ (flat_map doubled name ++ 34 ∷ rest)
quoted_end name rest = ap (λ tail. 34 ∷ tail) (append_assoc (flat_map doubled name) (34 ∷ []) rest)

abbrev spelled_by : Bool → List ℕ → List ℕ
spelled_by plain name = if plain then name else quoted_name name

same_name_by : (p q : Bool) (end : ℕ) (a b r s : List ℕ) → is_plain a ≡ p → is_plain b ≡ q → IsEnd end
    → spelled_by p a ++ end ∷ r ≡ spelled_by q b ++ end ∷ s → Same a b r s
same_name_by true true end a b r s x y ends e = plain_words end a b r s ends (plain_bytes a x) (plain_bytes b y) e
same_name_by true false end a b r s x y ends e =
    absurd (plain_no_quote a (end ∷ r) (flat_map doubled b ++ 34 ∷ end ∷ s) x (e ∙ quoted_end b (end ∷ s)))
same_name_by false true end a b r s x y ends e =
    absurd (plain_no_quote b (end ∷ s) (flat_map doubled a ++ 34 ∷ end ∷ r) y (sym e ∙ quoted_end a (end ∷ r)))
same_name_by false false end a b r s x y ends e =
    let inside : 34 ∷ (flat_map doubled a ++ 34 ∷ end ∷ r) ≡ 34 ∷ (flat_map doubled b ++ 34 ∷ end ∷ s) =
    sym (quoted_end a (end ∷ r)) ∙ e ∙ quoted_end b (end ∷ s) in
    quoted_words end a b r s (end_no_quote end ends) (cc)

-- one text is the spelling of one name, up to its end
pub same_name : (end : ℕ) (a b r s : List ℕ) → IsEnd end → canonical_name a ++ end ∷ r ≡ canonical_name b ++ end ∷ s
    → Same a b r s
same_name end a b r s ends e = same_name_by (is_plain a) (is_plain b) end a b r s refl refl ends e
