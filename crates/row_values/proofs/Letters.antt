-- Doubling quotes byte by byte is doubling them character by character.
use Rattle.std.proofs.Common.{ℕ, ◌≡◌, ◌<◌, ◌+◌, ◌/◌, ◌==◌, nat_lt, List, [], ◌∷◌, ◌++◌, Bool, true, false, cond}
use Rattle.std.proofs.Common.{if◌then◌else◌, refl, sym, ap, ◌∙◌, arith, chars}
use Rattle.std.specs.List.{flat_map}
use lib.Utf8.{next}
use Rattle.std.specs.Char.{encode_utf8}
use Rattle.std.specs.Str.{encode_utf8_all, IsUtf8}
use Rattle.std.proofs.lemmas.Grind.{flat_map-append, common_steps}
use Rattle.std.proofs.lemmas.Str.{encodes-chars}
use Rattle.row_values.specs.Names.{doubled, letter_bytes}

-- a byte above the double quote stays
doubled-above : (b : ℕ) → 34 < b → doubled b ≡ b ∷ []
doubled-above b above = grind (arith, common_steps)

one : (c : ℕ) → flat_map doubled (c ∷ []) ≡ (if c == 34 then 34 ∷ [] else []) ++ c ∷ []
one c = grind (arith, common_steps)

high : (a : ℕ) (bytes : List ℕ) → 34 < a → flat_map doubled bytes ≡ bytes → flat_map doubled (a ∷ bytes) ≡ a ∷ bytes
high a bytes above same = rw (doubled-above a above, same) refl

-- the bytes of a character of several bytes are all above the quote
several : (c : ℕ) (two three : Bool) → let bytes : List ℕ =
    cond two ((192 + c / 64) ∷ next c ∷ []) (cond three ((224 + c / 4096) ∷ next (c / 64) ∷ next c
    ∷ []) ((240 + c / 262144) ∷ next (c / 4096) ∷ next (c / 64) ∷ next c ∷ [])) in flat_map doubled bytes ≡ bytes
several c true three = high _ _ (omega arith) (high _ _ (omega arith) refl)
several c false true = high _ _ (omega arith) (high _ _ (omega arith) (high _ _ (omega arith) refl))
several c false false =
    high _ _ (omega arith) (high _ _ (omega arith) (high _ _ (omega arith) (high _ _ (omega arith) refl)))

either : (c : ℕ) (ascii : Bool) (bytes : List ℕ) → nat_lt c 128 ≡ ascii → flat_map doubled bytes ≡ bytes
    → flat_map doubled (cond ascii (c ∷ []) bytes) ≡ (if c == 34 then 34 ∷ [] else []) ++ cond ascii (c ∷ []) bytes
either c true bytes e same = one c
either c false bytes e same =
    let other : (c == 34) ≡ false = grind (arith, common_steps) in
    rw other same

doubled_letter : (c : ℕ) → flat_map doubled (encode_utf8 c) ≡ letter_bytes c
unfolding encode_utf8
doubled_letter c = either c (nat_lt c 128) _ refl (several c (nat_lt c 2048) (nat_lt c 65536))

doubled_letters : (cs : List ℕ) → flat_map doubled (encode_utf8_all cs) ≡ flat_map letter_bytes cs
doubled_letters [] = refl
doubled_letters (c ∷ cs) =
    flat_map-append doubled (encode_utf8 c) (encode_utf8_all cs)
    ∙ ap (λ front. front ++ flat_map doubled (encode_utf8_all cs)) (doubled_letter c)
    ∙ ap (λ back. letter_bytes c ++ back) (doubled_letters cs)

pub doubled_text : (bs : List ℕ) → IsUtf8 bs → flat_map letter_bytes (chars bs) ≡ flat_map doubled bs
doubled_text bs valid = sym (doubled_letters (chars bs)) ∙ ap (flat_map doubled) (encodes-chars bs valid)
