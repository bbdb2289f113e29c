-- Names of one line: of texts without a line's end, of references, of refusals.
use Rattle.std.proofs.Common.{ℕ, ◌≡◌, ◌==◌, not, List, [], ◌∷◌, ◌++◌, Bool, true, false, cond, refl, drop, take, suc}
use Rattle.std.proofs.Common.{zero}
use Rattle.std.proofs.lemmas.Bool.{and_from, and_parts}
use Rattle.std.specs.List.{flat_map}
use Rattle.row_values.specs.Names.{canonical_name, doubled, quoted_name}
use Rattle.row_values.specs.Plain.{is_plain}
use Rattle.reported_items.specs.Reported.{is_one_line}
use Rattle.reported_items.proofs.Pieces.{one_line_both}

-- both parts of a line are of one line
pub line_parts : (a b : List ℕ) → is_one_line (a ++ b) ≡ true → (is_one_line a ≡ true) × (is_one_line b ≡ true)
line_parts [] b h = (refl, h)
line_parts (byte ∷ a) b h =
    let p = and_parts (not (byte == 10)) (is_one_line (a ++ b)) h in
    let later = line_parts a b p.1 in
    (and_from (not (byte == 10)) (is_one_line a) p.0 later.0, later.1)

-- what is dropped from leaves a line
pub line_drop : (n : ℕ) (text : List ℕ) → is_one_line text ≡ true → is_one_line (drop n text) ≡ true
line_drop zero text h = h
line_drop (suc n) [] h = refl
line_drop (suc n) (byte ∷ text) h = line_drop n text (and_parts (not (byte == 10)) (is_one_line text) h).1

pub line_take : (n : ℕ) (text : List ℕ) → is_one_line text ≡ true → is_one_line (take n text) ≡ true
line_take zero text h = refl
line_take (suc n) [] h = refl
line_take (suc n) (byte ∷ text) h =
    let p = and_parts (not (byte == 10)) (is_one_line text) h in
    and_from (not (byte == 10)) (is_one_line (take n text)) p.0 (line_take n text p.1)

one_byte : (byte : ℕ) → not (byte == 10) ≡ true → is_one_line (byte ∷ []) ≡ true
one_byte byte h = and_from (not (byte == 10)) true h refl

doubled_line : (byte : ℕ) → not (byte == 10) ≡ true → is_one_line (doubled byte) ≡ true
doubled_line byte h = by_test (byte == 34)
  where
    by_test : (test : Bool) → is_one_line (cond test (34 ∷ 34 ∷ []) (byte ∷ [])) ≡ true
    by_test true = refl
    by_test false = one_byte byte h

quotes_line : (name : List ℕ) → is_one_line name ≡ true → is_one_line (flat_map doubled name) ≡ true
quotes_line [] h = refl
quotes_line (byte ∷ name) h =
    let p = and_parts (not (byte == 10)) (is_one_line name) h in
    one_line_both (doubled byte) (flat_map doubled name) (doubled_line byte p.0) (quotes_line name p.1)

-- a name without a line's end is spelled on one line
pub canonical_line : (name : List ℕ) → is_one_line name ≡ true → is_one_line (canonical_name name) ≡ true
canonical_line name h = by_test (is_plain name)
  where
    by_test : (test : Bool) → is_one_line (cond test name (quoted_name name)) ≡ true
    by_test true = h
    by_test false = one_line_both (flat_map doubled name) (34 ∷ []) (quotes_line name h) refl

-- a text of one line, built from its front
pub record IsLine (text : List ℕ) : Type 0 where
  pub one : is_one_line text ≡ true

pub begin : (text : List ℕ) → is_one_line text ≡ true → IsLine text
begin text h = record { one = h }

pub more : {a : List ℕ} → IsLine a → (b : List ℕ) → is_one_line b ≡ true → IsLine (a ++ b)
more {a} k b h = record { one = one_line_both a b k.one h }
