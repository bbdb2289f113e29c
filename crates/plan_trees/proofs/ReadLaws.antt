-- Reading and spelling are inverse: what is read is spelled so, and what is spelled so is read.
use Rattle.std.proofs.Common.{ℕ, zero, suc, ◌≡◌, ◌+◌, ◌&&◌, ◌||◌, not, List, [], ◌∷◌, ◌++◌, map, Bool, true, false}
use Rattle.std.proofs.Common.{Option, Some, None, slice_get, refl, sym, ap, ◌∙◌, subst, arith, add-one, true≢false}
use Rattle.std.specs.Str.{bytes_eq}
use Rattle.std.proofs.lemmas.Bool.{and_parts, not-true, or_parts}
use Rattle.std.proofs.lemmas.Grind.{common_steps}
use Rattle.std.proofs.lemmas.Slice.Eq.{bytes_eq-Decides}
use Rattle.row_values.specs.Names.{canonical_name}
use Rattle.plan_trees.specs.Reading.{◌>>=◌, chosen, after, after_byte, after_ended, first_at}
use Rattle.plan_trees.proofs.NameLaws.{IsEnd, same_name}

-- A step that may fail.

pub record Bound {A B : Type 0} (o : Option A) (read : A → Option B) (y : B) : Type 0 where
  pub value : A
  pub first : o ≡ Some value
  pub second : read value ≡ Some y

pub bind_some : {A B : Type 0} (o : Option A) (read : A → Option B) (y : B) → (o >>= read) ≡ Some y → Bound o read y
bind_some None read y e = cc
bind_some (Some x) read y e = record { value = x; first = refl; second = e }

-- Words.

pub byte_front : (byte : ℕ) (text : List ℕ) → after_byte byte (byte ∷ text) ≡ Some text
byte_front byte text = grind (arith, common_steps)

pub byte_taken : (byte : ℕ) (text rest : List ℕ) → after_byte byte text ≡ Some rest → text ≡ byte ∷ rest
byte_taken byte [] rest e = cc
byte_taken byte (next ∷ text) rest e = grind (arith, common_steps)

pub word_front : (word text : List ℕ) → after word (word ++ text) ≡ Some text
word_front [] text = refl
word_front (byte ∷ word) text = rw (byte_front byte (word ++ text)) (word_front word text)

pub word_taken : (word text rest : List ℕ) → after word text ≡ Some rest → text ≡ word ++ rest
word_taken [] text rest e = cc
word_taken (byte ∷ word) text rest e =
    let step = bind_some (after_byte byte text) (after word) rest e in
    byte_taken byte text step.value step.first ∙ ap (λ tail. byte ∷ tail) (word_taken word step.value rest step.second)

pub ended_front : (end : ℕ) (word text : List ℕ) → after_ended end word (word ++ end ∷ text) ≡ Some text
ended_front end word text = rw (word_front word (end ∷ text)) (byte_front end text)

pub ended_taken : (end : ℕ) (word text rest : List ℕ) → after_ended end word text ≡ Some rest
    → text ≡ word ++ end ∷ rest
ended_taken end word text rest e =
    let step = bind_some (after word text) (after_byte end) rest e in
    word_taken word text step.value step.first ∙ ap (λ tail. word ++ tail) (byte_taken end step.value rest step.second)

-- Lists of names.

pub record Found {X : Type 0} (spelled : X → List ℕ) (end : ℕ) (xs : List X) (number : ℕ) (text : List ℕ) (found : ℕ
    × List ℕ) : Type 0 where
  pub item : X
  pub position : ℕ
  pub counted : found.0 ≡ number + position
  pub there : slice_get xs position ≡ Some item
  pub taken : text ≡ spelled item ++ end ∷ found.1

first_taken_by : {X : Type 0} (spelled : X → List ℕ) (end : ℕ) (x : X) (xs : List X) (number : ℕ) (text : List ℕ)
    (found : ℕ × List ℕ) (front : Option (List ℕ))
    → after_ended end (spelled x) text ≡ front
    → chosen front (λ rest. Some (number, rest)) (first_at end (number + 1) (map spelled xs) text) ≡ Some found
    → (first_at end (number + 1) (map spelled xs) text ≡ Some found → Found spelled end xs (number + 1) text found)
    → Found spelled end (x ∷ xs) number text found
first_taken_by spelled end x xs number text found (Some rest) front e more =
    let same : (number, rest) ≡ found = cc in
    let counted : found.0 ≡ number = ap (λ (f : ℕ × List ℕ). f.0) (sym same) in
    let behind : rest ≡ found.1 = ap (λ (f : ℕ × List ℕ). f.1) same in
    record {
      item = x;
      position = 0;
      counted = omega arith;
      there = refl;
      taken =
          ended_taken end (spelled x) text rest front ∙ ap (λ (tail : List ℕ). spelled x ++ end ∷ tail) behind;
    }
first_taken_by spelled end x xs number text found None front e more =
    let f = more e in
    let counted = f.counted in
    record {
      item = f.item;
      position = f.position + 1;
      counted = omega arith;
      there = rw add-one f.there;
      taken =
          f.taken;
    }

-- what is found is the front of the text
pub first_taken : {X : Type 0} (spelled : X → List ℕ) (end : ℕ) (xs : List X) (number : ℕ) (text : List ℕ) (found : ℕ
    × List ℕ)
    → first_at end number (map spelled xs) text ≡ Some found → Found spelled end xs number text found
first_taken spelled end [] number text found e = cc
first_taken spelled end (x ∷ xs) number text found e =
    first_taken_by spelled end x xs number text found (after_ended end (spelled x) text) refl e
    (λ more. first_taken spelled end xs (number + 1) text found more)

abbrev pub is_in : {X : Type 0} → (X → List ℕ) → List ℕ → List X → Bool
is_in name wanted [] = false
is_in name wanted (x ∷ xs) = bytes_eq (name x) wanted || is_in name wanted xs

-- whether no two have one name
abbrev pub differ : {X : Type 0} → (X → List ℕ) → List X → Bool
differ name [] = true
differ name (x ∷ xs) = not (is_in name (name x) xs) && differ name xs

-- what isn't in a list stands at no place of it
not_at : {X : Type 0} (name : X → List ℕ) (wanted : List ℕ) (xs : List X) (k : ℕ) (y : X) → is_in name wanted xs ≡ false
    → slice_get xs k ≡ Some y → name y ≡ wanted → ⊥
not_at name wanted [] k y absent there same = cc
not_at name wanted (x ∷ xs) zero y absent there same =
    let head : x ≡ y = cc in
    let here : name x ≡ wanted = ap name head ∙ same in
    true≢false (sym ((bytes_eq-Decides (name x) wanted).1 here)
    ∙ (or_parts (bytes_eq (name x) wanted) (is_in name wanted xs) absent).0)
not_at name wanted (x ∷ xs) (suc k) y absent there same =
    not_at name wanted xs k y (or_parts (bytes_eq (name x) wanted) (is_in name wanted xs) absent).1 there same

pub nothing_front : {A : Type 0} (o : Option (List ℕ)) (read : List ℕ → Option A) (other : Option A)
    → ((rest : List ℕ) → o ≡ Some rest → ⊥) → chosen o read other ≡ other
nothing_front None read other never = refl
nothing_front (Some rest) read other never = absurd (never rest refl)

-- the one of this name is found
pub first_front : {X : Type 0} (name : X → List ℕ) (end : ℕ) (xs : List X) (number k : ℕ) (y : X) (rest : List ℕ)
    → IsEnd end → differ name xs ≡ true → slice_get xs k ≡ Some y
    → first_at end number (map (λ x. canonical_name (name x)) xs) (canonical_name (name y) ++ end ∷ rest)
    ≡ Some (number + k, rest)
first_front name end [] number k y rest ends apart there = cc
first_front {X = X} name end (x ∷ xs) number zero y rest ends apart there =
    let head : x ≡ y = cc in
    let front : after_ended end (canonical_name (name x)) (canonical_name (name y) ++ end ∷ rest) ≡ Some rest =
    subst (λ (z : X). after_ended end (canonical_name (name z)) (canonical_name (name y) ++ end ∷ rest)
    ≡ Some rest) (sym head) (ended_front end (canonical_name (name y)) rest) in
    rw front (ap (λ (n : ℕ). Some (n, rest)) (omega arith))
first_front name end (x ∷ xs) number (suc k) y rest ends apart there =
    let text : List ℕ = canonical_name (name y) ++ end ∷ rest in
    let absent : is_in name (name x) xs ≡ false =
    not-true (is_in name (name x) xs) (and_parts (not (is_in name (name x) xs)) (differ name xs) apart).0 in
    let more = first_front name end xs (number + 1) k y rest ends (and_parts (not (is_in name (name x) xs))
    (differ name xs) apart).1 there in
    nothing_front (after_ended end (canonical_name (name x)) text) (λ r. Some (number, r))
    (first_at end (number + 1) (map (λ z. canonical_name (name z)) xs) text)
    (λ r e. not_at name (name x) xs k y absent there (same_name end (name y) (name x) rest r ends
    (ended_taken end (canonical_name (name x)) text r e)).word)
    ∙ more ∙ ap (λ (n : ℕ). Some (n, rest)) (omega arith)
