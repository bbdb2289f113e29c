-- Places, columns and numbers: each is read from its spelling, and what is read is spelled so.
use Rattle.std.proofs.Common.{ℕ, zero, suc, ◌≡◌, ◌≤◌, ◌<◌, ◌+◌, ◌^◌, ◌⊎◌, inl, inr, List, [], ◌∷◌, ◌++◌, length, Bool}
use Rattle.std.proofs.Common.{true, Option, Some, None, IsSome, slice_get, option_and_then, refl, ap, ◌∙◌, subst, arith}
use Rattle.std.specs.Fmt.{decimal, digits}
use Rattle.std.specs.Option.{option_map, option_map_or}
use Rattle.std.proofs.lemmas.Bool.{cases_lt}
use Rattle.std.proofs.lemmas.Fmt.{decimal_injective}
use Rattle.std.proofs.lemmas.Option.{slice_get_within}
use Rattle.row_values.specs.Names.{canonical_name}
use Rattle.row_values.specs.Plain.{are_name_bytes}
use Rattle.row_values.specs.Statements.{Statement, IsColumn}
use Rattle.row_values.specs.declared.columns.Column.{Column}
use Rattle.row_values.specs.declared.statement.Place.{Place}
use Rattle.plan_trees.specs.PlanSpace.{column_of}
use Rattle.plan_trees.specs.Reading.{chosen, after_ended, first_at, number_words, place_at, column_at, number_at}
use Rattle.plan_trees.specs.Spelling.{alias_of, columns_of, name_of, place_text, column_text, number_text}
use Rattle.plan_trees.proofs.Bits.{all_pass, at_each}
use Rattle.plan_trees.proofs.NameLaws.{IsEnd, plain_words}
use Rattle.plan_trees.proofs.ReadLaws.{differ, ended_front, ended_taken, first_front, first_taken, nothing_front}

-- What reading needs of a statement: names that differ, and few predicates and edges.
pub record IsReadable (q : Statement) : Type 0 where
  pub aliases : differ (λ place. place.alias) q.places ≡ true
  pub columns : (t : ℕ) (place : Place) → slice_get q.places t ≡ Some place
      → differ (λ column. column.name) place.schema ≡ true
  pub preds : length q.preds ≤ 32
  pub edges : length q.edges ≤ 32

-- Numbers.

are_digits_bytes : ℕ → Bool
are_digits_bytes n = are_name_bytes (decimal n)

all_digits_bytes : all_pass 100 are_digits_bytes ≡ true
unfolding all_pass are_digits_bytes digits
all_digits_bytes = refl

decimal_bytes : (n : ℕ) → n < 100 → are_name_bytes (decimal n) ≡ true
unfolding are_digits_bytes
decimal_bytes n small = at_each 100 are_digits_bytes n all_digits_bytes small

wide : (n : ℕ) → n < 100 → n < 2 ^ 64
wide n small = omega arith

same_number : (end a b : ℕ) (r s : List ℕ) → IsEnd end → a < 99 → b < 99 → number_text a ++ end ∷ r
    ≡ number_text b ++ end ∷ s → a ≡ b
same_number end a b r s ends x y e =
    let same = plain_words end (number_text a) (number_text b) r s ends (decimal_bytes (a + 1) (omega arith))
    (decimal_bytes (b + 1) (omega arith)) e in
    let next : a + 1 ≡ b + 1 =
    decimal_injective (a + 1) (b + 1) (wide (a + 1) (omega arith)) (wide (b + 1) (omega arith)) same.word in
    omega arith

same_or_more : (first n : ℕ) → first ≤ n → (first ≡ n) ⊎ (first + 1 ≤ n)
same_or_more first n h = grind (arith, cases_lt)

numbers_front_by : (end first more n : ℕ) (rest : List ℕ) → IsEnd end → n < first + suc more → first + suc more < 99
    → (first ≡ n) ⊎ (first + 1 ≤ n)
    → (first + 1 ≤ n → first_at end (first + 1) (number_words (first + 1) more) (number_text n ++ end ∷ rest)
    ≡ Some (n, rest))
    → first_at end first (number_words first (suc more)) (number_text n ++ end ∷ rest) ≡ Some (n, rest)
numbers_front_by end first more n rest ends less few (inl same) later =
    let front : after_ended end (number_text first) (number_text n ++ end ∷ rest) ≡ Some rest =
    subst (λ (k : ℕ). after_ended end (number_text first) (number_text k ++ end ∷ rest)
    ≡ Some rest) same (ended_front end (number_text first) rest) in
    rw front (ap (λ (k : ℕ). Some (k, rest)) same)
numbers_front_by end first more n rest ends less few (inr above) later =
    let text : List ℕ = number_text n ++ end ∷ rest in
    nothing_front (after_ended end (number_text first) text) (λ r. Some (first, r))
    (first_at end (first + 1) (number_words (first + 1) more) text)
    (λ r e.
    let same : n ≡ first =
    same_number end n first rest r ends (omega arith) (omega arith) (ended_taken end (number_text first) text r e)
    in
    omega arith)
    ∙ later above

numbers_front : (end first count n : ℕ) (rest : List ℕ) → IsEnd end → first ≤ n → n < first + count → first + count < 99
    → first_at end first (number_words first count) (number_text n ++ end ∷ rest) ≡ Some (n, rest)
numbers_front end first zero n rest ends low less few = absurd (omega arith)
numbers_front end first (suc more) n rest ends low less few =
    numbers_front_by end first more n rest ends less few (same_or_more first n low)
    (λ above. numbers_front end (first + 1) more n rest ends above (omega arith) (omega arith))

pub record FoundNumber (end first count : ℕ) (text : List ℕ) (found : ℕ × List ℕ) : Type 0 where
  pub low : first ≤ found.0
  pub high : found.0 < first + count
  pub taken : text ≡ number_text found.0 ++ end ∷ found.1

numbers_taken_by : (end first more : ℕ) (text : List ℕ) (found : ℕ × List ℕ) (front : Option (List ℕ))
    → after_ended end (number_text first) text ≡ front
    → chosen front (λ rest. Some (first, rest)) (first_at end (first + 1) (number_words (first + 1) more) text)
    ≡ Some found
    → (first_at end (first + 1) (number_words (first + 1) more) text ≡ Some found
    → FoundNumber end (first + 1) more text found) → FoundNumber end first (suc more) text found
numbers_taken_by end first more text found (Some rest) front e later =
    let same : (first, rest) ≡ found = cc in
    let counted : first ≡ found.0 = ap (λ (f : ℕ × List ℕ). f.0) same in
    record {
      low = omega arith;
      high = omega arith;
      taken =
          subst (λ (f : ℕ × List ℕ). text ≡ number_text f.0 ++ end ∷ f.1) same
          (ended_taken end (number_text first) text rest front);
    }
numbers_taken_by end first more text found None front e later =
    let f = later e in
    let low = f.low in
    let high = f.high in
    record { low = omega arith; high = omega arith; taken = f.taken }

numbers_taken : (end first count : ℕ) (text : List ℕ) (found : ℕ × List ℕ)
    → first_at end first (number_words first count) text ≡ Some found → FoundNumber end first count text found
numbers_taken end first zero text found e = cc
numbers_taken end first (suc more) text found e =
    numbers_taken_by end first more text found (after_ended end (number_text first) text) refl e
    (λ later. numbers_taken end (first + 1) more text found later)

pub number_front : (end count n : ℕ) (rest : List ℕ) → IsEnd end → count ≤ 32 → n < count
    → number_at end count (number_text n ++ end ∷ rest) ≡ Some (n, rest)
unfolding number_at
number_front end count n rest ends few less =
    numbers_front end 0 count n rest ends (omega arith) (omega arith) (omega arith)

pub number_taken : (end count : ℕ) (text : List ℕ) (found : ℕ × List ℕ) → number_at end count text ≡ Some found
    → FoundNumber end 0 count text found
unfolding number_at
number_taken end count text found e = numbers_taken end 0 count text found e

-- Places.

pub record There {X : Type 0} (xs : List X) (i : ℕ) : Type 0 where
  pub item : X
  pub is : slice_get xs i ≡ Some item

there_in : {X : Type 0} (xs : List X) (i : ℕ) (o : Option X) → slice_get xs i ≡ o → IsSome o → There xs i
there_in xs i None e some = cc
there_in xs i (Some x) e some = record { item = x; is = e }

pub there_below : {X : Type 0} (xs : List X) (i : ℕ) → i < length xs → There xs i
there_below [] i less = absurd (omega arith)
there_below (x ∷ xs) zero less = record { item = x; is = refl }
there_below (x ∷ xs) (suc i) less = let t = there_below xs i (omega arith) in record { item = t.item; is = t.is }

pub place_front : (q : Statement) (end t : ℕ) (rest : List ℕ) → IsReadable q → IsEnd end → t < length q.places
    → place_at end q.places (place_text q.places t ++ end ∷ rest) ≡ Some (t, rest)
unfolding place_at
place_front q end t rest readable ends less =
    let place = there_below q.places t less in
    let named : alias_of q.places t ≡ place.item.alias =
    ap (λ (o : Option Place). option_map_or (λ p. p.alias) o []) place.is in
    rw named (first_front (λ (p : Place). p.alias) end q.places 0 t place.item rest ends readable.aliases place.is
    ∙ ap (λ (n : ℕ). Some (n, rest)) (omega arith))

pub record FoundPlace (places : List Place) (end : ℕ) (text : List ℕ) (found : ℕ × List ℕ) : Type 0 where
  pub there : found.0 < length places
  pub taken : text ≡ place_text places found.0 ++ end ∷ found.1

pub place_taken : (places : List Place) (end : ℕ) (text : List ℕ) (found : ℕ × List ℕ) → place_at end places text
    ≡ Some found → FoundPlace places end text found
unfolding place_at
place_taken places end text found e =
    let f = first_taken (λ (p : Place). canonical_name p.alias) end places 0 text found e in
    let counted : f.position ≡ found.0 = omega (arith, f.counted) in
    let there : slice_get places found.0 ≡ Some f.item =
    subst (λ (i : ℕ). slice_get places i ≡ Some f.item) counted f.there in
    let named : alias_of places found.0 ≡ f.item.alias =
    ap (λ (o : Option Place). option_map_or (λ p. p.alias) o []) there in
    record { there = slice_get_within places found.0 f.item there; taken = rw named f.taken }

-- Columns.

pub record IsThere (places : List Place) (t c : ℕ) : Type 0 where
  pub place : Place
  pub column : Column
  pub place_is : slice_get places t ≡ Some place
  pub column_is : slice_get place.schema c ≡ Some column

column_there_in : (places : List Place) (t c : ℕ) (place : Place) → slice_get places t ≡ Some place
    → (o : Option Column) → slice_get place.schema c ≡ o → IsSome (option_map (λ column. column.kind) o)
    → IsThere places t c
column_there_in places t c place there None e some = cc
column_there_in places t c place there (Some column) e some = record {
  place = place;
  column = column;
  place_is =
      there;
  column_is = e;
}

column_there_by : (places : List Place) (t c : ℕ) (o : Option Place) → slice_get places t ≡ o
    → IsSome (option_and_then (λ place. option_map (λ column. column.kind) (slice_get place.schema c)) o)
    → IsThere places t c
column_there_by places t c None e some = cc
column_there_by places t c (Some place) e some = column_there_in places t c place e (slice_get place.schema c) refl some

pub column_there : (places : List Place) (t c : ℕ) → IsColumn places (column_of t c) → IsThere places t c
column_there places t c some = column_there_by places t c (slice_get places t) refl some

pub column_is_there : (places : List Place) (t c : ℕ) (place : Place) (column : Column) → slice_get places t
    ≡ Some place → slice_get place.schema c ≡ Some column → IsColumn places (column_of t c)
column_is_there places t c place column there named = rw there (rw named refl)

pub column_front : (q : Statement) (end t c : ℕ) (rest : List ℕ) → IsReadable q → IsEnd end
    → IsColumn q.places (column_of t c)
    → column_at end (columns_of q.places t) (column_text q.places t c ++ end ∷ rest) ≡ Some (c, rest)
unfolding column_at
column_front q end t c rest readable ends some =
    let found = column_there q.places t c some in
    let columns : columns_of q.places t ≡ found.place.schema =
    ap (λ (o : Option Place). option_map_or (λ p. p.schema) o []) found.place_is in
    let named : name_of found.place.schema c ≡ found.column.name =
    ap (λ (o : Option Column). option_map_or (λ x. x.name) o []) found.column_is in
    rw (columns, named) (first_front (λ (x : Column). x.name) end found.place.schema 0 c found.column rest ends
    (readable.columns t found.place found.place_is) found.column_is ∙ ap (λ (n : ℕ). Some (n, rest)) (omega arith))

pub record FoundColumn (places : List Place) (t end : ℕ) (text : List ℕ) (found : ℕ × List ℕ) : Type 0 where
  pub there : IsColumn places (column_of t found.0)
  pub taken : text ≡ column_text places t found.0 ++ end ∷ found.1

column_taken_by : (places : List Place) (t end : ℕ) (text : List ℕ) (found : ℕ × List ℕ) (o : Option Place)
    → slice_get places t ≡ o → column_at end (option_map_or (λ p. p.schema) o []) text ≡ Some found
    → FoundColumn places t end text found
unfolding column_at
column_taken_by places t end text found None there e = cc
column_taken_by places t end text found (Some place) there e =
    let f = first_taken (λ (x : Column). canonical_name x.name) end place.schema 0 text found e in
    let counted : f.position ≡ found.0 = omega (arith, f.counted) in
    let column : slice_get place.schema found.0 ≡ Some f.item =
    subst (λ (i : ℕ). slice_get place.schema i ≡ Some f.item) counted f.there in
    let columns : columns_of places t ≡ place.schema =
    ap (λ (o : Option Place). option_map_or (λ p. p.schema) o []) there in
    let named : name_of place.schema found.0 ≡ f.item.name =
    ap (λ (o : Option Column). option_map_or (λ x. x.name) o []) column in
    record { there = column_is_there places t found.0 place f.item there column; taken = rw (columns, named) f.taken }

pub column_taken : (places : List Place) (t end : ℕ) (text : List ℕ) (found : ℕ × List ℕ)
    → column_at end (columns_of places t) text ≡ Some found → FoundColumn places t end text found
column_taken places t end text found e = column_taken_by places t end text found (slice_get places t) refl e
