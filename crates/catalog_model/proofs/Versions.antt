-- The numbers of versions as one is put.
use Rattle.std.proofs.Common.{ℕ, ◌≡◌, ◌<◌, ◌+◌, ◌==◌, ◌&&◌, ◌||◌, not, List, [], ◌∷◌, map, ap, refl, cond, Bool, true}
use Rattle.std.proofs.Common.{false, All, arith}
use Rattle.std.specs.Str.{bytes_eq}
use Rattle.std.proofs.lemmas.Bool.{and_from, and_parts, not-true, or_from, or_parts}
use Rattle.std.proofs.lemmas.Bool.Decides.{nat_tests}
use Rattle.std.proofs.lemmas.List.Elements.{All-cons, All-nil, All-head, All-tail, All-weaker}
use Rattle.catalog_model.specs.Catalogs.{TableState, Version, put_version}
use Rattle.catalog_model.specs.Held.{present_versions, has_number, numbers_differ}

abbrev IsBefore : ℕ → TableState → Type 0
IsBefore next table = table.now.number < next

abbrev renewed : TableState → Version → TableState
renewed t version = record t { now = version }

abbrev new_table : List ℕ → Version → TableState
new_table name version =
    record { name = name; now = version; indexed = map (λ column. false) version.content.schema }

-- no version before the next one has its number
fresh : (ts : List TableState) (next : ℕ) → All (IsBefore next) ts → has_number next (present_versions ts) ≡ false
fresh [] next a = refl
fresh (t ∷ ts) next a =
    let before : t.now.number < next = All-head (IsBefore next) t ts a in
    let differs : (t.now.number == next) ≡ false = grind (arith, nat_tests) in
    or_from (t.now.number == next) _ differs (fresh ts next (All-tail (IsBefore next) t ts a))

other_by : (test : Bool) (t : TableState) (ts : List TableState) (name : List ℕ) (version : Version) (number : ℕ)
    → (version.number == number) ≡ false
    → ((t.now.number == number) || has_number number (present_versions ts)) ≡ false →
    (has_number number (present_versions ts) ≡ false
    → has_number number (present_versions (put_version ts name version)) ≡ false) →
    has_number number (present_versions (cond test (renewed t version ∷ ts) (t ∷ put_version ts name version))) ≡ false
other_by true t ts name version number o h later = let p =
    or_parts (t.now.number == number) (has_number number (present_versions ts)) h in
    or_from (version.number == number) _ o p.1
other_by false t ts name version number o h later = let p =
    or_parts (t.now.number == number) (has_number number (present_versions ts)) h in
    or_from (t.now.number == number) _ p.0 (later p.1)

other_put : (ts : List TableState) (name : List ℕ) (version : Version) (number : ℕ) → (version.number == number) ≡ false
    → has_number number (present_versions ts) ≡ false
    → has_number number (present_versions (put_version ts name version)) ≡ false
other_put [] name version number o h = or_from (version.number == number) _ o h
other_put (t ∷ ts) name version number o h =
    other_by (bytes_eq name t.name) t ts name version number o h (other_put ts name version number o)

numbers_by : (test : Bool) (t : TableState) (ts : List TableState) (name : List ℕ) (version : Version)
    → All (IsBefore version.number) (t ∷ ts)
    → (not (has_number t.now.number (present_versions ts)) && numbers_differ (present_versions ts)) ≡ true →
    (All (IsBefore version.number) ts → numbers_differ (present_versions ts) ≡ true
    → numbers_differ (present_versions (put_version ts name version)) ≡ true) →
    numbers_differ (present_versions (cond test (renewed t version ∷ ts) (t ∷ put_version ts name version))) ≡ true
numbers_by true t ts name version a h later =
    let p = and_parts (not (has_number t.now.number (present_versions ts))) (numbers_differ (present_versions ts)) h in
    and_from _ _ (ap not (fresh ts version.number (All-tail (IsBefore version.number) t ts a))) p.1
numbers_by false t ts name version a h later =
    let p = and_parts (not (has_number t.now.number (present_versions ts))) (numbers_differ (present_versions ts)) h in
    let before : t.now.number < version.number = All-head (IsBefore version.number) t ts a in
    let differs : (version.number == t.now.number) ≡ false = grind (arith, nat_tests) in
    and_from _ _ (ap not (other_put ts name version t.now.number differs (not-true _ p.0)))
    (later (All-tail (IsBefore version.number) t ts a) p.1)

-- the numbers differ still as the next version is put
pub numbers_put : (ts : List TableState) (name : List ℕ) (version : Version) → All (IsBefore version.number) ts
    → numbers_differ (present_versions ts) ≡ true
    → numbers_differ (present_versions (put_version ts name version)) ≡ true
numbers_put [] name version a h = refl
numbers_put (t ∷ ts) name version a h =
    numbers_by (bytes_eq name t.name) t ts name version a h (numbers_put ts name version)

-- the present version of a table has this
abbrev Now : (Version → Type 0) → TableState → Type 0
Now P table = P table.now

all_by : (P : Version → Type 0) (test : Bool) (t : TableState) (ts : List TableState) (name : List ℕ)
    (version : Version) → P version → All (Now P) (t ∷ ts) → (All (Now P) ts → All (Now P) (put_version ts name version))
    → All (Now P) (cond test (renewed t version ∷ ts) (t ∷ put_version ts name version))
all_by P true t ts name version p a later = All-cons (Now P) (renewed t version) ts p (All-tail (Now P) t ts a)
all_by P false t ts name version p a later =
    All-cons (Now P) t (put_version ts name version) (All-head (Now P) t ts a) (later (All-tail (Now P) t ts a))

-- what each version has, and the one that is put, each has then
pub all_put : (P : Version → Type 0) (ts : List TableState) (name : List ℕ) (version : Version) → P version
    → All (Now P) ts → All (Now P) (put_version ts name version)
all_put P [] name version p a =
    All-cons (Now P) (new_table name version) [] p (All-nil (Now P))
all_put P (t ∷ ts) name version p a =
    all_by P (bytes_eq name t.name) t ts name version p a (all_put P ts name version p)

-- all numbers are below the one after the next
pub numbered_put : (ts : List TableState) (name : List ℕ) (version : Version) → All (IsBefore version.number) ts
    → All (IsBefore (version.number + 1)) (put_version ts name version)
numbered_put ts name version a =
    all_put (λ v. v.number < version.number + 1) ts name version (omega arith)
    (All-weaker (IsBefore version.number) (IsBefore (version.number + 1)) (λ t h. omega arith) ts a)
