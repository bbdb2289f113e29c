-- The numbers of statements, counted from the front.
use Rattle.std.proofs.Common.{ℕ, suc, ◌≡◌, ◌∙◌, ◌+◌, List, [], ◌∷◌, ◌++◌, length, Option, Some, None, Bool, true, false, cond}
use Rattle.std.proofs.Common.{refl, nat_lt, not, ap, arith, sym, subst}
use Rattle.std.proofs.lemmas.Bool.Decides.{nat_tests}
use Rattle.std.specs.List.{position, position_or_len, slice_get}
use Rattle.std.specs.Option.{option_map}
use Rattle.std.specs.Str.{bytes_eq}
use Rattle.catalog_model.specs.Catalogs.{StatementState, find_statement, number_of}

one_more : (n : ℕ) → 1 + n ≡ suc n
one_more n = omega arith

none_less : (len : ℕ) → nat_lt 0 (suc len) ≡ true
none_less len = grind (arith, nat_tests)

less_more : (n len : ℕ) → nat_lt n len ≡ true → nat_lt (1 + n) (suc len) ≡ true
less_more n len e = grind (arith, nat_tests)

no_less_more : (n len : ℕ) → nat_lt n len ≡ false → nat_lt (1 + n) (suc len) ≡ false
no_less_more n len e = grind (arith, nat_tests)

shifted_by : (b : Bool) (n len : ℕ) → nat_lt n len ≡ b → cond (nat_lt (1 + n) (suc len)) (Some (1 + n)) None
    ≡ option_map suc (cond b (Some n) None)
shifted_by true n len e = rw (less_more n len e) (ap Some (one_more n))
shifted_by false n len e = rw (no_less_more n len e) refl

next_by : (b : Bool) (n len : ℕ) → cond (nat_lt (cond (not b) (1 + n) 0) (suc len)) (Some (cond (not b) (1 + n) 0)) None
    ≡ cond b (Some 0) (option_map suc (cond (nat_lt n len) (Some n) None))
next_by true n len = rw (none_less len) refl
next_by false n len = shifted_by (nat_lt n len) n len refl

-- the position behind the first item is one more
pub position_next : {X : Type 0} (test : X → Bool) (x : X) (xs : List X)
    → position test (x ∷ xs) ≡ cond (test x) (Some 0) (option_map suc (position test xs))
position_next test x xs = next_by (test x) (position_or_len test xs) (length xs)

-- a statement that was found by its number
pub record IsNumbered (statements : List StatementState) (name : List ℕ) (number : ℕ) : Type 0 where
  pub prepared : StatementState
  pub there : slice_get statements number ≡ Some prepared
  pub found : find_statement statements name ≡ Some prepared.statement

numbered_by : (test : Bool) (prepared : StatementState) (others : List StatementState) (name : List ℕ) (number : ℕ)
    → bytes_eq name prepared.name ≡ test
    → cond test (Some 0) (option_map suc (number_of others name)) ≡ Some number
    → ((number : ℕ) → number_of others name ≡ Some number → IsNumbered others name number)
    → IsNumbered (prepared ∷ others) name number
numbered_by true prepared others name number e h later =
    let first : 0 ≡ number = cc in
    subst (IsNumbered (prepared ∷ others) name) first
    (record { prepared = prepared; there = refl; found = rw e refl })
numbered_by false prepared others name number e h later = behind (number_of others name) refl h
  where
    behind : (o : Option ℕ) → number_of others name ≡ o → option_map suc o ≡ Some number
        → IsNumbered (prepared ∷ others) name number
    behind None is h = absurd cc
    behind (Some before) is h =
        let next : suc before ≡ number = cc in
        let one = later before is in
        subst (IsNumbered (prepared ∷ others) name) next
        (record { prepared = one.prepared; there = one.there; found = rw e one.found })

pub numbered : (statements : List StatementState) (name : List ℕ) (number : ℕ)
    → number_of statements name ≡ Some number → IsNumbered statements name number
numbered [] name number h = absurd cc
numbered (prepared ∷ others) name number h =
    numbered_by (bytes_eq name prepared.name) prepared others name number refl
    (sym (position_next (λ (p : StatementState). bytes_eq name p.name) prepared others) ∙ h)
    (numbered others name)
