-- What is spelled so is read, whatever follows that can follow.
use Rattle.std.proofs.Common.{◌≡◌, ℕ, zero, suc, ◌<◌, Bool, true, false, Option, Some, List, [], ◌∷◌, ◌++◌, length}
use Rattle.std.proofs.Common.{drop, refl, sym, subst, arith}
use Rattle.std.proofs.lemmas.List.{append_assoc, length-append}
use Rattle.sql_parser.specs.Grammar.{IsRef, plain, dotted, IsItem, column, count, sum, min, max, IsPlace, bare, called}
use Rattle.sql_parser.specs.Grammar.{called_as, IsOperand, literal, parameter, IsListedOperand, alone, IsTest, less}
use Rattle.sql_parser.specs.Grammar.{at_most, greater, at_least, equal, between, one_of, IsCond, tested, same, IsKey}
use Rattle.sql_parser.specs.Grammar.{rising, rising_asc, falling, AreAll, no_part, part, IsBehind, behind, AreListed}
use Rattle.sql_parser.specs.Grammar.{listed}
use Rattle.sql_parser.specs.Reading.{symbol_eq, begins, begins_name, symbol_at, ref_at, enclosed_at, count_at, item_at}
use Rattle.sql_parser.specs.Reading.{place_at, operand_at, between_at, in_at, test_at, cond_at, key_at, all_at, more_at}
use Rattle.sql_parser.specs.Reading.{list_at}
use Rattle.sql_parser.specs.declared.statement.RawRef.{RawRef}
use Rattle.sql_parser.specs.declared.statement.RawPlace.{RawPlace}
use Rattle.sql_parser.specs.declared.statement.RawItem.{RawItem}
use Rattle.sql_parser.specs.declared.statement.RawOperand.{RawOperand}
use Rattle.sql_parser.specs.declared.statement.RawTest.{RawTest}
use Rattle.sql_parser.specs.declared.statement.RawTest.TheVariants as test
use Rattle.sql_parser.specs.declared.statement.RawCond.{RawCond}
use Rattle.sql_parser.specs.declared.statement.RawCond.TheVariants as cond_
use Rattle.sql_parser.specs.declared.statement.RawKey.{RawKey}
use Rattle.sql_parser.specs.declared.tokens.Symbol.{Symbol}
use Rattle.sql_parser.specs.declared.tokens.Symbol.TheVariants as symbol
use Rattle.sql_parser.specs.declared.tokens.Token.{Token}
use Rattle.sql_parser.specs.declared.tokens.Token.TheVariants as token
use Rattle.sql_parser.proofs.Symbols.{symbol_same, symbol_self}

-- whether a symbol can follow a reference, a place, a condition or a key
abbrev pub is_ender : Symbol → Bool
is_ender symbol.Select = false
is_ender symbol.From = true
is_ender symbol.Where = true
is_ender symbol.And = true
is_ender symbol.Group = true
is_ender symbol.By = false
is_ender symbol.Order = true
is_ender symbol.Asc = false
is_ender symbol.Desc = false
is_ender symbol.Between = false
is_ender symbol.Count = false
is_ender symbol.Sum = false
is_ender symbol.Min = false
is_ender symbol.Max = false
is_ender symbol.As = false
is_ender symbol.Join = true
is_ender symbol.Inner = true
is_ender symbol.On = true
is_ender symbol.In = false
is_ender symbol.Comma = true
is_ender symbol.Dot = false
is_ender symbol.Open = false
is_ender symbol.Close = true
is_ender symbol.Star = false
is_ender symbol.Question = false
is_ender symbol.Semicolon = true
is_ender symbol.Less = false
is_ender symbol.AtMost = false
is_ender symbol.Greater = false
is_ender symbol.AtLeast = false
is_ender symbol.Equals = false

abbrev pub ends : List Token → Bool
ends [] = true
ends (token.Name n ∷ tokens) = false
ends (token.Literal v ∷ tokens) = false
ends (token.Symbol m ∷ tokens) = is_ender m

-- what can follow doesn't begin with another symbol, nor with a name
clash : (b : Bool) → b ≡ true → b ≡ false → ⊥
clash b p q = cc

pub no_symbol : (m : Symbol) (tokens : List Token) → is_ender m ≡ false → ends tokens ≡ true → begins m tokens ≡ false
no_symbol m [] f e = refl
no_symbol m (token.Name n ∷ tokens) f e = refl
no_symbol m (token.Literal v ∷ tokens) f e = refl
no_symbol m (token.Symbol k ∷ tokens) f e =
    let step : (v : Bool) → symbol_eq k m ≡ v → v ≡ false = λ v. elim v as (λ v. symbol_eq k m ≡ v → v ≡ false) [
      | true ↦ λ h. (let P : Symbol → Type 0 = λ z. is_ender z ≡ true in
          let g : is_ender m ≡ true = subst P (symbol_same k m h) e in absurd (clash (is_ender m) g f))
      | false ↦ λ h. refl
    ]
    in step (symbol_eq k m) refl

no_name : (tokens : List Token) → ends tokens ≡ true → begins_name tokens ≡ false
no_name [] e = refl
no_name (token.Name n ∷ tokens) e = absurd cc
no_name (token.Literal v ∷ tokens) e = refl
no_name (token.Symbol m ∷ tokens) e = refl

pub begins_self : (m : Symbol) (tokens : List Token) → begins m (token.Symbol m ∷ tokens) ≡ true
begins_self m tokens = symbol_self m

symbol_again : (m : Symbol) (tokens : List Token) → symbol_at m (token.Symbol m ∷ tokens) ≡ Some (tt, tokens)
symbol_again m tokens = rw (symbol_self m) refl

-- references
ref_again_dot : (r : RawRef) (ref rest : List Token) → IsRef r ref → begins symbol.Dot rest ≡ false
    → ref_at (ref ++ rest) ≡ Some (r, rest)
unfolding ref_at symbol_eq
ref_again_dot r ref rest plain e = rw e refl
ref_again_dot r ref rest dotted e = refl

pub ref_again : (r : RawRef) (ref rest : List Token) → IsRef r ref → ends rest ≡ true
    → ref_at (ref ++ rest) ≡ Some (r, rest)
ref_again r ref rest is e = ref_again_dot r ref rest is (no_symbol symbol.Dot rest refl e)

-- a reference begins with a name
ref_begins : (r : RawRef) (ref rest : List Token) (m : Symbol) → IsRef r ref → begins m (ref ++ rest) ≡ false
ref_begins r ref rest m plain = refl
ref_begins r ref rest m dotted = refl

ref_begins_name : (r : RawRef) (ref rest : List Token) → IsRef r ref → begins_name (ref ++ rest) ≡ true
ref_begins_name r ref rest plain = refl
ref_begins_name r ref rest dotted = refl

enclosed_again : (r : RawRef) (ref rest : List Token) → IsRef r ref
    → enclosed_at (token.Symbol symbol.Open ∷ ((ref ++ token.Symbol symbol.Close ∷ []) ++ rest)) ≡ Some (r, rest)
unfolding enclosed_at symbol_eq
enclosed_again r ref rest is =
    rw (
      append_assoc ref (token.Symbol symbol.Close ∷ []) rest,
      ref_again r ref (token.Symbol symbol.Close ∷ rest) is refl,
    ) refl

pub item_again : (x : RawItem) (prefix rest : List Token) → IsItem x prefix → ends rest ≡ true
    → item_at (prefix ++ rest) ≡ Some (x, rest)
unfolding item_at count_at symbol_eq
item_again x prefix rest (column {r} {ref} is) e =
    rw (
      ref_begins r ref rest symbol.Count is,
      ref_begins r ref rest symbol.Sum is,
      ref_begins r ref rest symbol.Min is,
      ref_begins r ref rest symbol.Max is,
      ref_again r ref rest is e,
    ) refl
item_again x prefix rest count e = refl
item_again x prefix rest (sum {r} {ref} is) e = rw (enclosed_again r ref rest is) refl
item_again x prefix rest (min {r} {ref} is) e = rw (enclosed_again r ref rest is) refl
item_again x prefix rest (max {r} {ref} is) e = rw (enclosed_again r ref rest is) refl

pub place_again : (x : RawPlace) (prefix rest : List Token) → IsPlace x prefix → ends rest ≡ true
    → place_at (prefix ++ rest) ≡ Some (x, rest)
unfolding place_at symbol_eq
place_again x prefix rest bare e = rw (no_symbol symbol.As rest refl e, no_name rest e) refl
place_again x prefix rest called e = refl
place_again x prefix rest called_as e = refl

-- lists: a part can be followed by what ends a part, and a part's own beginning does
pub record Again {T : Type 0} (Is : T → List Token → Type 0) (starts : List Token → Bool) (at : List Token
    → Option (T × List Token)) (ok : List Token → Bool) : Type 0 where
  pub read : (x : T) (prefix rest : List Token) → Is x prefix → ok rest ≡ true → at (prefix ++ rest) ≡ Some (x, rest)
  pub begins : (x : T) (prefix rest : List Token) → Is x prefix → starts (prefix ++ rest) ≡ true
  pub goes_on : (x : T) (prefix rest : List Token) → Is x prefix → ok (prefix ++ rest) ≡ true
  pub some : (x : T) (prefix : List Token) → Is x prefix → 0 < length prefix

pub all_goes_on : {T : Type 0} (Is : T → List Token → Type 0) (starts : List Token → Bool) (at : List Token
    → Option (T × List Token)) (ok : List Token → Bool) → Again Is starts at ok
    → (xs : List T) (prefix rest : List Token) → AreAll Is xs prefix → ok rest ≡ true → ok (prefix ++ rest) ≡ true
all_goes_on Is starts at ok again xs prefix rest no_part e = e
all_goes_on Is starts at ok again xs prefix rest (part {x} {first} {rest = more} is are) e =
    let P : List Token → Type 0 = λ z. ok z ≡ true in
    subst P (sym (append_assoc first more rest)) (again.goes_on x first (more ++ rest) is)

all_step : {T : Type 0} (starts : List Token → Bool) (at : List Token
    → Option (T × List Token)) (n : ℕ) (tokens more : List Token) (x : T) (xs : List T) (rest : List Token)
    → starts tokens ≡ true → at tokens ≡ Some (x, more) → all_at starts at n more ≡ Some (xs, rest)
    → all_at starts at (suc n) tokens ≡ Some (x ∷ xs, rest)
all_step starts at n tokens more x xs rest b a ih = rw (b, a) (rw ih refl)

pub all_again : {T : Type 0} (Is : T → List Token → Type 0) (starts : List Token → Bool) (at : List Token
    → Option (T × List Token)) (ok : List Token → Bool) → Again Is starts at ok
    → (n : ℕ) (xs : List T) (prefix rest : List Token) → AreAll Is xs prefix → ok rest ≡ true → starts rest ≡ false
    → length (prefix ++ rest) < n → all_at starts at n (prefix ++ rest) ≡ Some (xs, rest)
all_again Is starts at ok again zero xs prefix rest are e s l = absurd (omega arith)
all_again Is starts at ok again (suc n) xs prefix rest no_part e s l = rw s refl
all_again {T} Is starts at ok again (suc n) xs prefix rest (part {x} {xs = ys} {first} {rest = more} is are) e s l =
    let m = again.some x first is in
    let w = length-append first more in
    let v = length-append (first ++ more) rest in
    let u = length-append more rest in
    let ih = all_again Is starts at ok again n ys more rest are e s (omega arith) in
    let a = again.read x first (more ++ rest) is (all_goes_on Is starts at ok again ys more rest are e) in
    let b = again.begins x first (more ++ rest) is in
    let P : List Token → Type 0 = λ z. all_at starts at (suc n) z ≡ Some (x ∷ ys, rest) in
    subst P (sym (append_assoc first more rest))
    (all_step starts at n (first ++ (more ++ rest)) (more ++ rest) x ys rest b a ih)

behind_read : {T : Type 0} (Is : T → List Token → Type 0) (separator : Symbol) (at : List Token
    → Option (T × List Token))
    → ((x : T) (prefix rest : List Token) → Is x prefix → ends rest ≡ true → at (prefix ++ rest) ≡ Some (x, rest))
    → (x : T) (prefix rest : List Token) → IsBehind Is (token.Symbol separator) x prefix → ends rest ≡ true
    → at (drop 1 (prefix ++ rest)) ≡ Some (x, rest)
behind_read Is separator at read x prefix rest (behind {tokens} is) e = read x tokens rest is e

behind_begins : {T : Type 0} (Is : T → List Token → Type 0) (separator : Symbol) (x : T) (prefix rest : List Token)
    → IsBehind Is (token.Symbol separator) x prefix → begins separator (prefix ++ rest) ≡ true
behind_begins Is separator x prefix rest (behind {tokens} is) = symbol_self separator

behind_goes_on : {T : Type 0} (Is : T → List Token → Type 0) (separator : Symbol) → is_ender separator ≡ true
    → (x : T) (prefix rest : List Token) → IsBehind Is (token.Symbol separator) x prefix → ends (prefix ++ rest) ≡ true
behind_goes_on Is separator k x prefix rest (behind {tokens} is) = k

behind_some : {T : Type 0} (Is : T → List Token → Type 0) (separator : Symbol) (x : T) (prefix : List Token)
    → IsBehind Is (token.Symbol separator) x prefix → 0 < length prefix
behind_some Is separator x prefix (behind {tokens} is) = omega arith

behind_again : {T : Type 0} (Is : T → List Token → Type 0) (separator : Symbol) (at : List Token
    → Option (T × List Token))
    → ((x : T) (prefix rest : List Token) → Is x prefix → ends rest ≡ true → at (prefix ++ rest) ≡ Some (x, rest))
    → is_ender separator ≡ true
    → Again (IsBehind Is (token.Symbol separator)) (begins separator) (λ z. at (drop 1 z)) ends
behind_again {T} Is separator at read k = record {
  read = λ x prefix rest b e. behind_read Is separator at read x prefix rest b e;
  begins = λ x prefix rest b. behind_begins Is separator x prefix rest b;
  goes_on = λ x prefix rest b. behind_goes_on Is separator k x prefix rest b;
  some = λ x prefix b. behind_some Is separator x prefix b;
}

pub list_again : {T : Type 0} (Is : T → List Token → Type 0) (separator : Symbol) (at : List Token
    → Option (T × List Token))
    → ((x : T) (prefix rest : List Token) → Is x prefix → ends rest ≡ true → at (prefix ++ rest) ≡ Some (x, rest))
    → is_ender separator ≡ true
    → (xs : List T) (prefix rest : List Token) → AreListed Is (token.Symbol separator) xs prefix → ends rest ≡ true
    → begins separator rest ≡ false → list_at separator at (prefix ++ rest) ≡ Some (xs, rest)
unfolding list_at more_at
list_again {T} Is separator at read k xs prefix rest (listed {x} {xs = ys} {first} {rest = more} is are) e s =
    let again = behind_again Is separator at read k in
    let a = read x first (more ++ rest) is
    (all_goes_on (IsBehind Is (token.Symbol separator)) (begins separator) (λ z. at (drop 1 z)) ends again ys more
    rest are e) in
    let b = all_again (IsBehind Is (token.Symbol separator)) (begins separator) (λ z. at (drop 1 z)) ends again
    (suc (length (more ++ rest))) ys more rest are e s (omega arith) in
    rw (append_assoc first more rest, a, b) refl

-- operands, tests, conditions and keys
operand_again : (x : RawOperand) (t : Token) (rest : List Token) → IsOperand x t
    → operand_at (t ∷ rest) ≡ Some (x, rest)
unfolding operand_at symbol_eq
operand_again x t rest literal = refl
operand_again x t rest parameter = refl

-- an operand is no name
operand_no_name : (x : RawOperand) (t : Token) (rest : List Token) → IsOperand x t → begins_name (t ∷ rest) ≡ false
operand_no_name x t rest literal = refl
operand_no_name x t rest parameter = refl

cond_rest_equals : (x : RawOperand) (t : Token) (r : RawRef) (ref rest : List Token) → IsRef r ref → IsOperand x t
    → cond_at (ref ++ token.Symbol symbol.Equals ∷ t ∷ rest) ≡ Some (cond_.Test r (test.Eq x), rest)
unfolding cond_at symbol_eq
cond_rest_equals x t r ref rest is o =
    rw (
      ref_again_dot r ref (token.Symbol symbol.Equals ∷ t ∷ rest) is refl,
      operand_no_name x t rest o,
      operand_again x t rest o,
    ) refl

alone_again : (x : RawOperand) (prefix rest : List Token) → IsListedOperand x prefix → ends rest ≡ true
    → operand_at (prefix ++ rest) ≡ Some (x, rest)
alone_again x prefix rest (alone {t} is) e = operand_again x t rest is

no_comma : (rest : List Token) → begins symbol.Comma (token.Symbol symbol.Close ∷ rest) ≡ false
unfolding symbol_eq
no_comma rest = refl

operands_again : (xs : List RawOperand) (prefix rest : List Token)
    → AreListed IsListedOperand (token.Symbol symbol.Comma) xs prefix
    → list_at symbol.Comma operand_at (prefix ++ token.Symbol symbol.Close ∷ rest)
    ≡ Some (xs, token.Symbol symbol.Close ∷ rest)
operands_again xs prefix rest are =
    list_again IsListedOperand symbol.Comma operand_at alone_again refl xs prefix (token.Symbol symbol.Close ∷ rest) are
    refl (no_comma rest)

test_again : (x : RawTest) (prefix rest : List Token) → IsTest x prefix → test_at (prefix ++ rest) ≡ Some (x, rest)
unfolding test_at in_at between_at symbol_eq
test_again x prefix rest (one_of {xs} {operands} are) =
    rw (append_assoc operands (token.Symbol symbol.Close ∷ []) rest, operands_again xs operands rest are) refl
test_again x prefix rest (less {x = o} {t} is) = rw (operand_again o t rest is) refl
test_again x prefix rest (at_most {x = o} {t} is) = rw (operand_again o t rest is) refl
test_again x prefix rest (greater {x = o} {t} is) = rw (operand_again o t rest is) refl
test_again x prefix rest (at_least {x = o} {t} is) = rw (operand_again o t rest is) refl
test_again x prefix rest (equal {x = o} {t} is) = rw (operand_again o t rest is) refl
test_again x prefix rest (between {x = o} {y} {t} {u} is js) =
    rw (operand_again o t (token.Symbol symbol.And ∷ u ∷ rest) is) (rw (operand_again y u rest js) refl)

test_no_dot : (x : RawTest) (prefix rest : List Token) → IsTest x prefix → begins symbol.Dot (prefix ++ rest) ≡ false
unfolding symbol_eq
test_no_dot x prefix rest (less is) = refl
test_no_dot x prefix rest (at_most is) = refl
test_no_dot x prefix rest (greater is) = refl
test_no_dot x prefix rest (at_least is) = refl
test_no_dot x prefix rest (equal is) = refl
test_no_dot x prefix rest (between is js) = refl
test_no_dot x prefix rest (one_of are) = refl

-- a test other than an equality
cond_other : (t : RawTest) (r : RawRef) (ref prefix rest : List Token) → IsRef r ref → IsTest t prefix
    → begins symbol.Equals (prefix ++ rest) ≡ false
    → cond_at (ref ++ (prefix ++ rest)) ≡ Some (cond_.Test r t, rest)
unfolding cond_at
cond_other t r ref prefix rest is js e =
    rw (ref_again_dot r ref (prefix ++ rest) is (test_no_dot t prefix rest js), e, test_again t prefix rest js) refl

cond_tested : (t : RawTest) (r : RawRef) (ref prefix rest : List Token) → IsRef r ref → IsTest t prefix
    → cond_at (ref ++ (prefix ++ rest)) ≡ Some (cond_.Test r t, rest)
unfolding symbol_eq
cond_tested t r ref prefix rest is (less js) = cond_other t r ref prefix rest is (less js) refl
cond_tested t r ref prefix rest is (at_most js) = cond_other t r ref prefix rest is (at_most js) refl
cond_tested t r ref prefix rest is (greater js) = cond_other t r ref prefix rest is (greater js) refl
cond_tested t r ref prefix rest is (at_least js) = cond_other t r ref prefix rest is (at_least js) refl
cond_tested t r ref prefix rest is (equal {x = o} {t = u} js) = cond_rest_equals o u r ref rest is js
cond_tested t r ref prefix rest is (between js ks) = cond_other t r ref prefix rest is (between js ks) refl
cond_tested t r ref prefix rest is (one_of are) = cond_other t r ref prefix rest is (one_of are) refl

append_assoc_cond : {x : RawCond} (ref more rest : List Token) → cond_at (ref ++ (more ++ rest)) ≡ Some (x, rest)
    → cond_at ((ref ++ more) ++ rest) ≡ Some (x, rest)
append_assoc_cond ref more rest e = rw (append_assoc ref more rest) e

pub cond_again : (x : RawCond) (prefix rest : List Token) → IsCond x prefix → ends rest ≡ true
    → cond_at (prefix ++ rest) ≡ Some (x, rest)
unfolding cond_at symbol_eq
cond_again x prefix rest (tested {r} {t} {ref} {rest = more} is js) e =
    append_assoc_cond ref more rest (cond_tested t r ref more rest is js)
cond_again x prefix rest (same {r} {s} {left} {right} is js) e =
    rw (
      append_assoc left (token.Symbol symbol.Equals ∷ right) rest,
      ref_again_dot r left (token.Symbol symbol.Equals ∷ (right ++ rest)) is refl,
      ref_begins_name s right rest js,
      ref_again s right rest js e,
    ) refl

pub key_again : (x : RawKey) (prefix rest : List Token) → IsKey x prefix → ends rest ≡ true
    → key_at (prefix ++ rest) ≡ Some (x, rest)
unfolding key_at symbol_eq
key_again x prefix rest (rising {r} {ref} is) e =
    rw (ref_again r ref rest is e, no_symbol symbol.Desc rest refl e, no_symbol symbol.Asc rest refl e) refl
key_again x prefix rest (rising_asc {r} {ref} is) e =
    rw (
      append_assoc ref (token.Symbol symbol.Asc ∷ []) rest,
      ref_again_dot r ref (token.Symbol symbol.Asc ∷ rest) is refl,
    ) refl
key_again x prefix rest (falling {r} {ref} is) e =
    rw (
      append_assoc ref (token.Symbol symbol.Desc ∷ []) rest,
      ref_again_dot r ref (token.Symbol symbol.Desc ∷ rest) is refl,
    ) refl
