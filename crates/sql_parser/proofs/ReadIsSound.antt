-- What the tokens of a text spell is sound.
use Rattle.std.proofs.Common.{◌≡◌, ℕ, Bool, true, Some, List, [], ◌∷◌, ◌++◌, refl}
use Rattle.sql_parser.specs.Statement.{Parts}
use Rattle.sql_parser.specs.Grammar.{IsRef, plain, dotted, IsItem, column, count, sum, min, max, IsPlace, bare, called}
use Rattle.sql_parser.specs.Grammar.{called_as, IsOperand, literal, parameter, IsListedOperand, alone, IsTest, less}
use Rattle.sql_parser.specs.Grammar.{at_most, greater, at_least, equal, between, one_of, IsCond, tested, same, IsKey}
use Rattle.sql_parser.specs.Grammar.{rising, rising_asc, falling, AreAll, no_part, part, IsBehind, behind, AreListed}
use Rattle.sql_parser.specs.Grammar.{listed, Joined, IsJoined, comma, join, inner_join, joined_places, joined_conds}
use Rattle.sql_parser.specs.Grammar.{IsWhere, no_where, filtered, IsGroup, no_group, grouped, IsOrder, no_order}
use Rattle.sql_parser.specs.Grammar.{ordered, IsStatement, statement}
use Rattle.sql_parser.specs.Reading.{statement_at}
use Rattle.sql_parser.specs.declared.statement.RawRef.{RawRef}
use Rattle.sql_parser.specs.declared.statement.RawPlace.{RawPlace}
use Rattle.sql_parser.specs.declared.statement.RawItem.{RawItem}
use Rattle.sql_parser.specs.declared.statement.RawOperand.{RawOperand}
use Rattle.sql_parser.specs.declared.statement.RawTest.{RawTest}
use Rattle.sql_parser.specs.declared.statement.RawCond.{RawCond}
use Rattle.sql_parser.specs.declared.statement.RawKey.{RawKey}
use Rattle.sql_parser.specs.declared.tokens.Symbol.{Symbol}
use Rattle.sql_parser.specs.declared.tokens.Symbol.TheVariants as symbol
use Rattle.sql_parser.specs.declared.tokens.Token.{Token}
use Rattle.sql_parser.specs.declared.tokens.Token.TheVariants as token
use Rattle.sql_parser.specs.Statement.{each, is_some, is_name, is_ref, is_item, is_place, is_operand, is_test, is_cond}
use Rattle.sql_parser.specs.Statement.{is_key, IsSound}
use Rattle.sql_parser.specs.Reading.{is_good}
use Rattle.sql_parser.proofs.PlainWords.{is_word, plain_word}
use Rattle.sql_parser.specs.Tokens.{Spells, plain_name, quoted_name, whole_number, quoted_text, reserved_or_sign}
use Rattle.sql_parser.specs.Tokens.{AreTokens, none, next}
use Rattle.sql_parser.proofs.ReadIsSpelled.{statement_sound}
use Rattle.std.proofs.lemmas.Bool.{and_from, and_parts}

-- ---- tokens

word_some : (bytes : List ℕ) → is_word bytes ≡ true → is_name bytes ≡ true
word_some [] e = absurd cc
word_some (b ∷ bytes) e = refl

spelled_good : (t : Token) (bytes rest : List ℕ) → Spells t bytes rest → is_good t ≡ true
spelled_good t bytes rest (plain_name p) = word_some bytes (plain_word bytes p).0
spelled_good t bytes rest (quoted_name n s) = n
spelled_good t bytes rest (whole_number n f s) = f
spelled_good t bytes rest (quoted_text s) = refl
spelled_good t bytes rest (reserved_or_sign h) = refl

pub tokens_good : (text : List ℕ) (tokens : List Token) → AreTokens text tokens → each is_good tokens ≡ true
tokens_good text tokens (none k) = refl
tokens_good text tokens (next w t rest {first} {tokens = more} k f are) =
    and_from (is_good first) (each is_good more) (spelled_good first f.prefix rest f.spelled)
    (tokens_good rest more are)

-- ---- parts

good_front : (a b : List Token) → each is_good (a ++ b) ≡ true → (each is_good a ≡ true) × (each is_good b ≡ true)
good_front [] b e = (refl, e)
good_front (t ∷ a) b e =
    let es = and_parts (is_good t) (each is_good (a ++ b)) e in
    let ih = good_front a b es.1 in
    (and_from (is_good t) (each is_good a) es.0 ih.0, ih.1)

head_good : (t : Token) (ts : List Token) → each is_good (t ∷ ts) ≡ true → (is_good t ≡ true) × (each is_good ts ≡ true)
head_good t ts e = and_parts (is_good t) (each is_good ts) e

ref_good : (r : RawRef) (f : List Token) → IsRef r f → each is_good f ≡ true → is_ref r ≡ true
ref_good r f (plain {column}) e = (head_good (token.Name column) [] e).0
ref_good r f (dotted {alias} {column}) e =
    let a = head_good (token.Name alias) (token.Symbol symbol.Dot ∷ token.Name column ∷ []) e in
    let b = head_good (token.Symbol symbol.Dot) (token.Name column ∷ []) a.1 in
    and_from (is_name alias) (is_name column) a.0 (head_good (token.Name column) [] b.1).0

inside_good : (m : Symbol) (r : RawRef) (ref : List Token) → IsRef r ref
    → each is_good (token.Symbol m ∷ token.Symbol symbol.Open ∷ (ref ++ token.Symbol symbol.Close ∷ [])) ≡ true
    → is_ref r ≡ true
inside_good m r ref is e =
    let a = head_good (token.Symbol m) (token.Symbol symbol.Open ∷ (ref ++ token.Symbol symbol.Close ∷ [])) e in
    let b = head_good (token.Symbol symbol.Open) (ref ++ token.Symbol symbol.Close ∷ []) a.1 in
    ref_good r ref is (good_front ref (token.Symbol symbol.Close ∷ []) b.1).0

item_good : (x : RawItem) (f : List Token) → IsItem x f → each is_good f ≡ true → is_item x ≡ true
item_good x f (column {r} is) e = ref_good r f is e
item_good x f count e = refl
item_good x f (sum {r} {ref} is) e = inside_good symbol.Sum r ref is e
item_good x f (min {r} {ref} is) e = inside_good symbol.Min r ref is e
item_good x f (max {r} {ref} is) e = inside_good symbol.Max r ref is e

place_good : (x : RawPlace) (f : List Token) → IsPlace x f → each is_good f ≡ true → is_place x ≡ true
place_good x f (bare {table}) e = let a = head_good (token.Name table) [] e in
    and_from (is_name table) (is_name table) a.0 a.0
place_good x f (called {table} {alias}) e =
    let a = head_good (token.Name table) (token.Name alias ∷ []) e in
    and_from (is_name table) (is_name alias) a.0 (head_good (token.Name alias) [] a.1).0
place_good x f (called_as {table} {alias}) e =
    let a = head_good (token.Name table) (token.Symbol symbol.As ∷ token.Name alias ∷ []) e in
    let b = head_good (token.Symbol symbol.As) (token.Name alias ∷ []) a.1 in
    and_from (is_name table) (is_name alias) a.0 (head_good (token.Name alias) [] b.1).0

operand_good : (x : RawOperand) (t : Token) → IsOperand x t → is_good t ≡ true → is_operand x ≡ true
operand_good x t literal e = e
operand_good x t parameter e = refl

one_good : (m : Symbol) (x : RawOperand) (t : Token) → IsOperand x t → each is_good (token.Symbol m ∷ t ∷ []) ≡ true
    → is_operand x ≡ true
one_good m x t is e = let a = head_good (token.Symbol m) (t ∷ []) e in operand_good x t is (head_good t [] a.1).0

behind_good : {T : Type 0} (Is : T → List Token → Type 0) (test : T → Bool) (m : Symbol)
    → ((x : T) (f : List Token) → Is x f → each is_good f ≡ true → test x ≡ true)
    → (x : T) (f : List Token) → IsBehind Is (token.Symbol m) x f → each is_good f ≡ true → test x ≡ true
behind_good Is test m good x f (behind {tokens} is) e = good x tokens is (head_good (token.Symbol m) tokens e).1

behind_all_good : {T : Type 0} (Is : T → List Token → Type 0) (test : T → Bool) (m : Symbol)
    → ((x : T) (f : List Token) → Is x f → each is_good f ≡ true → test x ≡ true)
    → (xs : List T) (f : List Token) → AreAll (IsBehind Is (token.Symbol m)) xs f → each is_good f ≡ true
    → each test xs ≡ true
behind_all_good Is test m good xs f no_part e = refl
behind_all_good {T} Is test m good xs f (part {x} {xs = ys} {first} {rest} is are) e =
    let a = good_front first rest e in
    and_from (test x) (each test ys) (behind_good Is test m good x first is a.0)
    (behind_all_good Is test m good ys rest are a.1)

listed_good : {T : Type 0} (Is : T → List Token → Type 0) (test : T → Bool) (m : Symbol)
    → ((x : T) (f : List Token) → Is x f → each is_good f ≡ true → test x ≡ true)
    → (xs : List T) (f : List Token) → AreListed Is (token.Symbol m) xs f → each is_good f ≡ true
    → (each test xs ≡ true) × (is_some xs ≡ true)
listed_good Is test m good xs f (listed {x} {xs = ys} {first} {rest} is are) e =
    let a = good_front first rest e in
    (and_from (test x) (each test ys) (good x first is a.0) (behind_all_good Is test m good ys rest are a.1), refl)

alone_good : (x : RawOperand) (f : List Token) → IsListedOperand x f → each is_good f ≡ true → is_operand x ≡ true
alone_good x f (alone {t} is) e = operand_good x t is (head_good t [] e).0

test_good : (x : RawTest) (f : List Token) → IsTest x f → each is_good f ≡ true → is_test x ≡ true
test_good x f (less {x = o} {t} is) e = one_good symbol.Less o t is e
test_good x f (at_most {x = o} {t} is) e = one_good symbol.AtMost o t is e
test_good x f (greater {x = o} {t} is) e = one_good symbol.Greater o t is e
test_good x f (at_least {x = o} {t} is) e = one_good symbol.AtLeast o t is e
test_good x f (equal {x = o} {t} is) e = one_good symbol.Equals o t is e
test_good x f (between {x = o} {y} {t} {u} is js) e =
    let a = head_good (token.Symbol symbol.Between) (t ∷ token.Symbol symbol.And ∷ u ∷ []) e in
    let b = head_good t (token.Symbol symbol.And ∷ u ∷ []) a.1 in
    and_from (is_operand o) (is_operand y) (operand_good o t is b.0) (one_good symbol.And y u js b.1)
test_good x f (one_of {xs} {operands} are) e =
    let a = head_good (token.Symbol symbol.In) (token.Symbol symbol.Open ∷ (operands ++ token.Symbol symbol.Close ∷ []))
    e in
    let b = head_good (token.Symbol symbol.Open) (operands ++ token.Symbol symbol.Close ∷ []) a.1 in
    let c = listed_good IsListedOperand is_operand symbol.Comma alone_good xs operands are
    (good_front operands (token.Symbol symbol.Close ∷ []) b.1).0 in
    and_from (is_some xs) (each is_operand xs) c.1 c.0

cond_good : (x : RawCond) (f : List Token) → IsCond x f → each is_good f ≡ true → is_cond x ≡ true
cond_good x f (tested {r} {t} {ref} {rest} is js) e = let a = good_front ref rest e in
    and_from (is_ref r) (is_test t) (ref_good r ref is a.0) (test_good t rest js a.1)
cond_good x f (same {r} {s} {left} {right} is js) e =
    let a = good_front left (token.Symbol symbol.Equals ∷ right) e in
    and_from (is_ref r) (is_ref s) (ref_good r left is a.0)
    (ref_good s right js (head_good (token.Symbol symbol.Equals) right a.1).1)

key_good : (x : RawKey) (f : List Token) → IsKey x f → each is_good f ≡ true → is_key x ≡ true
key_good x f (rising {r} is) e = ref_good r f is e
key_good x f (rising_asc {r} {ref} is) e = ref_good r ref is (good_front ref (token.Symbol symbol.Asc ∷ []) e).0
key_good x f (falling {r} {ref} is) e = ref_good r ref is (good_front ref (token.Symbol symbol.Desc ∷ []) e).0

each_append : {T : Type 0} (test : T → Bool) (xs ys : List T) → each test xs ≡ true → each test ys ≡ true
    → each test (xs ++ ys) ≡ true
each_append test [] ys p q = q
each_append test (x ∷ xs) ys p q = let a = and_parts (test x) (each test xs) p in
    and_from (test x) (each test (xs ++ ys)) a.0 (each_append test xs ys a.1 q)

conds_good : (cs : List RawCond) (f : List Token) → AreListed IsCond (token.Symbol symbol.And) cs f
    → each is_good f ≡ true → each is_cond cs ≡ true
conds_good cs f are e = (listed_good IsCond is_cond symbol.And cond_good cs f are e).0

joined_good : (x : Joined) (f : List Token) → IsJoined x f → each is_good f ≡ true
    → (is_place x.place ≡ true) × (each is_cond x.conds ≡ true)
joined_good x f (comma {place} {tokens} is) e =
    (place_good place tokens is (head_good (token.Symbol symbol.Comma) tokens e).1, refl)
joined_good x f (join {place} {conds} {first} {rest} is are) e =
    let a = good_front first (token.Symbol symbol.On ∷ rest)
    (head_good (token.Symbol symbol.Join) (first ++ token.Symbol symbol.On ∷ rest) e).1 in
    (place_good place first is a.0, conds_good conds rest are (head_good (token.Symbol symbol.On) rest a.1).1)
joined_good x f (inner_join {place} {conds} {first} {rest} is are) e =
    let b = head_good (token.Symbol symbol.Inner) (token.Symbol symbol.Join ∷ (first ++ token.Symbol symbol.On ∷ rest))
    e in
    let a = good_front first (token.Symbol symbol.On ∷ rest)
    (head_good (token.Symbol symbol.Join) (first ++ token.Symbol symbol.On ∷ rest) b.1).1 in
    (place_good place first is a.0, conds_good conds rest are (head_good (token.Symbol symbol.On) rest a.1).1)

joins_good : (js : List Joined) (f : List Token) → AreAll IsJoined js f → each is_good f ≡ true
    → (each is_place (joined_places js) ≡ true) × (each is_cond (joined_conds js) ≡ true)
joins_good js f no_part e = (refl, refl)
joins_good js f (part {x} {xs = ys} {first} {rest} is are) e =
    let a = good_front first rest e in
    let b = joined_good x first is a.0 in
    let c = joins_good ys rest are a.1 in (
      and_from (is_place x.place) (each is_place (joined_places ys)) b.0 c.0,
      each_append is_cond x.conds (joined_conds ys) b.1 c.1,
    )

where_good : (cs : List RawCond) (f : List Token) → IsWhere cs f → each is_good f ≡ true → each is_cond cs ≡ true
where_good cs f no_where e = refl
where_good cs f (filtered {tokens} are) e = conds_good cs tokens are (head_good (token.Symbol symbol.Where) tokens e).1

group_good : (rs : List RawRef) (f : List Token) → IsGroup rs f → each is_good f ≡ true → each is_ref rs ≡ true
group_good rs f no_group e = refl
group_good rs f (grouped {tokens} are) e =
    (listed_good IsRef is_ref symbol.Comma ref_good rs tokens are
    (head_good (token.Symbol symbol.By) tokens
    (head_good (token.Symbol symbol.Group) (token.Symbol symbol.By ∷ tokens) e).1).1).0

order_good : (ks : List RawKey) (f : List Token) → IsOrder ks f → each is_good f ≡ true → each is_key ks ≡ true
order_good ks f no_order e = refl
order_good ks f (ordered {tokens} are) e =
    (listed_good IsKey is_key symbol.Comma key_good ks tokens are
    (head_good (token.Symbol symbol.By) tokens
    (head_good (token.Symbol symbol.Order) (token.Symbol symbol.By ∷ tokens) e).1).1).0

-- a statement of such tokens is sound
pub statement_good : (s : Parts) (tokens : List Token) → IsStatement s tokens → each is_good tokens ≡ true → IsSound s
statement_good s tokens (statement {items} {place} {joins} {conds} {groups} {keys} {select} {from} {further} {where_}
    {group} {order} {end} are is js ws gs os es) e =
    let more : List Token = from ++ (further ++ (where_ ++ (group ++ (order ++ end)))) in
    let a = good_front select (token.Symbol symbol.From ∷ more)
    (head_good (token.Symbol symbol.Select) (select ++ token.Symbol symbol.From ∷ more) e).1 in
    let b = good_front from (further ++ (where_ ++ (group ++ (order ++ end))))
    (head_good (token.Symbol symbol.From) more a.1).1 in
    let c = good_front further (where_ ++ (group ++ (order ++ end))) b.1 in
    let d = good_front where_ (group ++ (order ++ end)) c.1 in
    let f = good_front group (order ++ end) d.1 in
    let items_good = listed_good IsItem is_item symbol.Comma item_good items select are a.0 in
    let joins_are = joins_good joins further js c.0 in
    record {
      selects = items_good.1;
      from = refl;
      items = items_good.0;
      places = and_from (is_place place) (each is_place (joined_places joins)) (place_good place from is b.0)
          joins_are.0;
      conds = each_append is_cond (joined_conds joins) conds joins_are.1 (where_good conds where_ ws d.0);
      groups = group_good groups group gs f.0;
      order = order_good keys order os (good_front order end f.1).0;
    }

pub parts_sound : (tokens : List Token) (s : Parts) (rest : List Token) → statement_at tokens ≡ Some (s, rest)
    → each is_good tokens ≡ true → IsSound s
parts_sound tokens s rest e g = statement_good s tokens (statement_sound tokens s rest e).0 g
