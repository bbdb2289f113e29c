-- The names in a statement that a line spells are of one line.
use Rattle.std.proofs.Common.{◌≡◌, ℕ, Bool, true, false, Some, None, Option, List, [], ◌∷◌, ◌++◌, ◌&&◌, ◌==◌, not, refl}
use Rattle.std.proofs.Common.{subst, cond, sym}
use Rattle.sql_parser.specs.Statement.{Parts, each}
use Rattle.sql_parser.specs.Grammar.{IsRef, plain, dotted, IsItem, column, count, sum, min, max, IsPlace, bare, called}
use Rattle.sql_parser.specs.Grammar.{called_as, IsCond, tested, same, IsKey, rising, rising_asc, falling, AreAll}
use Rattle.sql_parser.specs.Grammar.{no_part, part, IsBehind, behind, AreListed, listed, Joined, IsJoined, comma, join}
use Rattle.sql_parser.specs.Grammar.{inner_join, joined_places, joined_conds, IsWhere, no_where, filtered, IsGroup}
use Rattle.sql_parser.specs.Grammar.{no_group, grouped, IsOrder, no_order, ordered, IsStatement, statement}
use Rattle.sql_parser.specs.declared.statement.RawRef.{RawRef}
use Rattle.sql_parser.specs.declared.statement.RawPlace.{RawPlace}
use Rattle.sql_parser.specs.declared.statement.RawItem.{RawItem}
use Rattle.sql_parser.specs.declared.statement.RawItem.TheVariants as item
use Rattle.sql_parser.specs.declared.statement.RawCond.{RawCond}
use Rattle.sql_parser.specs.declared.statement.RawCond.TheVariants as condition
use Rattle.sql_parser.specs.declared.statement.RawKey.{RawKey}
use Rattle.sql_parser.specs.declared.tokens.Symbol.{Symbol}
use Rattle.sql_parser.specs.declared.tokens.Symbol.TheVariants as symbol
use Rattle.sql_parser.specs.declared.tokens.Token.{Token}
use Rattle.sql_parser.specs.declared.tokens.Token.TheVariants as token
use Rattle.sql_parser.specs.Spelled.{statement_of}
use Rattle.sql_parser.specs.Tokens.{Spells, plain_name, quoted_name, whole_number, quoted_text, reserved_or_sign}
use Rattle.sql_parser.specs.Tokens.{AreTokens, IsFirst, doubled, none, next}
use Rattle.sql_parser.proofs.FunctionsAreGrammar.{spelled_only}
use Rattle.std.proofs.lemmas.Bool.{and_from, and_parts, eqb-true}
use Rattle.reported_items.specs.Reported.{is_one_line}
use Rattle.reported_items.proofs.LineNames.{line_parts}

-- whether a token's name is of one line
abbrev pub is_lined : Token → Bool
is_lined (token.Name name) = is_one_line name
is_lined (token.Literal value) = true
is_lined (token.Symbol found) = true

-- whether the names of a reference are of one line
abbrev pub lined_ref_of : Option (List ℕ) → List ℕ → Bool
lined_ref_of None name = is_one_line name
lined_ref_of (Some alias) name = is_one_line alias && is_one_line name

abbrev pub lined_ref : RawRef → Bool
lined_ref r = lined_ref_of r.alias r.column

abbrev pub lined_place : RawPlace → Bool
lined_place place = is_one_line place.table && is_one_line place.alias

abbrev pub lined_item : RawItem → Bool
lined_item (item.Column r) = lined_ref r
lined_item item.CountAll = true
lined_item (item.Sum r) = lined_ref r
lined_item (item.Min r) = lined_ref r
lined_item (item.Max r) = lined_ref r

abbrev pub lined_cond : RawCond → Bool
lined_cond (condition.Test r t) = lined_ref r
lined_cond (condition.Same a b) = lined_ref a && lined_ref b

abbrev pub lined_key : RawKey → Bool
lined_key key = lined_ref key.at

-- all names of a statement are of one line
pub record IsLined (s : Parts) : Type 0 where
  pub items : each lined_item s.items ≡ true
  pub places : each lined_place s.places ≡ true
  pub conds : each lined_cond s.conds ≡ true
  pub groups : each lined_ref s.groups ≡ true
  pub order : each lined_key s.order ≡ true

-- what is quoted on one line is of one line
unquoted_line : (quote : ℕ) (bytes more : List ℕ) → is_one_line (doubled quote bytes ++ more) ≡ true
    → is_one_line bytes ≡ true
unquoted_line quote [] more h = refl
unquoted_line quote (byte ∷ bytes) more h = by_test (byte == quote) refl h (unquoted_line quote bytes more)
  where
    by_test : (test : Bool) → byte == quote ≡ test
        → is_one_line (cond test (quote ∷ quote ∷ doubled quote bytes) (byte ∷ doubled quote bytes) ++ more) ≡ true
        → (is_one_line (doubled quote bytes ++ more) ≡ true → is_one_line bytes ≡ true)
        → is_one_line (byte ∷ bytes) ≡ true
    by_test true e k later =
        let a = and_parts (not (quote == 10)) (is_one_line (quote ∷ (doubled quote bytes ++ more))) k in
        let b = and_parts (not (quote == 10)) (is_one_line (doubled quote bytes ++ more)) a.1 in
        let is : byte ≡ quote = eqb-true byte quote e in
        and_from (not (byte == 10)) (is_one_line bytes) (subst (λ n. not (n == 10) ≡ true) (sym is) a.0)
        (later b.1)
    by_test false e k later =
        let a = and_parts (not (byte == 10)) (is_one_line (doubled quote bytes ++ more)) k in
        and_from (not (byte == 10)) (is_one_line bytes) a.0 (later a.1)

spelled_good : (t : Token) (bytes rest : List ℕ) → Spells t bytes rest → is_one_line bytes ≡ true
    → is_lined t ≡ true
spelled_good t bytes rest (plain_name p) h = h
spelled_good t bytes rest (quoted_name {bytes = name} n s) h = unquoted_line 34 name (34 ∷ []) h
spelled_good t bytes rest (whole_number n f s) h = refl
spelled_good t bytes rest (quoted_text s) h = refl
spelled_good t bytes rest (reserved_or_sign k) h = refl

-- the first token of a line is of one line, and so is what follows
pub first_lined : (t : Token) (text rest : List ℕ) → IsFirst t text rest → is_one_line text ≡ true
    → (is_lined t ≡ true) × (is_one_line rest ≡ true)
first_lined t text rest first h =
    let p = line_parts first.prefix rest (subst (λ (z : List ℕ). is_one_line z ≡ true) first.whole h) in
    (spelled_good t first.prefix rest first.spelled p.0, p.1)

pub tokens_good : (text : List ℕ) (tokens : List Token) → AreTokens text tokens → is_one_line text ≡ true
    → each is_lined tokens ≡ true
tokens_good text tokens (none k) h = refl
tokens_good text tokens (next w t rest {first} {tokens = more} k f are) h =
    let p = line_parts w t h in
    let one = first_lined first t rest f p.1 in
    and_from (is_lined first) (each is_lined more) one.0 (tokens_good rest more are one.1)

good_front : (a b : List Token) → each is_lined (a ++ b) ≡ true → (each is_lined a ≡ true) × (each is_lined b ≡ true)
good_front [] b e = (refl, e)
good_front (t ∷ a) b e =
    let es = and_parts (is_lined t) (each is_lined (a ++ b)) e in
    let ih = good_front a b es.1 in
    (and_from (is_lined t) (each is_lined a) es.0 ih.0, ih.1)

head_good : (t : Token) (ts : List Token) → each is_lined (t ∷ ts) ≡ true
    → (is_lined t ≡ true) × (each is_lined ts ≡ true)
head_good t ts e = and_parts (is_lined t) (each is_lined ts) e

ref_good : (r : RawRef) (f : List Token) → IsRef r f → each is_lined f ≡ true → lined_ref r ≡ true
ref_good r f (plain {column}) e = (head_good (token.Name column) [] e).0
ref_good r f (dotted {alias} {column}) e =
    let a = head_good (token.Name alias) (token.Symbol symbol.Dot ∷ token.Name column ∷ []) e in
    let b = head_good (token.Symbol symbol.Dot) (token.Name column ∷ []) a.1 in
    and_from (is_one_line alias) (is_one_line column) a.0 (head_good (token.Name column) [] b.1).0

inside_good : (m : Symbol) (r : RawRef) (ref : List Token) → IsRef r ref
    → each is_lined (token.Symbol m ∷ token.Symbol symbol.Open ∷ (ref ++ token.Symbol symbol.Close ∷ [])) ≡ true
    → lined_ref r ≡ true
inside_good m r ref is e =
    let a = head_good (token.Symbol m) (token.Symbol symbol.Open ∷ (ref ++ token.Symbol symbol.Close ∷ [])) e in
    let b = head_good (token.Symbol symbol.Open) (ref ++ token.Symbol symbol.Close ∷ []) a.1 in
    ref_good r ref is (good_front ref (token.Symbol symbol.Close ∷ []) b.1).0

item_good : (x : RawItem) (f : List Token) → IsItem x f → each is_lined f ≡ true → lined_item x ≡ true
item_good x f (column {r} is) e = ref_good r f is e
item_good x f count e = refl
item_good x f (sum {r} {ref} is) e = inside_good symbol.Sum r ref is e
item_good x f (min {r} {ref} is) e = inside_good symbol.Min r ref is e
item_good x f (max {r} {ref} is) e = inside_good symbol.Max r ref is e

place_good : (x : RawPlace) (f : List Token) → IsPlace x f → each is_lined f ≡ true → lined_place x ≡ true
place_good x f (bare {table}) e = let a = head_good (token.Name table) [] e in
    and_from (is_one_line table) (is_one_line table) a.0 a.0
place_good x f (called {table} {alias}) e =
    let a = head_good (token.Name table) (token.Name alias ∷ []) e in
    and_from (is_one_line table) (is_one_line alias) a.0 (head_good (token.Name alias) [] a.1).0
place_good x f (called_as {table} {alias}) e =
    let a = head_good (token.Name table) (token.Symbol symbol.As ∷ token.Name alias ∷ []) e in
    let b = head_good (token.Symbol symbol.As) (token.Name alias ∷ []) a.1 in
    and_from (is_one_line table) (is_one_line alias) a.0 (head_good (token.Name alias) [] b.1).0

behind_good : {T : Type 0} (Is : T → List Token → Type 0) (test : T → Bool) (m : Symbol)
    → ((x : T) (f : List Token) → Is x f → each is_lined f ≡ true → test x ≡ true)
    → (x : T) (f : List Token) → IsBehind Is (token.Symbol m) x f → each is_lined f ≡ true → test x ≡ true
behind_good Is test m good x f (behind {tokens} is) e = good x tokens is (head_good (token.Symbol m) tokens e).1

behind_all_good : {T : Type 0} (Is : T → List Token → Type 0) (test : T → Bool) (m : Symbol)
    → ((x : T) (f : List Token) → Is x f → each is_lined f ≡ true → test x ≡ true)
    → (xs : List T) (f : List Token) → AreAll (IsBehind Is (token.Symbol m)) xs f → each is_lined f ≡ true
    → each test xs ≡ true
behind_all_good Is test m good xs f no_part e = refl
behind_all_good {T} Is test m good xs f (part {x} {xs = ys} {first} {rest} is are) e =
    let a = good_front first rest e in
    and_from (test x) (each test ys) (behind_good Is test m good x first is a.0)
    (behind_all_good Is test m good ys rest are a.1)

listed_good : {T : Type 0} (Is : T → List Token → Type 0) (test : T → Bool) (m : Symbol)
    → ((x : T) (f : List Token) → Is x f → each is_lined f ≡ true → test x ≡ true)
    → (xs : List T) (f : List Token) → AreListed Is (token.Symbol m) xs f → each is_lined f ≡ true
    → each test xs ≡ true
listed_good Is test m good xs f (listed {x} {xs = ys} {first} {rest} is are) e =
    let a = good_front first rest e in
    and_from (test x) (each test ys) (good x first is a.0) (behind_all_good Is test m good ys rest are a.1)

cond_good : (x : RawCond) (f : List Token) → IsCond x f → each is_lined f ≡ true → lined_cond x ≡ true
cond_good x f (tested {r} {t} {ref} {rest} is js) e = let a = good_front ref rest e in
    ref_good r ref is a.0
cond_good x f (same {r} {s} {left} {right} is js) e =
    let a = good_front left (token.Symbol symbol.Equals ∷ right) e in
    and_from (lined_ref r) (lined_ref s) (ref_good r left is a.0)
    (ref_good s right js (head_good (token.Symbol symbol.Equals) right a.1).1)

key_good : (x : RawKey) (f : List Token) → IsKey x f → each is_lined f ≡ true → lined_key x ≡ true
key_good x f (rising {r} is) e = ref_good r f is e
key_good x f (rising_asc {r} {ref} is) e = ref_good r ref is (good_front ref (token.Symbol symbol.Asc ∷ []) e).0
key_good x f (falling {r} {ref} is) e = ref_good r ref is (good_front ref (token.Symbol symbol.Desc ∷ []) e).0

each_append : {T : Type 0} (test : T → Bool) (xs ys : List T) → each test xs ≡ true → each test ys ≡ true
    → each test (xs ++ ys) ≡ true
each_append test [] ys p q = q
each_append test (x ∷ xs) ys p q = let a = and_parts (test x) (each test xs) p in
    and_from (test x) (each test (xs ++ ys)) a.0 (each_append test xs ys a.1 q)

conds_good : (cs : List RawCond) (f : List Token) → AreListed IsCond (token.Symbol symbol.And) cs f
    → each is_lined f ≡ true → each lined_cond cs ≡ true
conds_good cs f are e = listed_good IsCond lined_cond symbol.And cond_good cs f are e

joined_good : (x : Joined) (f : List Token) → IsJoined x f → each is_lined f ≡ true
    → (lined_place x.place ≡ true) × (each lined_cond x.conds ≡ true)
joined_good x f (comma {place} {tokens} is) e =
    (place_good place tokens is (head_good (token.Symbol symbol.Comma) tokens e).1, refl)
joined_good x f (join {place} {conds} {first} {rest} is are) e =
    let a = good_front first (token.Symbol symbol.On ∷ rest)
    (head_good (token.Symbol symbol.Join) (first ++ token.Symbol symbol.On ∷ rest) e).1 in
    (place_good place first is a.0, conds_good conds rest are (head_good (token.Symbol symbol.On) rest a.1).1)
joined_good x f (inner_join {place} {conds} {first} {rest} is are) e =
    let b = head_good (token.Symbol symbol.Inner) (token.Symbol symbol.Join ∷ (first ++ token.Symbol symbol.On ∷ rest))
    e in
    let a = good_front first (token.Symbol symbol.On ∷ rest)
    (head_good (token.Symbol symbol.Join) (first ++ token.Symbol symbol.On ∷ rest) b.1).1 in
    (place_good place first is a.0, conds_good conds rest are (head_good (token.Symbol symbol.On) rest a.1).1)

joins_good : (js : List Joined) (f : List Token) → AreAll IsJoined js f → each is_lined f ≡ true
    → (each lined_place (joined_places js) ≡ true) × (each lined_cond (joined_conds js) ≡ true)
joins_good js f no_part e = (refl, refl)
joins_good js f (part {x} {xs = ys} {first} {rest} is are) e =
    let a = good_front first rest e in
    let b = joined_good x first is a.0 in
    let c = joins_good ys rest are a.1 in (
      and_from (lined_place x.place) (each lined_place (joined_places ys)) b.0 c.0,
      each_append lined_cond x.conds (joined_conds ys) b.1 c.1,
    )

where_good : (cs : List RawCond) (f : List Token) → IsWhere cs f → each is_lined f ≡ true → each lined_cond cs ≡ true
where_good cs f no_where e = refl
where_good cs f (filtered {tokens} are) e = conds_good cs tokens are (head_good (token.Symbol symbol.Where) tokens e).1

group_good : (rs : List RawRef) (f : List Token) → IsGroup rs f → each is_lined f ≡ true → each lined_ref rs ≡ true
group_good rs f no_group e = refl
group_good rs f (grouped {tokens} are) e =
    listed_good IsRef lined_ref symbol.Comma ref_good rs tokens are
    (head_good (token.Symbol symbol.By) tokens
    (head_good (token.Symbol symbol.Group) (token.Symbol symbol.By ∷ tokens) e).1).1

order_good : (ks : List RawKey) (f : List Token) → IsOrder ks f → each is_lined f ≡ true → each lined_key ks ≡ true
order_good ks f no_order e = refl
order_good ks f (ordered {tokens} are) e =
    listed_good IsKey lined_key symbol.Comma key_good ks tokens are
    (head_good (token.Symbol symbol.By) tokens
    (head_good (token.Symbol symbol.Order) (token.Symbol symbol.By ∷ tokens) e).1).1

-- a statement of such tokens is sound
pub statement_good : (s : Parts) (tokens : List Token) → IsStatement s tokens → each is_lined tokens ≡ true → IsLined s
statement_good s tokens (statement {items} {place} {joins} {conds} {groups} {keys} {select} {from} {further} {where_}
    {group} {order} {end} are is js ws gs os es) e =
    let more : List Token = from ++ (further ++ (where_ ++ (group ++ (order ++ end)))) in
    let a = good_front select (token.Symbol symbol.From ∷ more)
    (head_good (token.Symbol symbol.Select) (select ++ token.Symbol symbol.From ∷ more) e).1 in
    let b = good_front from (further ++ (where_ ++ (group ++ (order ++ end))))
    (head_good (token.Symbol symbol.From) more a.1).1 in
    let c = good_front further (where_ ++ (group ++ (order ++ end))) b.1 in
    let d = good_front where_ (group ++ (order ++ end)) c.1 in
    let f = good_front group (order ++ end) d.1 in
    let items_good = listed_good IsItem lined_item symbol.Comma item_good items select are a.0 in
    let joins_are = joins_good joins further js c.0 in
    record {
      items = items_good;
      places = and_from (lined_place place) (each lined_place (joined_places joins)) (place_good place from is b.0)
          joins_are.0;
      conds = each_append lined_cond (joined_conds joins) conds joins_are.1 (where_good conds where_ ws d.0);
      groups = group_good groups group gs f.0;
      order = order_good keys order os (good_front order end f.1).0;
    }

-- a statement that a line spells
pub statement_lined : (text : List ℕ) (s : Parts) → statement_of text ≡ Some s → is_one_line text ≡ true → IsLined s
statement_lined text s e h =
    let spelled = spelled_only text s e in
    statement_good s spelled.tokens spelled.spelled (tokens_good text spelled.tokens spelled.are h)
