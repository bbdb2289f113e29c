-- What reading takes is spelled so: each part of a statement, and the statement.
use Rattle.std.proofs.Common.{◌≡◌, ℕ, zero, suc, ◌<◌, Bool, true, false, cond, Option, Some, None, List, [], ◌∷◌, ◌++◌}
use Rattle.std.proofs.Common.{length, drop, refl, sym, ◌∙◌, ap, subst, arith}
use Rattle.std.proofs.lemmas.Bool.{cond_both}
use Rattle.std.proofs.lemmas.List.{append_assoc, append-nil, length-append}
use Rattle.sql_parser.specs.Statement.{Parts}
use Rattle.sql_parser.specs.Grammar.{IsRef, plain, dotted, IsItem, column, count, sum, min, max, IsPlace, bare, called}
use Rattle.sql_parser.specs.Grammar.{called_as, literal, parameter, IsOperand, IsListedOperand, alone, IsTest, less}
use Rattle.sql_parser.specs.Grammar.{at_most, greater, at_least, equal, between, one_of, IsCond, tested, same, IsKey}
use Rattle.sql_parser.specs.Grammar.{rising, rising_asc, falling, AreAll, no_part, part, IsBehind, behind, AreListed}
use Rattle.sql_parser.specs.Grammar.{listed, Joined, IsJoined, comma, join, inner_join, joined_places, joined_conds}
use Rattle.sql_parser.specs.Grammar.{IsWhere, no_where, filtered, IsGroup, no_group, grouped, IsOrder, no_order}
use Rattle.sql_parser.specs.Grammar.{ordered, IsEnd, bare_end, semicolon, IsStatement, statement}
use Rattle.sql_parser.specs.Reading.{◌>>=◌, begins, begins_name, symbol_at, ref_at, enclosed_at, count_at, item_at}
use Rattle.sql_parser.specs.Reading.{place_at, operand_at, between_at, in_at, test_at, cond_at, key_at, all_at, more_at}
use Rattle.sql_parser.specs.Reading.{list_at, begins_joined, join_at, joined_at, joins_at, where_at, group_at, order_at}
use Rattle.sql_parser.specs.Reading.{is_end, end_at, from_at, source_at, statement_at}
use Rattle.sql_parser.specs.declared.statement.RawRef.{RawRef}
use Rattle.sql_parser.specs.declared.statement.RawPlace.{RawPlace}
use Rattle.sql_parser.specs.declared.statement.RawItem.{RawItem}
use Rattle.sql_parser.specs.declared.statement.RawItem.TheVariants as item
use Rattle.sql_parser.specs.declared.statement.RawOperand.{RawOperand}
use Rattle.sql_parser.specs.declared.statement.RawTest.{RawTest}
use Rattle.sql_parser.specs.declared.statement.RawTest.TheVariants as test
use Rattle.sql_parser.specs.declared.statement.RawCond.{RawCond}
use Rattle.sql_parser.specs.declared.statement.RawCond.TheVariants as cond_
use Rattle.sql_parser.specs.declared.statement.RawKey.{RawKey}
use Rattle.sql_parser.specs.declared.tokens.Symbol.{Symbol}
use Rattle.sql_parser.specs.declared.tokens.Symbol.TheVariants as symbol
use Rattle.sql_parser.specs.declared.tokens.Token.{Token}
use Rattle.sql_parser.specs.declared.tokens.Token.TheVariants as token
use Rattle.sql_parser.proofs.Readers.{Reads, refused, pair_is, reads_taken, done, part_then, part_last, part_as}
use Rattle.sql_parser.proofs.Readers.{symbol_front, symbol_or, either, symbol_then, name_then, literal_then}
use Rattle.sql_parser.proofs.Readers.{taken_shorter, begins_shorter}

-- ---- references and items

pub ref_reads : (tokens : List Token) → Reads IsRef tokens (ref_at tokens)
unfolding ref_at
ref_reads tokens = name_then _
    (λ first rest. symbol_or symbol.Dot (name_then _ (λ column rest. done dotted)) (done plain))

-- a reference between brackets
data IsEnclosed : RawRef → List Token → Type 0 where
  enclosed : {r : RawRef} {ref : List Token} → IsRef r ref
      → IsEnclosed r (token.Symbol symbol.Open ∷ (ref ++ token.Symbol symbol.Close ∷ []))

enclosed_reads : (tokens : List Token) → Reads IsEnclosed tokens (enclosed_at tokens)
unfolding enclosed_at
enclosed_reads tokens = symbol_then symbol.Open _
    (λ rest. part_then _ (ref_reads rest) (λ r ref rest is. symbol_then symbol.Close _ (λ rest. done (enclosed is))))

count_reads : (tokens : List Token) → Reads (λ x g. IsItem x (token.Symbol symbol.Count ∷ g)) tokens (count_at tokens)
unfolding count_at
count_reads tokens = symbol_then symbol.Open _
    (λ rest. symbol_then symbol.Star _ (λ rest. symbol_then symbol.Close _ (λ rest. done count)))

aggregate : (make : RawRef → RawItem) (m : Symbol)
    → ((r : RawRef) (ref : List Token) → IsRef r ref
    → IsItem (make r) (token.Symbol m ∷ token.Symbol symbol.Open ∷ (ref ++ token.Symbol symbol.Close ∷ [])))
    → (r : RawRef) (f : List Token) → IsEnclosed r f → IsItem (make r) (token.Symbol m ∷ f)
aggregate make m is r f (enclosed {ref} h) = is r ref h

pub item_reads : (tokens : List Token) → Reads IsItem tokens (item_at tokens)
unfolding item_at
item_reads tokens =
    symbol_or symbol.Count (count_reads (drop 1 tokens))
    (symbol_or symbol.Sum (part_last item.Sum (enclosed_reads (drop 1 tokens))
    (aggregate item.Sum symbol.Sum (λ r ref is. sum is)))
    (symbol_or symbol.Min (part_last item.Min (enclosed_reads (drop 1 tokens))
    (aggregate item.Min symbol.Min (λ r ref is. min is)))
    (symbol_or symbol.Max (part_last item.Max (enclosed_reads (drop 1 tokens))
    (aggregate item.Max symbol.Max (λ r ref is. max is)))
    (part_last item.Column (ref_reads tokens) (λ r ref is. column is)))))

pub place_reads : (tokens : List Token) → Reads IsPlace tokens (place_at tokens)
unfolding place_at
place_reads tokens = name_then _ (λ table rest.
    symbol_or symbol.As (name_then _ (λ alias rest. done called_as))
    (either (begins_name rest) (name_then _ (λ alias rest. done called)) (done bare)))

-- ---- lists

all_reads : {T : Type 0} (Is : T → List Token → Type 0) (starts : List Token → Bool) (at : List Token
    → Option (T × List Token))
    → ((tokens : List Token) → starts tokens ≡ true → Reads Is tokens (at tokens))
    → (n : ℕ) (tokens : List Token) → Reads (AreAll Is) tokens (all_at starts at n tokens)
all_reads Is starts at reads zero tokens = refused
all_reads Is starts at reads (suc n) tokens =
    cond_both (starts tokens) _ _ (Reads (AreAll Is) tokens)
    (λ b. part_then _ (reads tokens b)
    (λ x f rest is. part_last (λ xs. x ∷ xs) (all_reads Is starts at reads n rest) (λ xs g are. part is are)))
    (λ b. done no_part)

behind_reads : {T : Type 0} (Is : T → List Token → Type 0) (separator : Symbol) (at : List Token
    → Option (T × List Token))
    → ((tokens : List Token) → Reads Is tokens (at tokens)) → (tokens : List Token) → begins separator tokens ≡ true
    → Reads (IsBehind Is (token.Symbol separator)) tokens (at (drop 1 tokens))
behind_reads Is separator at reads tokens b =
    symbol_front separator b (part_as (reads (drop 1 tokens)) (λ x f is. behind is))

pub list_reads : {T : Type 0} (Is : T → List Token → Type 0) (separator : Symbol) (at : List Token
    → Option (T × List Token))
    → ((tokens : List Token) → Reads Is tokens (at tokens)) → (tokens : List Token)
    → Reads (AreListed Is (token.Symbol separator)) tokens (list_at separator at tokens)
unfolding list_at more_at
list_reads Is separator at reads tokens = part_then _ (reads tokens) (λ x f rest is.
    part_last (λ xs. x ∷ xs) (all_reads (IsBehind Is (token.Symbol separator)) (begins separator) (λ z. at (drop 1 z))
    (behind_reads Is separator at reads) (suc (length rest)) rest)
    (λ xs g are. listed is are))

-- ---- operands, tests, conditions and keys

pub operand_reads : (tokens : List Token) → Reads IsListedOperand tokens (operand_at tokens)
unfolding operand_at
operand_reads tokens = symbol_or symbol.Question (done (alone parameter))
    (literal_then _ (λ v rest. done (alone literal)))

operands_reads : (tokens : List Token)
    → Reads (AreListed IsListedOperand (token.Symbol symbol.Comma)) tokens (list_at symbol.Comma operand_at tokens)
operands_reads tokens = list_reads IsListedOperand symbol.Comma operand_at operand_reads tokens

operand_there : (xs : List RawOperand) (f : List Token) → AreListed IsListedOperand (token.Symbol symbol.Comma) xs f
    → 0 < length xs
operand_there xs f (listed is are) = omega arith

pub some_operand : (tokens : List Token) (xs : List RawOperand) (rest : List Token)
    → list_at symbol.Comma operand_at tokens ≡ Some (xs, rest) → 0 < length xs
some_operand tokens xs rest e =
    let t = reads_taken (AreListed IsListedOperand (token.Symbol symbol.Comma)) tokens
    (list_at symbol.Comma operand_at tokens) xs rest (operands_reads tokens) e in
    operand_there xs t.prefix t.is

compared : (make : RawOperand → RawTest) (m : Symbol)
    → ((x : RawOperand) (t : Token) → IsOperand x t → IsTest (make x) (token.Symbol m ∷ t ∷ []))
    → (x : RawOperand) (f : List Token) → IsListedOperand x f → IsTest (make x) (token.Symbol m ∷ f)
compared make m is x f (alone {t} h) = is x t h

both_ends : (x y : RawOperand) (f g : List Token) → IsListedOperand x f → IsListedOperand y g
    → IsTest (test.Between x y) (token.Symbol symbol.Between ∷ (f ++ token.Symbol symbol.And ∷ g))
both_ends x y f g (alone is) (alone js) = between is js

between_reads : (tokens : List Token) → Reads IsTest tokens (between_at tokens)
unfolding between_at
between_reads tokens = symbol_then symbol.Between _
    (λ rest. part_then _ (operand_reads rest) (λ x f rest is. symbol_then symbol.And _ (λ rest.
    part_last (λ y. test.Between x y) (operand_reads rest) (λ y g js. both_ends x y f g is js))))

in_reads : (tokens : List Token) → Reads (λ x g. IsTest x (token.Symbol symbol.In ∷ g)) tokens (in_at tokens)
unfolding in_at
in_reads tokens = symbol_then symbol.Open _
    (λ rest. part_then _ (operands_reads rest)
    (λ xs f rest are. symbol_then symbol.Close _ (λ rest. done (one_of are))))

pub test_reads : (tokens : List Token) → Reads IsTest tokens (test_at tokens)
unfolding test_at
test_reads tokens =
    symbol_or symbol.Less (part_last test.Lt (operand_reads (drop 1 tokens))
    (compared test.Lt symbol.Less (λ x t is. less is)))
    (symbol_or symbol.AtMost (part_last test.Le (operand_reads (drop 1 tokens))
    (compared test.Le symbol.AtMost (λ x t is. at_most is)))
    (symbol_or symbol.Greater (part_last test.Gt (operand_reads (drop 1 tokens))
    (compared test.Gt symbol.Greater (λ x t is. greater is)))
    (symbol_or symbol.AtLeast (part_last test.Ge (operand_reads (drop 1 tokens))
    (compared test.Ge symbol.AtLeast (λ x t is. at_least is)))
    (symbol_or symbol.Equals (part_last test.Eq (operand_reads (drop 1 tokens))
    (compared test.Eq symbol.Equals (λ x t is. equal is)))
    (symbol_or symbol.In (in_reads (drop 1 tokens)) (between_reads tokens))))))

equals : (r : RawRef) (ref f : List Token) (x : RawOperand) → IsRef r ref → IsListedOperand x f
    → IsCond (cond_.Test r (test.Eq x)) (ref ++ token.Symbol symbol.Equals ∷ f)
equals r ref f x is (alone js) = tested is (equal js)

pub cond_reads : (tokens : List Token) → Reads IsCond tokens (cond_at tokens)
unfolding cond_at
cond_reads tokens = part_then _ (ref_reads tokens) (λ r f rest is.
    symbol_or symbol.Equals
    (either (begins_name (drop 1 rest))
    (part_last (λ s. cond_.Same r s) (ref_reads (drop 1 rest)) (λ s g js. same is js))
    (part_last (λ x. cond_.Test r (test.Eq x)) (operand_reads (drop 1 rest)) (λ x g js. equals r f g x is js)))
    (part_last (λ t. cond_.Test r t) (test_reads rest) (λ t g js. tested is js)))

bare_key : (r : RawRef) (f : List Token) → IsRef r f → IsKey (record { at = r; descending = false }) (f ++ [])
bare_key r f is = let P : List Token → Type 0 = λ z. IsKey (record { at = r; descending = false }) z in
    subst P (sym (append-nil f)) (rising is)

pub key_reads : (tokens : List Token) → Reads IsKey tokens (key_at tokens)
unfolding key_at
key_reads tokens = part_then _ (ref_reads tokens)
    (λ r f rest is. symbol_or symbol.Desc (done (falling is))
    (symbol_or symbol.Asc (done (rising_asc is)) (done (bare_key r f is))))

-- a part of a list leaves fewer tokens than stood there with its separator
pub list_shorter : {T : Type 0} (Is : T → List Token
    → Type 0) (m : Symbol) (old tokens rest : List Token) (at : List Token → Option (T × List Token)) (x : T)
    → ((tokens : List Token) → Reads Is tokens (at tokens)) → begins m old ≡ true → tokens ≡ drop 1 old
    → at tokens ≡ Some (x, rest) → length rest < length old
list_shorter Is m old tokens rest at x reads b d e =
    let s = taken_shorter Is x tokens rest (reads_taken Is tokens (at tokens) x rest (reads tokens) e) in
    let t = begins_shorter m old b in
    omega (arith, ap length d)

-- ---- joins

conds_read : (tokens : List Token)
    → Reads (AreListed IsCond (token.Symbol symbol.And)) tokens (list_at symbol.And cond_at tokens)
conds_read tokens = list_reads IsCond symbol.And cond_at cond_reads tokens

-- a join, whatever stands in front of it
join_reads : (Is : Joined → List Token → Type 0)
    → ((place : RawPlace) (conds : List RawCond) (first rest : List Token) → IsPlace place first
    → AreListed IsCond (token.Symbol symbol.And) conds rest
    → Is (record { place = place; conds = conds }) (token.Symbol symbol.Join
    ∷ (first ++ token.Symbol symbol.On ∷ rest)))
    → (tokens : List Token) → Reads Is tokens (join_at tokens)
unfolding join_at
join_reads Is make tokens = symbol_then symbol.Join _
    (λ rest. part_then _ (place_reads rest) (λ p f rest is. symbol_then symbol.On _ (λ rest.
    part_last (λ cs. record { place = p; conds = cs }) (conds_read rest) (λ cs g are. make p cs f g is are))))

inner_reads : (tokens : List Token)
    → Reads IsJoined tokens (join_at (cond (begins symbol.Inner tokens) (drop 1 tokens) tokens))
inner_reads tokens =
    let P : Option (Joined × List Token) → Type 0 = Reads IsJoined tokens in
    subst P (moved (begins symbol.Inner tokens))
    (symbol_or symbol.Inner (join_reads (λ x g. IsJoined x (token.Symbol symbol.Inner ∷ g))
    (λ p cs f g is are. inner_join is are) (drop 1 tokens))
    (join_reads IsJoined (λ p cs f g is are. join is are) tokens))
  where
    moved : (v : Bool) → cond v (join_at (drop 1 tokens)) (join_at tokens) ≡ join_at (cond v (drop 1 tokens) tokens)
    moved true = refl
    moved false = refl

pub joined_reads : (tokens : List Token) → Reads IsJoined tokens (joined_at tokens)
unfolding joined_at
joined_reads tokens =
    symbol_or symbol.Comma (part_last (λ p. record { place = p; conds = [] }) (place_reads (drop 1 tokens))
    (λ p f is. comma is)) (inner_reads tokens)

pub joined_some : (x : Joined) (f : List Token) → IsJoined x f → 0 < length f
joined_some x f (comma is) = omega arith
joined_some x f (join is are) = omega arith
joined_some x f (inner_join is are) = omega arith

pub joined_shorter : (tokens : List Token) (x : Joined) (rest : List Token) → joined_at tokens ≡ Some (x, rest)
    → length rest < length tokens
joined_shorter tokens x rest e =
    let t = reads_taken IsJoined tokens (joined_at tokens) x rest (joined_reads tokens) e in
    let n = ap length t.whole ∙ length-append t.prefix rest in
    let m = joined_some x t.prefix t.is in
    omega arith

-- ---- the statement

where_reads : (tokens : List Token) → Reads IsWhere tokens (where_at tokens)
unfolding where_at
where_reads tokens = symbol_or symbol.Where (part_as (conds_read (drop 1 tokens)) (λ cs f are. filtered are))
    (done no_where)

group_reads : (tokens : List Token) → Reads IsGroup tokens (group_at tokens)
unfolding group_at
group_reads tokens = symbol_or symbol.Group
    (symbol_then symbol.By _ (λ rest. part_as (list_reads IsRef symbol.Comma ref_at ref_reads rest)
    (λ rs f are. grouped are))) (done no_group)

order_reads : (tokens : List Token) → Reads IsOrder tokens (order_at tokens)
unfolding order_at
order_reads tokens = symbol_or symbol.Order
    (symbol_then symbol.By _ (λ rest. part_as (list_reads IsKey symbol.Comma key_at key_reads rest)
    (λ ks f are. ordered are))) (done no_order)

at_end : (Is : Unit {0} → List Token → Type 0) (tokens : List Token) → Is tt []
    → Reads Is tokens (cond (is_end tokens) (Some (tt, [])) None)
at_end Is [] is = done is
at_end Is (t ∷ tokens) is = refused

end_reads : (tokens : List Token) → Reads (λ u f. IsEnd f) tokens (end_at tokens)
unfolding end_at
end_reads tokens = symbol_or symbol.Semicolon
    (at_end (λ u f. IsEnd (token.Symbol symbol.Semicolon ∷ f)) (drop 1 tokens) semicolon)
    (at_end (λ u f. IsEnd f) tokens bare_end)

-- the places of FROM with the conditions of the joins, and with those of WHERE
data IsFrom : List RawPlace × List RawCond → List Token → Type 0 where
  from_is : {place : RawPlace} {joins : List Joined} {first further : List Token} → IsPlace place first
      → AreAll IsJoined joins further
      → IsFrom (place ∷ joined_places joins, joined_conds joins) (first ++ further)

data IsSource : List RawPlace × List RawCond → List Token → Type 0 where
  source_is : {place : RawPlace} {joins : List Joined} {conds : List RawCond} {first further where_ : List Token}
      → IsPlace place first → AreAll IsJoined joins further → IsWhere conds where_
      → IsSource (place ∷ joined_places joins, joined_conds joins ++ conds) (first ++ (further ++ where_))

from_reads : (tokens : List Token) → Reads IsFrom tokens (from_at tokens)
unfolding from_at joins_at
from_reads tokens = part_then _ (place_reads tokens) (λ p f rest is.
    part_last (λ js. (p ∷ joined_places js, joined_conds js))
    (all_reads IsJoined begins_joined joined_at (λ z b. joined_reads z) (suc (length rest)) rest)
    (λ js g are. from_is is are))

source_join : (p : List RawPlace × List RawCond) (f : List Token) (cs : List RawCond) (w : List Token) → IsFrom p f
    → IsWhere cs w
    → IsSource (p.0, p.1 ++ cs) (f ++ w)
source_join p f cs w (from_is {place} {joins} {first} {further} is are) filter =
    let P : List Token → Type 0 = λ z. IsSource (place ∷ joined_places joins, joined_conds joins ++ cs) z in
    subst P (sym (append_assoc first further w)) (source_is is are filter)

source_reads : (tokens : List Token) → Reads IsSource tokens (source_at tokens)
unfolding source_at
source_reads tokens = part_then _ (from_reads tokens) (λ p f rest is.
    part_last (λ cs. (p.0, p.1 ++ cs)) (where_reads rest) (λ cs w ws. source_join p f cs w is ws))

build : (items : List RawItem) (p : List RawPlace × List RawCond) (groups : List RawRef) (keys : List RawKey)
    (select source group order end : List Token)
    → AreListed IsItem (token.Symbol symbol.Comma) items select → IsSource p source → IsGroup groups group
    → IsOrder keys order → IsEnd end
    → IsStatement (record { items = items; places = p.0; conds = p.1; groups = groups; order = keys })
    (token.Symbol symbol.Select ∷ (select ++ token.Symbol symbol.From ∷ (source ++ (group ++ (order ++ end)))))
build items p groups keys select source group order end are
    (source_is {place} {joins} {conds} {first} {further} {where_} is js ws) gs os es =
    let P : List Token → Type 0 = λ z.
    IsStatement (record {
      items = items;
      places = place ∷ joined_places joins;
      conds = joined_conds joins ++ conds;
      groups = groups;
      order = keys;
    })
    (token.Symbol symbol.Select ∷ (select ++ token.Symbol symbol.From ∷ z)) in
    let w : first ++ (further ++ where_) ++ (group ++ (order ++ end)) ≡ first
    ++ (further ++ (where_ ++ (group ++ (order ++ end)))) =
    append_assoc first (further ++ where_) (group ++ (order ++ end))
    ∙ ap (λ z. first ++ z) (append_assoc further where_ (group ++ (order ++ end))) in
    subst P (sym w) (statement are is js ws gs os es)

statement_reads : (tokens : List Token) → Reads IsStatement tokens (statement_at tokens)
unfolding statement_at
statement_reads tokens =
    symbol_then symbol.Select _ (λ rest. part_then _ (list_reads IsItem symbol.Comma item_at item_reads rest)
    (λ items select rest are.
    symbol_then symbol.From _ (λ rest. part_then _ (source_reads rest)
    (λ p source rest is. part_then _ (group_reads rest) (λ groups group rest gs.
    part_then _ (order_reads rest) (λ keys order rest os.
    part_last (λ u. record { items = items; places = p.0; conds = p.1; groups = groups; order = keys }) (end_reads rest)
    (λ u end es. build items p groups keys select source group order end are is gs os es)))))))

-- ---- a statement leaves no token

data LeavesNone {T : Type 0} : Option (T × List Token) → Type 0 where
  none_read : LeavesNone None
  no_token : {x : T} → LeavesNone (Some (x, []))

leaves_then : {A B : Type 0} (o : Option (A × List Token)) (k : A × List Token → Option (B × List Token))
    → ((a : A × List Token) → LeavesNone (k a)) → LeavesNone (o >>= k)
leaves_then None k h = none_read
leaves_then (Some a) k h = h a

leaves_last : {A B : Type 0} {o : Option (A × List Token)} (make : A → B) → LeavesNone o
    → LeavesNone (o >>= λ r. Some (make r.0, r.1))
leaves_last make none_read = none_read
leaves_last make no_token = no_token

leaves_end : (v : Bool) → LeavesNone {T = Unit {0}} (cond v (Some (tt, [])) None)
leaves_end true = no_token
leaves_end false = none_read

end_leaves : (tokens : List Token) → LeavesNone (end_at tokens)
unfolding end_at
end_leaves tokens = cond_both (begins symbol.Semicolon tokens) _ _ LeavesNone (λ e. leaves_end (is_end (drop 1 tokens)))
    (λ e. leaves_end (is_end tokens))

statement_leaves : (tokens : List Token) → LeavesNone (statement_at tokens)
unfolding statement_at
statement_leaves tokens =
    leaves_then (symbol_at symbol.Select tokens) _
    (λ select. leaves_then (list_at symbol.Comma item_at select.1) _ (λ items.
    leaves_then (symbol_at symbol.From items.1) _ (λ from. leaves_then (source_at from.1) _ (λ source.
    leaves_then (group_at source.1) _ (λ groups. leaves_then (order_at groups.1) _ (λ order.
    leaves_last (λ u. record {
      items = items.0;
      places = source.0.0;
      conds = source.0.1;
      groups = groups.0;
      order =
          order.0;
    }) (end_leaves order.1)))))))

leaves_nothing : {T : Type 0} (o : Option (T × List Token)) (x : T) (rest : List Token) → LeavesNone o
    → o ≡ Some (x, rest) → rest ≡ []
leaves_nothing o x rest none_read e = absurd cc
leaves_nothing {T} o x rest (no_token {x = y}) e = sym (ap (λ (z : T × List Token). z.1) (pair_is (y, []) (x, rest) e))

pub statement_sound : (tokens : List Token) (s : Parts) (rest : List Token) → statement_at tokens ≡ Some (s, rest)
    → IsStatement s tokens × (rest ≡ [])
statement_sound tokens s rest e =
    let t = reads_taken IsStatement tokens (statement_at tokens) s rest (statement_reads tokens) e in
    let n = leaves_nothing (statement_at tokens) s rest (statement_leaves tokens) e in
    let w : tokens ≡ t.prefix = t.whole ∙ ap (λ z. t.prefix ++ z) n ∙ append-nil t.prefix in
    let P : List Token → Type 0 = λ z. IsStatement s z in
    (subst P (sym w) t.is, n)

-- what is read of the parts one by one is what is read of the statement
pub read_from : (tokens t1 t2 t3 t4 t5 t6 t7 : List Token) (items : List RawItem) (p : List RawPlace × List RawCond)
    (groups : List RawRef) (keys : List RawKey)
    (u v w : Unit {0}) → symbol_at symbol.Select tokens ≡ Some (u, t1)
    → list_at symbol.Comma item_at t1 ≡ Some (items, t2)
    → symbol_at symbol.From t2 ≡ Some (v, t3) → source_at t3 ≡ Some (p, t4) → group_at t4 ≡ Some (groups, t5)
    → order_at t5 ≡ Some (keys, t6)
    → end_at t6 ≡ Some (w, t7) → statement_at tokens
    ≡ Some (record { items = items; places = p.0; conds = p.1; groups = groups; order = keys }, t7)
unfolding statement_at
read_from tokens t1 t2 t3 t4 t5 t6 t7 items p groups keys u v w a b c d f g h = rw (a, b, c, d, f, g, h) refl
