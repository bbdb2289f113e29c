-- A whole statement that is spelled so is read.
use Rattle.std.proofs.Common.{◌≡◌, suc, Bool, true, false, ◌&&◌, ◌||◌, not, Some, List, [], ◌∷◌}
use Rattle.std.proofs.Common.{◌++◌, length, refl, arith}
use Rattle.std.proofs.lemmas.List.{append_assoc}
use Rattle.sql_parser.specs.Statement.{Parts}
use Rattle.sql_parser.specs.Grammar.{IsRef, IsItem, IsPlace, IsCond, IsKey, AreAll, AreListed, Joined, IsJoined, comma}
use Rattle.sql_parser.specs.Grammar.{join, inner_join, joined_places, joined_conds, IsWhere, no_where, filtered}
use Rattle.sql_parser.specs.Grammar.{IsGroup, no_group, grouped, IsOrder, no_order, ordered, IsEnd, bare_end, semicolon}
use Rattle.sql_parser.specs.Grammar.{IsStatement, statement}
use Rattle.sql_parser.specs.Reading.{symbol_eq, begins, ref_at, item_at, cond_at, key_at}
use Rattle.sql_parser.specs.Reading.{list_at, begins_joined, join_at, joined_at, joins_at, where_at, group_at}
use Rattle.sql_parser.specs.Reading.{order_at, end_at, from_at, source_at, statement_at}
use Rattle.sql_parser.specs.declared.statement.RawRef.{RawRef}
use Rattle.sql_parser.specs.declared.statement.RawPlace.{RawPlace}
use Rattle.sql_parser.specs.declared.statement.RawCond.{RawCond}
use Rattle.sql_parser.specs.declared.statement.RawKey.{RawKey}
use Rattle.sql_parser.specs.declared.tokens.Symbol.TheVariants as symbol
use Rattle.sql_parser.specs.declared.tokens.Token.{Token}
use Rattle.sql_parser.specs.declared.tokens.Token.TheVariants as token
use Rattle.sql_parser.proofs.ReadIsSpelled.{joined_some}
use Rattle.sql_parser.proofs.SpelledIsRead.{ends, ref_again, item_again, place_again, cond_again, key_again, Again}
use Rattle.sql_parser.proofs.SpelledIsRead.{all_again, list_again, all_goes_on}
use Rattle.std.proofs.lemmas.Bool.{and_parts, not-true, or_parts}

-- what can follow a list of parts
abbrev pub after_list : List Token → Bool
after_list z = ends z && not (begins symbol.And z)

abbrev pub after_source : List Token → Bool
after_source z = after_list z && not (begins_joined z)

conds_again : (cs : List RawCond) (prefix rest : List Token) → AreListed IsCond (token.Symbol symbol.And) cs prefix
    → ends rest ≡ true → begins symbol.And rest ≡ false
    → list_at symbol.And cond_at (prefix ++ rest) ≡ Some (cs, rest)
conds_again cs prefix rest are e s = list_again IsCond symbol.And cond_at cond_again refl cs prefix rest are e s

join_again : (place : RawPlace) (cs : List RawCond) (first more rest : List Token) → IsPlace place first
    → AreListed IsCond (token.Symbol symbol.And) cs more → after_list rest ≡ true
    → join_at (token.Symbol symbol.Join ∷ ((first ++ token.Symbol symbol.On ∷ more) ++ rest))
    ≡ Some (record { place = place; conds = cs }, rest)
unfolding join_at symbol_eq
join_again place cs first more rest is are e =
    let es = and_parts (ends rest) (not (begins symbol.And rest)) e in
    rw (
      append_assoc first (token.Symbol symbol.On ∷ more) rest,
      place_again place first (token.Symbol symbol.On ∷ (more ++ rest)) is refl,
      conds_again cs more rest are es.0 (not-true (begins symbol.And rest) es.1),
    ) refl

joined_again : (x : Joined) (prefix rest : List Token) → IsJoined x prefix → after_list rest ≡ true
    → joined_at (prefix ++ rest) ≡ Some (x, rest)
unfolding joined_at symbol_eq
joined_again x prefix rest (comma {place} {tokens} is) e =
    rw (place_again place tokens rest is (and_parts (ends rest) (not (begins symbol.And rest)) e).0) refl
joined_again x prefix rest (join {place} {conds} {first} {rest = more} is are) e =
    join_again place conds first more rest is are e
joined_again x prefix rest (inner_join {place} {conds} {first} {rest = more} is are) e =
    join_again place conds first more rest is are e

joined_begins : (x : Joined) (prefix rest : List Token) → IsJoined x prefix → begins_joined (prefix ++ rest) ≡ true
unfolding symbol_eq
joined_begins x prefix rest (comma is) = refl
joined_begins x prefix rest (join is are) = refl
joined_begins x prefix rest (inner_join is are) = refl

joined_goes_on : (x : Joined) (prefix rest : List Token) → IsJoined x prefix → after_list (prefix ++ rest) ≡ true
unfolding symbol_eq
joined_goes_on x prefix rest (comma is) = refl
joined_goes_on x prefix rest (join is are) = refl
joined_goes_on x prefix rest (inner_join is are) = refl

joins_again_record : Again IsJoined begins_joined joined_at after_list
joins_again_record = record {
  read = joined_again;
  begins = joined_begins;
  goes_on = joined_goes_on;
  some =
      joined_some;
}

joins_again : (js : List Joined) (prefix rest : List Token) → AreAll IsJoined js prefix → after_source rest ≡ true
    → joins_at (prefix ++ rest) ≡ Some (js, rest)
unfolding joins_at
joins_again js prefix rest are e =
    let es = and_parts (after_list rest) (not (begins_joined rest)) e in
    all_again IsJoined begins_joined joined_at after_list joins_again_record (suc (length (prefix ++ rest))) js prefix
    rest are es.0 (not-true (begins_joined rest) es.1) (omega arith)

-- the tails of a statement
end_after : (e : List Token) → IsEnd e
    → (after_source e ≡ true) × (begins symbol.Order e ≡ false) × (begins symbol.Group e ≡ false)
    × (begins symbol.Where e ≡ false)
unfolding symbol_eq
end_after e bare_end = (refl, refl, refl, refl)
end_after e semicolon = (refl, refl, refl, refl)

order_after : (ks : List RawKey) (o z : List Token) → IsOrder ks o → after_source z ≡ true
    → begins symbol.Group z ≡ false → begins symbol.Where z ≡ false
    → (after_source (o ++ z) ≡ true) × (begins symbol.Group (o ++ z) ≡ false) × (begins symbol.Where (o ++ z) ≡ false)
unfolding symbol_eq
order_after ks o z no_order a b c = (a, b, c)
order_after ks o z (ordered are) a b c = (refl, refl, refl)

group_after : (rs : List RawRef) (g z : List Token) → IsGroup rs g → after_source z ≡ true
    → begins symbol.Where z ≡ false → (after_source (g ++ z) ≡ true) × (begins symbol.Where (g ++ z) ≡ false)
unfolding symbol_eq
group_after rs g z no_group a b = (a, b)
group_after rs g z (grouped are) a b = (refl, refl)

where_after : (cs : List RawCond) (w z : List Token) → IsWhere cs w → after_source z ≡ true
    → after_source (w ++ z) ≡ true
unfolding symbol_eq
where_after cs w z no_where a = a
where_after cs w z (filtered are) a = refl

-- what follows a list of parts, in parts
record After (z : List Token) : Type 0 where
  ends_so : ends z ≡ true
  no_and : begins symbol.And z ≡ false
  no_comma : begins symbol.Comma z ≡ false

after_parts : (z : List Token) → after_source z ≡ true → After z
after_parts z e =
    let es = and_parts (after_list z) (not (begins_joined z)) e in
    let fs = and_parts (ends z) (not (begins symbol.And z)) es.0 in
    let gs = or_parts (begins symbol.Comma z || begins symbol.Inner z) (begins symbol.Join z)
    (not-true (begins_joined z) es.1) in
    record {
      ends_so = fs.0;
      no_and = not-true (begins symbol.And z) fs.1;
      no_comma =
          (or_parts (begins symbol.Comma z) (begins symbol.Inner z) gs.0).0;
    }

where_again : (cs : List RawCond) (w z : List Token) → IsWhere cs w → begins symbol.Where z ≡ false → After z
    → where_at (w ++ z) ≡ Some (cs, z)
unfolding where_at symbol_eq
where_again cs w z no_where b a = rw b refl
where_again cs w z (filtered {tokens} are) b a = conds_again cs tokens z are a.ends_so a.no_and

group_again : (rs : List RawRef) (g z : List Token) → IsGroup rs g → begins symbol.Group z ≡ false → After z
    → group_at (g ++ z) ≡ Some (rs, z)
unfolding group_at symbol_eq
group_again rs g z no_group b a = rw b refl
group_again rs g z (grouped {tokens} are) b a =
    list_again IsRef symbol.Comma ref_at ref_again refl rs tokens z are a.ends_so a.no_comma

order_again : (ks : List RawKey) (o z : List Token) → IsOrder ks o → begins symbol.Order z ≡ false → After z
    → order_at (o ++ z) ≡ Some (ks, z)
unfolding order_at symbol_eq
order_again ks o z no_order b a = rw b refl
order_again ks o z (ordered {tokens} are) b a =
    list_again IsKey symbol.Comma key_at key_again refl ks tokens z are a.ends_so a.no_comma

end_again : (e : List Token) → IsEnd e → end_at e ≡ Some (tt, [])
unfolding end_at symbol_eq
end_again e bare_end = refl
end_again e semicolon = refl

source_again : (place : RawPlace) (joins : List Joined) (conds : List RawCond) (first further where_ z : List Token)
    → IsPlace place first → AreAll IsJoined joins further → IsWhere conds where_
    → after_source z ≡ true → begins symbol.Where z ≡ false
    → source_at (first ++ (further ++ (where_ ++ z)))
    ≡ Some ((place ∷ joined_places joins, joined_conds joins ++ conds), z)
unfolding source_at from_at
source_again place joins conds first further where_ z is js ws a b =
    let w = where_after conds where_ z ws a in
    let m = all_goes_on IsJoined begins_joined joined_at after_list joins_again_record joins further (where_ ++ z) js
    (and_parts (after_list (where_ ++ z)) (not (begins_joined (where_ ++ z))) w).0 in
    rw (
      place_again place first (further ++ (where_ ++ z)) is
          (and_parts (ends (further ++ (where_ ++ z))) (not (begins symbol.And (further ++ (where_ ++ z)))) m).0,
      joins_again joins further (where_ ++ z) js w,
      where_again conds where_ z ws b (after_parts z a),
    ) refl

pub statement_again : (s : Parts) (tokens : List Token) → IsStatement s tokens → statement_at tokens ≡ Some (s, [])
unfolding statement_at symbol_eq
statement_again s tokens (statement {items} {place} {joins} {conds} {groups} {keys} {select} {from} {further} {where_}
    {group} {order} {end} are is js ws gs os es) =
    let e1 = end_after end es in
    let e2 = order_after keys order end os e1.0 e1.2 e1.3 in
    let e3 = group_after groups group (order ++ end) gs e2.0 e2.2 in
    rw (
      list_again IsItem symbol.Comma item_at item_again refl items select (token.Symbol symbol.From
          ∷ (from ++ (further ++ (where_ ++ (group ++ (order ++ end)))))) are refl refl,
      source_again place joins conds from further where_ (group ++ (order ++ end)) is js ws e3.0 e3.1,
      group_again groups group (order ++ end) gs e2.1 (after_parts (order ++ end) e2.0),
      order_again keys order end os e1.1 (after_parts end e1.0),
      end_again end es,
    ) refl
