-- Places of which no alias repeats an earlier one have aliases of their own.
use Rattle.std.proofs.Common.{ℕ, ◌≡◌, ◌==◌, List, [], ◌∷◌, ◌++◌, length, Bool, true, false, not, ◌&&◌, ◌||◌, IsTrue}
use Rattle.std.proofs.Common.{None, refl, ap, sym, ◌∙◌, arith}
use Rattle.std.specs.Str.{bytes_eq}
use Rattle.std.proofs.lemmas.Slice.Eq.{bytes_eq-Decides}
use Rattle.std.proofs.lemmas.Grind.{common_steps}
use Rattle.row_values.specs.Statements.{is_alias_in, are_aliases}
use Rattle.sql_parser.specs.Statement.{is_name, is_place, each}
use Rattle.sql_parser.specs.declared.statement.RawPlace.{RawPlace}
use Rattle.name_binder.specs.Catalog.{Known}
use Rattle.name_binder.specs.References.{places_of}
use Rattle.name_binder.specs.Refusals.{is_alias_among, first_repeated_alias}
use Rattle.name_binder.proofs.Known.{both_left, both_right}
use Rattle.name_binder.proofs.Found.{split_none}

or_assoc : (a b c : Bool) → ((a || b) || c) ≡ (a || (b || c))
or_assoc true b c = refl
or_assoc false b c = refl

or_false : (a : Bool) → (a || false) ≡ a
or_false true = refl
or_false false = refl

or_true : (a : Bool) → (a || true) ≡ true
or_true true = refl
or_true false = refl

among_append : (alias : List ℕ) (entries : List RawPlace) (entry : RawPlace)
    → is_alias_among alias (entries ++ entry ∷ []) ≡ (is_alias_among alias entries || bytes_eq entry.alias alias)
among_append alias [] entry = or_false (bytes_eq entry.alias alias)
among_append alias (first ∷ entries) entry =
    ap (λ (b : Bool). bytes_eq first.alias alias || b) (among_append alias entries entry)
    ∙ sym (or_assoc (bytes_eq first.alias alias) (is_alias_among alias entries) (bytes_eq entry.alias alias))

same_bytes : (xs : List ℕ) → bytes_eq xs xs ≡ true
same_bytes xs = (bytes_eq-Decides xs xs).1 refl

apart_by : (same : Bool) (alias : List ℕ) (earlier : List RawPlace) (entry : RawPlace) (later : Bool)
    → bytes_eq entry.alias alias ≡ same
    → is_alias_among alias earlier ≡ true → is_alias_among entry.alias earlier ≡ false → later ≡ false → (same || later)
    ≡ false
apart_by true alias earlier entry later e among none rest =
    let one : entry.alias ≡ alias = (bytes_eq-Decides entry.alias alias).0 e in
    let both : is_alias_among entry.alias earlier ≡ true = rw one among in
    cc
apart_by false alias earlier entry later e among none rest = rest

apart : (tables : List Known) (alias : List ℕ) (earlier entries : List RawPlace) → is_alias_among alias earlier ≡ true
    → first_repeated_alias earlier entries ≡ None
    → is_alias_in alias (places_of tables entries) ≡ false
apart tables alias earlier [] among h = refl
apart tables alias earlier (entry ∷ entries) among h =
    let both = split_none (is_alias_among entry.alias earlier) entry.alias (first_repeated_alias (earlier ++ entry
    ∷ []) entries) h in
    let more : is_alias_among alias (earlier ++ entry ∷ []) ≡ true = among_append alias earlier entry
    ∙ ap (λ (b : Bool). b || bytes_eq entry.alias alias) among in
    apart_by (bytes_eq entry.alias alias) alias earlier entry (is_alias_in alias (places_of tables entries)) refl among
    both.0
    (apart tables alias (earlier ++ entry ∷ []) entries more both.1)

named : (name : List ℕ) → is_name name ≡ true → not (length name == 0) ≡ true
named [] h = cc
named (byte ∷ bytes) h = grind (arith, common_steps)

three : (a b c : Bool) → a ≡ true → b ≡ false → c ≡ true → (a && not b && c) ≡ true
three true false true h i j = refl
three true false false h i j = j
three true true c h i j = cc
three false b c h i j = cc

pub distinct : (tables : List Known) (earlier entries : List RawPlace) → IsTrue (each is_place entries)
    → first_repeated_alias earlier entries ≡ None
    → IsTrue (are_aliases (places_of tables entries))
distinct tables earlier [] spelled h = refl
distinct tables earlier (entry ∷ entries) spelled h =
    let both = split_none (is_alias_among entry.alias earlier) entry.alias (first_repeated_alias (earlier ++ entry
    ∷ []) entries) h in
    let own : is_alias_among entry.alias (earlier ++ entry ∷ []) ≡ true =
    among_append entry.alias earlier entry
    ∙ ap (λ (b : Bool). is_alias_among entry.alias earlier || b) (same_bytes entry.alias)
    ∙ or_true (is_alias_among entry.alias earlier) in
    three (not (length entry.alias == 0)) (is_alias_in entry.alias (places_of tables entries))
    (are_aliases (places_of tables entries))
    (named entry.alias (both_right (is_name entry.table) (is_name entry.alias)
    (both_left (is_place entry) (each is_place entries) spelled)))
    (apart tables entry.alias (earlier ++ entry ∷ []) entries own both.1)
    (distinct tables (earlier ++ entry ∷ []) entries (both_right (is_place entry) (each is_place entries) spelled)
    both.1)
