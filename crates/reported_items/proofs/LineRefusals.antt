-- What refusals show is of one line.
use Rattle.std.proofs.Common.{ℕ, ◌≡◌, ◌∙◌, ◌==◌, List, [], ◌∷◌, ◌++◌, codes, map, Bool, true, false, cond, Option, Some}
use Rattle.std.proofs.Common.{None, refl, sym, true≢false}
use Rattle.std.specs.List.{AllByRecursion, filter_map, find, flat_map}
use Rattle.std.specs.Option.{is_none, option_and_then, option_map, option_or}
use Rattle.std.proofs.lemmas.Bool.{and_parts, eq-eqb}
use Rattle.row_values.specs.Names.{canonical_name}
use Rattle.row_values.specs.Refusals as refused
use Rattle.row_values.specs.declared.refusals.TheConstants.{TOO_MANY_ROWS}
use Rattle.row_values.specs.declared.statement.Place.{Place}
use Rattle.sql_parser.specs.Statement.{Parts, each}
use Rattle.sql_parser.specs.declared.statement.RawCond.{RawCond}
use Rattle.sql_parser.specs.declared.statement.RawCond.TheVariants as condition
use Rattle.sql_parser.specs.declared.statement.RawItem.{RawItem}
use Rattle.sql_parser.specs.declared.statement.RawItem.TheVariants as item
use Rattle.sql_parser.specs.declared.statement.RawKey.{RawKey}
use Rattle.sql_parser.specs.declared.statement.RawPlace.{RawPlace}
use Rattle.sql_parser.specs.declared.statement.RawRef.{RawRef}
use Rattle.name_binder.specs.Binding.{first_of, first_refusal, name_refusal, shape_refusal, table_refusal}
use Rattle.name_binder.specs.Catalog.{Known, schema_named}
use Rattle.name_binder.specs.References.{cond_refs, item_ref, places_of, refs_of}
use Rattle.name_binder.specs.Refusals.{first_ambiguous, first_excess, first_misfit, first_repeated_alias}
use Rattle.name_binder.specs.Refusals.{first_sum_of_text, first_ungrouped, first_unknown_column, first_unknown_table}
use Rattle.name_binder.specs.Refusals.{is_alias_among, left_of}
use Rattle.name_binder.specs.Spelling.{item_text, ref_text, written}
use Rattle.name_binder.specs.declared.faults.BindFault.{BindFault}
use Rattle.name_binder.specs.declared.faults.BindFault.TheVariants as bind
use Rattle.catalog_model.specs.Faults.{bind_refusal}
use Rattle.reported_items.specs.Reported.{is_one_line}
use Rattle.reported_items.proofs.LineNames.{begin, canonical_line, more}
use Rattle.reported_items.proofs.LineParts.{IsLined, lined_cond, lined_item, lined_key, lined_place, lined_ref}
use Rattle.reported_items.proofs.LineParts.{lined_ref_of}
use Rattle.reported_items.proofs.PlainReplies.{IsPlainRefusal}

-- a refusal that isn't of too many rows
pub plain_refusal : (code : ℕ) (shown : List ℕ) → is_one_line shown ≡ true → (code == TOO_MANY_ROWS) ≡ false
    → IsPlainRefusal (refused.refusal code shown)
plain_refusal code shown h other = record {
  line = h;
  bare = λ e. absurd (true≢false (sym (eq-eqb code TOO_MANY_ROWS e) ∙ other));
}

-- References.

written_line : (alias : Option (List ℕ)) (column : List ℕ) → lined_ref_of alias column ≡ true
    → is_one_line (written alias column) ≡ true
written_line None column h = canonical_line column h
written_line (Some alias) column h =
    let p = and_parts (is_one_line alias) (is_one_line column) h in
    (more (more (begin (canonical_name alias) (canonical_line alias p.0)) (codes ".") refl) (canonical_name column)
    (canonical_line column p.1)).one

ref_line : (r : RawRef) → lined_ref r ≡ true → is_one_line (ref_text r) ≡ true
ref_line r h = written_line r.alias r.column h

item_line : (i : RawItem) → lined_item i ≡ true → is_one_line (item_text i) ≡ true
item_line (item.Column r) h = ref_line r h
item_line item.CountAll h = refl
item_line (item.Sum r) h = (more (begin (ref_text r) (ref_line r h)) (codes ")") refl).one
item_line (item.Min r) h = (more (begin (ref_text r) (ref_line r h)) (codes ")") refl).one
item_line (item.Max r) h = (more (begin (ref_text r) (ref_line r h)) (codes ")") refl).one

-- Lists.

-- where there is one, it has this
abbrev pub IfThere : {X : Type 0} → (X → Type 0) → Option X → Type 0
IfThere P None = Unit {0}
IfThere P (Some x) = P x

there_map : {X Y : Type 0} (P : X → Type 0) (Q : Y → Type 0) (f : X → Y) (o : Option X) → ((x : X) → P x → Q (f x))
    → IfThere P o → IfThere Q (option_map f o)
there_map P Q f None to h = tt
there_map P Q f (Some x) to h = to x h

find_there : {X : Type 0} (P : X → Type 0) (test : X → Bool) (xs : List X) → AllByRecursion P xs
    → IfThere P (find test xs)
find_there P test [] h = tt
find_there P test (x ∷ xs) h = by_test (test x) (find_there P test xs h.1)
  where
    by_test : (b : Bool) → IfThere P (find test xs) → IfThere P (cond b (Some x) (find test xs))
    by_test true later = h.0
    by_test false later = later

pub each_all : {X : Type 0} (test : X → Bool) (xs : List X) → each test xs ≡ true
    → AllByRecursion (λ x. test x ≡ true) xs
each_all test [] h = tt
each_all test (x ∷ xs) h = let p = and_parts (test x) (each test xs) h in (p.0, each_all test xs p.1)

all_both : {X : Type 0} (P : X → Type 0) (xs ys : List X) → AllByRecursion P xs → AllByRecursion P ys
    → AllByRecursion P (xs ++ ys)
all_both P [] ys h k = k
all_both P (x ∷ xs) ys h k = (h.0, all_both P xs ys h.1 k)

-- a reference of one line
abbrev IsRefLine : RawRef → Type 0
IsRefLine r = lined_ref r ≡ true

item_refs : (items : List RawItem) → AllByRecursion (λ i. lined_item i ≡ true) items
    → AllByRecursion IsRefLine (filter_map item_ref items)
item_refs [] h = tt
item_refs (item.Column r ∷ items) h = (h.0, item_refs items h.1)
item_refs (item.CountAll ∷ items) h = item_refs items h.1
item_refs (item.Sum r ∷ items) h = (h.0, item_refs items h.1)
item_refs (item.Min r ∷ items) h = (h.0, item_refs items h.1)
item_refs (item.Max r ∷ items) h = (h.0, item_refs items h.1)

conds_refs : (conds : List RawCond) → AllByRecursion (λ c. lined_cond c ≡ true) conds
    → AllByRecursion IsRefLine (flat_map cond_refs conds)
conds_refs [] h = tt
conds_refs (condition.Test r t ∷ conds) h = (h.0, conds_refs conds h.1)
conds_refs (condition.Same a b ∷ conds) h =
    let p = and_parts (lined_ref a) (lined_ref b) h.0 in (p.0, (p.1, conds_refs conds h.1))

key_refs : (keys : List RawKey) → AllByRecursion (λ k. lined_key k ≡ true) keys
    → AllByRecursion IsRefLine (map (λ (key : RawKey). key.at) keys)
key_refs [] h = tt
key_refs (key ∷ keys) h = (h.0, key_refs keys h.1)

refs_lines : (s : Parts) → IsLined s → AllByRecursion IsRefLine (refs_of s)
refs_lines s h =
    all_both IsRefLine _ (map (λ (key : RawKey). key.at) s.order)
    (all_both IsRefLine _ s.groups
    (all_both IsRefLine (filter_map item_ref s.items) (flat_map cond_refs s.conds)
    (item_refs s.items (each_all lined_item s.items h.items))
    (conds_refs s.conds (each_all lined_cond s.conds h.conds)))
    (each_all lined_ref s.groups h.groups))
    (key_refs s.order (each_all lined_key s.order h.order))

-- Faults.

-- the refusal of a fault is plain
abbrev pub IsPlainFault : BindFault → Type 0
IsPlainFault fault = IsPlainRefusal (bind_refusal fault)

some_plain : (o : Option BindFault) (os : List (Option BindFault)) → IfThere IsPlainFault o
    → IfThere IsPlainFault (first_of os) → IfThere IsPlainFault (first_of (o ∷ os))
some_plain None os h k = k
some_plain (Some x) os h k = h

unknown_table : (tables : List Known) (places : List RawPlace) → AllByRecursion (λ p. lined_place p ≡ true) places
    → IfThere (λ name. is_one_line name ≡ true) (first_unknown_table tables places)
unknown_table tables [] h = tt
unknown_table tables (p ∷ places) h =
    by_test (is_none (schema_named p.table tables)) (unknown_table tables places h.1)
  where
    by_test : (b : Bool) → IfThere (λ name. is_one_line name ≡ true) (first_unknown_table tables places)
        → IfThere (λ name. is_one_line name ≡ true) (cond b (Some p.table) (first_unknown_table tables places))
    by_test true later = (and_parts (is_one_line p.table) (is_one_line p.alias) h.0).0
    by_test false later = later

repeated_alias : (earlier places : List RawPlace) → AllByRecursion (λ p. lined_place p ≡ true) places
    → IfThere (λ name. is_one_line name ≡ true) (first_repeated_alias earlier places)
repeated_alias earlier [] h = tt
repeated_alias earlier (p ∷ places) h =
    by_test (is_alias_among p.alias earlier) (repeated_alias (earlier ++ p ∷ []) places h.1)
  where
    by_test : (b : Bool)
        → IfThere (λ name. is_one_line name ≡ true) (first_repeated_alias (earlier ++ p ∷ []) places)
        → IfThere (λ name. is_one_line name ≡ true)
        (cond b (Some p.alias) (first_repeated_alias (earlier ++ p ∷ []) places))
    by_test true later = (and_parts (is_one_line p.table) (is_one_line p.alias) h.0).1
    by_test false later = later

table_plain : (tables : List Known) (s : Parts) → IsLined s → IfThere IsPlainFault (table_refusal tables s.places)
table_plain tables s h =
    there_map (λ name. is_one_line name ≡ true) IsPlainFault (λ name. bind.UnknownTable (canonical_name name))
    (first_unknown_table tables s.places) (λ name k. plain_refusal _ (canonical_name name) (canonical_line name k) refl)
    (unknown_table tables s.places (each_all lined_place s.places h.places))

left_line : (c : RawCond) → lined_cond c ≡ true → IsRefLine (left_of c)
left_line (condition.Test r t) h = h
left_line (condition.Same a b) h = (and_parts (lined_ref a) (lined_ref b) h).0

name_plain : (places : List Place) (s : Parts) → IsLined s → IfThere IsPlainFault (name_refusal places s)
name_plain places s h =
    some_plain
    (option_map (λ (alias : List ℕ). bind.AliasTwice (canonical_name alias)) (first_repeated_alias [] s.places)) _
    (there_map (λ name. is_one_line name ≡ true) IsPlainFault (λ alias. bind.AliasTwice (canonical_name alias))
    (first_repeated_alias [] s.places)
    (λ name k. plain_refusal _ (canonical_name name) (canonical_line name k) refl)
    (repeated_alias [] s.places (each_all lined_place s.places h.places)))
    (some_plain (option_map (λ (r : RawRef). bind.UnknownColumn (ref_text r)) (first_unknown_column places s)) _
    (there_map IsRefLine IsPlainFault (λ r. bind.UnknownColumn (ref_text r)) (first_unknown_column places s)
    (λ r k. plain_refusal _ (ref_text r) (ref_line r k) refl)
    (find_there IsRefLine _ (refs_of s) (refs_lines s h)))
    (some_plain (option_map (λ (r : RawRef). bind.Ambiguous (ref_text r)) (first_ambiguous places s)) _
    (there_map IsRefLine IsPlainFault (λ r. bind.Ambiguous (ref_text r)) (first_ambiguous places s)
    (λ r k. plain_refusal _ (ref_text r) (ref_line r k) refl)
    (find_there IsRefLine _ (refs_of s) (refs_lines s h)))
    (some_plain (option_map (λ (r : RawRef). bind.Misfit (ref_text r)) (first_misfit places s.conds)) []
    (there_map IsRefLine IsPlainFault (λ r. bind.Misfit (ref_text r)) (first_misfit places s.conds)
    (λ r k. plain_refusal _ (ref_text r) (ref_line r k) refl)
    (there_map (λ c. lined_cond c ≡ true) IsRefLine left_of _ left_line
    (find_there (λ c. lined_cond c ≡ true) _ s.conds (each_all lined_cond s.conds h.conds)))) tt)))

-- which limit is passed
pub record IsLimitLine (o : Option (List ℕ)) : Type 0 where
  pub there : IfThere (λ name. is_one_line name ≡ true) o

pub either_line : (test : Bool) (limit : List ℕ) (rest : Option (List ℕ)) → is_one_line limit ≡ true → IsLimitLine rest
    → IsLimitLine (cond test (Some limit) rest)
either_line true limit rest h k = record { there = h }
either_line false limit rest h k = k

excess_line : (s : Parts) → IsLimitLine (first_excess s)
excess_line s =
    either_line _ (codes "tables") _ refl (either_line _ (codes "predicates") _ refl
    (either_line _ (codes "conditions") _ refl (either_line _ (codes "operands") _ refl
    (either_line _ (codes "items") _ refl (either_line _ (codes "keys") None refl (record { there = tt }))))))

or_there : {X : Type 0} (P : X → Type 0) (a b : Option X) → IfThere P a → IfThere P b → IfThere P (option_or a b)
or_there P None b h k = k
or_there P (Some x) b h k = h

item_ref_line : (i : RawItem) → lined_item i ≡ true → IfThere IsRefLine (item_ref i)
item_ref_line (item.Column r) h = h
item_ref_line item.CountAll h = tt
item_ref_line (item.Sum r) h = h
item_ref_line (item.Min r) h = h
item_ref_line (item.Max r) h = h

then_there : {X Y : Type 0} (P : X → Type 0) (Q : Y → Type 0) (f : X → Option Y) (o : Option X)
    → ((x : X) → P x → IfThere Q (f x)) → IfThere P o → IfThere Q (option_and_then f o)
then_there P Q f None to h = tt
then_there P Q f (Some x) to h = to x h

ungrouped_line : (places : List Place) (s : Parts) → IsLined s
    → IfThere (λ name. is_one_line name ≡ true) (first_ungrouped places s)
ungrouped_line places s h =
    or_there (λ name. is_one_line name ≡ true) _ _
    (there_map (λ i. lined_item i ≡ true) (λ name. is_one_line name ≡ true) item_text _ item_line
    (find_there (λ i. lined_item i ≡ true) _ s.items (each_all lined_item s.items h.items)))
    (there_map (λ k. lined_key k ≡ true) (λ name. is_one_line name ≡ true) (λ (key : RawKey). ref_text key.at) _
    (λ key k. ref_line key.at k)
    (find_there (λ k. lined_key k ≡ true) _ s.order (each_all lined_key s.order h.order)))

shape_plain : (places : List Place) (s : Parts) → IsLined s → IfThere IsPlainFault (shape_refusal places s)
shape_plain places s h =
    some_plain (option_map bind.TooMany (first_excess s)) _
    (there_map (λ name. is_one_line name ≡ true) IsPlainFault bind.TooMany (first_excess s)
    (λ limit k. plain_refusal _ limit k refl) (excess_line s).there)
    (some_plain (option_map bind.NotGrouped (first_ungrouped places s)) _
    (there_map (λ name. is_one_line name ≡ true) IsPlainFault bind.NotGrouped (first_ungrouped places s)
    (λ part k. plain_refusal _ part k refl) (ungrouped_line places s h))
    (some_plain (option_map (λ (r : RawRef). bind.SumOfText (ref_text r)) (first_sum_of_text places s.items)) []
    (there_map IsRefLine IsPlainFault (λ r. bind.SumOfText (ref_text r)) (first_sum_of_text places s.items)
    (λ r k. plain_refusal _ (ref_text r) (ref_line r k) refl)
    (then_there (λ i. lined_item i ≡ true) IsRefLine item_ref _ item_ref_line
    (find_there (λ i. lined_item i ≡ true) _ s.items (each_all lined_item s.items h.items)))) tt))

-- what a binding refuses
pub binding_plain : (tables : List Known) (s : Parts) → IsLined s → IfThere IsPlainFault (first_refusal tables s)
binding_plain tables s h =
    some_plain (table_refusal tables s.places) _ (table_plain tables s h)
    (some_plain (name_refusal (places_of tables s.places) s) _ (name_plain (places_of tables s.places) s h)
    (some_plain (shape_refusal (places_of tables s.places) s) [] (shape_plain (places_of tables s.places) s h) tt))
