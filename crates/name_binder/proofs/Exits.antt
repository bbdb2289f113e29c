-- What the binder answers at each of its exits, over plain values.
use Rattle.std.proofs.Common.{◌≡◌, ◌∙◌, ◌⊎◌, inl, inr, List, [], ◌∷◌, Option, Some, None, Result, Ok, Err, IsErr}
use Rattle.std.proofs.Common.{IsErrAnd, refl, sym, ap}
use Rattle.std.specs.Option.{option_map}
use Rattle.row_values.specs.Statements.{Statement, IsSoundQuery}
use Rattle.row_values.specs.declared.statement.Place.{Place}
use Rattle.sql_parser.specs.Statement.{Parts, IsSound}
use Rattle.sql_parser.specs.declared.statement.RawPlace.{RawPlace}
use Rattle.name_binder.specs.declared.faults.BindFault.{BindFault}
use Rattle.name_binder.specs.declared.faults.BindFault.TheVariants.{Memory}
use Rattle.name_binder.specs.Catalog.{Known}
use Rattle.name_binder.specs.References.{places_of}
use Rattle.name_binder.specs.Refusals.{first_unknown_table}
use Rattle.name_binder.specs.Binding.{first_of, table_refusal, name_refusal, shape_refusal, first_refusal, binding_of}
use Rattle.name_binder.specs.Binding.{bound_statement, unless_refused, Gives}
use Rattle.name_binder.proofs.Sound.{sound_unless_refused}

second : {T : Type 0} (a b : Option T) (others : List (Option T)) (x : T) → a ≡ None → b ≡ Some x
    → first_of (a ∷ b ∷ others) ≡ Some x
second None None others x e f = cc
second None (Some y) others x e f = f
second (Some y) b others x e f = cc

third : {T : Type 0} (a b d : Option T) (x : T) → a ≡ None → b ≡ None → d ≡ Some x → first_of (a ∷ b ∷ d ∷ []) ≡ Some x
third None None None x e f h = cc
third None None (Some y) x e f h = h
third None (Some y) d x e f h = cc
third (Some y) b d x e f h = cc

nothing : {T : Type 0} (a b d : Option T) → a ≡ None → b ≡ None → d ≡ None → first_of (a ∷ b ∷ d ∷ []) ≡ None
nothing None None None e f h = refl
nothing None None (Some y) e f h = h
nothing None (Some y) d e f h = f
nothing (Some y) b d e f h = e

refused : {T : Type 0} (refusal : Option BindFault) (value : T) (fault : BindFault) → refusal ≡ Some fault
    → unless_refused refusal value ≡ Err fault
refused None value fault e = cc
refused (Some other) value fault e = let same : other ≡ fault = cc in ap Err same

passed : {T : Type 0} (refusal : Option BindFault) (value : T) → refusal ≡ None → unless_refused refusal value
    ≡ Ok value
passed None value e = refl
passed (Some other) value e = cc

-- want of memory stays, and another refusal is the one that is told
told : {T : Type 0} (wanted : Result T BindFault) (refusal : Option BindFault) (fault : BindFault)
    → (refusal ≡ Some fault → wanted ≡ Err fault)
    → (fault ≡ Memory) ⊎ (refusal ≡ Some fault) → (fault ≡ Memory) ⊎ (wanted ≡ Err fault)
told wanted refusal fault tell (inl memory) = inl memory
told wanted refusal fault tell (inr e) = inr (tell e)

same_places : (tables : List Known) (entries : List RawPlace) (items places : List Place) (s : Parts)
    → entries ≡ s.places → items ≡ places_of tables entries → places ≡ items
    → places ≡ places_of tables s.places
same_places tables entries items places s e i p = p ∙ i ∙ ap (places_of tables) e

table_none : (tables : List Known) (entries : List RawPlace) (s : Parts) → entries ≡ s.places
    → first_unknown_table tables entries ≡ None → table_refusal tables s.places ≡ None
table_none tables entries s e known = ap (table_refusal tables) (sym e) ∙ ap (option_map _) known

pub by_names : (tables : List Known) (entries : List RawPlace) (items places : List Place) (s : Parts)
    (fault : BindFault) → entries ≡ s.places
    → first_unknown_table tables entries ≡ None → items ≡ places_of tables entries → places ≡ items
    → (fault ≡ Memory) ⊎ (name_refusal places s ≡ Some fault) → (fault ≡ Memory) ⊎ (binding_of tables s ≡ Err fault)
by_names tables entries items places s fault e known i p h =
    let same : places ≡ places_of tables s.places = same_places tables entries items places s e i p in
    told (binding_of tables s) (name_refusal places s) fault
    (λ n. refused (first_refusal tables s) (bound_statement (places_of tables s.places) s) fault
    (second (table_refusal tables s.places) (name_refusal (places_of tables s.places) s) _ fault
    (table_none tables entries s e known)
    (sym (ap (λ (ps : List Place). name_refusal ps s) same) ∙ n))) h

pub by_shape : (tables : List Known) (entries : List RawPlace) (items places others : List Place) (s : Parts)
    (fault : BindFault) → entries ≡ s.places
    → first_unknown_table tables entries ≡ None → items ≡ places_of tables entries → places ≡ items → others ≡ items
    → name_refusal places s ≡ None
    → (fault ≡ Memory) ⊎ (shape_refusal others s ≡ Some fault) → (fault ≡ Memory) ⊎ (binding_of tables s ≡ Err fault)
by_shape tables entries items places others s fault e known i p o names h =
    let same : places ≡ places_of tables s.places = same_places tables entries items places s e i p in
    let same_others : others ≡ places_of tables s.places = same_places tables entries items others s e i o in
    told (binding_of tables s) (shape_refusal others s) fault
    (λ n. refused (first_refusal tables s) (bound_statement (places_of tables s.places) s) fault
    (third (table_refusal tables s.places) (name_refusal (places_of tables s.places) s)
    (shape_refusal (places_of tables s.places) s) fault
    (table_none tables entries s e known) (sym (ap (λ (ps : List Place). name_refusal ps s) same) ∙ names)
    (sym (ap (λ (ps : List Place). shape_refusal ps s) same_others) ∙ n))) h

pub by_none : (tables : List Known) (entries : List RawPlace) (items places others : List Place) (s : Parts)
    (q : Statement) → entries ≡ s.places
    → first_unknown_table tables entries ≡ None → items ≡ places_of tables entries → places ≡ items → others ≡ items
    → name_refusal places s ≡ None
    → shape_refusal others s ≡ None → q ≡ bound_statement items s → binding_of tables s ≡ Ok q
by_none tables entries items places others s q e known i p o names shape made =
    let same : places ≡ places_of tables s.places = same_places tables entries items places s e i p in
    let same_others : others ≡ places_of tables s.places = same_places tables entries items others s e i o in
    let same_items : items ≡ places_of tables s.places = i ∙ ap (places_of tables) e in
    passed (first_refusal tables s) (bound_statement (places_of tables s.places) s)
    (nothing (table_refusal tables s.places) (name_refusal (places_of tables s.places) s)
    (shape_refusal (places_of tables s.places) s)
    (table_none tables entries s e known) (sym (ap (λ (ps : List Place). name_refusal ps s) same) ∙ names)
    (sym (ap (λ (ps : List Place). shape_refusal ps s) same_others) ∙ shape))
    ∙ ap Ok (sym (made ∙ ap (λ (ps : List Place). bound_statement ps s) same_items))

pub sound_by : (tables : List Known) (entries : List RawPlace) (items places others : List Place) (s : Parts)
    → IsSound s → entries ≡ s.places → items ≡ places_of tables entries
    → places ≡ items → others ≡ items → name_refusal places s ≡ None → shape_refusal others s ≡ None
    → IsSoundQuery (bound_statement items s)
sound_by tables entries items places others s spelled e i p o names shape =
    sound_unless_refused tables items s spelled (i
    ∙ ap (places_of tables) e) (ap (λ (ps : List Place). name_refusal ps s) (sym p) ∙ names)
    (ap (λ (ps : List Place). shape_refusal ps s) (sym o) ∙ shape)

-- an error that was handed on
pub handed_on : {T : Type 0} (wanted outcome : Result T BindFault) (fault : BindFault) → IsErr outcome
    × IsErrAnd outcome (λ e. e ≡ fault) → (fault ≡ Memory) ⊎ (wanted ≡ Err fault) → Gives wanted outcome
handed_on wanted (Ok value) fault is h = cc (is.0)
handed_on wanted (Err other) fault is (inl memory) = inl (is.1 ∙ memory)
handed_on wanted (Err other) fault is (inr e) = inr (e ∙ ap Err (sym is.1))
