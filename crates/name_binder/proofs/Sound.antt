-- A statement that nothing refuses is sound.
use Rattle.std.proofs.Common.{◌≡◌, ◌<◌, ◌≤◌, nat_lt, List, [], ◌∷◌, ◌++◌, length, map, Bool, true, false, ◌||◌, cond}
use Rattle.std.proofs.Common.{IsTrue, Option, Some, None, IsSome, refl, arith}
use Rattle.std.specs.Option.{option_map, option_and_then}
use Rattle.std.specs.List.{All, find, flat_map, filter_map}
use Rattle.std.proofs.lemmas.Bool.{ltb-false, not-false, or_parts}
use Rattle.std.proofs.lemmas.List.{length-map}
use Rattle.std.proofs.lemmas.List.Elements.{All-cons, All-nil}
use Rattle.row_values.specs.Statements.{IsSoundQuery, IsColumn, IsItem, AreGrouped, is_column_item, is_grouped_item}
use Rattle.row_values.specs.Statements.{is_among}
use Rattle.row_values.specs.declared.statement.TheConstants.{PLACE_LIMIT, SELECTIVITY_LIMIT, CONDITION_LIMIT}
use Rattle.row_values.specs.declared.statement.TheConstants.{ITEM_LIMIT, KEY_LIMIT}
use Rattle.row_values.specs.declared.values.Kind.{Kind}
use Rattle.row_values.specs.declared.values.Kind.TheVariants.{Int, Text}
use Rattle.row_values.specs.declared.statement.Place.{Place}
use Rattle.row_values.specs.declared.statement.ColRef.{ColRef}
use Rattle.sql_parser.specs.Statement.{Parts, IsSound, is_some}
use Rattle.sql_parser.specs.declared.statement.RawRef.{RawRef}
use Rattle.sql_parser.specs.declared.statement.RawItem.{RawItem}
use Rattle.sql_parser.specs.declared.statement.RawItem.TheVariants.{Column, CountAll, Sum, Min, Max}
use Rattle.sql_parser.specs.declared.statement.RawKey.{RawKey}
use Rattle.name_binder.specs.Catalog.{Known}
use Rattle.name_binder.specs.References.{places_of, place_of, meant, kind_meant, is_unknown, item_ref, cond_refs}
use Rattle.name_binder.specs.Parameters.{parameterised_count}
use Rattle.name_binder.specs.Refusals.{are_one_kind, is_sum_of_text, first_sum_of_text, first_excess, first_misfit}
use Rattle.name_binder.specs.Refusals.{first_ungrouped, first_ungrouped_item, first_ungrouped_key, first_unknown_column}
use Rattle.name_binder.specs.Refusals.{first_ambiguous, first_repeated_alias, is_ungrouped_item, is_ungrouped_key}
use Rattle.name_binder.specs.Refusals.{bound_item, bound_groups, is_misfit, has_long, left_of}
use Rattle.name_binder.specs.Spelling.{item_text, ref_text}
use Rattle.row_values.specs.Names.{canonical_name}
use Rattle.name_binder.specs.Binding.{bound_key, bound_statement, name_refusal, shape_refusal, first_of}
use Rattle.name_binder.specs.declared.faults.BindFault.{BindFault}
use Rattle.name_binder.specs.declared.faults.BindFault.TheVariants.{UnknownColumn, Ambiguous, Misfit, AliasTwice}
use Rattle.name_binder.specs.declared.faults.BindFault.TheVariants.{TooMany, NotGrouped, SumOfText}
use Rattle.name_binder.proofs.Apart.{distinct}
use Rattle.name_binder.proofs.Fitting.{preds_fit, edges_fit}
use Rattle.name_binder.proofs.Found.{split_none, or_none, map_none, append_none, all_mapped}
use Rattle.name_binder.proofs.Known.{known_column}
use Rattle.name_binder.proofs.Numbered.{numbered, selectivities, conditions}

-- within each limit
pub record FitsLimits (s : Parts) : Type 0 where
  pub places : length s.places ≤ PLACE_LIMIT
  pub selectivities : parameterised_count s.conds ≤ SELECTIVITY_LIMIT
  pub conds : length s.conds ≤ CONDITION_LIMIT
  pub operands : has_long s.conds ≡ false
  pub items : length s.items ≤ ITEM_LIMIT
  pub groups : length s.groups ≤ KEY_LIMIT
  pub order : length s.order ≤ KEY_LIMIT

pub fits_limits : (s : Parts) → first_excess s ≡ None → FitsLimits s
fits_limits s h =
    let tables = split_none (nat_lt PLACE_LIMIT (length s.places)) _ _ h in
    let predicates = split_none (nat_lt SELECTIVITY_LIMIT (parameterised_count s.conds)) _ _ tables.1 in
    let conditions = split_none (nat_lt CONDITION_LIMIT (length s.conds)) _ _ predicates.1 in
    let operands = split_none (has_long s.conds) _ _ conditions.1 in
    let items = split_none (nat_lt ITEM_LIMIT (length s.items)) _ _ operands.1 in
    let keys = split_none (nat_lt KEY_LIMIT (length s.groups) || nat_lt KEY_LIMIT (length s.order)) _ _ items.1 in
    let both = or_parts (nat_lt KEY_LIMIT (length s.groups)) (nat_lt KEY_LIMIT (length s.order)) keys.0 in
    record {
      places = ltb-false PLACE_LIMIT (length s.places) tables.0;
      selectivities = ltb-false SELECTIVITY_LIMIT (parameterised_count s.conds) predicates.0;
      conds = ltb-false CONDITION_LIMIT (length s.conds) conditions.0;
      operands = operands.0;
      items = ltb-false ITEM_LIMIT (length s.items) items.0;
      groups = ltb-false KEY_LIMIT (length s.groups) both.0;
      order = ltb-false KEY_LIMIT (length s.order) both.1;
    }

sum_split : (b : Bool) (r : RawRef) (rest : Option RawItem) → option_and_then item_ref (cond b (Some (Sum r)) rest)
    ≡ None → (b ≡ false) × (option_and_then item_ref rest ≡ None)
sum_split true r rest h = cc
sum_split false r rest h = (refl, h)

number_kind : (kind : Option Kind) → IsSome kind → are_one_kind kind (Some Text) ≡ false → kind ≡ Some Int
number_kind None there h = cc
number_kind (Some Int) there h = refl
number_kind (Some Text) there h = cc

items_fit : (places : List Place) (items : List RawItem) → find (is_unknown places) (filter_map item_ref items) ≡ None
    → first_sum_of_text places items ≡ None
    → All (IsItem places) (map (bound_item places) items)
items_fit places [] known numbers = All-nil _
items_fit places (Column r ∷ items) known numbers =
    let k = split_none (is_unknown places r) r (find (is_unknown places) (filter_map item_ref items)) known in
    All-cons (IsItem places) _ _ (known_column r places k.0) (items_fit places items k.1 numbers)
items_fit places (CountAll ∷ items) known numbers =
    All-cons (IsItem places) _ _ tt (items_fit places items known numbers)
items_fit places (Sum r ∷ items) known numbers =
    let k = split_none (is_unknown places r) r (find (is_unknown places) (filter_map item_ref items)) known in
    let n = sum_split (are_one_kind (kind_meant places r) (Some Text)) r (find (is_sum_of_text places) items) numbers in
    All-cons (IsItem places) _ _ (number_kind (kind_meant places r) (known_column r places k.0) n.0)
    (items_fit places items k.1 n.1)
items_fit places (Min r ∷ items) known numbers =
    let k = split_none (is_unknown places r) r (find (is_unknown places) (filter_map item_ref items)) known in
    All-cons (IsItem places) _ _ (known_column r places k.0) (items_fit places items k.1 numbers)
items_fit places (Max r ∷ items) known numbers =
    let k = split_none (is_unknown places r) r (find (is_unknown places) (filter_map item_ref items)) known in
    All-cons (IsItem places) _ _ (known_column r places k.0) (items_fit places items k.1 numbers)

keys_fit : (places : List Place) (order : List RawKey) → find (is_unknown places) (map (λ (key : RawKey). key.at) order)
    ≡ None
    → All (λ key. IsColumn places key.at) (map (bound_key places) order)
keys_fit places [] known = All-nil _
keys_fit places (key ∷ order) known =
    let k = split_none (is_unknown places key.at) key.at
    (find (is_unknown places) (map (λ (other : RawKey). other.at) order)) known in
    All-cons (λ bound. IsColumn places bound.at) _ _ (known_column key.at places k.0) (keys_fit places order k.1)

groups_fit : (groups : List ColRef) (places : List Place) (items : List RawItem) (order : List RawKey)
    → first_ungrouped_item groups places items ≡ None
    → first_ungrouped_key groups places order ≡ None
    → AreGrouped groups (map (bound_item places) items) (map (bound_key places) order)
groups_fit [] places items order no_item no_key =
    all_mapped (λ i. is_ungrouped_item [] (bound_item places i)) (bound_item places) (λ i. IsTrue (is_column_item i))
    items (λ i h. not-false _ h) no_item
groups_fit (group ∷ groups) places items order no_item no_key = (
  all_mapped (λ i. is_ungrouped_item (group ∷ groups) (bound_item places i)) (bound_item places)
      (λ i. IsTrue (is_grouped_item (group ∷ groups) i)) items
      (λ i h. not-false _ h) no_item,
  all_mapped (λ key. is_ungrouped_key (group ∷ groups) (meant places key.at)) (bound_key places)
      (λ key. IsTrue (is_among (group ∷ groups) key.at)) order
      (λ key h. not-false _ h) no_key,
)

some_one : {T : Type 0} (xs : List T) → is_some xs ≡ true → 0 < length xs
some_one [] h = cc
some_one (x ∷ xs) h = omega arith

-- nothing refuses the statement, once its tables are known
pub record Passes (tables : List Known) (s : Parts) : Type 0 where
  pub aliases : first_repeated_alias [] s.places ≡ None
  pub known : first_unknown_column (places_of tables s.places) s ≡ None
  pub fitting : first_misfit (places_of tables s.places) s.conds ≡ None
  pub limits : first_excess s ≡ None
  pub grouped : first_ungrouped (places_of tables s.places) s ≡ None
  pub numbers : first_sum_of_text (places_of tables s.places) s.items ≡ None

pub sound : (tables : List Known) (s : Parts) → IsSound s → Passes tables s
    → IsSoundQuery (bound_statement (places_of tables s.places) s)
sound tables s spelled passes =
    let places : List Place = places_of tables s.places in
    let limits = fits_limits s passes.limits in
    let in_items = append_none (is_unknown places) (filter_map item_ref s.items ++ flat_map cond_refs s.conds
    ++ s.groups) (map (λ (key : RawKey). key.at) s.order) passes.known in
    let in_groups = append_none (is_unknown places) (filter_map item_ref s.items ++ flat_map cond_refs s.conds) s.groups
    in_items.0 in
    let in_conds = append_none (is_unknown places) (filter_map item_ref s.items) (flat_map cond_refs s.conds)
    in_groups.0 in
    let fitting = map_none left_of (find (is_misfit places) s.conds) passes.fitting in
    let grouped = or_none (option_map item_text (first_ungrouped_item (bound_groups places s.groups) places s.items)) _
    passes.grouped in
    let many : length places ≡ length s.places = length-map s.places (place_of tables) in
    record {
      some_place = omega (arith, many, some_one s.places spelled.from);
      few_places = omega (arith, many, limits.places);
      aliases = distinct tables [] s.places spelled.places passes.aliases;
      few_conditions = omega (arith, limits.conds, conditions places 0 s.conds);
      preds = preds_fit places 0 s.conds in_conds.1 fitting spelled.conds limits.operands;
      few_selectivities = omega (arith, limits.selectivities, selectivities places 0 s.conds);
      numbered = numbered places 0 s.conds;
      edges = edges_fit places s.conds in_conds.1 fitting;
      some_item = omega (arith, length-map s.items (bound_item places), some_one s.items spelled.selects);
      few_items = omega (arith, length-map s.items (bound_item places), limits.items);
      items = items_fit places s.items in_conds.0 passes.numbers;
      few_groups = omega (arith, length-map s.groups (meant places), limits.groups);
      groups = all_mapped (is_unknown places) (meant places) (IsColumn places) s.groups (λ r h. known_column r places h)
          in_groups.1;
      few_keys = omega (arith, length-map s.order (bound_key places), limits.order);
      order = keys_fit places s.order in_items.1;
      grouped = groups_fit (bound_groups places s.groups) places s.items s.order (map_none item_text _ grouped.0)
          (map_none _ _ grouped.1);
    }

mapped_none : {T U : Type 0} (f : T → U) (a : Option T) (others : List (Option U)) → first_of (option_map f a ∷ others)
    ≡ None → (a ≡ None) × (first_of others ≡ None)
mapped_none f None others h = (refl, h)
mapped_none f (Some x) others h = cc

passes : (tables : List Known) (s : Parts) → name_refusal (places_of tables s.places) s ≡ None
    → shape_refusal (places_of tables s.places) s ≡ None → Passes tables s
passes tables s names shape =
    let places : List Place = places_of tables s.places in
    let misfit : List (Option BindFault) = option_map (λ r. Misfit (ref_text r)) (first_misfit places s.conds) ∷ [] in
    let ambiguous : List (Option BindFault) = option_map (λ r. Ambiguous (ref_text r)) (first_ambiguous places s)
    ∷ misfit in
    let unknown : List (Option BindFault) = option_map (λ r. UnknownColumn (ref_text r)) (first_unknown_column places s)
    ∷ ambiguous in
    let sums : List (Option BindFault) = option_map (λ r. SumOfText (ref_text r)) (first_sum_of_text places s.items)
    ∷ [] in
    let grouping : List (Option BindFault) = option_map NotGrouped (first_ungrouped places s) ∷ sums in
    let aliases = mapped_none (λ alias. AliasTwice (canonical_name alias)) (first_repeated_alias [] s.places) unknown
    names in
    let known = mapped_none (λ r. UnknownColumn (ref_text r)) (first_unknown_column places s) ambiguous aliases.1 in
    let single = mapped_none (λ r. Ambiguous (ref_text r)) (first_ambiguous places s) misfit known.1 in
    let fitting = mapped_none (λ r. Misfit (ref_text r)) (first_misfit places s.conds) [] single.1 in
    let limits = mapped_none TooMany (first_excess s) grouping shape in
    let grouped = mapped_none NotGrouped (first_ungrouped places s) sums limits.1 in
    let numbers = mapped_none (λ r. SumOfText (ref_text r)) (first_sum_of_text places s.items) [] grouped.1 in
    record {
      aliases = aliases.0;
      known = known.0;
      fitting = fitting.0;
      limits = limits.0;
      grouped = grouped.0;
      numbers = numbers.0;
    }

pub sound_unless_refused : (tables : List Known) (places : List Place) (s : Parts) → IsSound s
    → places ≡ places_of tables s.places → name_refusal places s ≡ None
    → shape_refusal places s ≡ None → IsSoundQuery (bound_statement places s)
sound_unless_refused tables places s spelled same names shape =
    rw same (sound tables s spelled (passes tables s (rw same at names) (rw same at shape)))
