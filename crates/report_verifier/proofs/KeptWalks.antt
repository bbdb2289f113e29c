-- What a verifier keeps, along its steps.
use Rattle.std.proofs.Common.{ℕ, zero, suc, ◌≡◌, ◌∙◌, ◌≢◌, ◌≤◌, ◌<◌, ◌+◌, List, [], ◌∷◌, ◌++◌, drop, length}
use Rattle.std.proofs.Common.{slice_get, Option, Some, None}
use Rattle.std.proofs.Common.{Result, Ok, Err, ap, refl, sym, subst, subst₂, arith, length-append, option_map}
use Rattle.std.proofs.Common.{Bool, true, false, ◌||◌, nat_lt, is_some, if◌then◌else◌}
use Rattle.std.specs.Str.{bytes_eq}
use Rattle.std.proofs.lemmas.Bool.Decides.{nat_tests}
use Rattle.std.proofs.lemmas.Option.{none-some, same_Some}
use Rattle.fraction_math.specs.Fraction.{Fraction}
use Rattle.row_values.specs.Statements.{Statement}
use Rattle.row_values.specs.declared.values.Value.{Value}
use Rattle.row_values.specs.declared.refusals.Refusal.{Refusal}
use Rattle.sql_parser.specs.Statement.{Parts}
use Rattle.name_binder.specs.Binding.{binding_of}
use Rattle.name_binder.specs.declared.faults.BindFault.{BindFault}
use Rattle.plan_trees.specs.Statistics.{Statistics}
use Rattle.certificate_check.specs.Ledgers.{IsTrueLedger}
use Rattle.certificate_check.specs.Verdicts.{claim_of}
use Rattle.certificate_check.specs.declared.entries.Entry.{Entry}
use Rattle.report_items.specs.declared.items.ReportItem.{ReportItem}
use Rattle.catalog_model.specs.Catalogs.{Catalog, StatementState, Version, find_statement, schemas_of}
use Rattle.catalog_model.specs.Catalogs.{stats_now, with_index, with_statement, with_version}
use Rattle.catalog_model.specs.Held.{HeldCursor, is_open, without_cursor}
use Rattle.catalog_model.specs.Instances.{instance_of}
use Rattle.catalog_model.specs.Preparing.{bound, preparing_of}
use Rattle.catalog_model.specs.declared.TheConstants.{STATEMENT_LIMIT}
use Rattle.session_store.specs.Kept.{StoreState}
use Rattle.session_store.specs.Outcomes.{Closes, IsInstance}
use Rattle.session_store.specs.declared.instances.Instance as stored
use Rattle.report_verifier.specs.Claims.{IsBlockJudged}
use Rattle.report_verifier.specs.Findings.{Accepts, Finding, Finds, SaidTooLarge, TurnsDown}
use Rattle.report_verifier.specs.Kept.{IsKept, walk_of}
use Rattle.report_verifier.specs.Truth.{IsTrueIn}
use Rattle.report_verifier.specs.Walk.{ExecutionStep, Walk, after, cursors_after, forgotten_for, later_items}
use Rattle.report_verifier.specs.Walk.{next_item}
use Rattle.report_verifier.specs.Verification.{ended}
use Rattle.report_verifier.specs.declared.rejections.Verification.TheVariants.{Rejected}
use Rattle.report_verifier.specs.declared.rejections.Why.{Why}
use Rattle.report_verifier.specs.declared.rejections.Why.TheVariants.{Block}
use Rattle.report_verifier.proofs.TrueLedgers.{IsTrueAfter, executed_true, indexed_true, loaded_true, prepared_true}
use Rattle.report_verifier.proofs.TrueLedgers.{there_below}

-- Changes of tables and statements.

pub kept_loaded : (old new : StoreState) (statements : ℕ) (ledger next : List Entry) (executions too_large : ℕ)
    (items : List ReportItem) (position : ℕ) (lambda : Fraction) (table : List ℕ) (version : Version)
    → new.catalog ≡ with_version old.catalog table version
    → next ≡ forgotten_for table new.catalog.statements ledger
    → IsKept old statements ledger executions too_large items position lambda
    → IsKept new statements next executions too_large items position lambda
kept_loaded old new statements ledger next executions too_large items position lambda table version e f kept = record {
  counted = kept.counted ∙ sym (ap (λ (c : Catalog). length c.statements) e);
  done = kept.done;
  within = kept.within;
  ratio = kept.ratio;
  truth = subst₂ IsTrueIn (sym e) (sym (f ∙ ap (λ (c : Catalog). forgotten_for table c.statements ledger) e))
      (loaded_true old.catalog ledger table version kept.truth);
}

pub kept_indexed : (old new : StoreState) (statements : ℕ) (ledger next : List Entry) (executions too_large : ℕ)
    (items : List ReportItem) (position : ℕ) (lambda : Fraction) (table : List ℕ) (column : ℕ)
    → new.catalog ≡ with_index old.catalog table column
    → next ≡ forgotten_for table new.catalog.statements ledger
    → IsKept old statements ledger executions too_large items position lambda
    → IsKept new statements next executions too_large items position lambda
kept_indexed old new statements ledger next executions too_large items position lambda table column e f kept = record {
  counted = kept.counted ∙ sym (ap (λ (c : Catalog). length c.statements) e);
  done = kept.done;
  within = kept.within;
  ratio = kept.ratio;
  truth = subst₂ IsTrueIn (sym e) (sym (f ∙ ap (λ (c : Catalog). forgotten_for table c.statements ledger) e))
      (indexed_true old.catalog ledger table column kept.truth);
}

one_more : {X : Type 0} (xs : List X) (x : X) → length xs + 1 ≡ length (xs ++ x ∷ [])
one_more xs x = simp length-append

pub kept_prepared : (old new : StoreState) (statements : ℕ) (ledger : List Entry) (executions too_large : ℕ)
    (items : List ReportItem) (position : ℕ) (lambda : Fraction) (name : List ℕ) (q : Statement)
    → new.catalog ≡ with_statement old.catalog name q
    → IsKept old statements ledger executions too_large items position lambda
    → IsKept new (statements + 1) ledger executions too_large items position lambda
kept_prepared old new statements ledger executions too_large items position lambda name q e kept = record {
  counted = ap (λ n. n + 1) kept.counted ∙ one_more old.catalog.statements (record { name = name; statement = q })
      ∙ sym (ap (λ (c : Catalog). length c.statements) e);
  done = kept.done;
  within = kept.within;
  ratio = kept.ratio;
  truth = subst (λ (c : Catalog). IsTrueIn c ledger) (sym e) (prepared_true old.catalog ledger name q kept.truth);
}

-- Executions.

-- the item at the position
next_at : (items : List ReportItem) (position : ℕ) → next_item (drop position items) ≡ slice_get items position
next_at [] zero = refl
next_at [] (suc position) = refl
next_at (item ∷ items) zero = refl
next_at (item ∷ items) (suc position) = next_at items position

pub later_at : (items : List ReportItem) (position : ℕ) → later_items (drop position items) ≡ drop (position + 1) items
later_at [] zero = refl
later_at [] (suc position) = let next : suc position + 1 ≡ suc (position + 1) = omega arith in rw next refl
later_at (item ∷ items) zero = refl
later_at (item ∷ items) (suc position) =
    let next : suc position + 1 ≡ suc (position + 1) = omega arith in rw next (later_at items position)

-- an item is there where the report isn't turned down
pub item_there : (Judges : List ℕ → List ℕ → List ℕ → Result (List Entry) Why → Type 0) (line : ℕ) (name : List ℕ)
    (execution : ℕ) (items : List ReportItem) (position : ℕ) (item : Option ReportItem) (finding : Finding)
    → item ≡ slice_get items position → Finds Judges line name execution item finding
    → ((why : Why) → finding ≢ TurnsDown why) → position < length items
item_there Judges line name execution items position None finding same finds up = absurd (up _ finds)
item_there Judges line name execution items position (Some item) finding same finds up =
    there_below items position item (sym same)

-- the statement of an instance
one_query : (statements : List StatementState) (number : ℕ) (q query : Statement)
    → option_map (λ (p : StatementState). p.statement) (slice_get statements number) ≡ Some q
    → option_map (λ (p : StatementState). p.statement) (slice_get statements number) ≡ Some query → q ≡ query
one_query statements number q query e f = same_Some q query (sym e ∙ f)

-- what was found makes the step
pub found_step : (store : StoreState) (ledger : List Entry) (executions too_large : ℕ) (items : List ReportItem)
    (position : ℕ) (lambda : Fraction) (line : ℕ) (cursor : Option (List ℕ)) (name : List ℕ) (args : List Value)
    (told : stored.Instance) (q : Statement) (item : Option ReportItem) (finding : Finding) (outcome : Result Walk Why)
    → IsInstance name (instance_of store.catalog name args) store.catalog args told
    → option_map (λ (p : StatementState). p.statement) (slice_get store.catalog.statements told.statement) ≡ Some q
    → item ≡ slice_get items position
    → Finds (IsBlockJudged ledger told.statement (executions + 1) q (claim_of q told.stats told.at lambda)) line name
    (executions + 1) item finding
    → outcome ≡ after (walk_of store ledger executions too_large items position lambda)
    (cursors_after store.cursors store.catalog.tables cursor q) finding
    → ExecutionStep (walk_of store ledger executions too_large items position lambda) line cursor name args outcome
found_step store ledger executions too_large items position lambda line cursor name args told q item finding outcome i e
    there finds goes =
    let same : q ≡ i.query = one_query store.catalog.statements told.statement q i.query e i.number.1 in
    let old : Walk = walk_of store ledger executions too_large items position lambda in
    let Found : Statement → Statistics → List ℕ → Option ReportItem → Type 0 =
    λ (query : Statement) (s : Statistics) (at : List ℕ) (next : Option ReportItem).
    Finds (IsBlockJudged ledger told.statement (executions + 1) query (claim_of query s at lambda)) line name
    (executions + 1) next finding in
    rw i.instance_is (record {
      statement = told.statement;
      its_number = i.named;
      finding = finding;
      finds = subst (λ (at : List ℕ). Found i.query (stats_now store.catalog.tables store.catalog.weights i.query) at
          (next_item (drop position items))) i.vector_is
          (subst (λ (s : Statistics). Found i.query s told.at (next_item (drop position items))) i.stats_are
          (subst₂ (λ (query : Statement) (next : Option ReportItem). Found query told.stats told.at next) same
          (there ∙ sym (next_at items position)) finds));
      goes = goes ∙ ap (λ (query : Statement). after old (cursors_after store.cursors store.catalog.tables cursor query)
          finding) same;
    })

-- the statement of an instance, as it is prepared
record IsPrepared (catalog : Catalog) (told : stored.Instance) (q : Statement) : Type 0 where
  pub prepared : StatementState
  pub there : slice_get catalog.statements told.statement ≡ Some prepared
  pub query : q ≡ prepared.statement
  pub stats : told.stats ≡ stats_now catalog.tables catalog.weights prepared.statement

prepared_in : (o : Option StatementState) (q : Statement)
    → option_map (λ (p : StatementState). p.statement) o ≡ Some q
    → (p : StatementState) × (o ≡ Some p) × (q ≡ p.statement)
prepared_in None q e = absurd (none-some q e)
prepared_in (Some p) q e = (p, refl, sym (same_Some p.statement q e))

is_prepared : (catalog : Catalog) (name : List ℕ) (args : List Value) (told : stored.Instance) (q : Statement)
    → IsInstance name (instance_of catalog name args) catalog args told
    → option_map (λ (p : StatementState). p.statement) (slice_get catalog.statements told.statement) ≡ Some q
    → IsPrepared catalog told q
is_prepared catalog name args told q i e =
    let one = prepared_in (slice_get catalog.statements told.statement) q e in
    let same : q ≡ i.query = one_query catalog.statements told.statement q i.query e i.number.1 in
    record {
      prepared = one.0;
      there = one.1;
      query = one.2;
      stats = i.stats_are ∙ ap (λ (query : Statement). stats_now catalog.tables catalog.weights query) (sym same ∙
          one.2);
    }

-- the ledger is true of it
pub true_there : (catalog : Catalog) (name : List ℕ) (args : List Value) (told : stored.Instance) (q : Statement)
    (ledger : List Entry) → IsInstance name (instance_of catalog name args) catalog args told
    → option_map (λ (p : StatementState). p.statement) (slice_get catalog.statements told.statement) ≡ Some q
    → IsTrueIn catalog ledger → IsTrueLedger q told.stats told.statement ledger
true_there catalog name args told q ledger i e truth =
    let one = is_prepared catalog name args told q i e in
    subst₂ (λ (query : Statement) (s : Statistics). IsTrueLedger query s told.statement ledger) (sym one.query)
    (sym one.stats) (truth.of_each told.statement one.prepared one.there)

-- and stays so
pub found_true : (catalog : Catalog) (name : List ℕ) (args : List Value) (told : stored.Instance) (q : Statement)
    (old new : List Entry) → IsInstance name (instance_of catalog name args) catalog args told
    → option_map (λ (p : StatementState). p.statement) (slice_get catalog.statements told.statement) ≡ Some q
    → IsTrueAfter q told.stats told.statement old new → IsTrueIn catalog old → IsTrueIn catalog new
found_true catalog name args told q old new i e later truth =
    let one = is_prepared catalog name args told q i e in
    executed_true catalog old new told.statement one.prepared one.there
    (subst₂ (λ (query : Statement) (s : Statistics). IsTrueAfter query s told.statement old new) one.query one.stats
    later) truth

-- the counts and the ledger of a store with the same catalog
pub kept_found : (old new : StoreState) (statements : ℕ) (ledger next : List Entry)
    (executions too_large : ℕ) (items : List ReportItem) (position more_executions more_too_large further : ℕ)
    (lambda : Fraction) → new.catalog ≡ old.catalog → more_executions + more_too_large ≡ further
    → further ≤ length items → IsTrueIn old.catalog next
    → IsKept old statements ledger executions too_large items position lambda
    → IsKept new statements next more_executions more_too_large items further lambda
kept_found old new statements ledger next executions too_large items position more_executions more_too_large further
    lambda e done within truth kept = record {
      counted = kept.counted ∙ sym (ap (λ (c : Catalog). length c.statements) e);
      done = done;
      within = within;
      ratio = kept.ratio;
      truth = subst (λ (c : Catalog). IsTrueIn c next) (sym e) truth;
    }

-- Ends.

-- an item that is left
pub some_left : (walk : Walk) (items : List ReportItem) (position : ℕ) → position < length items
    → ended walk (drop position items) ≡ Rejected (record { line = 0; why = Block })
some_left walk [] position less = absurd (omega (arith, less))
some_left walk (item ∷ items) zero less = refl
some_left walk (item ∷ items) (suc position) less =
    let before : position < length items = omega (arith, less) in some_left walk items position before

-- Cursors.

kept_open : (name : List ℕ) (cursors : List HeldCursor) → is_open name cursors ≡ false
    → without_cursor name cursors ≡ cursors
kept_open name [] e = refl
kept_open name (cursor ∷ cursors) e =
    let none = neither (bytes_eq cursor.name name) (is_open name cursors) e in
    rw none.0 (ap (λ rest. cursor ∷ rest) (kept_open name cursors none.1))
  where
    neither : (a b : Bool) → (a || b) ≡ false → (a ≡ false) × (b ≡ false)
    neither true b h = absurd cc
    neither false b h = (refl, h)

pub closed : (old new : StoreState) (name : List ℕ) (result : Bool) → Closes old name result new
    → new ≡ record old { cursors = without_cursor name old.cursors }
closed old new name true h = h.1
closed old new name false h =
    h.1 ∙ ap (λ (cursors : List HeldCursor). record old { cursors = cursors }) (sym (kept_open name old.cursors h.0))

-- Few statements.

fits_in : (test : Bool) (p q : Statement) (why : Refusal) → (if test then Ok p else Err why) ≡ Ok q → test ≡ true
fits_in true p q why h = refl
fits_in false p q why h = absurd cc

below : (a b : ℕ) → nat_lt a b ≡ true → a < b
below a b h = grind (arith, nat_tests)

room : (statements : List StatementState) (binding : Result Statement BindFault) (q : Statement)
    → bound statements binding ≡ Ok q → length statements < STATEMENT_LIMIT
room statements (Err fault) q h = absurd cc
room statements (Ok p) q h = below (length statements) STATEMENT_LIMIT (fits_in _ p q _ h)

free : (test : Bool) (why : Refusal) (q : Statement) (rest : Result Statement Refusal)
    → (if test then Err why else rest) ≡ Ok q → rest ≡ Ok q
free true why q rest h = absurd cc
free false why q rest h = h

pub few : (catalog : Catalog) (name : List ℕ) (select : Parts) (q : Statement) → preparing_of catalog name select ≡ Ok q
    → length catalog.statements < STATEMENT_LIMIT
unfolding preparing_of
few catalog name select q h =
    room catalog.statements (binding_of (schemas_of catalog.tables) select) q
    (free (is_some (find_statement catalog.statements name)) _ q _ h)

-- Where the walk goes on.

-- behind an item that says that there were too many rows
pub too_large_walk : (store : StoreState) (ledger next : List Entry) (executions too_large : ℕ) (items : List
    ReportItem)
    (position : ℕ) (lambda : Fraction) (cursors : List HeldCursor) → next ≡ ledger
    → Ok (walk_of store next executions (too_large + 1) items (position + 1) lambda)
    ≡ after (walk_of store ledger executions too_large items position lambda) cursors SaidTooLarge
too_large_walk store ledger next executions too_large items position lambda cursors e = λ i. Ok (record {
  catalog = store.catalog;
  cursors = store.cursors;
  ledger = e i;
  executions = executions;
  too_large = too_large + 1;
  items = sym (later_at items position) i;
  lambda = lambda;
})

-- behind a block that was accepted
pub accepted_walk : (old new : StoreState) (ledger next : List Entry) (executions too_large : ℕ)
    (items : List ReportItem) (position : ℕ) (lambda : Fraction) (cursors : List HeldCursor)
    → new.catalog ≡ old.catalog → new.cursors ≡ cursors
    → Ok (walk_of new next (executions + 1) too_large items (position + 1) lambda)
    ≡ after (walk_of old ledger executions too_large items position lambda) cursors (Accepts next)
accepted_walk old new ledger next executions too_large items position lambda cursors e f = λ i. Ok (record {
  catalog = e i;
  cursors = f i;
  ledger = next;
  executions = executions + 1;
  too_large = too_large;
  items = sym (later_at items position) i;
  lambda = lambda;
})
