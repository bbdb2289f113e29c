-- The ends of a run, and what the rows of a plan mean.
use Rattle.std.proofs.Common.{ℕ, ◌≡◌, ◌≤◌, ◌<◌, ◌+◌, ◌∙◌, List, [], length, nat_le, true, false}
use Rattle.std.proofs.Common.{set, Option, Some, None, Result, Ok, Err, MatchOption, ap, subst, sym, refl, arith}
use Rattle.std.proofs.lemmas.Bool.Decides.{nat_tests}
use Rattle.row_values.specs.Refusals.{refusal}
use Rattle.row_values.specs.Sorting.{in_order}
use Rattle.row_values.specs.Statements.{Statement, IsSoundQuery, kinds_of}
use Rattle.row_values.specs.declared.refusals.Refusal.{Refusal}
use Rattle.row_values.specs.declared.values.Value.{Value}
use Rattle.row_values.proofs.InOrder.{times_in_order}
use Rattle.row_values.proofs.Parameters.{length-kinds_of}
use Rattle.csv_tables.specs.StatementTables.{rows_in}
use Rattle.csv_tables.specs.Tables.{TableValue}
use Rattle.statement_meaning.specs.Combinations.{kept_combinations, world_of}
use Rattle.statement_meaning.specs.Meaning.{Shown, is_lower, meaning_of, rows_shown, shape_of}
use Rattle.statement_meaning.specs.PartialCombinations.{is_same}
use Rattle.statement_meaning.proofs.AnyOrder.{count_any}
use Rattle.statement_meaning.proofs.KeptOrder.{in_order-kept}
use Rattle.result_shape.specs.Rows.{IsRefusedRows, IsShaped, rows_seen}
use Rattle.result_shape.specs.declared.rows.Rows.{Rows}
use Rattle.result_shape.specs.declared.rows.RowsFault.{RowsFault}
use Rattle.result_shape.specs.declared.rows.RowsFault.TheVariants.{TooManyRows, Memory}
use Rattle.script_report.specs.declared.replies.Execution.{Execution}
use Rattle.script_report.specs.declared.replies.Reply.{Reply}
use Rattle.script_report.specs.declared.replies.Reply.TheVariants as reply
use Rattle.cache_model.specs.Caches.{CacheState}
use Rattle.catalog_model.specs.Catalogs.{number_of}
use Rattle.catalog_model.specs.Instances.{Instance, instance_of}
use Rattle.session_model.specs.Executions.{IsExecution, rows_refusal}
use Rattle.session_model.specs.State.{State, cache_at}
use Rattle.session_model.specs.Step.{RunStep, InstanceStep, Refuses, present_stats, present_tables, present_vector}
use Rattle.session_engine.specs.Executed.{HasRowsOf, Ran}

-- Rows.

-- the shape of the kept combinations, in whatever order they come, is what the statement means
pub means : (q : Statement) (tables : List (List (List Value))) (args : List Value) (combos : List (List ℕ))
    → in_order is_lower combos ≡ kept_combinations q tables args → shape_of q tables combos ≡ meaning_of q tables args
means q tables args combos k =
    ap (rows_shown tables q.items q.groups q.order) (k ∙ sym (in_order-kept (world_of q tables args)))

-- and there are as many of them
pub as_many : (q : Statement) (tables : List (List (List Value))) (args : List Value) (combos : List (List ℕ))
    → in_order is_lower combos ≡ kept_combinations q tables args → length combos ≡ length
    (kept_combinations q tables args)
as_many q tables args combos k =
    sym (count_any (in_order is_lower combos) combos (λ c. times_in_order is_same is_lower combos c))
    ∙ ap (λ (some : List (List ℕ)). length some) k

above : (a b : ℕ) → b < a → nat_le a b ≡ false
above a b h = grind (arith, nat_tests)

within : (a b : ℕ) → a ≤ b → nat_le a b ≡ true
within a b h = grind (arith, nat_tests)

-- what is shaped of the kept combinations
pub shaped_rows : (q : Statement) (tables : List TableValue) (args : List Value) (combos : List (List ℕ))
    (result : Result Rows RowsFault) → in_order is_lower combos ≡ kept_combinations q (rows_in tables) args
    → IsShaped q tables combos result → HasRowsOf q (rows_in tables) args result
shaped_rows q tables args combos (Ok rows) k h =
    let meant = means q (rows_in tables) args combos k in
    let all : rows_seen q rows ≡ meaning_of q (rows_in tables) args = h.0 ∙ meant in
    (all, within _ 1000000 (subst (λ (some : List (List Shown)). length some ≤ 1000000) all h.1))
shaped_rows q tables args combos (Err TooManyRows) k h =
    subst (λ (some : List (List Shown)). 1000000 < length some) (means q (rows_in tables) args combos k) h
shaped_rows q tables args combos (Err Memory) k h = h

pub too_many : (number : ℕ) (name : List ℕ) (q : Statement) (tables : List (List (List Value))) (args : List Value)
    → IsRefusedRows (length (meaning_of q tables args)) TooManyRows
    → nat_le (length (meaning_of q tables args)) 1000000 ≡ false
too_many number name q tables args many = above _ 1000000 many

-- Parameters.

pub few_kinds : (q : Statement) → IsSoundQuery q → length (kinds_of q.places q.preds) ≤ 128
few_kinds q s = omega (arith, length-kinds_of q.places q.preds s.preds, s.few_selectivities)

-- Steps.

pub refused_run : (old : State) (name : List ℕ) (args : List Value) (why : Refusal) (answer : Reply)
    → instance_of old.catalog name args ≡ Err why → answer ≡ reply.Refused why → RunStep old name args answer old
refused_run old name args why answer e says = rw e (record { says = says; unchanged = refl })

of_instance : (old new : State) (name : List ℕ) (args : List Value) (instance : Instance) (answer : Reply)
    → instance_of old.catalog name args ≡ Ok instance
    → InstanceStep old name instance.statement instance.args answer new → RunStep old name args answer new
of_instance old new name args instance answer e step = rw e step

refused_by : (old : State) (o : Option Refusal) (why : Refusal) (answer : Reply) (P : Type 0) → o ≡ Some why
    → answer ≡ reply.Refused why → MatchOption o P (λ w. Refuses w old answer old)
refused_by old o why answer P e says = rw e (record { says = says; unchanged = refl })

large : (n : ℕ) → nat_le n 1000000 ≡ false → rows_refusal n ≡ Some (refusal 12 [])
large n e = rw e refl

small : (n : ℕ) → nat_le n 1000000 ≡ true → rows_refusal n ≡ None
small n e = rw e refl

pub too_large : (old : State) (name : List ℕ) (args : List Value) (instance : Instance) (answer : Reply)
    → instance_of old.catalog name args ≡ Ok instance →
    nat_le (length (meaning_of instance.statement (present_tables old instance.statement) instance.args)) 1000000
    ≡ false → answer ≡ reply.Refused (refusal 12 []) → RunStep old name args answer old
too_large old name args instance answer e n says =
    of_instance old old name args instance answer e
    (refused_by old
    (rows_refusal (length (meaning_of instance.statement (present_tables old instance.statement) instance.args)))
    (refusal 12 []) answer _ (large _ n) says)

executes_by : (o : Option Refusal) (P : Type 0) (Q : Refusal → Type 0) → o ≡ None → P → MatchOption o P Q
executes_by o P Q e p = rw e p

pub executed_run : (old new : State) (name : List ℕ) (args : List Value) (instance : Instance) (number : ℕ)
    (before after : CacheState) (e : Execution) (lines : List (List ℕ)) → instance_of old.catalog name args ≡ Ok
    instance
    → number_of old.catalog.statements name ≡ Some number → cache_at old.caches number ≡ before →
    Ran old.settings (old.executions + 1) name instance.statement (present_tables old instance.statement) instance.args
    (present_stats old instance.statement) (present_vector old instance.statement instance.args) before e lines after
    → new ≡ record old { caches = set old.caches number after; executions = old.executions + 1 }
    → RunStep old name args (reply.Ran e lines) new
executed_run old new name args instance number before after e lines i is there ran n =
    let shows = subst (λ (c : CacheState). IsExecution old.settings (old.executions + 1) name instance.statement
    (present_stats old instance.statement) (present_vector old instance.statement instance.args) c e after) (sym there)
    ran.shows in
    of_instance old new name args instance (reply.Ran e lines) i
    (executes_by
    (rows_refusal (length (meaning_of instance.statement (present_tables old instance.statement) instance.args))) _ _
    (small _ ran.few)
    (record {
      step = record {
        number = number;
        its_number = is;
        execution = e;
        cache = after;
        shows = shows;
        keeps = n;
      };
      says = ap (reply.Ran e) ran.rows;
    }))
