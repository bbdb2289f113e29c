-- The walk beside the states of a run, and the lines that are no item of the report.
use Rattle.std.proofs.Common.{ℕ, ◌≡◌, ◌+◌, List, [], ◌++◌, Option, Some, None}
use Rattle.std.proofs.Common.{Result, Ok, Err, MatchOption, MatchResult, refl, sym, subst, subst₂, arith}
use Rattle.row_values.specs.declared.refusals.Refusal.{Refusal}
use Rattle.script_report.specs.declared.replies.Reply.{Reply}
use Rattle.script_report.specs.declared.replies.Reply.TheVariants.{Refused}
use Rattle.report_items.specs.declared.items.ReportItem.{ReportItem}
use Rattle.reported_items.specs.RunItems.{reply_items}
use Rattle.certificate_check.specs.declared.entries.Entry.{Entry}
use Rattle.session_model.specs.State.{State, holds_of}
use Rattle.session_model.specs.Step.{Refuses}
use Rattle.session_bound.specs.Ledger.{ledger_after}
use Rattle.report_verifier.specs.Walk.{Walk}
use Rattle.report_verifier.specs.declared.rejections.Why.{Why}
use Rattle.accepted_reports.specs.Accepted.{executed_by, too_large_by}
use Rattle.accepted_reports.proofs.DatedLedgers.{AreDated}
use Rattle.accepted_reports.proofs.OtherRefusals.{IsOther, RefusesOther}

-- the walk beside a state of a session: with its catalog, cursors, executions and lambda
abbrev pub walk_in : State → List Entry → ℕ → List ReportItem → Walk
walk_in state ledger too_large items = record {
  catalog = state.catalog;
  cursors = holds_of state.cursors;
  ledger = ledger;
  executions = state.executions;
  too_large = too_large;
  items = items;
  lambda = state.settings.lambda;
}

-- the walk takes the line with its reply's items, and is beside the next state then
pub record IsWalked (Takes : Walk → Result Walk Why → Type 0) (ledger : List Entry) (count : ℕ)
    (later : List ReportItem) (line : ℕ) (old new : State) (reply : Reply) : Type 0 where
  pub count_then : ℕ
  pub counted : count_then ≡ count + too_large_by reply
  pub executions : new.executions ≡ old.executions + executed_by reply
  pub step : Takes (walk_in old ledger count (reply_items line reply ++ later))
      (Ok (walk_in new (ledger_after old.catalog.statements reply ledger) count_then later))
  pub dated : AreDated old.executions ledger
      → AreDated new.executions (ledger_after old.catalog.statements reply ledger)

-- By cases, with what is known in each.

pub by_result : {T : Type 0} (P : Type 0) (r : Result T Refusal) (F : T → Type 0) (G : Refusal → Type 0)
    → MatchResult r F G → RefusesOther r → ((t : T) → r ≡ Ok t → F t → P)
    → ((why : Refusal) → r ≡ Err why → IsOther why → G why → P) → P
by_result P (Ok t) F G h other ok err = ok t refl h
by_result P (Err why) F G h other ok err = err why refl other h

pub by_option : {T : Type 0} (P : Type 0) (o : Option T) (F : Type 0) (G : T → Type 0) → MatchOption o F G
    → (o ≡ None → F → P) → ((t : T) → o ≡ Some t → G t → P) → P
by_option P None F G h none some = none refl h
by_option P (Some t) F G h none some = some t refl h

module _ (Takes : Walk → Result Walk Why → Type 0) (ledger : List Entry) (count : ℕ) (later : List ReportItem)
    (line : ℕ) where
  pub walked_as : (old new other : State) (reply said : Reply) → reply ≡ said → new ≡ other
      → IsWalked Takes ledger count later line old other said → IsWalked Takes ledger count later line old new reply
  walked_as old new other reply said e f h =
      subst₂ (λ (s : State) (r : Reply). IsWalked Takes ledger count later line old s r) (sym f) (sym e) h

  -- a line that is refused for another cause leaves the walk as it is
  pub refused : (why : Refusal) (old new : State) (reply : Reply) → IsOther why → Refuses why old reply new
      → Takes (walk_in old ledger count later) (Ok (walk_in old ledger count later))
      → IsWalked Takes ledger count later line old new reply
  refused why old new reply other r stays =
      walked_as old new old reply (Refused why) r.says r.unchanged
      (record {
        count_then = count;
        counted = rw other (omega arith);
        executions = omega arith;
        step = rw other stays;
        dated = λ h. h;
      })

  -- a line whose reply is no item, and that executes nothing
  pub went : (old new : State) (said : Reply) → reply_items line said ≡ [] → too_large_by said ≡ 0
      → executed_by said ≡ 0
      → new.executions ≡ old.executions
      → Takes (walk_in old ledger count later)
      (Ok (walk_in new (ledger_after old.catalog.statements said ledger) count later))
      → (AreDated old.executions ledger → AreDated new.executions (ledger_after old.catalog.statements said ledger))
      → IsWalked Takes ledger count later line old new said
  went old new said no_item none nothing same step dated = record {
    count_then = count;
    counted = omega (arith, none);
    executions = omega (arith, nothing, same);
    step = subst (λ (items : List ReportItem). Takes (walk_in old ledger count (items ++ later))
        (Ok (walk_in new (ledger_after old.catalog.statements said ledger) count later))) (sym no_item) step;
    dated = dated;
  }
