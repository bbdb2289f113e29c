-- The lines of instances, `run` and `cursor`, as the walk takes them.
use Rattle.std.proofs.Common.{ℕ, ◌≡◌, ◌∙◌, ◌<◌, ◌+◌, ◌^◌, ◌++◌, ◌∷◌}
use Rattle.std.proofs.Common.{[], nat_le, Bool, true, false, cond, List, length, map}
use Rattle.std.proofs.Common.{Option, Some, None, Result, Ok, MatchOption, ap, refl, sym, subst, arith}
use Rattle.row_values.specs.Refusals.{too_many_rows}
use Rattle.row_values.specs.declared.refusals.Refusal.{Refusal}
use Rattle.row_values.specs.declared.values.Value.{Value}
use Rattle.statement_meaning.specs.Meaning.{meaning_of}
use Rattle.statement_meaning.specs.Spelling.{row_line}
use Rattle.script_report.specs.declared.replies.Reply.{Reply}
use Rattle.script_report.specs.declared.replies.Reply.TheVariants.{Opened, Ran, Refused}
use Rattle.report_items.specs.declared.items.ReportItem.{ReportItem}
use Rattle.reported_items.specs.Reported.{block_told}
use Rattle.catalog_model.specs.Held.{HeldCursor, holding_refusal, versions_of}
use Rattle.catalog_model.specs.Instances.{Instance, instance_of}
use Rattle.certificate_check.specs.declared.entries.Entry.{Entry}
use Rattle.session_model.specs.Executions.{rows_refusal}
use Rattle.session_model.specs.Session.{IsSession}
use Rattle.session_model.specs.State.{CursorState, State, holds_of}
use Rattle.session_model.specs.Step.{CursorStep, Executes, InstanceStep, OpenInstanceStep, OpenStep, Opens, Refuses}
use Rattle.session_model.specs.Step.{RunStep, present_tables}
use Rattle.session_model.specs.declared.TheConstants.{RESULT_LIMIT}
use Rattle.session_model.proofs.Holds.{holds_behind}
use Rattle.session_bound.specs.Bound.{IsBoundedReply}
use Rattle.session_bound.specs.Ledger.{with_execution}
use Rattle.report_verifier.specs.Walk.{Matches, Walk}
use Rattle.report_verifier.specs.Walk.{ExecutionStep as WalkExecutionStep, CursorStep as WalkCursorStep}
use Rattle.report_verifier.specs.declared.rejections.Why.{Why}
use Rattle.accepted_reports.proofs.DatedLedgers.{AreDated, executed_dated}
use Rattle.accepted_reports.proofs.Executions.{execution_matched, too_large_matched}
use Rattle.accepted_reports.proofs.OtherRefusals.{IsOther, IsOtherIfAny, holding_other, instance_other}
use Rattle.accepted_reports.proofs.Walked.{IsWalked, by_result, refused, walked_as, walk_in}

-- the cursor of this name that an instance opens
abbrev opened_cursor : State → List ℕ → Instance → CursorState
opened_cursor old cursor instance = record {
  name = cursor;
  held = versions_of old.catalog.tables instance.statement;
  lines = map row_line (meaning_of instance.statement (present_tables old instance.statement) instance.args);
}

-- the result has few rows, or too many
by_rows : (P : Type 0) (rows : ℕ) (F : Type 0) (G : Refusal → Type 0) → MatchOption (rows_refusal rows) F G → (F → P)
    → (G too_many_rows → P) → P
by_rows P rows F G h few many = by_test (nat_le rows RESULT_LIMIT) h
  where
    by_test : (test : Bool) → MatchOption (cond test None (Some too_many_rows)) F G → P
    by_test true h = few h
    by_test false h = many h

-- it is refused for another cause, or not
by_refusal : (P : Type 0) (o : Option Refusal) (F : Type 0) (G : Refusal → Type 0) → MatchOption o F G → IsOtherIfAny o
    → (o ≡ None → F → P) → ((why : Refusal) → o ≡ Some why → IsOther why → G why → P) → P
by_refusal P None F G h other none some = none refl h
by_refusal P (Some why) F G h other none some = some why refl other h

module _ (ledger : List Entry) (count : ℕ) (later : List ReportItem) (line : ℕ) (old new : State) (reply : Reply)
    (session : IsSession old) (dated : AreDated old.executions ledger) (small : old.executions < 2 ^ 63)
    (bounded : IsBoundedReply old ledger reply) where
  -- `run`
  abbrev RunTakes : List ℕ → List Value → Walk → Result Walk Why → Type 0
  RunTakes name args walk outcome = WalkExecutionStep walk line None name args outcome

  ran : (name : List ℕ) (args : List Value) (instance : Instance) → instance_of old.catalog name args ≡ Ok instance
      → Executes old name instance.statement instance.args reply new
      → IsWalked (RunTakes name args) ledger count later line old new reply
  ran name args instance i e =
      walked_as (RunTakes name args) ledger count later line old new _ reply (Ran e.step.execution
      _) e.says e.step.keeps
      (record {
        count_then = count;
        counted = omega arith;
        executions = refl;
        step = rw i (execution_matched ledger count later line None old new name args instance session dated small i
            e.step (subst (IsBoundedReply old ledger) e.says bounded));
        dated = executed_dated old.catalog.statements e.step.execution old.executions ledger e.step.shows.numbered;
      })

  too_many : (name : List ℕ) (args : List Value) (instance : Instance) → instance_of old.catalog
      name args ≡ Ok instance
      → Refuses too_many_rows old reply new → IsWalked (RunTakes name args) ledger count later line old new reply
  too_many name args instance i r =
      walked_as (RunTakes name args) ledger count later line old new old reply (Refused
      too_many_rows) r.says r.unchanged
      (record {
        count_then = count + 1;
        counted = refl;
        executions = omega arith;
        step = rw i (too_large_matched ledger count later line None old name args instance i);
        dated = λ h. h;
      })

  pub run_walked : (name : List ℕ) (args : List Value) → RunStep old name args reply new
      → IsWalked (RunTakes name args) ledger count later line old new reply
  run_walked name args step =
      by_result (IsWalked (RunTakes name args) ledger count later line old new reply) (instance_of
      old.catalog name args)
      (λ instance. InstanceStep old name instance.statement instance.args reply new)
      (λ why. Refuses why old reply new) step (instance_other old.catalog name args)
      (λ instance i s. by_rows (IsWalked (RunTakes name args) ledger count later line old new reply)
      (length (meaning_of instance.statement (present_tables old instance.statement) instance.args))
      (Executes old name instance.statement instance.args reply new) (λ why. Refuses why old reply new) s
      (ran name args instance i) (too_many name args instance i))
      (λ why e other r. refused (RunTakes name args) ledger count later line why old new reply other r (rw e refl))

  -- `cursor`
  abbrev CursorTakes : List ℕ → List ℕ → List Value → Walk → Result Walk Why → Type 0
  CursorTakes cursor name args walk outcome = WalkCursorStep walk line cursor name args outcome

  opened : (cursor name : List ℕ) (args : List Value) (instance : Instance)
      → holding_refusal (holds_of old.cursors) cursor ≡ None → instance_of old.catalog name args ≡ Ok instance
      → Opens old cursor name instance.statement instance.args reply new
      → IsWalked (CursorTakes cursor name args) ledger count later line old new reply
  opened cursor name args instance free i o =
      walked_as (CursorTakes cursor name args) ledger count later line old new _ reply (Opened cursor o.step.execution)
      o.says (o.keeps
      ∙ ap (λ (s : State). let with : State =
      record s { cursors = old.cursors ++ opened_cursor old cursor instance ∷ [] } in with) o.step.keeps)
      (record {
        count_then = count;
        counted = omega arith;
        executions = refl;
        step = rw (free, i) (subst (λ (held : List HeldCursor). Matches
            (walk_in old ledger count (block_told line o.step.execution ∷ later)) line (Some cursor) name
            instance.statement instance.args
            (Ok (record (walk_in old (with_execution old.catalog.statements o.step.execution ledger) count later) {
              cursors = held;
              executions = old.executions + 1;
            })))
            (sym (holds_behind old.cursors (opened_cursor old cursor instance)))
            (execution_matched ledger count later line (Some cursor) old o.middle name args
            instance session dated small
            i o.step (subst (IsBoundedReply old ledger) o.says bounded)));
        dated = executed_dated old.catalog.statements o.step.execution old.executions ledger o.step.shows.numbered;
      })

  too_many_for : (cursor name : List ℕ) (args : List Value) (instance : Instance)
      → holding_refusal (holds_of old.cursors) cursor ≡ None → instance_of old.catalog name args ≡ Ok instance
      → Refuses too_many_rows old reply new
      → IsWalked (CursorTakes cursor name args) ledger count later line old new reply
  too_many_for cursor name args instance free i r =
      walked_as (CursorTakes cursor name args) ledger count later line old new old reply (Refused too_many_rows) r.says
      r.unchanged
      (record {
        count_then = count + 1;
        counted = refl;
        executions = omega arith;
        step = rw (free, i) (too_large_matched ledger count later line (Some cursor) old name args instance i);
        dated = λ h. h;
      })

  opened_walked : (cursor name : List ℕ) (args : List Value) → holding_refusal (holds_of old.cursors) cursor ≡ None
      → OpenStep old cursor name args reply new
      → IsWalked (CursorTakes cursor name args) ledger count later line old new reply
  opened_walked cursor name args free step =
      by_result (IsWalked (CursorTakes cursor name args) ledger count later line old new reply)
      (instance_of old.catalog name args)
      (λ instance. OpenInstanceStep old cursor name instance.statement instance.args reply new)
      (λ why. Refuses why old reply new) step (instance_other old.catalog name args)
      (λ instance i s. by_rows (IsWalked (CursorTakes cursor name args) ledger count later line old new reply)
      (length (meaning_of instance.statement (present_tables old instance.statement) instance.args))
      (Opens old cursor name instance.statement instance.args reply new) (λ why. Refuses why old reply new) s
      (opened cursor name args instance free i) (too_many_for cursor name args instance free i))
      (λ why e other r. refused (CursorTakes cursor name args) ledger count later line why old new reply other r
      (rw (free, e) refl))

  pub cursor_walked : (cursor name : List ℕ) (args : List Value) → CursorStep old cursor name args reply new
      → IsWalked (CursorTakes cursor name args) ledger count later line old new reply
  cursor_walked cursor name args step =
      by_refusal (IsWalked (CursorTakes cursor name args) ledger count later line old new reply)
      (holding_refusal (holds_of old.cursors) cursor) (OpenStep old cursor name args reply new)
      (λ why. Refuses why old reply new) step (holding_other (holds_of old.cursors) cursor)
      (opened_walked cursor name args)
      (λ why e other r. refused (CursorTakes cursor name args) ledger count later line why old new reply other r
      (rw e refl))
