use Rattle.std.proofs.Common.{◌+◌, ◌∙◌, ◌++◌, ◌∷◌, [], List, Err, Some, None, ap, length, subst, sym, take, drop}
use Rattle.anchor_cache.specs.Contents.{Contents}
use Rattle.catalog_model.specs.Catalogs.{Catalog, number_of}
use Rattle.catalog_model.specs.Held.{holding_refusal}
use Rattle.script_report.specs.declared.replies.Reply.TheVariants as reply
use Rattle.session_store.specs.Kept.{StoreState}
use Rattle.session_store.specs.Outcomes.{Allows}
use Rattle.session_model.specs.State.{State}
use Rattle.session_model.specs.Step.{CursorStep}
use Rattle.session_engine.specs.Cursors.{lines_of}
use Rattle.session_engine.specs.Numbered.{Numbers}
use Rattle.session_engine.specs.Serving.{IsKeptWhole, IsSessionKept, open_in, session_in}
use Rattle.session_engine.specs.declared.waiting.Waiting.{Waiting}
use Rattle.session_engine.proofs.KeptCursors.{RunsWith, counts_back, counts_held, counts_same}
use Rattle.session_engine.proofs.KeptCursors.{failed_opening, free_told, held_for, not_held, open_refused, open_shown}
use Rattle.session_engine.proofs.KeptCursors.{opening, refused_opening, unknown_open}
use Rattle.session_engine.proofs.KeptRuns.{on_err}
use Rattle.session_engine.proofs.KeptSessions.{with_whole}
use Rattle.session_engine.proofs.session.Session.cursor.Goals as goal

pub returns-in-Err-Refused-clause-ok : goal.returns-in-Err-Refused-clause-ok
returns-in-Err-Refused-clause-ok g c =
    let taken = subst (λ fault. Allows (holding_refusal c.self.inside.store.cursors c.args.cursor.now) (Err fault))
    c.in-Err-Refused.field-0-is c.in-Err-Refused.ensures in
    open_refused c.args.self.now c.args.cursor.now c.args.name.now c.args.args.now c.in-Err-Refused.why
    (free_told c.self.inside.store c.self.inside.caches.items c.self.inside.waiting.items c.self.inside.executions
    c.self.inside.settings
    c.args.self.now c.args.cursor.now (Some c.in-Err-Refused.why) c.self.invariant c.self.view_is taken)

pub returns-in-Err-clause-ok : goal.returns-in-Err-clause-ok
returns-in-Err-clause-ok g c =
    let none = subst (Numbers c.args.self.now.catalog.statements c.args.name.now) c.in-Err.is c.in_ok-statement.ensures
    in
    unknown_open c.args.self.now c.args.cursor.now c.args.name.now c.args.args.now c.in-Err.why
    (free_told c.self.inside.store c.self.inside.caches.items c.self.inside.waiting.items c.self.inside.executions
    c.self.inside.settings
    c.args.self.now c.args.cursor.now None c.self.invariant c.self.view_is c.in-Ok.ensures) none.0 none.1

-- memory was short for what the store holds

pub invariant_of-self-in_err-hold_cursor : goal.invariant_of-self-in_err-hold_cursor
invariant_of-self-in_err-hold_cursor g c =
    let is = subst (Numbers c.args.self.now.catalog.statements c.args.name.now) c.in-Ok-2.is c.in_ok-statement.ensures
    in
    let number = ap (λ (s : State). number_of s.catalog.statements c.args.name.now) c.self.view_is ∙ is in
    let back = not_held c.self.inside.store c.hold_cursor.new.self c.args.name.now c.in-Ok-2.statement number
    c.in_err-hold_cursor.ensures in
    subst (λ (ws : List Waiting). IsKeptWhole c.hold_cursor.new.self c.self.inside.caches.items ws
    c.self.inside.executions c.self.inside.settings) (sym c.in_ok-reserve.ensures.items)
    (subst (λ (s : StoreState). IsKeptWhole s c.self.inside.caches.items c.self.inside.waiting.items
    c.self.inside.executions c.self.inside.settings) (sym back) c.self.invariant)

pub returns-in_err-hold_cursor-clause-err : goal.returns-in_err-hold_cursor-clause-err
returns-in_err-hold_cursor-clause-err g c =
    let is = subst (Numbers c.args.self.now.catalog.statements c.args.name.now) c.in-Ok-2.is c.in_ok-statement.ensures
    in
    let number = ap (λ (s : State). number_of s.catalog.statements c.args.name.now) c.self.view_is ∙ is in
    let back = not_held c.self.inside.store c.hold_cursor.new.self c.args.name.now c.in-Ok-2.statement number
    c.in_err-hold_cursor.ensures in
    on_err _ _ (ap (λ (ws : List Waiting). session_in c.hold_cursor.new.self c.self.inside.caches.items ws
    c.self.inside.executions c.self.inside.settings) c.in_ok-reserve.ensures.items
    ∙ (ap (λ (s : StoreState). session_in s c.self.inside.caches.items c.self.inside.waiting.items
    c.self.inside.executions c.self.inside.settings) back ∙ c.self.view_is))

pub returns-in_err-hold_cursor-clause-counts : goal.returns-in_err-hold_cursor-clause-counts
returns-in_err-hold_cursor-clause-counts g c =
    let is = subst (Numbers c.args.self.now.catalog.statements c.args.name.now) c.in-Ok-2.is c.in_ok-statement.ensures
    in
    let number = ap (λ (s : State). number_of s.catalog.statements c.args.name.now) c.self.view_is ∙ is in
    let back = not_held c.self.inside.store c.hold_cursor.new.self c.args.name.now c.in-Ok-2.statement number
    c.in_err-hold_cursor.ensures in
    counts_same c.args.self.now _ (ap (λ (ws : List Waiting). session_in c.hold_cursor.new.self
    c.self.inside.caches.items ws c.self.inside.executions c.self.inside.settings) c.in_ok-reserve.ensures.items
    ∙ (ap (λ (s : StoreState). session_in s c.self.inside.caches.items c.self.inside.waiting.items
    c.self.inside.executions c.self.inside.settings) back ∙ c.self.view_is))

pub run-outcome-requires-clause-kept : goal.run-outcome-requires-clause-kept
run-outcome-requires-clause-kept g c =
    let is = subst (Numbers c.args.self.now.catalog.statements c.args.name.now) c.in-Ok-2.is c.in_ok-statement.ensures
    in
    let number = ap (λ (s : State). number_of s.catalog.statements c.args.name.now) c.self.view_is ∙ is in
    let held = held_for c.self.inside.store c.hold_cursor.new.self c.args.cursor.now c.args.name.now c.in-Ok-2.statement
    number c.in_ok-hold_cursor.ensures in
    let cursors = open_in c.self.inside.store c.self.inside.waiting.items in (
      cursors,
      subst (λ (k : Catalog). IsSessionKept k c.as_mut_slice.result.now cursors c.self.inside.executions
          c.self.inside.settings) (sym (ap (λ (s : StoreState). s.catalog) held.held))
          (subst (λ (cs : List Contents). IsSessionKept c.self.inside.store.catalog cs cursors c.self.inside.executions
          c.self.inside.settings) (sym c.as_mut_slice.ensures.value) c.self.invariant.kept),
    )

-- it is opened

pub invariant_of-self-in-Ok-Ok : goal.invariant_of-self-in-Ok-Ok
invariant_of-self-in-Ok-Ok g c =
    let is = subst (Numbers c.args.self.now.catalog.statements c.args.name.now) c.in-Ok-2.is c.in_ok-statement.ensures
    in
    let number = ap (λ (s : State). number_of s.catalog.statements c.args.name.now) c.self.view_is ∙ is in
    let held = held_for c.self.inside.store c.hold_cursor.new.self c.args.cursor.now c.args.name.now c.in-Ok-2.statement
    number c.in_ok-hold_cursor.ensures in
    let before = sym (ap length c.as_mut_slice.ensures.value) ∙ c.as_mut_slice.ensures.len in
    let long = c.run-outcome.ensures.one_each ∙ c.as_mut_slice.ensures.len in
    let whole = sym (with_whole _ c.run-outcome.new.caches c.self.inside.caches.items long before) in
    let opened = opening c.self.inside.store c.hold_cursor.new.self c.self.inside.caches.items
    c.as_mut_slice.result.now c.run-outcome.new.caches c.self.inside.waiting.items c.push_reserved.new.self.items
    c.self.inside.executions c.self.inside.settings c.args.cursor.now c.args.name.now c.args.args.now
    c.in-Ok-Ok.execution c.in-Ok-Ok.rows c.in-Ok-2.statement held c.self.invariant c.in-Ok.ensures
    c.as_mut_slice.ensures.value
    (c.push_reserved.ensures.items
    ∙ (ap (λ (ws : List Waiting). ws ++ c.new.result ∷ []) c.in_ok-reserve.ensures.items
    ∙ ap (λ (w : Waiting). c.self.inside.waiting.items ++ w ∷ []) c.new.ensures))
    (subst (λ outcome. RunsWith lines_of c.hold_cursor.new.self c.as_mut_slice.result.now c.run-outcome.new.caches
    c.self.inside.executions c.self.inside.settings c.args.name.now c.args.args.now outcome) c.in-Ok-Ok.field-0-is
    c.in-Ok-Ok.ensures.ok) in
    subst (λ (caches : List Contents). IsKeptWhole c.hold_cursor.new.self caches c.push_reserved.new.self.items
    (c.self.inside.executions + 1) c.self.inside.settings) whole opened.kept

pub returns-in-Ok-Ok-clause-ok : goal.returns-in-Ok-Ok-clause-ok
returns-in-Ok-Ok-clause-ok g c =
    let is = subst (Numbers c.args.self.now.catalog.statements c.args.name.now) c.in-Ok-2.is c.in_ok-statement.ensures
    in
    let number = ap (λ (s : State). number_of s.catalog.statements c.args.name.now) c.self.view_is ∙ is in
    let held = held_for c.self.inside.store c.hold_cursor.new.self c.args.cursor.now c.args.name.now c.in-Ok-2.statement
    number c.in_ok-hold_cursor.ensures in
    let before = sym (ap length c.as_mut_slice.ensures.value) ∙ c.as_mut_slice.ensures.len in
    let long = c.run-outcome.ensures.one_each ∙ c.as_mut_slice.ensures.len in
    let whole = sym (with_whole _ c.run-outcome.new.caches c.self.inside.caches.items long before) in
    let opened = opening c.self.inside.store c.hold_cursor.new.self c.self.inside.caches.items
    c.as_mut_slice.result.now c.run-outcome.new.caches c.self.inside.waiting.items c.push_reserved.new.self.items
    c.self.inside.executions c.self.inside.settings c.args.cursor.now c.args.name.now c.args.args.now
    c.in-Ok-Ok.execution c.in-Ok-Ok.rows c.in-Ok-2.statement held c.self.invariant c.in-Ok.ensures
    c.as_mut_slice.ensures.value
    (c.push_reserved.ensures.items
    ∙ (ap (λ (ws : List Waiting). ws ++ c.new.result ∷ []) c.in_ok-reserve.ensures.items
    ∙ ap (λ (w : Waiting). c.self.inside.waiting.items ++ w ∷ []) c.new.ensures))
    (subst (λ outcome. RunsWith lines_of c.hold_cursor.new.self c.as_mut_slice.result.now c.run-outcome.new.caches
    c.self.inside.executions c.self.inside.settings c.args.name.now c.args.args.now outcome) c.in-Ok-Ok.field-0-is
    c.in-Ok-Ok.ensures.ok) in
    subst (λ (caches : List Contents). CursorStep c.args.self.now c.args.cursor.now c.args.name.now c.args.args.now
    (reply.Opened c.in_ok-shown.shown c.in-Ok-Ok.execution)
    (session_in c.hold_cursor.new.self caches c.push_reserved.new.self.items (c.self.inside.executions + 1)
    c.self.inside.settings)) whole
    (open_shown _ c.args.self.now _ c.args.cursor.now c.in_ok-shown.shown c.args.name.now c.args.args.now
    c.in-Ok-Ok.execution c.self.view_is c.in_ok-shown.ensures opened.steps)

pub returns-in-Ok-Ok-clause-counts : goal.returns-in-Ok-Ok-clause-counts
returns-in-Ok-Ok-clause-counts g c =
    let is = subst (Numbers c.args.self.now.catalog.statements c.args.name.now) c.in-Ok-2.is c.in_ok-statement.ensures
    in
    let number = ap (λ (s : State). number_of s.catalog.statements c.args.name.now) c.self.view_is ∙ is in
    let held = held_for c.self.inside.store c.hold_cursor.new.self c.args.cursor.now c.args.name.now c.in-Ok-2.statement
    number c.in_ok-hold_cursor.ensures in
    counts_held c.self.inside.store c.hold_cursor.new.self c.self.inside.caches.items _ c.self.inside.waiting.items _
    c.self.inside.executions c.self.inside.settings c.args.self.now c.args.cursor.now c.args.name.now
    c.in-Ok-2.statement held c.self.view_is

-- the run is refused

pub invariant_of-self-in-Err-outcome-2 : goal.invariant_of-self-in-Err-outcome-2
invariant_of-self-in-Err-outcome-2 g c =
    let is = subst (Numbers c.args.self.now.catalog.statements c.args.name.now) c.in-Ok-2.is c.in_ok-statement.ensures
    in
    let number = ap (λ (s : State). number_of s.catalog.statements c.args.name.now) c.self.view_is ∙ is in
    let held = held_for c.self.inside.store c.hold_cursor.new.self c.args.cursor.now c.args.name.now c.in-Ok-2.statement
    number c.in_ok-hold_cursor.ensures in
    let before = sym (ap length c.as_mut_slice.ensures.value) ∙ c.as_mut_slice.ensures.len in
    let long = c.run-outcome.ensures.one_each ∙ c.as_mut_slice.ensures.len in
    let whole = sym (with_whole _ c.run-outcome.new.caches c.self.inside.caches.items long before) in
    let refused = refused_opening lines_of c.self.inside.store c.hold_cursor.new.self c.close_cursor.new.self
    c.self.inside.caches.items c.as_mut_slice.result.now c.run-outcome.new.caches c.self.inside.waiting.items
    c.self.inside.executions c.self.inside.settings c.args.cursor.now c.args.name.now c.args.args.now c.in-Ok-Err.why
    c.in-Ok-2.statement c.close_cursor.result held c.self.invariant c.in-Ok.ensures c.as_mut_slice.ensures.value
    c.close_cursor.ensures
    (subst (λ outcome. RunsWith lines_of c.hold_cursor.new.self c.as_mut_slice.result.now c.run-outcome.new.caches
    c.self.inside.executions c.self.inside.settings c.args.name.now c.args.args.now outcome) c.in-Ok-Err.field-0-is
    c.in-Ok-Err.ensures.ok) in
    subst (λ (ws : List Waiting). IsKeptWhole c.close_cursor.new.self (take c.self.inside.caches.len
    (c.run-outcome.new.caches ++ drop (length c.run-outcome.new.caches) c.self.inside.caches.items)) ws
    c.self.inside.executions c.self.inside.settings) (sym c.in_ok-reserve.ensures.items)
    (subst (λ (caches : List Contents). IsKeptWhole c.close_cursor.new.self caches c.self.inside.waiting.items
    c.self.inside.executions c.self.inside.settings) whole refused.kept)

pub returns-in-Ok-Err-clause-ok : goal.returns-in-Ok-Err-clause-ok
returns-in-Ok-Err-clause-ok g c =
    let is = subst (Numbers c.args.self.now.catalog.statements c.args.name.now) c.in-Ok-2.is c.in_ok-statement.ensures
    in
    let number = ap (λ (s : State). number_of s.catalog.statements c.args.name.now) c.self.view_is ∙ is in
    let held = held_for c.self.inside.store c.hold_cursor.new.self c.args.cursor.now c.args.name.now c.in-Ok-2.statement
    number c.in_ok-hold_cursor.ensures in
    let before = sym (ap length c.as_mut_slice.ensures.value) ∙ c.as_mut_slice.ensures.len in
    let long = c.run-outcome.ensures.one_each ∙ c.as_mut_slice.ensures.len in
    let whole = sym (with_whole _ c.run-outcome.new.caches c.self.inside.caches.items long before) in
    let refused = refused_opening lines_of c.self.inside.store c.hold_cursor.new.self c.close_cursor.new.self
    c.self.inside.caches.items c.as_mut_slice.result.now c.run-outcome.new.caches c.self.inside.waiting.items
    c.self.inside.executions c.self.inside.settings c.args.cursor.now c.args.name.now c.args.args.now c.in-Ok-Err.why
    c.in-Ok-2.statement c.close_cursor.result held c.self.invariant c.in-Ok.ensures c.as_mut_slice.ensures.value
    c.close_cursor.ensures
    (subst (λ outcome. RunsWith lines_of c.hold_cursor.new.self c.as_mut_slice.result.now c.run-outcome.new.caches
    c.self.inside.executions c.self.inside.settings c.args.name.now c.args.args.now outcome) c.in-Ok-Err.field-0-is
    c.in-Ok-Err.ensures.ok) in
    subst (λ (ws : List Waiting). CursorStep c.args.self.now c.args.cursor.now c.args.name.now c.args.args.now
    (reply.Refused c.in-Ok-Err.why) (session_in c.close_cursor.new.self (take c.self.inside.caches.len
    (c.run-outcome.new.caches ++ drop (length c.run-outcome.new.caches) c.self.inside.caches.items)) ws
    c.self.inside.executions c.self.inside.settings)) (sym c.in_ok-reserve.ensures.items)
    (subst (λ (caches : List Contents). CursorStep c.args.self.now c.args.cursor.now c.args.name.now c.args.args.now
    (reply.Refused c.in-Ok-Err.why) (session_in c.close_cursor.new.self caches c.self.inside.waiting.items
    c.self.inside.executions c.self.inside.settings)) whole
    (subst (λ (s : State). CursorStep s c.args.cursor.now c.args.name.now c.args.args.now
    (reply.Refused c.in-Ok-Err.why) (session_in c.close_cursor.new.self c.run-outcome.new.caches
    c.self.inside.waiting.items c.self.inside.executions c.self.inside.settings)) c.self.view_is refused.steps))

pub returns-in-Ok-Err-clause-counts : goal.returns-in-Ok-Err-clause-counts
returns-in-Ok-Err-clause-counts g c =
    let is = subst (Numbers c.args.self.now.catalog.statements c.args.name.now) c.in-Ok-2.is c.in_ok-statement.ensures
    in
    let number = ap (λ (s : State). number_of s.catalog.statements c.args.name.now) c.self.view_is ∙ is in
    let held = held_for c.self.inside.store c.hold_cursor.new.self c.args.cursor.now c.args.name.now c.in-Ok-2.statement
    number c.in_ok-hold_cursor.ensures in
    counts_back c.self.inside.store c.hold_cursor.new.self c.close_cursor.new.self c.self.inside.caches.items _
    c.self.inside.waiting.items _ c.self.inside.executions c.self.inside.settings c.args.self.now c.args.cursor.now
    c.args.name.now c.in-Ok-2.statement c.close_cursor.result held c.in-Ok.ensures c.close_cursor.ensures
    c.self.view_is

-- memory was short at the run

pub invariant_of-self-in-Err-outcome : goal.invariant_of-self-in-Err-outcome
invariant_of-self-in-Err-outcome g c =
    let is = subst (Numbers c.args.self.now.catalog.statements c.args.name.now) c.in-Ok-2.is c.in_ok-statement.ensures
    in
    let number = ap (λ (s : State). number_of s.catalog.statements c.args.name.now) c.self.view_is ∙ is in
    let held = held_for c.self.inside.store c.hold_cursor.new.self c.args.cursor.now c.args.name.now c.in-Ok-2.statement
    number c.in_ok-hold_cursor.ensures in
    let before = sym (ap length c.as_mut_slice.ensures.value) ∙ c.as_mut_slice.ensures.len in
    let long = c.run-outcome.ensures.one_each ∙ c.as_mut_slice.ensures.len in
    let whole = sym (with_whole _ c.run-outcome.new.caches c.self.inside.caches.items long before) in
    let failed = failed_opening c.self.inside.store c.hold_cursor.new.self c.close_cursor-in-Err-outcome.new.self
    c.self.inside.caches.items c.as_mut_slice.result.now c.run-outcome.new.caches c.self.inside.waiting.items
    c.self.inside.executions c.self.inside.settings c.args.cursor.now c.args.name.now c.in-Ok-2.statement
    c.close_cursor-in-Err-outcome.result held c.self.invariant c.in-Ok.ensures c.as_mut_slice.ensures.value
    c.close_cursor-in-Err-outcome.ensures c.in-Err-outcome.ensures.err in
    subst (λ (ws : List Waiting). IsKeptWhole c.close_cursor-in-Err-outcome.new.self (take c.self.inside.caches.len
    (c.run-outcome.new.caches ++ drop (length c.run-outcome.new.caches) c.self.inside.caches.items)) ws
    c.self.inside.executions c.self.inside.settings) (sym c.in_ok-reserve.ensures.items)
    (subst (λ (caches : List Contents). IsKeptWhole c.close_cursor-in-Err-outcome.new.self caches
    c.self.inside.waiting.items c.self.inside.executions c.self.inside.settings) whole failed.kept)

pub returns-in-Err-outcome-clause-err : goal.returns-in-Err-outcome-clause-err
returns-in-Err-outcome-clause-err g c =
    let is = subst (Numbers c.args.self.now.catalog.statements c.args.name.now) c.in-Ok-2.is c.in_ok-statement.ensures
    in
    let number = ap (λ (s : State). number_of s.catalog.statements c.args.name.now) c.self.view_is ∙ is in
    let held = held_for c.self.inside.store c.hold_cursor.new.self c.args.cursor.now c.args.name.now c.in-Ok-2.statement
    number c.in_ok-hold_cursor.ensures in
    let before = sym (ap length c.as_mut_slice.ensures.value) ∙ c.as_mut_slice.ensures.len in
    let long = c.run-outcome.ensures.one_each ∙ c.as_mut_slice.ensures.len in
    let whole = sym (with_whole _ c.run-outcome.new.caches c.self.inside.caches.items long before) in
    let failed = failed_opening c.self.inside.store c.hold_cursor.new.self c.close_cursor-in-Err-outcome.new.self
    c.self.inside.caches.items c.as_mut_slice.result.now c.run-outcome.new.caches c.self.inside.waiting.items
    c.self.inside.executions c.self.inside.settings c.args.cursor.now c.args.name.now c.in-Ok-2.statement
    c.close_cursor-in-Err-outcome.result held c.self.invariant c.in-Ok.ensures c.as_mut_slice.ensures.value
    c.close_cursor-in-Err-outcome.ensures c.in-Err-outcome.ensures.err in
    ap (λ (ws : List Waiting). session_in c.close_cursor-in-Err-outcome.new.self (take c.self.inside.caches.len
    (c.run-outcome.new.caches ++ drop (length c.run-outcome.new.caches) c.self.inside.caches.items)) ws
    c.self.inside.executions c.self.inside.settings) c.in_ok-reserve.ensures.items
    ∙ (ap (λ (caches : List Contents). session_in c.close_cursor-in-Err-outcome.new.self caches
    c.self.inside.waiting.items c.self.inside.executions c.self.inside.settings) (sym whole)
    ∙ (failed.seen ∙ c.self.view_is))

pub returns-in-Err-outcome-clause-counts : goal.returns-in-Err-outcome-clause-counts
returns-in-Err-outcome-clause-counts g c =
    let is = subst (Numbers c.args.self.now.catalog.statements c.args.name.now) c.in-Ok-2.is c.in_ok-statement.ensures
    in
    let number = ap (λ (s : State). number_of s.catalog.statements c.args.name.now) c.self.view_is ∙ is in
    let held = held_for c.self.inside.store c.hold_cursor.new.self c.args.cursor.now c.args.name.now c.in-Ok-2.statement
    number c.in_ok-hold_cursor.ensures in
    counts_back c.self.inside.store c.hold_cursor.new.self c.close_cursor-in-Err-outcome.new.self
    c.self.inside.caches.items _ c.self.inside.waiting.items _ c.self.inside.executions c.self.inside.settings
    c.args.self.now c.args.cursor.now c.args.name.now c.in-Ok-2.statement c.close_cursor-in-Err-outcome.result held
    c.in-Ok.ensures c.close_cursor-in-Err-outcome.ensures c.self.view_is
