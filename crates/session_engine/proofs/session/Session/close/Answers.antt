use Rattle.std.proofs.Common.{◌<◌, List, Some, remove, sym, subst}
use Rattle.session_store.specs.Kept.{StoreState}
use Rattle.session_model.specs.State.{holds_of}
use Rattle.session_model.specs.Step.{CloseStep}
use Rattle.script_report.specs.declared.replies.Reply.TheVariants as reply
use Rattle.session_engine.specs.Numbered.{NumbersCursor}
use Rattle.session_engine.specs.Serving.{IsKeptWhole, session_in}
use Rattle.session_engine.specs.declared.waiting.Waiting.{Waiting}
use Rattle.session_engine.proofs.KeptCursors.{close_shown, closed, closed_store, named_less, number_in}
use Rattle.session_engine.proofs.KeptCursors.{number_open, unknown_close}
use Rattle.session_engine.proofs.session.Session.close.Goals as goal

pub returns-in-Err-clause-ok : goal.returns-in-Err-clause-ok
returns-in-Err-clause-ok c =
    let none = subst (NumbersCursor (holds_of c.args.self.now.cursors) c.args.cursor.now) c.in-Err.is
    c.in_ok-number.ensures in
    unknown_close c.args.self.now c.args.cursor.now c.in-Err.why none.0 none.1

pub remove-requires : goal.remove-requires
remove-requires c =
    let is = subst (NumbersCursor (holds_of c.args.self.now.cursors) c.args.cursor.now) c.in-Ok.is
    c.in_ok-number.ensures in
    let number = number_in c.self.inside.store c.self.inside.caches.items c.self.inside.waiting.items
    c.self.inside.executions
    c.self.inside.settings c.args.self.now c.args.cursor.now (Some c.in-Ok.number) c.self.invariant
    c.self.view_is is in
    subst (λ n. c.in-Ok.number < n) (sym c.self.inside.waiting.ok.0)
    (named_less c.self.inside.store c.self.inside.caches.items c.self.inside.waiting.items c.self.inside.executions
    c.self.inside.settings
    c.args.cursor.now c.in-Ok.number c.self.invariant number)

pub invariant_of-self : goal.invariant_of-self
invariant_of-self c =
    let is = subst (NumbersCursor (holds_of c.args.self.now.cursors) c.args.cursor.now) c.in-Ok.is
    c.in_ok-number.ensures in
    let number = number_in c.self.inside.store c.self.inside.caches.items c.self.inside.waiting.items
    c.self.inside.executions
    c.self.inside.settings c.args.self.now c.args.cursor.now (Some c.in-Ok.number) c.self.invariant
    c.self.view_is is in
    let closing = closed c.self.inside.store c.self.inside.caches.items c.self.inside.waiting.items
    c.self.inside.executions
    c.self.inside.settings
    c.args.cursor.now c.in-Ok.number c.remove.result c.self.invariant number in
    let store = closed_store c.self.inside.store c.close_cursor.new.self c.args.cursor.now c.close_cursor.result
    (number_open c.self.inside.store c.args.cursor.now c.in-Ok.number number) c.close_cursor.ensures in
    subst (λ (ws : List Waiting). IsKeptWhole c.close_cursor.new.self c.self.inside.caches.items ws
    c.self.inside.executions c.self.inside.settings) (sym c.remove.ensures.items)
    (subst (λ (s : StoreState). IsKeptWhole s c.self.inside.caches.items
    (remove c.self.inside.waiting.items c.in-Ok.number) c.self.inside.executions c.self.inside.settings) (sym store)
    closing.kept)

pub returns-clause-ok : goal.returns-clause-ok
returns-clause-ok c =
    let is = subst (NumbersCursor (holds_of c.args.self.now.cursors) c.args.cursor.now) c.in-Ok.is
    c.in_ok-number.ensures in
    let number = number_in c.self.inside.store c.self.inside.caches.items c.self.inside.waiting.items
    c.self.inside.executions
    c.self.inside.settings c.args.self.now c.args.cursor.now (Some c.in-Ok.number) c.self.invariant
    c.self.view_is is in
    let closing = closed c.self.inside.store c.self.inside.caches.items c.self.inside.waiting.items
    c.self.inside.executions
    c.self.inside.settings
    c.args.cursor.now c.in-Ok.number c.remove.result c.self.invariant number in
    let store = closed_store c.self.inside.store c.close_cursor.new.self c.args.cursor.now c.close_cursor.result
    (number_open c.self.inside.store c.args.cursor.now c.in-Ok.number number) c.close_cursor.ensures in
    subst (λ (ws : List Waiting). CloseStep c.args.self.now c.args.cursor.now (reply.Closed c.in_ok-shown.shown)
    (session_in c.close_cursor.new.self c.self.inside.caches.items ws c.self.inside.executions c.self.inside.settings))
    (sym c.remove.ensures.items)
    (subst (λ (s : StoreState). CloseStep c.args.self.now c.args.cursor.now (reply.Closed c.in_ok-shown.shown)
    (session_in s c.self.inside.caches.items (remove c.self.inside.waiting.items c.in-Ok.number)
    c.self.inside.executions c.self.inside.settings)) (sym store)
    (close_shown _ c.args.self.now _ c.args.cursor.now c.in_ok-shown.shown c.self.view_is c.in_ok-shown.ensures
    closing.steps))
