use Rattle.std.proofs.Common.{◌<◌, Some, arith, sym, subst}
use Rattle.session_model.specs.State.{holds_of}
use Rattle.session_engine.specs.Numbered.{NumbersCursor}
use Rattle.session_engine.proofs.KeptCursors.{fetch_shown, fetched, named_less, number_in, rows_at, unknown_fetch}
use Rattle.session_engine.proofs.session.Session.fetch.Goals as goal

pub returns-in-Err-clause-ok : goal.returns-in-Err-clause-ok
returns-in-Err-clause-ok c =
    let none = subst (NumbersCursor (holds_of c.args.self.now.cursors) c.args.cursor.now) c.in-Err.is
    c.in_ok-number.ensures in
    unknown_fetch c.args.self.now c.args.cursor.now c.args.rows c.in-Err.why none.0 none.1

pub index_mut-waiting-requires : goal.index_mut-waiting-requires
index_mut-waiting-requires c =
    let is = subst (NumbersCursor (holds_of c.args.self.now.cursors) c.args.cursor.now) c.in-Ok.is
    c.in_ok-number.ensures in
    let number = number_in c.self.inside.store c.self.inside.caches.items c.self.inside.waiting.items
    c.self.inside.executions
    c.self.inside.settings c.args.self.now c.args.cursor.now (Some c.in-Ok.number) c.self.invariant
    c.self.view_is is in
    subst (λ n. c.in-Ok.number < n) (sym c.self.inside.waiting.ok.0)
    (named_less c.self.inside.store c.self.inside.caches.items c.self.inside.waiting.items c.self.inside.executions
    c.self.inside.settings
    c.args.cursor.now c.in-Ok.number c.self.invariant number)

pub query-q-requires : goal.query-q-requires
query-q-requires c =
    let is = subst (NumbersCursor (holds_of c.args.self.now.cursors) c.args.cursor.now) c.in-Ok.is
    c.in_ok-number.ensures in
    let number = number_in c.self.inside.store c.self.inside.caches.items c.self.inside.waiting.items
    c.self.inside.executions
    c.self.inside.settings c.args.self.now c.args.cursor.now (Some c.in-Ok.number) c.self.invariant
    c.self.view_is is in
    let rows = rows_at c.self.inside.store c.self.inside.caches.items c.self.inside.waiting.items
    c.self.inside.executions
    c.self.inside.settings
    c.args.cursor.now c.in-Ok.number c.index_mut-waiting.result.now c.self.invariant number
    c.index_mut-waiting.ensures.value in
    rows.statement

pub overflow_cast-result : goal.overflow_cast-result
overflow_cast-result c =
    let is = subst (NumbersCursor (holds_of c.args.self.now.cursors) c.args.cursor.now) c.in-Ok.is
    c.in_ok-number.ensures in
    let number = number_in c.self.inside.store c.self.inside.caches.items c.self.inside.waiting.items
    c.self.inside.executions
    c.self.inside.settings c.args.self.now c.args.cursor.now (Some c.in-Ok.number) c.self.invariant
    c.self.view_is is in
    let rows = rows_at c.self.inside.store c.self.inside.caches.items c.self.inside.waiting.items
    c.self.inside.executions
    c.self.inside.settings
    c.args.cursor.now c.in-Ok.number c.index_mut-waiting.result.now c.self.invariant number
    c.index_mut-waiting.ensures.value in
    let few = rows.few c.skip.new.self c.len.result c.skip.ensures.rows c.len.ensures in
    omega (arith, few)

pub invariant_of-self-2 : goal.invariant_of-self-2
invariant_of-self-2 c =
    let is = subst (NumbersCursor (holds_of c.args.self.now.cursors) c.args.cursor.now) c.in-Ok.is
    c.in_ok-number.ensures in
    let number = number_in c.self.inside.store c.self.inside.caches.items c.self.inside.waiting.items
    c.self.inside.executions
    c.self.inside.settings c.args.self.now c.args.cursor.now (Some c.in-Ok.number) c.self.invariant
    c.self.view_is is in
    let fetch = fetched c.self.inside.store c.self.inside.caches.items c.self.inside.waiting.items
    c.self.inside.executions
    c.self.inside.settings
    c.args.cursor.now c.args.rows c.in-Ok.number c.index_mut-waiting.result.now c.skip.new.self c.query-q.result.now
    c.in_ok-lines.lines c.len.result c.self.invariant number c.index_mut-waiting.ensures.value c.query-q.ensures.value
    (record {
      first = c.in_ok-lines.ensures;
      rest = c.skip.ensures.rest c.query-q.result.now;
      statement = c.skip.ensures.statement;
      rows = c.skip.ensures.rows;
      left_are = c.len.ensures c.query-q.result.now;
    }) in
    fetch.kept

pub returns-clause-ok : goal.returns-clause-ok
returns-clause-ok c =
    let is = subst (NumbersCursor (holds_of c.args.self.now.cursors) c.args.cursor.now) c.in-Ok.is
    c.in_ok-number.ensures in
    let number = number_in c.self.inside.store c.self.inside.caches.items c.self.inside.waiting.items
    c.self.inside.executions
    c.self.inside.settings c.args.self.now c.args.cursor.now (Some c.in-Ok.number) c.self.invariant
    c.self.view_is is in
    let fetch = fetched c.self.inside.store c.self.inside.caches.items c.self.inside.waiting.items
    c.self.inside.executions
    c.self.inside.settings
    c.args.cursor.now c.args.rows c.in-Ok.number c.index_mut-waiting.result.now c.skip.new.self c.query-q.result.now
    c.in_ok-lines.lines c.len.result c.self.invariant number c.index_mut-waiting.ensures.value c.query-q.ensures.value
    (record {
      first = c.in_ok-lines.ensures;
      rest = c.skip.ensures.rest c.query-q.result.now;
      statement = c.skip.ensures.statement;
      rows = c.skip.ensures.rows;
      left_are = c.len.ensures c.query-q.result.now;
    }) in
    fetch_shown _ c.args.self.now _ c.args.cursor.now c.in_ok-shown.shown c.args.rows c.in_ok-lines.lines c.len.result
    c.self.view_is c.in_ok-shown.ensures fetch.steps
