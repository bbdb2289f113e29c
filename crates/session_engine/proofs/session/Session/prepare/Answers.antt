use Rattle.std.proofs.Common.{◌∙◌, ◌++◌, ◌∷◌, [], List, ap, subst, sym}
use Rattle.anchor_cache.specs.Contents.{Contents}
use Rattle.session_model.specs.Step.{PrepareStep}
use Rattle.session_engine.specs.Serving.{IsKeptWhole, session_in}
use Rattle.session_engine.proofs.KeptCursors.{prepared}
use Rattle.session_engine.proofs.KeptSessions.{last_statement, prepare_shown}
use Rattle.session_engine.proofs.session.Session.prepare.Goals as goal

pub invariant_of-self-in-Ok : goal.invariant_of-self-in-Ok
invariant_of-self-in-Ok c =
    let e = c.in-Ok.ensures.value in
    let items = c.push_reserved.ensures.items
    ∙ ap (λ (cs : List Contents). cs ++ c.new.result ∷ []) c.in_ok-reserve.ensures.items in
    subst (λ (caches : List Contents). IsKeptWhole c.prepare.new.self caches c.self.inside.waiting.items
    c.self.inside.executions c.self.inside.settings) (sym items)
    (prepared c.self.inside.store c.prepare.new.self c.self.inside.caches.items c.new.result
    c.self.inside.waiting.items c.self.inside.executions c.self.inside.settings c.args.name.now c.args.select.now e.0
    c.items.ensures.sound c.self.invariant e.1 e.3 c.in-Ok.ensures.cursors c.new.ensures.state).kept

pub returns-in-Ok-clause-ok : goal.returns-in-Ok-clause-ok
returns-in-Ok-clause-ok c =
    let e = c.in-Ok.ensures.value in
    let items = c.push_reserved.ensures.items
    ∙ ap (λ (cs : List Contents). cs ++ c.new.result ∷ []) c.in_ok-reserve.ensures.items in
    let kept = prepared c.self.inside.store c.prepare.new.self c.self.inside.caches.items c.new.result
    c.self.inside.waiting.items c.self.inside.executions c.self.inside.settings c.args.name.now c.args.select.now e.0
    c.items.ensures.sound c.self.invariant e.1 e.3 c.in-Ok.ensures.cursors c.new.ensures.state in
    let same = last_statement c.self.inside.store.catalog c.prepare.new.self.catalog c.args.name.now e.0
    c.query.result.now c.in-Ok.statement e.2 e.3 c.query.ensures.value in
    subst (λ (caches : List Contents). PrepareStep c.args.self.now c.args.name.now c.args.select.now c.prepared.result
    (session_in c.prepare.new.self caches c.self.inside.waiting.items c.self.inside.executions
    c.self.inside.settings)) (sym items)
    (prepare_shown _ c.args.self.now
    (session_in c.prepare.new.self (c.self.inside.caches.items ++ c.new.result ∷ []) c.self.inside.waiting.items
    c.self.inside.executions c.self.inside.settings)
    c.args.name.now c.in_ok-shown.shown c.args.select.now e.0 c.query.result.now c.prepared.result c.self.view_is
    c.in_ok-shown.ensures same c.prepared.ensures kept.steps)
