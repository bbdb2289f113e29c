use Rattle.std.proofs.Common.{◌∙◌, ◌+◌, List, ap, length, subst, sym}
use Rattle.anchor_cache.specs.Contents.{Contents}
use Rattle.session_engine.specs.Serving.{IsKeptWhole, IsSessionKept, open_in}
use Rattle.session_engine.proofs.KeptCursors.{RunsWith}
use Rattle.session_engine.proofs.KeptSessions.{with_whole}
use Rattle.session_engine.proofs.session.Session.run.Goals as goal

pub invariant_of-self-in-Ok : goal.invariant_of-self-in-Ok
invariant_of-self-in-Ok g c =
    let before = sym (ap length c.as_mut_slice.ensures.value) ∙ c.as_mut_slice.ensures.len in
    let long = c.run.ensures.one_each ∙ c.as_mut_slice.ensures.len in
    let cursors = open_in c.self.inside.store c.self.inside.waiting.items in
    let kept = subst (λ (cs : List Contents). IsSessionKept c.self.inside.store.catalog cs cursors
    c.self.inside.executions c.self.inside.settings) (sym c.as_mut_slice.ensures.value) c.self.invariant.kept in
    let ran = subst (λ outcome. RunsWith (λ q lines. lines) c.self.inside.store c.as_mut_slice.result.now
    c.run.new.caches c.self.inside.executions c.self.inside.settings c.args.name.now c.args.args.now outcome)
    c.in-Ok.is c.in_ok-outcome.ensures.ok cursors kept in
    subst (λ (caches : List Contents). IsKeptWhole c.self.inside.store caches c.self.inside.waiting.items
    (c.self.inside.executions + 1) c.self.inside.settings)
    (sym (with_whole _ c.run.new.caches c.self.inside.caches.items long before))
    (record { kept = ran.kept; one_each = c.self.invariant.one_each; waits = c.self.invariant.waits })
