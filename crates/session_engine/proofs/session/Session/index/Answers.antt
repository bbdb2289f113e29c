use Rattle.std.proofs.Common.{◌∙◌, List, ap, length, subst, sym}
use Rattle.anchor_cache.specs.Contents.{Contents}
use Rattle.catalog_model.specs.Catalogs.{Catalog}
use Rattle.script_report.specs.declared.replies.Reply.TheVariants as reply
use Rattle.session_model.specs.Step.{IndexStep}
use Rattle.session_engine.specs.Serving.{AreCleared, IsKeptWhole, session_in}
use Rattle.session_engine.proofs.KeptCursors.{indexed}
use Rattle.session_engine.proofs.KeptSessions.{cleared_long, each_long, index_shown, with_whole}
use Rattle.session_engine.proofs.session.Session.index.Goals as goal

pub clear_for-requires-clause-one_each : goal.clear_for-requires-clause-one_each
clear_for-requires-clause-one_each c =
    ap length c.as_mut_slice.ensures.value ∙ each_long _ _ _ c.self.invariant.kept.costed
    ∙ sym (ap (λ (k : Catalog). length k.statements) c.in-Ok.ensures.value.2)

pub invariant_of-self : goal.invariant_of-self
invariant_of-self c =
    let e = c.in-Ok.ensures.value in
    let gone = subst (λ (olds : List Contents). AreCleared c.args.table.now c.add_index.new.self.catalog.statements olds
    c.clear_for.new.caches) c.as_mut_slice.ensures.value c.clear_for.ensures in
    let long = cleared_long _ _ _ _ c.clear_for.ensures ∙ c.as_mut_slice.ensures.len in
    let before = sym (ap length c.as_mut_slice.ensures.value) ∙ c.as_mut_slice.ensures.len in
    subst (λ (caches : List Contents). IsKeptWhole c.add_index.new.self caches c.self.inside.waiting.items
    c.self.inside.executions c.self.inside.settings)
    (sym (with_whole _ c.clear_for.new.caches c.self.inside.caches.items long before))
    (indexed c.self.inside.store c.add_index.new.self c.self.inside.caches.items c.clear_for.new.caches
    c.self.inside.waiting.items c.self.inside.executions c.self.inside.settings c.args.table.now c.args.column.now e.0
    c.self.invariant e.1 e.2 c.in-Ok.ensures.cursors gone).kept

pub returns-in-Ok-clause-ok : goal.returns-in-Ok-clause-ok
returns-in-Ok-clause-ok c =
    let e = c.in-Ok.ensures.value in
    let gone = subst (λ (olds : List Contents). AreCleared c.args.table.now c.add_index.new.self.catalog.statements olds
    c.clear_for.new.caches) c.as_mut_slice.ensures.value c.clear_for.ensures in
    let long = cleared_long _ _ _ _ c.clear_for.ensures ∙ c.as_mut_slice.ensures.len in
    let before = sym (ap length c.as_mut_slice.ensures.value) ∙ c.as_mut_slice.ensures.len in
    let kept = indexed c.self.inside.store c.add_index.new.self c.self.inside.caches.items c.clear_for.new.caches
    c.self.inside.waiting.items c.self.inside.executions c.self.inside.settings c.args.table.now c.args.column.now e.0
    c.self.invariant e.1 e.2 c.in-Ok.ensures.cursors gone in
    subst (λ (caches : List Contents). IndexStep c.args.self.now c.args.table.now c.args.column.now
    (reply.Indexed c.in_ok-copy.field-0 c.in_ok-copy-2.field-0)
    (session_in c.add_index.new.self caches c.self.inside.waiting.items c.self.inside.executions
    c.self.inside.settings))
    (sym (with_whole _ c.clear_for.new.caches c.self.inside.caches.items long before))
    (index_shown _ c.args.self.now
    (session_in c.add_index.new.self c.clear_for.new.caches c.self.inside.waiting.items c.self.inside.executions
    c.self.inside.settings)
    c.args.table.now c.args.column.now c.in_ok-copy.field-0 c.in_ok-copy-2.field-0 c.self.view_is c.in_ok-copy.ensures
    c.in_ok-copy-2.ensures kept.steps)
