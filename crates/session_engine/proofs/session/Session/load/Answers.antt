use Rattle.std.proofs.Common.{ℕ, ◌∙◌, ◌++◌, List, Option, Some, option_map, ap, drop, length, subst, sym, take}
use Rattle.std.specs.Borrow.{Bor}
use Rattle.row_values.specs.declared.refusals.Refusal.{Refusal}
use Rattle.anchor_cache.specs.Contents.{Contents}
use Rattle.catalog_model.specs.Catalogs.{Catalog}
use Rattle.catalog_model.specs.Loading.{loading_of}
use Rattle.catalog_model.specs.Held.{held_by}
use Rattle.session_store.specs.Outcomes.{Says}
use Rattle.script_report.specs.declared.replies.Reply.TheVariants as reply
use Rattle.session_model.specs.Step.{LoadStep}
use Rattle.session_engine.specs.Serving.{AreCleared, IsKeptWhole, session_in}
use Rattle.session_engine.proofs.KeptCursors.{load_refused, loaded}
use Rattle.session_engine.proofs.KeptSessions.{cleared_long, each_long, load_shown, with_whole}
use Rattle.session_engine.proofs.session.Session.load.Goals as goal

pub clear_for-requires-clause-one_each : goal.clear_for-requires-clause-one_each
clear_for-requires-clause-one_each c =
    ap length c.as_mut_slice.ensures.value ∙ each_long _ _ _ c.self.invariant.kept.costed
    ∙ sym (ap (λ (k : Catalog). length k.statements) c.in-Ok.ensures.value.4)

pub invariant_of-self : goal.invariant_of-self
invariant_of-self c =
    let e = c.in-Ok.ensures.value in
    let gone = subst (λ (olds : List Contents). AreCleared c.args.table.now c.load.new.self.catalog.statements olds
    c.clear_for.new.caches) c.as_mut_slice.ensures.value c.clear_for.ensures in
    let long = cleared_long _ _ _ _ c.clear_for.ensures ∙ c.as_mut_slice.ensures.len in
    let before = sym (ap length c.as_mut_slice.ensures.value) ∙ c.as_mut_slice.ensures.len in
    subst (λ (caches : List Contents). IsKeptWhole c.load.new.self caches c.self.inside.waiting.items
    c.self.inside.executions c.self.inside.settings)
    (sym (with_whole _ c.clear_for.new.caches c.self.inside.caches.items long before))
    (loaded c.self.inside.store c.load.new.self c.self.inside.caches.items c.clear_for.new.caches
    c.self.inside.waiting.items c.self.inside.executions c.self.inside.settings c.args.table.now c.in-Some.bytes.now e.0
    c.self.invariant e.1 e.4 c.in-Ok.ensures.cursors gone).kept

pub returns-in-Ok-clause-ok : goal.returns-in-Ok-clause-ok
returns-in-Ok-clause-ok c =
    let e = c.in-Ok.ensures.value in
    let gone = subst (λ (olds : List Contents). AreCleared c.args.table.now c.load.new.self.catalog.statements olds
    c.clear_for.new.caches) c.as_mut_slice.ensures.value c.clear_for.ensures in
    let long = cleared_long _ _ _ _ c.clear_for.ensures ∙ c.as_mut_slice.ensures.len in
    let before = sym (ap length c.as_mut_slice.ensures.value) ∙ c.as_mut_slice.ensures.len in
    let kept = loaded c.self.inside.store c.load.new.self c.self.inside.caches.items c.clear_for.new.caches
    c.self.inside.waiting.items c.self.inside.executions c.self.inside.settings c.args.table.now c.in-Some.bytes.now e.0
    c.self.invariant e.1 e.4 c.in-Ok.ensures.cursors gone in
    let shown = load_shown _ c.args.self.now
    (session_in c.load.new.self c.clear_for.new.caches c.self.inside.waiting.items c.self.inside.executions
    c.self.inside.settings)
    c.args.table.now c.in_ok-shown.shown c.in-Some.bytes.now c.in-Ok.rows c.in-Ok.columns e.0 c.self.view_is
    c.in_ok-shown.ensures e.2 e.3 kept.steps in
    let taken = take c.self.inside.caches.len
    (c.clear_for.new.caches ++ drop (length c.clear_for.new.caches) c.self.inside.caches.items) in
    subst (λ (file : Option (Bor (List ℕ))). LoadStep c.args.self.now c.args.table.now
    (option_map (λ bytes. bytes.now) file) (reply.Loaded c.in_ok-shown.shown c.in-Ok.rows c.in-Ok.columns)
    (session_in c.load.new.self taken c.self.inside.waiting.items c.self.inside.executions c.self.inside.settings))
    (sym c.in-Some.is)
    (subst (λ (caches : List Contents). LoadStep c.args.self.now c.args.table.now (Some c.in-Some.bytes.now)
    (reply.Loaded c.in_ok-shown.shown c.in-Ok.rows c.in-Ok.columns)
    (session_in c.load.new.self caches c.self.inside.waiting.items c.self.inside.executions c.self.inside.settings))
    (sym (with_whole _ c.clear_for.new.caches c.self.inside.caches.items long before)) shown)

pub returns-in-Err-Refused-clause-ok : goal.returns-in-Err-Refused-clause-ok
returns-in-Err-Refused-clause-ok c =
    let e = c.in-Err-Refused.ensures.value in
    let wanted = subst (Says (loading_of (held_by c.self.inside.store.cursors) c.self.inside.store.catalog
    c.args.table.now c.in-Some.bytes.now)) c.in-Err-Refused.field-0-is e.0 in
    subst (λ (w : Refusal). LoadStep c.args.self.now c.args.table.now
    (option_map (λ bytes. bytes.now) c.args.file) (reply.Refused w)
    (session_in c.load.new.self c.self.inside.caches.items c.self.inside.waiting.items c.self.inside.executions
    c.self.inside.settings)) (sym c.in-Err-Refused.why-is)
    (subst (λ (file : Option (Bor (List ℕ))). LoadStep c.args.self.now c.args.table.now
    (option_map (λ bytes. bytes.now) file) (reply.Refused c.in-Err-Refused.why)
    (session_in c.load.new.self c.self.inside.caches.items c.self.inside.waiting.items c.self.inside.executions
    c.self.inside.settings)) (sym c.in-Some.is)
    (load_refused c.self.inside.store c.load.new.self c.self.inside.caches.items c.self.inside.waiting.items
    c.self.inside.executions c.self.inside.settings c.args.self.now c.args.table.now c.in-Some.bytes.now
    c.in-Err-Refused.why c.self.invariant c.self.view_is wanted e.1 c.in-Err-Refused.ensures.cursors))
