use Rattle.std.proofs.Common.{◌<◌, ◌∙◌, ap, set, subst, sym}
use Rattle.catalog_model.specs.Catalogs.{number_of}
use Rattle.session_model.specs.State.{State}
use Rattle.session_engine.specs.Numbered.{Numbers}
use Rattle.session_engine.specs.Serving.{open_in, session_in}
use Rattle.session_engine.proofs.KeptCaches.{cache_less, evict_shown, evicted, not_evicted, number_less}
use Rattle.session_engine.proofs.session.Session.evict.Goals as goal

pub index_mut-requires : goal.index_mut-requires
index_mut-requires c =
    let is = subst (Numbers c.args.self.now.catalog.statements c.args.name.now) c.in-Ok.is c.in_ok-number.ensures in
    let number = ap (λ (s : State). number_of s.catalog.statements c.args.name.now) c.self.view_is ∙ is in
    subst (λ n. c.in-Ok.number < n) (sym c.self.inside.caches.ok.0)
    (cache_less c.self.inside.store.catalog c.self.inside.caches.items
    (open_in c.self.inside.store c.self.inside.waiting.items) c.self.inside.executions c.self.inside.settings
    c.in-Ok.number c.self.invariant.kept (number_less c.self.inside.store.catalog.statements c.args.name.now
    c.in-Ok.number number))

pub returns-in_default-clause-ok : goal.returns-in_default-clause-ok
returns-in_default-clause-ok c =
    let is = subst (Numbers c.args.self.now.catalog.statements c.args.name.now) c.in-Ok.is c.in_ok-number.ensures in
    let number = ap (λ (s : State). number_of s.catalog.statements c.args.name.now) c.self.view_is ∙ is in
    not_evicted c.self.inside.store.catalog c.self.inside.caches.items
    (open_in c.self.inside.store c.self.inside.waiting.items) c.self.inside.executions c.self.inside.settings
    c.args.self.now c.args.name.now c.in-Ok.number c.args.plan c.evict.new.cache c.index_mut.result.now
    c.in_ok-unknown.unknown c.self.invariant.kept c.self.view_is number c.index_mut.ensures.value
    c.in_default.ensures.count
    c.in_default.ensures.unchanged c.in_ok-unknown.ensures

pub invariant_of-self-2 : goal.invariant_of-self-2
invariant_of-self-2 c =
    let is = subst (Numbers c.args.self.now.catalog.statements c.args.name.now) c.in-Ok.is c.in_ok-number.ensures in
    let number = ap (λ (s : State). number_of s.catalog.statements c.args.name.now) c.self.view_is ∙ is in
    record {
      kept = (evicted c.self.inside.store.catalog c.self.inside.caches.items
          (open_in c.self.inside.store c.self.inside.waiting.items) c.self.inside.executions c.self.inside.settings
          c.args.name.now c.in-Ok.number c.args.plan c.in-Some.anchors c.evict.new.cache c.index_mut.result.now
          c.self.invariant.kept number c.index_mut.ensures.value c.in-Some.ensures.count c.in-Some.ensures.state
          c.in-Some.ensures.plans).kept;
      one_each = c.self.invariant.one_each;
      waits = c.self.invariant.waits;
    }

pub returns-clause-ok : goal.returns-clause-ok
returns-clause-ok c =
    let is = subst (Numbers c.args.self.now.catalog.statements c.args.name.now) c.in-Ok.is c.in_ok-number.ensures in
    let number = ap (λ (s : State). number_of s.catalog.statements c.args.name.now) c.self.view_is ∙ is in
    evict_shown _ c.args.self.now
    (session_in c.self.inside.store (set c.self.inside.caches.items c.in-Ok.number c.evict.new.cache)
    c.self.inside.waiting.items c.self.inside.executions c.self.inside.settings)
    c.args.name.now c.in_ok-name.name c.args.plan c.in-Some.anchors c.self.view_is c.in_ok-name.ensures
    (evicted c.self.inside.store.catalog c.self.inside.caches.items
    (open_in c.self.inside.store c.self.inside.waiting.items) c.self.inside.executions c.self.inside.settings
    c.args.name.now c.in-Ok.number c.args.plan c.in-Some.anchors c.evict.new.cache c.index_mut.result.now
    c.self.invariant.kept number c.index_mut.ensures.value c.in-Some.ensures.count c.in-Some.ensures.state
    c.in-Some.ensures.plans).steps
