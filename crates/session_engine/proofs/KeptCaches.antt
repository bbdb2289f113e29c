-- Sessions in which the cache of one statement has changed.
use Rattle.std.proofs.Common.{ℕ, zero, suc, ◌≡◌, ◌<◌, ◌==◌, ◌∙◌, ◌||◌, Bool, true, false, not, List, [], ◌∷◌}
use Rattle.std.proofs.Common.{length, map, set, All}
use Rattle.std.proofs.Common.{Option, Some, None, ap, refl, sym, subst, arith}
use Rattle.std.proofs.Common.{slice_get, slice_index_or, cond}
use Rattle.std.specs.List.{filter}
use Rattle.std.specs.Option.{option_map}
use Rattle.row_values.specs.Refusals.{unknown_plan}
use Rattle.row_values.specs.Statements.{Statement}
use Rattle.row_values.specs.declared.refusals.Refusal.{Refusal}
use Rattle.plan_trees.specs.Statistics.{Statistics}
use Rattle.plan_trees.specs.Trees.{TopTree}
use Rattle.cache_model.specs.Caches.{CacheState, anchors_of, top_numbered, without}
use Rattle.cache_model.proofs.Lists.{all_from, each_filter, each_from}
use Rattle.anchor_cache.specs.Contents.{Contents, cached, has_number, has_plan, state_of}
use Rattle.anchor_cache.specs.declared.kept_plans.Kept.{Kept}
use Rattle.script_report.specs.declared.replies.Reply.{Reply}
use Rattle.script_report.specs.declared.replies.Reply.TheVariants as reply
use Rattle.catalog_model.specs.Catalogs.{Catalog, StatementState, number_of, stats_now}
use Rattle.catalog_model.proofs.Numbers.{numbered}
use Rattle.session_model.specs.Session.{EachWithCache, IsCacheOf, IsSession}
use Rattle.session_model.specs.State.{CursorState, State, cache_at}
use Rattle.session_model.specs.Step.{EvictStep, Evicts, ShowStep, Shows, anchor_shown}
use Rattle.session_model.specs.Step.{plan_shown}
use Rattle.session_model.specs.declared.settings.Settings.{Settings}
use Rattle.session_model.proofs.Sessions.{evict_keeps}
use Rattle.session_engine.specs.Serving.{AreCosted, EachWithContents, IsCosted, IsServing, IsSessionKept, session_of}
use Rattle.session_engine.proofs.KeptSessions.{each_long, each_set_there, state_there, states_same}
use Rattle.session_engine.proofs.KeptSessions.{states_set, with_states}

-- Numbers.

there_less : (ss : List StatementState) (number : ℕ) (prepared : StatementState) → slice_get ss number ≡ Some prepared
    → number < length ss
there_less [] number prepared e = absurd cc
there_less (s ∷ ss) zero prepared e = omega arith
there_less (s ∷ ss) (suc number) prepared e = let less = there_less ss number prepared e in omega (arith, less)

pub number_less : (ss : List StatementState) (name : List ℕ) (number : ℕ) → number_of ss name ≡ Some number
    → number < length ss
number_less ss name number e = let one = numbered ss name number e in there_less ss number one.prepared one.there

-- a cache of each statement that has a number
pub cache_less : (catalog : Catalog) (caches : List Contents) (cursors : List CursorState) (executions : ℕ)
    (settings : Settings) (number : ℕ)
    → IsSessionKept catalog caches cursors executions settings → number < length catalog.statements → number < length
    caches
cache_less catalog caches cursors executions settings number h less =
    let long = each_long (AreCosted catalog) catalog.statements caches h.costed in omega (arith, less, long)

faithful_there : (P : StatementState → CacheState → Type 0) (ss : List StatementState) (cs : List Contents) (number : ℕ)
    (d : Contents) (prepared : StatementState) → slice_get ss number ≡ Some prepared
    → EachWithCache P ss (map state_of cs) → P prepared (state_of (slice_index_or cs number d))
faithful_there P [] cs number d prepared e h = absurd cc
faithful_there P (s ∷ ss) [] number d prepared e h = absurd h
faithful_there P (s ∷ ss) (c ∷ cs) zero d prepared e h =
    let same : s ≡ prepared = cc in subst (λ (p : StatementState). P p (state_of c)) same h.0
faithful_there P (s ∷ ss) (c ∷ cs) (suc number) d prepared e h =
    faithful_there P ss cs number d prepared e h.1

costed_there : (P : StatementState → Contents → Type 0) (ss : List StatementState) (cs : List Contents) (number : ℕ)
    (d : Contents) (prepared : StatementState) → slice_get ss number ≡ Some prepared
    → EachWithContents P ss cs → P prepared (slice_index_or cs number d)
costed_there P [] cs number d prepared e h = absurd cc
costed_there P (s ∷ ss) [] number d prepared e h = absurd h
costed_there P (s ∷ ss) (c ∷ cs) zero d prepared e h =
    let same : s ≡ prepared = cc in subst (λ (p : StatementState). P p c) same h.0
costed_there P (s ∷ ss) (c ∷ cs) (suc number) d prepared e h = costed_there P ss cs number d prepared e h.1

-- the cache at a number serves the statement of this number
pub serving_there : (catalog : Catalog) (caches : List Contents) (cursors : List CursorState) (executions : ℕ)
    (settings : Settings) (number : ℕ)
    (d : Contents) (q : Statement) → IsSessionKept catalog caches cursors executions settings
    → option_map (λ (s : StatementState). s.statement) (slice_get catalog.statements number) ≡ Some q
    → IsServing q (stats_now catalog.tables catalog.weights q) executions settings.budget
    (slice_index_or caches number d)
serving_there catalog caches cursors executions settings number d q h e =
    by_found (slice_get catalog.statements number) refl e
  where
    by_found : (o : Option StatementState) → slice_get catalog.statements number ≡ o
        → option_map (λ (s : StatementState). s.statement) o ≡ Some q
        → IsServing q (stats_now catalog.tables catalog.weights q) executions settings.budget
        (slice_index_or caches number d)
    by_found None is k = absurd cc
    by_found (Some prepared) is k =
        let same : prepared.statement ≡ q = cc in
        let own = faithful_there (IsCacheOf (session_of catalog caches cursors executions settings)) catalog.statements
        caches
        number d prepared is h.session.caches in
        let costs = costed_there (AreCosted catalog) catalog.statements caches number d prepared is h.costed in
        subst (λ (p : Statement). IsServing p (stats_now catalog.tables catalog.weights p) executions settings.budget
        (slice_index_or caches number d)) same
        (record { faithful = own.faithful; costed = costs; numbers = own.numbers })

-- A cache whose plans and anchors are as they were.

-- what is costed for the statement of this number
abbrev pub AreCostedAt : Catalog → ℕ → Contents → Type 0
AreCostedAt catalog number cache =
    (prepared : StatementState) → slice_get catalog.statements number ≡ Some prepared → AreCosted catalog prepared cache

pub record IsSameSession (catalog : Catalog) (caches : List Contents) (cursors : List CursorState) (executions : ℕ)
    (settings : Settings)
    (number : ℕ) (cache : Contents) : Type 0 where
  pub seen : session_of catalog (set caches number cache) cursors executions settings
      ≡ session_of catalog caches cursors executions settings
  pub kept : IsSessionKept catalog (set caches number cache) cursors executions settings

pub same_session : (catalog : Catalog) (caches : List Contents) (cursors : List CursorState) (executions : ℕ)
    (settings : Settings) (number : ℕ)
    (cache d : Contents) → IsSessionKept catalog caches cursors executions settings
    → state_of cache ≡ state_of (slice_index_or caches number d) → AreCostedAt catalog number cache
    → IsSameSession catalog caches cursors executions settings number cache
same_session catalog caches cursors executions settings number cache d h same costs =
    let states = states_same caches number cache d same in
    let seen = ap (with_states catalog cursors executions settings) states in
    record {
      seen = seen;
      kept = record {
        session = subst IsSession (sym seen) h.session;
        costed = each_set_there (AreCosted catalog) catalog.statements caches number cache costs h.costed;
      };
    }

-- Evictions.

has_by : (b : Bool) (top : TopTree) (rest : Bool) (later : Option TopTree)
    → (rest ≡ true → (t : TopTree) × (later ≡ Some t)) → (b || rest) ≡ true
    → (t : TopTree) × (cond b (Some top) later ≡ Some t)
has_by true top rest later more e = (top, refl)
has_by false top rest later more e = more e

has_top : (plans : List Kept) (number : ℕ) → has_plan plans number ≡ true
    → (t : TopTree) × (top_numbered (map cached plans) number ≡ Some t)
has_top [] number e = absurd cc
has_top (p ∷ ps) number e =
    has_by (p.number == number) _ (has_plan ps number) (top_numbered (map cached ps) number) (λ k. has_top ps number k)
    e

none_by : (b : Bool) (top : TopTree) (rest : Bool) (later : Option TopTree) → (rest ≡ false → later ≡ None)
    → (b || rest) ≡ false → cond b (Some top) later ≡ None
none_by true top rest later more e = absurd cc
none_by false top rest later more e = more e

no_top : (plans : List Kept) (number : ℕ) → has_plan plans number ≡ false
    → top_numbered (map cached plans) number ≡ None
no_top [] number e = refl
no_top (p ∷ ps) number e =
    none_by (p.number == number) _ (has_plan ps number) (top_numbered (map cached ps) number) (λ k. no_top ps number k)
    e

-- what an eviction answers
pub evicted_count : (b : Bool) (n anchors : ℕ) → Some anchors ≡ cond b (Some n) None → (b ≡ true) × (anchors ≡ n)
evicted_count true n anchors e = (refl, cc)
evicted_count false n anchors e = absurd cc

pub evicted_none : (b : Bool) (n : ℕ) → None ≡ cond b (Some n) None → b ≡ false
evicted_none true n e = absurd cc
evicted_none false n e = refl

evicts : (old new : State) (name : List ℕ) (number plan : ℕ) (top : TopTree) (answer : Reply)
    → number_of old.catalog.statements name ≡ Some number
    → top_numbered (cache_at old.caches number).plans plan ≡ Some top → Evicts old name number plan answer new
    → EvictStep old name plan answer new
evicts old new name number plan top answer is there e = rw (is, there) e

no_evict : (old : State) (name : List ℕ) (number plan : ℕ) → number_of old.catalog.statements name ≡ Some number
    → top_numbered (cache_at old.caches number).plans plan ≡ None
    → EvictStep old name plan (reply.Refused (unknown_plan plan)) old
no_evict old name number plan is none = rw (is, none) (record { says = refl; unchanged = refl })

pub record IsEvicted (catalog : Catalog) (caches : List Contents) (cursors : List CursorState) (executions : ℕ)
    (settings : Settings)
    (name : List ℕ) (number plan anchors : ℕ) (cache : Contents) : Type 0 where
  pub steps : EvictStep (session_of catalog caches cursors executions settings) name plan
      (reply.Evicted name plan anchors)
      (session_of catalog (set caches number cache) cursors executions settings)
  pub kept : IsSessionKept catalog (set caches number cache) cursors executions settings

pub evict_kept : (catalog : Catalog) (caches : List Contents) (cursors : List CursorState) (executions : ℕ)
    (settings : Settings) (name : List ℕ)
    (number plan anchors : ℕ) (cache d : Contents) → IsSessionKept catalog caches cursors executions settings
    → number_of catalog.statements name ≡ Some number
    → has_plan (slice_index_or caches number d).plans plan ≡ true
    → anchors ≡ length (anchors_of (slice_index_or caches number d).anchors plan)
    → state_of cache ≡ without (state_of (slice_index_or caches number d)) plan
    → cache.plans ≡ filter (λ kept. not (has_number plan kept)) (slice_index_or caches number d).plans
    → IsEvicted catalog caches cursors executions settings name number plan anchors cache
evict_kept catalog caches cursors executions settings name number plan anchors cache d h is there count gone plans =
    let old : State = session_of catalog caches cursors executions settings in
    let less = cache_less catalog caches cursors executions settings number h
    (number_less catalog.statements name number is) in
    let here = state_there caches number d less in
    let top = has_top (slice_index_or caches number d).plans plan there in
    let after : session_of catalog (set caches number cache) cursors executions settings
    ≡ with_states catalog cursors executions settings (set (map state_of caches) number
    (without (cache_at (map state_of caches)
    number) plan)) =
    ap (with_states catalog cursors executions settings)
    (states_set caches number cache
    ∙ ap (λ (c : CacheState). set (map state_of caches) number c)
    (gone ∙ ap (λ (c : CacheState). without c plan) (sym here))) in
    let step = evicts old (session_of catalog (set caches number cache) cursors executions settings) name number plan
    top.0
    (reply.Evicted name plan anchors) is
    (ap (λ (c : CacheState). top_numbered c.plans plan) here ∙ top.1)
    (record {
      says = ap (reply.Evicted name plan) (count
          ∙ ap (λ (c : CacheState). length (anchors_of c.anchors plan)) (sym here));
      drops = after;
    }) in
    record {
      steps = step;
      kept = record {
        session = evict_keeps old (session_of catalog (set caches number cache) cursors executions settings) name plan _
            h.session step;
        costed = each_set_there (AreCosted catalog) catalog.statements caches number cache
            (λ prepared found.
            let stats : Statistics = stats_now catalog.tables catalog.weights prepared.statement in
            let own = costed_there (AreCosted catalog) catalog.statements caches number d prepared found h.costed in
            subst (λ (ps : List Kept). All (IsCosted prepared.statement stats) ps) (sym plans)
            (all_from (IsCosted prepared.statement stats) _
            (each_filter (IsCosted prepared.statement stats) (IsCosted prepared.statement stats)
            (λ kept. not (has_number plan kept)) (λ kept e k. k) (slice_index_or caches number d).plans
            (each_from (IsCosted prepared.statement stats) (slice_index_or caches number d).plans own)))) h.costed;
      };
    }

pub no_evict_kept : (catalog : Catalog) (caches : List Contents) (cursors : List CursorState) (executions : ℕ)
    (settings : Settings) (name : List ℕ)
    (number plan : ℕ) (d : Contents) → IsSessionKept catalog caches cursors executions settings
    → number_of catalog.statements name ≡ Some number
    → has_plan (slice_index_or caches number d).plans plan ≡ false
    → EvictStep (session_of catalog caches cursors executions settings) name plan (reply.Refused (unknown_plan plan))
    (session_of catalog caches cursors executions settings)
no_evict_kept catalog caches cursors executions settings name number plan d h is none =
    let less = cache_less catalog caches cursors executions settings number h
    (number_less catalog.statements name number is) in
    no_evict (session_of catalog caches cursors executions settings) name number plan is
    (ap (λ (c : CacheState). top_numbered c.plans plan) (state_there caches number d less)
    ∙ no_top (slice_index_or caches number d).plans plan none)

-- Shows.

shows : (old : State) (name : List ℕ) (number : ℕ) (answer : Reply)
    → number_of old.catalog.statements name ≡ Some number → Shows old name number answer old
    → ShowStep old name answer old
shows old name number answer is s = rw is s

pub show_kept : (catalog : Catalog) (caches : List Contents) (cursors : List CursorState) (executions : ℕ)
    (settings : Settings) (name : List ℕ)
    (number : ℕ) (d : Contents) (q : Statement) (answer : Reply) → IsSessionKept catalog caches cursors executions
    settings
    → number_of catalog.statements name ≡ Some number
    → option_map (λ (s : StatementState). s.statement) (slice_get catalog.statements number) ≡ Some q
    → answer ≡ reply.Shown name
    (map (plan_shown q (slice_index_or caches number d).anchors) (state_of (slice_index_or caches number d)).plans)
    (map anchor_shown (slice_index_or caches number d).anchors)
    → ShowStep (session_of catalog caches cursors executions settings) name answer
    (session_of catalog caches cursors executions settings)
show_kept catalog caches cursors executions settings name number d q answer h is there says =
    let less = cache_less catalog caches cursors executions settings number h
    (number_less catalog.statements name number is) in
    let here = state_there caches number d less in
    let one = numbered catalog.statements name number is in
    let same : Some one.prepared.statement ≡ Some q =
    sym (ap (option_map (λ (s : StatementState). s.statement)) one.there) ∙ there in
    shows (session_of catalog caches cursors executions settings) name number answer is
    (record {
      statement = q;
      prepared = one.found ∙ same;
      says = says ∙ ap (λ (c : CacheState). reply.Shown name (map (plan_shown q c.anchors) c.plans)
          (map anchor_shown c.anchors)) (sym here);
      unchanged = refl;
    })

-- The same, of the cache that was read at its number.

pub evicted : (catalog : Catalog) (caches : List Contents) (cursors : List CursorState) (executions : ℕ)
    (settings : Settings) (name : List ℕ)
    (number plan anchors : ℕ) (cache was : Contents) → IsSessionKept catalog caches cursors executions settings
    → number_of catalog.statements name ≡ Some number → was ≡ slice_index_or caches number was
    → Some anchors ≡ cond (has_plan was.plans plan) (Some (length (anchors_of was.anchors plan))) None
    → state_of cache ≡ without (state_of was) plan
    → cache.plans ≡ filter (λ kept. not (has_number plan kept)) was.plans
    → IsEvicted catalog caches cursors executions settings name number plan anchors cache
evicted catalog caches cursors executions settings name number plan anchors cache was h is read count gone plans =
    let there = evicted_count (has_plan was.plans plan) (length (anchors_of was.anchors plan)) anchors count in
    evict_kept catalog caches cursors executions settings name number plan anchors cache was h is
    (subst (λ (k : Contents). has_plan k.plans plan ≡ true) read there.0)
    (subst (λ (k : Contents). anchors ≡ length (anchors_of k.anchors plan)) read there.1)
    (subst (λ (k : Contents). state_of cache ≡ without (state_of k) plan) read gone)
    (subst (λ (k : Contents). cache.plans ≡ filter (λ kept. not (has_number plan kept)) k.plans) read plans)

pub evict_shown : (old now new : State) (name shown : List ℕ) (plan anchors : ℕ) → old ≡ now → shown ≡ name
    → EvictStep old name plan (reply.Evicted name plan anchors) new
    → EvictStep now name plan (reply.Evicted shown plan anchors) new
evict_shown old now new name shown plan anchors same copy step =
    subst (λ (n : List ℕ). EvictStep now name plan (reply.Evicted n plan anchors) new) (sym copy)
    (subst (λ (s : State). EvictStep s name plan (reply.Evicted name plan anchors) new) same step)

pub not_evicted : (catalog : Catalog) (caches : List Contents) (cursors : List CursorState) (executions : ℕ)
    (settings : Settings) (now : State)
    (name : List ℕ) (number plan : ℕ) (cache was : Contents) (why : Refusal)
    → IsSessionKept catalog caches cursors executions settings
    → session_of catalog caches cursors executions settings ≡ now
    → number_of catalog.statements name ≡ Some number → was ≡ slice_index_or caches number was
    → None ≡ cond (has_plan was.plans plan) (Some (length (anchors_of was.anchors plan))) None → cache ≡ was
    → why ≡ unknown_plan plan
    → EvictStep now name plan (reply.Refused why) (session_of catalog (set caches number cache) cursors executions
    settings)
not_evicted catalog caches cursors executions settings now name number plan cache was why h view is read none same says
    =
    let old : State = session_of catalog caches cursors executions settings in
    let step = no_evict_kept catalog caches cursors executions settings name number plan was h is
    (subst (λ (k : Contents). has_plan k.plans plan ≡ false) read
    (evicted_none (has_plan was.plans plan) (length (anchors_of was.anchors plan)) none)) in
    let seen = ap (with_states catalog cursors executions settings)
    (states_same caches number cache was (ap state_of (same ∙ read))) in
    subst (λ (answer : Reply). EvictStep now name plan answer
    (session_of catalog (set caches number cache) cursors executions settings)) (ap reply.Refused (sym says))
    (subst (λ (s : State). EvictStep s name plan (reply.Refused (unknown_plan plan))
    (session_of catalog (set caches number cache) cursors executions settings)) view
    (subst (λ (s : State). EvictStep old name plan (reply.Refused (unknown_plan plan)) s) (sym seen) step))
