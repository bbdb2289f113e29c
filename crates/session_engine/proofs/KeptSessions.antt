-- Sessions as an engine keeps them: each command's step, and that the caches stay true of their statements.
use Rattle.std.proofs.Common.{ℕ, zero, suc, ◌≡◌, ◌<◌, ◌∙◌, Bool, true, false, List, [], ◌∷◌, ◌++◌, length}
use Rattle.std.proofs.Common.{map, set, take, drop, append-nil, All}
use Rattle.std.proofs.Common.{Some, Ok, ap, ap₂, refl, sym, subst, arith, slice_get}
use Rattle.std.proofs.Common.{slice_index_or, cond}
use Rattle.std.proofs.lemmas.List.{drop_all, take_all}
use Rattle.std.proofs.lemmas.List.Elements.{All-nil}
use Rattle.std.specs.Option.{option_map}
use Rattle.row_values.specs.Statements.{Statement, kinds_of}
use Rattle.sql_parser.specs.Statement.{IsSound, Parts}
use Rattle.plan_trees.specs.Statistics.{Statistics}
use Rattle.cache_model.specs.Caches.{CacheState, cleared, empty_cache}
use Rattle.anchor_cache.specs.Contents.{Contents, cached, state_of}
use Rattle.anchor_cache.specs.declared.kept_plans.Kept.{Kept}
use Rattle.script_report.specs.declared.replies.Reply.{Reply}
use Rattle.script_report.specs.declared.replies.Reply.TheVariants as reply
use Rattle.catalog_model.specs.Catalogs.{Catalog, StatementState, Version, reads_table}
use Rattle.catalog_model.specs.Catalogs.{stats_now, with_index, with_statement, with_version}
use Rattle.catalog_model.specs.Indexing.{indexing_of}
use Rattle.catalog_model.specs.Loading.{loading_of}
use Rattle.catalog_model.specs.Preparing.{preparing_of}
use Rattle.catalog_model.proofs.Unread.{indexed_unread, loaded_unread}
use Rattle.session_model.specs.State.{CursorState, State, cache_at, cleared_for, held_versions}
use Rattle.session_model.specs.Step.{IndexStep, Indexes, LoadStep, Loads, PrepareStep, Prepares}
use Rattle.session_model.specs.declared.settings.Settings.{Settings}
use Rattle.session_model.proofs.Sessions.{index_keeps, load_keeps, prepare_keeps}
use Rattle.session_engine.specs.Serving.{AreCleared, AreCosted, EachWithContents, IsClearedIf, IsCosted}
use Rattle.session_engine.specs.Serving.{IsSessionKept, session_of}

-- Statements with what their caches hold.

pub each_long : (P : StatementState → Contents → Type 0) (ss : List StatementState) (cs : List Contents)
    → EachWithContents P ss cs → length cs ≡ length ss
each_long P [] [] h = refl
each_long P (s ∷ ss) (c ∷ cs) h = ap suc (each_long P ss cs h.1)
each_long P [] (c ∷ cs) h = absurd h
each_long P (s ∷ ss) [] h = absurd h

each_behind : (P Q : StatementState → Contents → Type 0) (new : StatementState) (cache : Contents)
    → ((s : StatementState) (c : Contents) → P s c → Q s c) → Q new cache → (ss : List StatementState)
    (cs : List Contents) → EachWithContents P ss cs → EachWithContents Q (ss ++ new ∷ []) (cs ++ cache ∷ [])
each_behind P Q new cache step q [] [] h = (q, tt)
each_behind P Q new cache step q (s ∷ ss) (c ∷ cs) h = (step s c h.0, each_behind P Q new cache step q ss cs h.1)
each_behind P Q new cache step q [] (c ∷ cs) h = absurd h
each_behind P Q new cache step q (s ∷ ss) [] h = absurd h

-- the statement of this number with its cache
pub record IsThere (P : StatementState → Contents → Type 0) (ss : List StatementState) (cs : List Contents) (number : ℕ)
    (d : Contents) : Type 0 where
  pub prepared : StatementState
  pub there : slice_get ss number ≡ Some prepared
  pub has : P prepared (slice_index_or cs number d)

pub each_there : (P : StatementState → Contents → Type 0) (ss : List StatementState) (cs : List Contents) (number : ℕ)
    (d : Contents) → number < length ss → EachWithContents P ss cs → IsThere P ss cs number d
each_there P [] cs number d less h = absurd (omega (arith, less))
each_there P (s ∷ ss) [] number d less h = absurd h
each_there P (s ∷ ss) (c ∷ cs) zero d less h = record { prepared = s; there = refl; has = h.0 }
each_there P (s ∷ ss) (c ∷ cs) (suc number) d less h =
    let before : number < length ss = omega (arith, less) in
    let one = each_there P ss cs number d before h.1 in
    record { prepared = one.prepared; there = one.there; has = one.has }

pub each_set_there : (P : StatementState → Contents → Type 0) (ss : List StatementState) (cs : List Contents)
    (number : ℕ) (cache : Contents) → ((s : StatementState) → slice_get ss number ≡ Some s → P s cache)
    → EachWithContents P ss cs → EachWithContents P ss (set cs number cache)
each_set_there P [] [] number cache p h = tt
each_set_there P [] (c ∷ cs) number cache p h = absurd h
each_set_there P (s ∷ ss) [] number cache p h = absurd h
each_set_there P (s ∷ ss) (c ∷ cs) zero cache p h = (p s refl, h.1)
each_set_there P (s ∷ ss) (c ∷ cs) (suc number) cache p h = (h.0, each_set_there P ss cs number cache p h.1)

-- What contracts see of caches.

-- a state, by its caches
abbrev pub with_states : Catalog → List CursorState → ℕ → Settings → List CacheState → State
with_states catalog cursors executions settings caches = record {
  catalog = catalog;
  caches = caches;
  cursors = cursors;
  executions = executions;
  settings = settings;
}

pub states_set : (cs : List Contents) (number : ℕ) (cache : Contents)
    → map state_of (set cs number cache) ≡ set (map state_of cs) number (state_of cache)
states_set [] number cache = refl
states_set (c ∷ cs) zero cache = refl
states_set (c ∷ cs) (suc number) cache = ap (λ (rest : List CacheState). state_of c ∷ rest) (states_set cs number cache)

-- a cache put back with the same plans and anchors changes nothing that is seen
pub states_same : (cs : List Contents) (number : ℕ) (cache d : Contents)
    → state_of cache ≡ state_of (slice_index_or cs number d) → map state_of (set cs number cache) ≡ map state_of cs
states_same [] number cache d e = refl
states_same (c ∷ cs) zero cache d e = ap (λ (first : CacheState). first ∷ map state_of cs) e
states_same (c ∷ cs) (suc number) cache d e =
    ap (λ (rest : List CacheState). state_of c ∷ rest) (states_same cs number cache d e)

pub state_there : (cs : List Contents) (number : ℕ) (d : Contents) → number < length cs
    → cache_at (map state_of cs) number ≡ state_of (slice_index_or cs number d)
state_there [] number d less = absurd (omega (arith, less))
state_there (c ∷ cs) zero d less = refl
state_there (c ∷ cs) (suc number) d less =
    let before : number < length cs = omega (arith, less) in state_there cs number d before

cleared_states : (table : List ℕ) (ss : List StatementState) (olds news : List Contents)
    → AreCleared table ss olds news → map state_of news ≡ cleared_for table ss (map state_of olds)
cleared_states table [] [] [] h = refl
cleared_states table [] [] (n ∷ ns) h = absurd h
cleared_states table [] (o ∷ os) [] h = absurd h
cleared_states table [] (o ∷ os) (n ∷ ns) h = absurd h
cleared_states table (s ∷ ss) [] news h = absurd h
cleared_states table (s ∷ ss) (o ∷ os) [] h = absurd h
cleared_states table (s ∷ ss) (o ∷ os) (n ∷ ns) h =
    ap₂ (λ (first : CacheState) (rest : List CacheState). first ∷ rest)
    (by_test (reads_table table s.statement.places) h.0) (cleared_states table ss os ns h.1)
  where
    by_test : (test : Bool) → IsClearedIf test o n → state_of n ≡ cond test (cleared (state_of o)) (state_of o)
    by_test true e = e
    by_test false e = ap state_of e

no_plans : (plans : List Kept) → map cached plans ≡ [] → plans ≡ []
no_plans [] e = refl
no_plans (p ∷ ps) e = absurd cc

cleared_costed : (old new : Catalog) (table : List ℕ)
    → ((q : Statement) → reads_table table q.places ≡ false → stats_now new.tables new.weights q
    ≡ stats_now old.tables old.weights q)
    → (ss : List StatementState) (olds news : List Contents) → AreCleared table ss olds news
    → EachWithContents (AreCosted old) ss olds → EachWithContents (AreCosted new) ss news
cleared_costed old new table same [] [] [] h k = tt
cleared_costed old new table same [] [] (n ∷ ns) h k = absurd h
cleared_costed old new table same [] (o ∷ os) [] h k = absurd h
cleared_costed old new table same [] (o ∷ os) (n ∷ ns) h k = absurd h
cleared_costed old new table same (s ∷ ss) [] news h k = absurd k
cleared_costed old new table same (s ∷ ss) (o ∷ os) [] h k = absurd h
cleared_costed old new table same (s ∷ ss) (o ∷ os) (n ∷ ns) h k =
    (by_test (reads_table table s.statement.places) refl h.0, cleared_costed old new table same ss os ns h.1 k.1)
  where
    by_test : (test : Bool) → reads_table table s.statement.places ≡ test → IsClearedIf test o n → AreCosted new s n
    by_test true e c =
        let none : n.plans ≡ [] = no_plans n.plans (ap (λ (state : CacheState). state.plans) c) in
        subst (λ (ps : List Kept). All (IsCosted s.statement (stats_now new.tables new.weights s.statement)) ps)
        (sym none) (All-nil (IsCosted s.statement (stats_now new.tables new.weights s.statement)))
    by_test false e c =
        subst (λ (numbers : Statistics). All (IsCosted s.statement numbers) n.plans) (sym (same s.statement e))
        (subst (λ (cache : Contents). All (IsCosted s.statement (stats_now old.tables old.weights s.statement))
        cache.plans) (sym c) k.0)

-- a whole slice that was written back
pub with_whole : (n : ℕ) (xs ys : List Contents) → length xs ≡ n → length ys ≡ n
    → take n (xs ++ drop (length xs) ys) ≡ xs
with_whole n xs ys here there =
    let none : drop (length xs) ys ≡ [] = drop_all (length xs) ys (omega (arith, here, there)) in
    ap (λ (rest : List Contents). take n (xs ++ rest)) none ∙ ap (take n) (append-nil xs)
    ∙ take_all n xs (omega (arith, here))

pub cleared_long : (table : List ℕ) (ss : List StatementState) (olds news : List Contents)
    → AreCleared table ss olds news → length news ≡ length olds
cleared_long table [] [] [] h = refl
cleared_long table [] [] (n ∷ ns) h = absurd h
cleared_long table [] (o ∷ os) [] h = absurd h
cleared_long table [] (o ∷ os) (n ∷ ns) h = absurd h
cleared_long table (s ∷ ss) [] news h = absurd h
cleared_long table (s ∷ ss) (o ∷ os) [] h = absurd h
cleared_long table (s ∷ ss) (o ∷ os) (n ∷ ns) h = ap suc (cleared_long table ss os ns h.1)

-- Loads and indexes.

pub record IsKeptBy (step : State → State → Type 0) (catalog new : Catalog) (olds news : List Contents)
    (cursors : List CursorState) (executions after : ℕ) (settings : Settings) : Type 0 where
  pub steps : step (session_of catalog olds cursors executions settings) (session_of new news cursors after settings)
  pub kept : IsSessionKept new news cursors after settings

loads : (old new : State) (name bytes : List ℕ) (version : Version) (answer : Reply)
    → loading_of (held_versions old.cursors) old.catalog name bytes ≡ Ok version → Loads old name version answer new
    → LoadStep old name (Some bytes) answer new
loads old new name bytes version answer e l = rw e l

pub load_kept : (catalog new : Catalog) (olds news : List Contents) (cursors : List CursorState) (executions : ℕ)
    (settings : Settings) (name bytes : List ℕ) (version : Version) → IsSessionKept catalog olds cursors executions
    settings
    → loading_of (held_versions cursors) catalog name bytes ≡ Ok version → new ≡ with_version catalog name version
    → AreCleared name new.statements olds news
    → IsKeptBy (λ a b. LoadStep a name (Some bytes)
    (reply.Loaded name (length version.content.rows) (length version.content.schema)) b)
    catalog new olds news cursors executions executions settings
load_kept catalog new olds news cursors executions settings name bytes version h e made gone =
    let old : State = session_of catalog olds cursors executions settings in
    let gone' = subst (λ (k : Catalog). AreCleared name k.statements olds news) made gone in
    let after : session_of new news cursors executions settings ≡ record old {
      catalog = with_version catalog name version;
      caches = cleared_for name catalog.statements (map state_of olds);
    } =
    ap₂ (λ (k : Catalog) (caches : List CacheState).
    with_states k cursors executions settings caches) made (cleared_states name catalog.statements olds news gone') in
    let step = loads old (session_of new news cursors executions settings) name bytes version
    (reply.Loaded name (length version.content.rows) (length version.content.schema)) e
    (record { says = refl; keeps = after }) in
    record {
      steps = step;
      kept = record {
        session = load_keeps old (session_of new news cursors executions settings) name (Some bytes) _ h.session step;
        costed = subst (λ (k : Catalog). EachWithContents (AreCosted k) k.statements news) (sym made)
            (cleared_costed catalog (with_version catalog name version) name
            (loaded_unread catalog.tables name version catalog.weights) catalog.statements olds news gone' h.costed);
      };
    }

pub load_shown : (old now new : State) (name shown bytes : List ℕ) (rows columns : ℕ) (version : Version) → old ≡ now
    → shown ≡ name → rows ≡ length version.content.rows → columns ≡ length version.content.schema
    → LoadStep old name (Some bytes)
    (reply.Loaded name (length version.content.rows) (length version.content.schema)) new
    → LoadStep now name (Some bytes) (reply.Loaded shown rows columns) new
load_shown old now new name shown bytes rows columns version same copy r k step =
    let says : reply.Loaded name (length version.content.rows) (length version.content.schema)
    ≡ reply.Loaded shown rows columns = rw (copy, r, k) refl in
    subst (λ (answer : Reply). LoadStep now name (Some bytes) answer new) says
    (subst (λ (s : State). LoadStep s name (Some bytes)
    (reply.Loaded name (length version.content.rows) (length version.content.schema)) new) same step)

pub index_shown : (old now new : State) (table column shown also : List ℕ) → old ≡ now → shown ≡ table → also ≡ column
    → IndexStep old table column (reply.Indexed table column) new
    → IndexStep now table column (reply.Indexed shown also) new
index_shown old now new table column shown also same copy k step =
    let says : reply.Indexed table column ≡ reply.Indexed shown also = rw (copy, k) refl in
    subst (λ (answer : Reply). IndexStep now table column answer new) says
    (subst (λ (s : State). IndexStep s table column (reply.Indexed table column) new) same step)

indexes : (old new : State) (table column : List ℕ) (number : ℕ) (answer : Reply)
    → indexing_of old.catalog table column ≡ Ok number → Indexes old table column number answer new
    → IndexStep old table column answer new
indexes old new table column number answer e i = rw e i

pub index_kept : (catalog new : Catalog) (olds news : List Contents) (cursors : List CursorState) (executions : ℕ)
    (settings : Settings) (table column : List ℕ) (number : ℕ) → IsSessionKept catalog olds cursors executions settings
    → indexing_of catalog table column ≡ Ok number → new ≡ with_index catalog table number
    → AreCleared table new.statements olds news
    → IsKeptBy (λ a b. IndexStep a table column (reply.Indexed table column) b) catalog new olds news cursors executions
    executions settings
index_kept catalog new olds news cursors executions settings table column number h e made gone =
    let old : State = session_of catalog olds cursors executions settings in
    let gone' = subst (λ (k : Catalog). AreCleared table k.statements olds news) made gone in
    let after : session_of new news cursors executions settings ≡ record old {
      catalog = with_index catalog table number;
      caches = cleared_for table catalog.statements (map state_of olds);
    } =
    ap₂ (λ (k : Catalog) (caches : List CacheState).
    with_states k cursors executions settings caches) made (cleared_states table catalog.statements olds news gone') in
    let step = indexes old (session_of new news cursors executions settings) table column number
    (reply.Indexed table column) e (record { says = refl; keeps = after }) in
    record {
      steps = step;
      kept = record {
        session = index_keeps old (session_of new news cursors executions settings) table column _ h.session step;
        costed = subst (λ (k : Catalog). EachWithContents (AreCosted k) k.statements news) (sym made)
            (cleared_costed catalog (with_index catalog table number) table
            (indexed_unread catalog.tables table number catalog.weights) catalog.statements olds news gone' h.costed);
      };
    }

-- Preparations.

prepares : (old new : State) (name : List ℕ) (select : Parts) (q : Statement) (answer : Reply)
    → preparing_of old.catalog name select ≡ Ok q → Prepares old name q answer new
    → PrepareStep old name select answer new
prepares old new name select q answer e p = rw e p

states_behind : (cs : List Contents) (cache : Contents) → state_of cache ≡ empty_cache
    → map state_of (cs ++ cache ∷ []) ≡ map state_of cs ++ empty_cache ∷ []
states_behind [] cache e = ap (λ (c : CacheState). c ∷ []) e
states_behind (c ∷ cs) cache e = ap (λ (rest : List CacheState). state_of c ∷ rest) (states_behind cs cache e)

pub prepare_kept : (catalog new : Catalog) (olds : List Contents) (cache : Contents) (cursors : List CursorState)
    (executions : ℕ) (settings : Settings) (name : List ℕ) (select : Parts) (q : Statement) → IsSound select
    → IsSessionKept catalog olds cursors executions settings → preparing_of catalog name select ≡ Ok q
    → new ≡ with_statement catalog name q → state_of cache ≡ empty_cache
    → IsKeptBy (λ a b. PrepareStep a name select
    (reply.Prepared name (length q.places) (length q.preds) (length (kinds_of q.places q.preds))) b)
    catalog new olds (olds ++ cache ∷ []) cursors executions executions settings
prepare_kept catalog new olds cache cursors executions settings name select q parts h e made empty =
    let old : State = session_of catalog olds cursors executions settings in
    let news : List Contents = olds ++ cache ∷ [] in
    let after : session_of new news cursors executions settings ≡ record old {
      catalog = with_statement catalog name q;
      caches = map state_of olds ++ empty_cache ∷ [];
    } =
    ap₂ (λ (k : Catalog) (caches : List CacheState).
    with_states k cursors executions settings caches) made (states_behind olds cache empty) in
    let step = prepares old (session_of new news cursors executions settings) name select q
    (reply.Prepared name (length q.places) (length q.preds) (length (kinds_of q.places q.preds))) e
    (record { says = refl; keeps = after }) in
    let none : cache.plans ≡ [] = no_plans cache.plans (ap (λ (state : CacheState). state.plans) empty) in
    let own = subst (λ (ps : List Kept). All (IsCosted q (stats_now catalog.tables catalog.weights q)) ps) (sym none)
    (All-nil (IsCosted q (stats_now catalog.tables catalog.weights q))) in
    record {
      steps = step;
      kept = record {
        session = prepare_keeps old (session_of new news cursors executions settings) name select _ parts h.session
            step;
        costed = subst (λ (k : Catalog). EachWithContents (AreCosted k) k.statements news) (sym made)
            (each_behind (AreCosted catalog) (AreCosted (with_statement catalog name q))
            (record { name = name; statement = q }) cache (λ s c k. k) own catalog.statements olds h.costed);
      };
    }

statement_behind : (ss : List StatementState) (new : StatementState)
    → slice_get (ss ++ new ∷ []) (length ss) ≡ Some new
statement_behind [] new = refl
statement_behind (s ∷ ss) new = statement_behind ss new

-- the statement behind the others is the one that was prepared
pub last_statement : (catalog new : Catalog) (name : List ℕ) (q told : Statement) (number : ℕ)
    → number ≡ length catalog.statements → new ≡ with_statement catalog name q
    → option_map (λ (s : StatementState). s.statement) (slice_get new.statements number) ≡ Some told → q ≡ told
last_statement catalog new name q told number last made e =
    let there : Some q ≡ Some told =
    sym (ap (option_map (λ (s : StatementState). s.statement))
    (ap (λ n. slice_get (with_statement catalog name q).statements n) last
    ∙ statement_behind catalog.statements (record { name = name; statement = q })))
    ∙ (ap (λ (k : Catalog). option_map (λ (s : StatementState). s.statement) (slice_get k.statements number)) (sym made)
    ∙ e) in
    cc

pub prepare_shown : (old now new : State) (name shown : List ℕ) (select : Parts) (q told : Statement) (answer : Reply)
    → old ≡ now → shown ≡ name → q ≡ told
    → answer ≡ reply.Prepared shown (length told.places) (length told.preds) (length (kinds_of told.places told.preds))
    → PrepareStep old name select
    (reply.Prepared name (length q.places) (length q.preds) (length (kinds_of q.places q.preds))) new
    → PrepareStep now name select answer new
prepare_shown old now new name shown select q told answer same copy one says step =
    let told_so : reply.Prepared name (length q.places) (length q.preds) (length (kinds_of q.places q.preds)) ≡ answer =
    ap (λ (p : Statement). reply.Prepared name (length p.places) (length p.preds) (length (kinds_of p.places p.preds)))
    one
    ∙ (ap (λ (n : List ℕ). reply.Prepared n (length told.places) (length told.preds)
    (length (kinds_of told.places told.preds))) (sym copy) ∙ sym says) in
    subst (λ (r : Reply). PrepareStep now name select r new) told_so
    (subst (λ (s : State). PrepareStep s name select
    (reply.Prepared name (length q.places) (length q.preds) (length (kinds_of q.places q.preds))) new) same step)
