-- A ledger that knows every anchor: what is kept of it by each change of the caches and of the ledger.
use Rattle.std.proofs.Common.{ℕ, suc, zero, ◌≡◌, ◌∙◌, ◌≤◌, ◌+◌, ◌==◌, ◌&&◌, Bool, true, false, cond, not, List, [], ◌∷◌}
use Rattle.std.proofs.Common.{◌++◌}
use Rattle.std.proofs.Common.{set, Option, Some, None, arith, nat_lt, refl, sym, subst, subst₂, length}
use Rattle.std.specs.List.{AllByRecursion}
use Rattle.std.specs.Option.{option_map_or}
use Rattle.std.proofs.lemmas.Bool.{and_parts}
use Rattle.std.proofs.lemmas.Bool.Decides.{nat_tests}
use Rattle.fraction_math.specs.Fraction.{Fraction}
use Rattle.row_values.specs.Statements.{Statement}
use Rattle.plan_trees.specs.Statistics.{Statistics}
use Rattle.plan_trees.specs.Trees.{TopTree}
use Rattle.cost_model.specs.Costs.{top_cost}
use Rattle.bound_certificate.specs.declared.certificates.Cert.{Cert}
use Rattle.cache_model.specs.Caches.{Anchor, CachedPlan, CacheState, cleared, empty_cache, reused, without}
use Rattle.cache_model.specs.Choices.{ByCost, ByOptimum, BySelectivity, Choice}
use Rattle.cache_model.specs.Keeping.{Keeping, Optimum, anchor_of, evicted_for_room, kept_with_new}
use Rattle.cache_model.specs.Keeping.{KeptNothing, kept_after, kept_with_old, old_plan, with_room}
use Rattle.cache_model.specs.declared.limits.TheConstants.{ANCHOR_LIMIT}
use Rattle.cache_model.proofs.Lists.{each_filter, each_push, each_to}
use Rattle.cache_model.proofs.Reusing.{each_used}
use Rattle.certificate_check.specs.declared.entries.Entry.{Entry}
use Rattle.certificate_check.specs.Ledgers.{entry_of, is_entry}
use Rattle.script_report.specs.declared.replies.Execution.{Execution}
use Rattle.catalog_model.specs.Catalogs.{StatementState, reads_table}
use Rattle.session_model.specs.Executions.{IsChosen, optimum_of}
use Rattle.session_model.specs.State.{cache_at, cleared_for}
use Rattle.session_model.specs.declared.settings.Settings.{Settings}
use Rattle.session_bound.specs.Ledger.{entered_by, forgotten_for, is_read_by}
use Rattle.session_bound.proofs.Finds.{found_kept, found_more, found_new}

-- Caches by their numbers.

-- each cache with its number, from 0
abbrev pub EachCache : (ℕ → CacheState → Type 0) → List CacheState → Type 0
EachCache P [] = Unit {0}
EachCache P (cache ∷ caches) = P 0 cache × EachCache (λ number. P (suc number)) caches

pub each_weaker : (P Q : ℕ → CacheState → Type 0)
    → ((number : ℕ) (cache : CacheState) → P number cache → Q number cache) → (caches : List CacheState)
    → EachCache P caches → EachCache Q caches
each_weaker P Q to [] h = tt
each_weaker P Q to (cache ∷ caches) h = (
  to 0 cache h.0,
  each_weaker (λ number. P (suc number)) (λ number. Q (suc number)) (λ number. to (suc number)) caches h.1,
)

pub each_at : (P : ℕ → CacheState → Type 0) → ((number : ℕ) → P number empty_cache) → (caches : List CacheState)
    (number : ℕ) → EachCache P caches → P number (cache_at caches number)
each_at P none [] number h = none number
each_at P none (cache ∷ caches) zero h = h.0
each_at P none (cache ∷ caches) (suc number) h =
    each_at (λ n. P (suc n)) (λ n. none (suc n)) caches number h.1

pub each_set : (P Q : ℕ → CacheState → Type 0) → ((number : ℕ) (cache : CacheState) → P number cache → Q number cache)
    → (caches : List CacheState) (number : ℕ) (new : CacheState) → Q number new → EachCache P caches
    → EachCache Q (set caches number new)
each_set P Q to [] number new q h = tt
each_set P Q to (cache ∷ caches) zero new q h =
    (q, each_weaker (λ n. P (suc n)) (λ n. Q (suc n)) (λ n. to (suc n)) caches h.1)
each_set P Q to (cache ∷ caches) (suc number) new q h =
    (to 0 cache h.0, each_set (λ n. P (suc n)) (λ n. Q (suc n)) (λ n. to (suc n)) caches number new q h.1)

pub each_behind : (P : ℕ → CacheState → Type 0) (new : CacheState) → ((number : ℕ) → P number new)
    → (caches : List CacheState) → EachCache P caches → EachCache P (caches ++ new ∷ [])
each_behind P new q [] h = (q 0, tt)
each_behind P new q (cache ∷ caches) h = (h.0, each_behind (λ n. P (suc n)) new (λ n. q (suc n)) caches h.1)

pub each_cleared : (P Q : ℕ → CacheState → Type 0) (table : List ℕ) (statements : List StatementState)
    → ((number : ℕ) (cache : CacheState) → Q number (cleared cache))
    → ((number : ℕ) (cache : CacheState) → is_read_by table statements number ≡ false → P number cache → Q number cache)
    → (caches : List CacheState) → EachCache P caches → EachCache Q (cleared_for table statements caches)
each_cleared P Q table [] none stays caches h = tt
each_cleared P Q table (prepared ∷ others) none stays [] h = tt
each_cleared P Q table (prepared ∷ others) none stays (cache ∷ caches) h = (
  by_test (reads_table table prepared.statement.places) refl,
  each_cleared (λ n. P (suc n)) (λ n. Q (suc n)) table others (λ n. none (suc n)) (λ n. stays (suc n)) caches h.1,
)
  where
    by_test : (test : Bool) → reads_table table prepared.statement.places ≡ test → Q 0 (cond test (cleared cache) cache)
    by_test true e = none 0 cache
    by_test false e = stays 0 cache e h.0

-- Anchors and their entries.

abbrev pub entry_for : ℕ → Anchor → Entry
entry_for number anchor = record {
  statement = number;
  execution = anchor.execution;
  at = anchor.at;
  least = anchor.least;
}

-- the ledger has an entry of this anchor of the statement of this number
abbrev pub HasEntry : List Entry → ℕ → Anchor → Type 0
HasEntry ledger number anchor = entry_of ledger number anchor.execution ≡ Some (entry_for number anchor)

-- and of each anchor of its cache
abbrev pub HasEntries : List Entry → ℕ → CacheState → Type 0
HasEntries ledger number cache = AllByRecursion (HasEntry ledger number) cache.anchors

-- the ledger has an entry of each anchor of each statement, and none of executions that are to come
pub record IsKnown (ledger : List Entry) (caches : List CacheState) (executions : ℕ) : Type 0 where
  pub entries : EachCache (HasEntries ledger) caches
  pub past : AllByRecursion (λ entry. entry.execution ≤ executions) ledger

pub known_at : (ledger : List Entry) (caches : List CacheState) (executions number : ℕ)
    → IsKnown ledger caches executions → HasEntries ledger number (cache_at caches number)
known_at ledger caches executions number known =
    each_at (HasEntries ledger) (λ n. tt) caches number known.entries

pub prepared_known : (ledger : List Entry) (caches : List CacheState) (executions : ℕ)
    → IsKnown ledger caches executions → IsKnown ledger (caches ++ empty_cache ∷ []) executions
prepared_known ledger caches executions known = record {
  entries = each_behind (HasEntries ledger) empty_cache (λ n. tt) caches known.entries;
  past = known.past;
}

-- Forgetting.

same_number : (a b : ℕ) → (a == b) ≡ true → a ≡ b
same_number a b h = grind (arith, nat_tests)

stays : (table : List ℕ) (statements : List StatementState) (ledger : List Entry) (number : ℕ)
    → is_read_by table statements number ≡ false → (anchor : Anchor) → HasEntry ledger number anchor
    → HasEntry (forgotten_for table statements ledger) number anchor
stays table statements ledger number e anchor h =
    found_kept (is_entry number anchor.execution) (λ entry. not (is_read_by table statements entry.statement))
    (λ entry is. kept entry (same_number entry.statement number
    (and_parts (entry.statement == number) (entry.execution == anchor.execution) is).0)) ledger
    ∙ h
  where
    kept : (entry : Entry) → entry.statement ≡ number → not (is_read_by table statements entry.statement) ≡ true
    kept entry same = rw same (rw e refl)

pub cleared_known : (table : List ℕ) (statements : List StatementState) (ledger : List Entry) (caches : List CacheState)
    (executions : ℕ) → IsKnown ledger caches executions
    → IsKnown (forgotten_for table statements ledger) (cleared_for table statements caches) executions
cleared_known table statements ledger caches executions known = record {
  entries = each_cleared (HasEntries ledger) (HasEntries (forgotten_for table statements ledger)) table statements
      (λ number cache. tt)
      (λ number cache unread h. each_to (HasEntry ledger number)
      (HasEntry (forgotten_for table statements ledger) number) (stays table statements ledger number unread)
      cache.anchors h)
      caches known.entries;
  past = each_filter (λ entry. entry.execution ≤ executions) (λ entry. entry.execution ≤ executions)
      (λ entry. not (is_read_by table statements entry.statement)) (λ entry e h. h) ledger known.past;
}

-- Evictions and reuses.

fewer : (P : Anchor → Type 0) (cache : CacheState) (plan : ℕ) → AllByRecursion P cache.anchors
    → AllByRecursion P (without cache plan).anchors
fewer P cache plan h = each_filter P P (λ anchor. not (anchor.plan == plan)) (λ anchor e k. k) cache.anchors h

pub evicted_known : (ledger : List Entry) (caches : List CacheState) (executions number plan : ℕ)
    → IsKnown ledger caches executions
    → IsKnown ledger (set caches number (without (cache_at caches number) plan)) executions
evicted_known ledger caches executions number plan known = record {
  entries = each_set (HasEntries ledger) (HasEntries ledger) (λ n cache h. h) caches number
      (without (cache_at caches number) plan)
      (fewer (HasEntry ledger number) (cache_at caches number) plan
      (known_at ledger caches executions number known)) known.entries;
  past = known.past;
}

pub reused_known : (ledger : List Entry) (caches : List CacheState) (executions number position : ℕ)
    → IsKnown ledger caches executions
    → IsKnown ledger (set caches number (reused (cache_at caches number) position)) (executions + 1)
reused_known ledger caches executions number position known = record {
  entries = each_set (HasEntries ledger) (HasEntries ledger) (λ n cache h. h) caches number
      (reused (cache_at caches number) position)
      (each_used (HasEntry ledger number) (HasEntry ledger number) (λ anchor h. h) (λ anchor h. h)
      (cache_at caches number).anchors position (known_at ledger caches executions number known)) known.entries;
  past = each_to (λ entry. entry.execution ≤ executions) (λ entry. entry.execution ≤ executions + 1)
      (λ entry h. omega (arith, h)) ledger known.past;
}

-- Optima.

abbrev nothing_kept : CacheState → Keeping
nothing_kept cache = record { cache = cache; evicted = None; kept = KeptNothing }

roomy : (P : Anchor → Type 0) (cache : CacheState) (gone : Option ℕ) → AllByRecursion P cache.anchors
    → AllByRecursion P (option_map_or (without cache) gone cache).anchors
roomy P cache None h = h
roomy P cache (Some plan) h = fewer P cache plan h

kept_by : (P : Anchor → Type 0) (cache : CacheState) (optimum : Optimum) (cost : TopTree → ℕ) (budget : ℕ)
    (room : Bool) (old : Option CachedPlan) → AllByRecursion P cache.anchors
    → ((plan paid : ℕ) → P (anchor_of optimum plan paid))
    → AllByRecursion P
    (cond room (option_map_or (kept_with_old cache optimum cost) old (kept_with_new cache optimum cost budget))
    (nothing_kept cache)).cache.anchors
kept_by P cache optimum cost budget false old h new = h
kept_by P cache optimum cost budget true (Some plan) h new =
    each_push P cache.anchors (anchor_of optimum plan.number (cost plan.top)) h (new plan.number (cost plan.top))
kept_by P cache optimum cost budget true None h new =
    each_push P (with_room cache budget).anchors
    (anchor_of optimum (with_room cache budget).next_plan (cost optimum.top))
    (roomy P cache (evicted_for_room cache budget) h)
    (new (with_room cache budget).next_plan (cost optimum.top))

-- the anchors that are kept: some of those before, and perhaps that of the optimum
each_kept : (P : Anchor → Type 0) (cache : CacheState) (q : Statement) (s : Statistics) (optimum : Optimum)
    (keep : Fraction) (budget : ℕ) → AllByRecursion P cache.anchors
    → ((plan paid : ℕ) → P (anchor_of optimum plan paid))
    → AllByRecursion P (kept_after cache q s optimum keep budget).cache.anchors
each_kept P cache q s optimum keep budget h new =
    kept_by P cache optimum (top_cost q s optimum.at) budget (nat_lt (length cache.anchors) ANCHOR_LIMIT)
    (old_plan optimum keep (top_cost q s optimum.at) cache.plans) h new

unmet : (number executions : ℕ) (entry : Entry) → entry.execution ≤ executions
    → is_entry number (executions + 1) entry ≡ false
unmet number executions entry h = grind (arith, nat_tests)

met : (number execution : ℕ) → (number == number && execution == execution) ≡ true
met number execution = grind (arith, nat_tests)

abbrev entry_of_optimum : ℕ → Optimum → Entry
entry_of_optimum number optimum =
    record { statement = number; execution = optimum.execution; at = optimum.at; least = optimum.least }

pub optimum_known : (ledger : List Entry) (caches : List CacheState) (executions number : ℕ) (q : Statement)
    (s : Statistics) (optimum : Optimum) (keep : Fraction) (budget : ℕ) → optimum.execution ≡ executions + 1
    → IsKnown ledger caches executions
    → IsKnown (ledger ++ entry_of_optimum number optimum ∷ [])
    (set caches number (kept_after (cache_at caches number) q s optimum keep budget).cache) (executions + 1)
optimum_known ledger caches executions number q s optimum keep budget now known =
    let entry : Entry = entry_of_optimum number optimum in
    let after : List Entry = ledger ++ entry ∷ [] in
    let more : (n : ℕ) (anchor : Anchor) → HasEntry ledger n anchor → HasEntry after n anchor =
    λ n anchor h. found_more (is_entry n anchor.execution) ledger (entry ∷ []) (entry_for n anchor) h in
    let before : HasEntries after number (cache_at caches number) =
    each_to (HasEntry ledger number) (HasEntry after number) (more number) (cache_at caches number).anchors
    (known_at ledger caches executions number known) in
    record {
      entries = each_set (HasEntries ledger) (HasEntries after)
          (λ n cache h. each_to (HasEntry ledger n) (HasEntry after n) (more n) cache.anchors h) caches number
          (kept_after (cache_at caches number) q s optimum keep budget).cache
          (each_kept (HasEntry after number) (cache_at caches number) q s optimum keep budget before
          (λ plan paid. found_new (is_entry number optimum.execution) ledger entry
          (each_to (λ x. x.execution ≤ executions) (λ x. is_entry number optimum.execution x ≡ false)
          (λ x h. subst (λ n. is_entry number n x ≡ false) (sym now) (unmet number executions x h)) ledger known.past)
          (met number optimum.execution)))
          known.entries;
      past = each_push (λ x. x.execution ≤ executions + 1) ledger entry
          (each_to (λ x. x.execution ≤ executions) (λ x. x.execution ≤ executions + 1) (λ x h. omega (arith, h)) ledger
          known.past)
          (omega (arith, now));
    }

-- Executions.

-- what an execution leaves is known
pub chosen_known : (settings : Settings) (ledger : List Entry) (caches : List CacheState) (number executions : ℕ)
    (q : Statement) (s : Statistics) (vector : List ℕ) (plan : TopTree) (execution : Execution) (after : CacheState)
    (choice : Choice) → execution.number ≡ executions + 1 → execution.at ≡ vector
    → IsChosen settings (executions + 1) q s vector (cache_at caches number) plan execution after choice
    → IsKnown ledger caches executions
    → IsKnown (entered_by (Some number) execution execution.cert ledger) (set caches number after) (executions + 1)
chosen_known settings ledger caches number executions q s vector plan execution after (BySelectivity position) is at
    chosen known =
    subst₂ (λ (c : Cert) (a : CacheState). IsKnown (entered_by (Some number) execution c ledger) (set caches number a)
    (executions + 1)) (sym chosen.certified) (sym chosen.uses)
    (reused_known ledger caches executions number position known)
chosen_known settings ledger caches number executions q s vector plan execution after (ByCost position tried) is at
    chosen known =
    subst₂ (λ (c : Cert) (a : CacheState). IsKnown (entered_by (Some number) execution c ledger) (set caches number a)
    (executions + 1)) (sym chosen.certified) (sym chosen.uses)
    (reused_known ledger caches executions number position known)
chosen_known settings ledger caches number executions q s vector plan execution after (ByOptimum tried) is at chosen
    known =
    let optimum : Optimum = optimum_of (executions + 1) vector plan execution.cost in
    let entered = optimum_known ledger caches executions number q s optimum settings.keep settings.budget refl known in
    subst₂ (λ (c : Cert) (a : CacheState). IsKnown (entered_by (Some number) execution c ledger) (set caches number a)
    (executions + 1)) (sym chosen.certified) (sym chosen.keeps.cache)
    (subst₂ (λ (n : ℕ) (v : List ℕ). IsKnown
    (ledger ++ (record { statement = number; execution = n; at = v; least = execution.cost }) ∷ [])
    (set caches number (kept_after (cache_at caches number) q s optimum settings.keep settings.budget).cache)
    (executions + 1)) (sym is) (sym at) entered)
