-- Statements with their caches: what holds of each, at a number, after a change of one or of some, and with one more.
use Rattle.std.proofs.Common.{ℕ, zero, suc, ◌≡◌, ◌∙◌, List, [], ◌∷◌, ◌++◌, set, Option, Some, None, Bool, true, false, cond}
use Rattle.std.proofs.Common.{ap, refl, sym, subst}
use Rattle.std.specs.Option.{option_map}
use Rattle.std.specs.Str.{bytes_eq}
use Rattle.row_values.specs.Statements.{Statement}
use Rattle.cache_model.specs.Caches.{CacheState, cleared}
use Rattle.catalog_model.specs.Catalogs.{StatementState, find_statement, number_of, reads_table}
use Rattle.catalog_model.proofs.Numbers.{position_next}
use Rattle.session_model.specs.Session.{EachWithCache}
use Rattle.session_model.specs.State.{cache_at, cleared_for}

pub each_weaker : (P Q : StatementState → CacheState → Type 0) → ((s : StatementState) (c : CacheState) → P s c → Q s c)
    → (ss : List StatementState) (cs : List CacheState) → EachWithCache P ss cs → EachWithCache Q ss cs
each_weaker P Q step [] [] each = tt
each_weaker P Q step (s ∷ ss) (c ∷ cs) each = (step s c each.0, each_weaker P Q step ss cs each.1)
each_weaker P Q step [] (c ∷ cs) each = absurd each
each_weaker P Q step (s ∷ ss) [] each = absurd each

-- one more, with its cache
pub each_behind : (P : StatementState → CacheState → Type 0) (new : StatementState) (cache : CacheState) → P new cache
    → (ss : List StatementState) (cs : List CacheState) → EachWithCache P ss cs
    → EachWithCache P (ss ++ new ∷ []) (cs ++ cache ∷ [])
each_behind P new cache p [] [] each = (p, tt)
each_behind P new cache p (s ∷ ss) (c ∷ cs) each = (each.0, each_behind P new cache p ss cs each.1)
each_behind P new cache p [] (c ∷ cs) each = absurd each
each_behind P new cache p (s ∷ ss) [] each = absurd each

-- the caches of those that read the table are cleared
pub each_cleared : (P Q : StatementState → CacheState → Type 0) (table : List ℕ)
    → ((s : StatementState) (c : CacheState) → P s c → Q s (cleared c))
    → ((s : StatementState) (c : CacheState) → reads_table table s.statement.places ≡ false → P s c → Q s c)
    → (ss : List StatementState) (cs : List CacheState) → EachWithCache P ss cs
    → EachWithCache Q ss (cleared_for table ss cs)
each_cleared P Q table gone stays [] [] each = tt
each_cleared P Q table gone stays (s ∷ ss) (c ∷ cs) each =
    (by_test (reads_table table s.statement.places) refl, each_cleared P Q table gone stays ss cs each.1)
  where
    by_test : (test : Bool) → reads_table table s.statement.places ≡ test → Q s (cond test (cleared c) c)
    by_test true e = gone s c each.0
    by_test false e = stays s c e each.0
each_cleared P Q table gone stays [] (c ∷ cs) each = absurd each
each_cleared P Q table gone stays (s ∷ ss) [] each = absurd each

-- Numbers.

-- a statement of this name has the number 0, or is numbered behind the first
by_number : (R : ℕ → Type 0) (prepared : StatementState) (others : List StatementState) (name : List ℕ) (number : ℕ)
    → number_of (prepared ∷ others) name ≡ Some number
    → (find_statement (prepared ∷ others) name ≡ Some prepared.statement → R 0)
    → ((before : ℕ) → number_of others name ≡ Some before
    → find_statement (prepared ∷ others) name ≡ find_statement others name → R (suc before))
    → R number
by_number R prepared others name number h first later =
    by_test (bytes_eq name prepared.name) refl
    (sym (position_next (λ (p : StatementState). bytes_eq name p.name) prepared others) ∙ h)
  where
    behind : (o : Option ℕ) → number_of others name ≡ o → option_map suc o ≡ Some number
        → find_statement (prepared ∷ others) name ≡ find_statement others name → R number
    behind None is e found = absurd cc
    behind (Some before) is e found = let next : suc before ≡ number = cc in subst R next (later before is found)

    by_test : (test : Bool) → bytes_eq name prepared.name ≡ test
        → cond test (Some 0) (option_map suc (number_of others name)) ≡ Some number → R number
    by_test true e k = let zeroth : 0 ≡ number = cc in subst R zeroth (first (rw e refl))
    by_test false e k = behind (number_of others name) refl k (rw e refl)

-- the statement of this name, with its cache
pub record IsAt (P : StatementState → CacheState → Type 0) (ss : List StatementState) (cs : List CacheState)
    (name : List ℕ) (number : ℕ) : Type 0 where
  pub prepared : StatementState
  pub found : find_statement ss name ≡ Some prepared.statement
  pub has : P prepared (cache_at cs number)

pub each_at : (P : StatementState → CacheState → Type 0) (name : List ℕ) (ss : List StatementState)
    (cs : List CacheState) (number : ℕ) → number_of ss name ≡ Some number → EachWithCache P ss cs
    → IsAt P ss cs name number
each_at P name [] cs number h each = absurd cc
each_at P name (s ∷ ss) [] number h each = absurd each
each_at P name (s ∷ ss) (c ∷ cs) number h each =
    by_number (IsAt P (s ∷ ss) (c ∷ cs) name) s ss name number h
    (λ found. record { prepared = s; found = found; has = each.0 })
    (λ before is found. let one = each_at P name ss cs before is each.1 in
    record { prepared = one.prepared; found = found ∙ one.found; has = one.has })

-- the cache of the statement of this name is another one
pub each_set : (P Q : StatementState → CacheState → Type 0) (name : List ℕ) (cache : CacheState)
    → ((s : StatementState) (c : CacheState) → P s c → Q s c)
    → (ss : List StatementState) (cs : List CacheState) (number : ℕ) → number_of ss name ≡ Some number
    → ((s : StatementState) → find_statement ss name ≡ Some s.statement → P s (cache_at cs number) → Q s cache)
    → EachWithCache P ss cs → EachWithCache Q ss (set cs number cache)
each_set P Q name cache others [] cs number h new each = absurd cc
each_set P Q name cache others (s ∷ ss) [] number h new each = absurd each
each_set P Q name cache others (s ∷ ss) (c ∷ cs) number h new each =
    by_number (λ n. ((p : StatementState) → find_statement (s ∷ ss) name ≡ Some p.statement → P p (cache_at (c ∷ cs) n)
    → Q p cache) → EachWithCache Q (s ∷ ss) (set (c ∷ cs) n cache)) s ss name number h
    (λ found change. (change s found each.0, each_weaker P Q others ss cs each.1))
    (λ before is found change. (
      others s c each.0,
      each_set P Q name cache others ss cs before is (λ p e. change p (found ∙ e)) each.1,
    ))
    new
