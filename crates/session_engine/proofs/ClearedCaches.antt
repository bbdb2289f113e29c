-- Caches that are cleared one after the other.
use Rattle.std.proofs.Common.{ℕ, zero, suc, ◌≡◌, ◌<◌, ◌≤◌, List, [], ◌∷◌, length, set, Some}
use Rattle.std.proofs.Common.{ap, refl, sym, subst, arith, slice_get, slice_index_or}
use Rattle.catalog_model.specs.Catalogs.{StatementState, reads_table}
use Rattle.anchor_cache.specs.Contents.{Contents}
use Rattle.session_engine.specs.Serving.{AreCleared, IsClearedIf}

-- of the first so many those that read the table are cleared, and the others are as they were
abbrev pub AreClearedTo : ℕ → List ℕ → List StatementState → List Contents → List Contents → Type 0
AreClearedTo zero table statements olds news = olds ≡ news
AreClearedTo (suc count) table (prepared ∷ others) (old ∷ olds) (new ∷ news) =
    IsClearedIf (reads_table table prepared.statement.places) old new × AreClearedTo count table others olds news
AreClearedTo (suc count) table statements olds news = ⊥

same_first : (o n : Contents) (os ns : List Contents) → o ∷ os ≡ n ∷ ns → (o ≡ n) × (os ≡ ns)
same_first o n os ns e = (cc, cc)

pub one_more_cleared : (count : ℕ) (table : List ℕ) (ss : List StatementState) (olds news : List Contents)
    (cache d : Contents) → length olds ≡ length ss → count < length news
    → AreClearedTo count table ss olds news
    → ((prepared : StatementState) → slice_get ss count ≡ Some prepared
    → IsClearedIf (reads_table table prepared.statement.places) (slice_index_or news count d) cache)
    → AreClearedTo (suc count) table ss olds (set news count cache)
one_more_cleared zero table ss [] [] cache d long less h one = absurd (omega (arith, less))
one_more_cleared zero table ss (o ∷ os) [] cache d long less h one = absurd (omega (arith, less))
one_more_cleared zero table ss [] (n ∷ ns) cache d long less h one = absurd cc
one_more_cleared zero table [] (o ∷ os) (n ∷ ns) cache d long less h one = absurd cc
one_more_cleared zero table (s ∷ ss) (o ∷ os) (n ∷ ns) cache d long less h one =
    let same = same_first o n os ns h in (
      subst (λ (old : Contents). IsClearedIf (reads_table table s.statement.places) old cache) (sym same.0)
          (one s refl),
      same.1,
    )
one_more_cleared (suc count) table [] olds news cache d long less h one = absurd h
one_more_cleared (suc count) table (s ∷ ss) [] news cache d long less h one = absurd h
one_more_cleared (suc count) table (s ∷ ss) (o ∷ os) [] cache d long less h one = absurd h
one_more_cleared (suc count) table (s ∷ ss) (o ∷ os) (n ∷ ns) cache d long less h one =
    let shorter : count < length ns = omega (arith, less) in
    let alike : length os ≡ length ss = omega (arith, long) in
    (h.0, one_more_cleared count table ss os ns cache d alike shorter h.1 one)

pub all_cleared : (count : ℕ) (table : List ℕ) (ss : List StatementState) (olds news : List Contents)
    → length olds ≡ length ss → length news ≤ count → AreClearedTo count table ss olds news
    → AreCleared table ss olds news
all_cleared zero table ss olds (n ∷ ns) long end h = absurd (omega (arith, end))
all_cleared zero table ss (o ∷ os) [] long end h = absurd cc
all_cleared zero table [] [] [] long end h = tt
all_cleared zero table (s ∷ ss) [] [] long end h = absurd (omega (arith, long))
all_cleared (suc count) table [] olds news long end h = absurd h
all_cleared (suc count) table (s ∷ ss) [] news long end h = absurd h
all_cleared (suc count) table (s ∷ ss) (o ∷ os) [] long end h = absurd h
all_cleared (suc count) table (s ∷ ss) (o ∷ os) (n ∷ ns) long end h =
    let shorter : length ns ≤ count = omega (arith, end) in
    let alike : length os ≡ length ss = omega (arith, long) in
    (h.0, all_cleared count table ss os ns alike shorter h.1)

pub cleared_long : (count : ℕ) (table : List ℕ) (ss : List StatementState) (olds news : List Contents)
    → AreClearedTo count table ss olds news → length news ≡ length olds
cleared_long zero table ss olds news h = ap length (sym h)
cleared_long (suc count) table [] olds news h = absurd h
cleared_long (suc count) table (s ∷ ss) [] news h = absurd h
cleared_long (suc count) table (s ∷ ss) (o ∷ os) [] h = absurd h
cleared_long (suc count) table (s ∷ ss) (o ∷ os) (n ∷ ns) h = ap suc (cleared_long count table ss os ns h.1)
