-- Plans and anchors as the model has them, through what is done to the lists.
use Rattle.std.proofs.Common.{ℕ, zero, suc, ◌≡◌, ◌<◌, ◌+◌, Bool, true, false, cond, List, [], ◌∷◌, map, length, slice_get, slice_index_or, slice_set, All, Some, ap, sym, ◌∙◌, refl, subst, arith}
use Rattle.std.specs.List.{AllByRecursion, filter}
use Rattle.std.proofs.lemmas.List.{length-map}
use Rattle.std.proofs.lemmas.Option.{get_or_from_slice_get, slice_get_within}
use Rattle.cache_model.specs.Caches as model
use Rattle.cache_model.proofs.Lists.{all_from, each_from}
use Rattle.anchor_cache.specs.declared.anchors.Anchor.{Anchor}
use Rattle.anchor_cache.specs.declared.kept_plans.Kept.{Kept}
use Rattle.anchor_cache.specs.Anchors.{held}
use Rattle.anchor_cache.specs.Contents.{Contents}
use Rattle.anchor_cache.specs.Window.{entry_of}

abbrev pub used : Anchor → Anchor
used anchor = record anchor { uses = anchor.uses + 1 }

pub held_used : (anchors : List Anchor) (place : ℕ) (d : Anchor)
    → map held (slice_set anchors place (used (slice_index_or anchors place d)))
    ≡ model.used_at (map held anchors) place
held_used [] place d = refl
held_used (anchor ∷ anchors) zero d = refl
held_used (anchor ∷ anchors) (suc place) d = ap (λ rest. held anchor ∷ rest) (held_used anchors place d)

pub held_at : (anchors : List Anchor) (place : ℕ) (d : Anchor) → place < length anchors
    → slice_get (map held anchors) place ≡ Some (held (slice_index_or anchors place d))
held_at [] place d less = absurd (omega arith)
held_at (anchor ∷ anchors) zero d less = refl
held_at (anchor ∷ anchors) (suc place) d less = held_at anchors place d (omega arith)

-- what stands at a place of the program's list stands there in the model's
pub there_at : (anchors : List Anchor) (all : List model.Anchor) (place : ℕ) (anchor : Anchor)
    → map held anchors ≡ all → anchor ≡ slice_index_or anchors place anchor → place < length all
    → slice_get all place ≡ Some (held anchor)
there_at anchors all place anchor e is inside =
    subst (λ xs. slice_get xs place ≡ Some (held anchor)) e
    (held_at anchors place anchor (subst (λ n. place < n) (sym (ap length e) ∙ length-map anchors held) inside)
    ∙ ap (λ (a : Anchor). Some (held a)) (sym is))

pub has_there : {X : Type 0} (P : X → Type 0) (xs : List X) (i : ℕ) (x : X) → All P xs → slice_get xs i ≡ Some x → P x
has_there P xs i x h there =
    subst P (get_or_from_slice_get xs i x x there) (h i x (slice_get_within xs i x there))

each_unmapped : {X Y : Type 0} (P : Y → Type 0) (f : X → Y) (xs : List X) → AllByRecursion P (map f xs)
    → AllByRecursion (λ x. P (f x)) xs
each_unmapped P f [] h = tt
each_unmapped P f (x ∷ xs) h = (h.0, each_unmapped P f xs h.1)

-- what each anchor of the model's list has, each of the program's has
pub all_held : (P : model.Anchor → Type 0) (anchors : List Anchor) (all : List model.Anchor) → map held anchors ≡ all
    → All P all → All (λ anchor. P (held anchor)) anchors
all_held P anchors all e h =
    all_from (λ anchor. P (held anchor)) anchors
    (each_unmapped P held anchors (each_from P (map held anchors) (subst (All P) (sym e) h)))

map_filter_by : {X Y : Type 0} (f : X → Y) (b : Bool) (x : X) (xs : List X) (ys : List Y) → map f xs ≡ ys
    → map f (cond b (x ∷ xs) xs) ≡ cond b (f x ∷ ys) ys
map_filter_by f true x xs ys e = ap (λ rest. f x ∷ rest) e
map_filter_by f false x xs ys e = e

pub map_filter : {X Y : Type 0} (f : X → Y) (p : Y → Bool) (xs : List X)
    → map f (filter (λ x. p (f x)) xs) ≡ filter p (map f xs)
map_filter f p [] = refl
map_filter f p (x ∷ xs) = map_filter_by f (p (f x)) x (filter (λ y. p (f y)) xs) (filter p (map f xs))
    (map_filter f p xs)

pub entries_used : (anchors : List model.Anchor) (place : ℕ)
    → map entry_of (model.used_at anchors place) ≡ map entry_of anchors
entries_used [] place = refl
entries_used (anchor ∷ anchors) zero = refl
entries_used (anchor ∷ anchors) (suc place) = ap (λ rest. entry_of anchor ∷ rest) (entries_used anchors place)

pub entries_held : (anchors : List Anchor) → map (λ anchor. entry_of (held anchor)) anchors
    ≡ map entry_of (map held anchors)
entries_held [] = refl
entries_held (anchor ∷ anchors) = ap (λ rest. entry_of (held anchor) ∷ rest) (entries_held anchors)

-- The value of a cache, part by part.

abbrev made : List Kept → List model.Anchor → ℕ → ℕ → ℕ → Contents
made plans anchors next_plan spare_plans spare_anchors =
    record {
      plans = plans;
      anchors = anchors;
      next_plan = next_plan;
      spare_plans = spare_plans;
      spare_anchors =
          spare_anchors;
    }

pub contents_by : (plans : List Kept) (anchors others : List model.Anchor) (next_plan a b c d : ℕ) → anchors ≡ others
    → a ≡ b → c ≡ d → made plans anchors next_plan a c ≡ made plans others next_plan b d
contents_by plans anchors others next_plan a b c d e f g =
    ap (λ xs. made plans xs next_plan a c) e ∙ ap (λ n. made plans others next_plan n c) f
    ∙ ap (λ n. made plans others next_plan b n) g

abbrev stated : List model.CachedPlan → List model.Anchor → ℕ → model.CacheState
stated plans anchors next_plan = record { plans = plans; anchors = anchors; next_plan = next_plan }

pub state_by : (a b : List model.CachedPlan) (c d : List model.Anchor) (next_plan : ℕ) → a ≡ b → c ≡ d
    → stated a c next_plan ≡ stated b d next_plan
state_by a b c d next_plan e f = ap (λ xs. stated xs c next_plan) e ∙ ap (λ xs. stated b xs next_plan) f
