-- One turn of a join over what comes from below, and what a chain gives with a join at its top.
use Rattle.std.proofs.Common.{ℕ, ◌≡◌, ◌+◌, ◌++◌, List, [], ◌∷◌, length, sym, ◌∙◌, refl}
use Rattle.std.specs.Prelude.{All, IsPermutation, IsTrue, flat_map}
use Rattle.std.proofs.lemmas.List.Elements.{All-weaker}
use Rattle.std.proofs.lemmas.List.Sorted.{All-permutation}
use Rattle.row_values.specs.Sorting.{Rises}
use Rattle.plan_trees.specs.PlaceSets.{has}
use Rattle.plan_trees.specs.PlanSpace.{has_all_keys, wanted_order}
use Rattle.statement_meaning.specs.Meaning.{is_before}
use Rattle.statement_meaning.specs.PartialCombinations.{Fits, Once}
use Rattle.plan_operators.specs.Sources.{rows_read, world_read}
use Rattle.plan_operators.specs.declared.source.Source.{Source}
use Rattle.pull_operators.specs.Pieces.{JoinsTo}
use Rattle.pull_operators.specs.StillToCome.{is_as_long_as}

-- the present combination makes no more, and the next from below takes its place
pub gone_on : {X : Type 0} (f g h : X → List X) (before still after below rest : List X) (c : X) → before ≡ still
    → still ≡ [] → g ≡ f → below ≡ c ∷ rest → h ≡ g → after ≡ g c
    → before ++ flat_map f below ≡ after ++ flat_map h rest
gone_on f g h before still after below rest c a b gf s hg k = rw (a, b, s, k, hg, gf) refl

-- A chain gives what its topmost join makes of the chain below.

pub joined_once : (source : Source) (outer entering places : ℕ) (piece_of : List ℕ → List (List ℕ))
    (cs v : List (List ℕ))
    → JoinsTo source outer entering piece_of → Once (world_read source) (has outer) cs → places ≡ outer + entering
    → v ≡ flat_map piece_of cs → Once (world_read source) (has places) v
joined_once source outer entering places piece_of cs v j o p is = rw (p, is) (j.each_once cs o)

pub joined_rises : (source : Source) (outer entering : ℕ) (piece_of : List ℕ → List (List ℕ)) (cs v : List (List ℕ))
    → JoinsTo source outer entering piece_of → Once (world_read source) (has outer) cs
    → IsTrue (has_all_keys outer (wanted_order source.q.now))
    → Rises (is_before (rows_read source) (wanted_order source.q.now)) cs → v ≡ flat_map piece_of cs
    → Rises (is_before (rows_read source) (wanted_order source.q.now)) v
joined_rises source outer entering piece_of cs v j o wanted r is = rw is (j.in_order wanted cs o r)

-- combinations over places have a row number for each place, and so may be merged with others that have
pub all_take : (source : Source) (outer : ℕ) (cs partners : List (List ℕ)) → Once (world_read source) (has outer) cs
    → All (is_as_long_as source.q.now.places) partners → All (λ c. All (λ d. length c ≡ length d) partners) cs
all_take source outer cs partners o long =
    All-weaker (Fits (world_read source) (has outer)) (λ c. All (λ d. length c ≡ length d) partners)
    (λ c f. All-weaker (is_as_long_as source.q.now.places) (λ d. length c ≡ length d) (λ d l. f.long ∙ sym l) partners
    long) cs o.only

pub all_long : (source : Source) (inner : ℕ) (ds es : List (List ℕ)) → Once (world_read source) (has inner) ds
    → IsPermutation ds es → All (is_as_long_as source.q.now.places) es
all_long source inner ds es o perm =
    All-permutation (is_as_long_as source.q.now.places) ds es perm
    (All-weaker (Fits (world_read source) (has inner)) (is_as_long_as source.q.now.places) (λ d f. f.long) ds o.only)

pub all_merge : (source : Source) (c : List ℕ) (es : List (List ℕ)) → length c ≡ length source.q.now.places
    → All (is_as_long_as source.q.now.places) es → All (λ d. length c ≡ length d) es
all_merge source c es long h =
    All-weaker (is_as_long_as source.q.now.places) (λ d. length c ≡ length d) (λ d l. long ∙ sym l) es h
