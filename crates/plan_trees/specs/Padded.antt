-- Lists held in place: numbers in use, and zeros behind them.
use Rattle.std.specs.Prelude.{ℕ, ◌-◌, ◌≤◌, ◌≡◌, List, ◌++◌, length, replicate, take, drop}
use Rattle.std.proofs.Common.{ap, ◌∙◌}
use Rattle.std.proofs.lemmas.List.{length-take-le, take-append-drop}
use Rattle.plan_trees.specs.declared.statistics.Indexed.TheInside as indexed
use Rattle.plan_trees.specs.declared.selectivities.Vector.TheInside as vector

-- the numbers with zeros behind, to this length
abbrev pub padded : ℕ → List ℕ → List ℕ
padded size xs = xs ++ replicate (size - length xs) 0

-- so many numbers are in use, and zeros stand behind them
pub record IsPadded (size : ℕ) (numbers : List ℕ) (count : ℕ) : Type 0 where
  pub few : count ≤ size
  pub whole : length numbers ≡ size
  pub zeros : drop count numbers ≡ replicate (size - count) 0

length-used : (size : ℕ) (numbers : List ℕ) (count : ℕ) → IsPadded size numbers count
    → length (take count numbers) ≡ count
length-used size numbers count h =
    let small : count ≤ length numbers = rw h.whole h.few in length-take-le count numbers small

padded-used : (size : ℕ) (numbers : List ℕ) (count : ℕ) → IsPadded size numbers count
    → padded size (take count numbers) ≡ numbers
padded-used size numbers count h =
    let used : length (take count numbers) ≡ count = length-used size numbers count h in
    rw used (rw (← h.zeros) (take-append-drop count numbers))

abbrev pub indexed_inside : List ℕ → ℕ → indexed.Inside
indexed_inside numbers count = record { masks = numbers; count = count }

abbrev pub vector_inside : List ℕ → ℕ → vector.Inside
vector_inside numbers count = record { numbers = numbers; count = count }

abbrev pub IsIndexed : indexed.Inside → Type 0
IsIndexed ix = IsPadded 5 ix.masks ix.count

abbrev pub IsVector : vector.Inside → Type 0
IsVector v = IsPadded 8 v.numbers v.count

pub indexed_back : (ix : indexed.Inside) → IsIndexed ix
    → indexed_inside (padded 5 (take ix.count ix.masks)) (length (take ix.count ix.masks)) ≡ ix
indexed_back ix h =
    ap (λ (xs : List ℕ). indexed_inside xs (length (take ix.count ix.masks))) (padded-used 5 ix.masks ix.count h)
    ∙ ap (indexed_inside ix.masks) (length-used 5 ix.masks ix.count h)

pub vector_back : (v : vector.Inside) → IsVector v
    → vector_inside (padded 8 (take v.count v.numbers)) (length (take v.count v.numbers)) ≡ v
vector_back v h =
    ap (λ (xs : List ℕ). vector_inside xs (length (take v.count v.numbers))) (padded-used 8 v.numbers v.count h)
    ∙ ap (vector_inside v.numbers) (length-used 8 v.numbers v.count h)
