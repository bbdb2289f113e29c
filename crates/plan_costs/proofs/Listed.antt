-- Lists of all that is wanted, and the least of what they hold.
use Rattle.std.proofs.Common.{ℕ, ◌≡◌, ◌≤◌, ◌<◌, ◌+◌, ◌⊎◌, inl, inr, List, length, slice_get, slice_index_or, Some, sym}
use Rattle.std.proofs.Common.{subst, subst₂, arith, lt_of_lt_of_le}
use Rattle.std.proofs.lemmas.List.Elements.{Contains-get_or}
use Rattle.std.proofs.lemmas.Option.{slice_get-get_or}
use Rattle.plan_trees.specs.Lists.{IsListOf}
use Rattle.plan_trees.proofs.ListLaws.{below_next}

-- Lists that are read at a position.

-- the same list of the same items
pub same_list : {A I : Type 0} (P : I → A → Type 0) (given index : I) (items read : List A) → given ≡ index
    → read ≡ items → IsListOf (P given) items → IsListOf (P index) read
same_list P given index items read e f h = subst₂ (λ i xs. IsListOf (P i) xs) e (sym f) h

pub item_listed : {A : Type 0} (P : A → Type 0) (items : List A) (position : ℕ) (default : A) → IsListOf P items
    → position < length items → P (slice_index_or items position default)
item_listed P items position default h less =
    (h (slice_index_or items position default)).0 (Contains-get_or items position default less)

-- The least of what is read.

-- each of the first so many items costs no less
abbrev pub AreAbove : {A : Type 0} → (A → ℕ) → List A → ℕ → ℕ → Type 0
AreAbove cost items count low =
    (position : ℕ) (item : _) → position < count → slice_get items position ≡ Some item → low ≤ cost item

above_by : {A : Type 0} (cost : A → ℕ) (items : List A) (count low lower : ℕ) (here : A) → lower ≤ low
    → lower ≤ cost here → slice_get items count ≡ Some here → AreAbove cost items count low
    → (position : ℕ) (item : A) → (position < count) ⊎ (position ≡ count) → slice_get items position ≡ Some item
    → lower ≤ cost item
above_by cost items count low lower here h k e above position item (inl less) there =
    let m = above position item less there in omega arith
above_by cost items count low lower here h k e above position item (inr same) there =
    let found : slice_get items count ≡ Some item = rw (← same) there in
    let one : here ≡ item = cc in
    subst (λ x. lower ≤ cost x) one k

pub above_more : {A : Type 0} (cost : A → ℕ) (items : List A) (count low lower : ℕ) (here : A) → lower ≤ low
    → lower ≤ cost here → slice_get items count ≡ Some here → AreAbove cost items count low
    → AreAbove cost items (count + 1) lower
above_more cost items count low lower here h k e above position item less there =
    above_by cost items count low lower here h k e above position item (below_next position count less) there

pub above_all : {A : Type 0} (P : A → Type 0) (cost : A → ℕ) (items : List A) (count low : ℕ) → IsListOf P items
    → length items ≤ count → AreAbove cost items count low → (item : A) → P item → low ≤ cost item
above_all P cost items count low all whole above item h =
    let k = (all item).1 h in
    let found : slice_get items k.0 ≡ Some (slice_index_or items k.0 item) = slice_get-get_or items k.0 item k.1 in
    let same : slice_index_or items k.0 item ≡ item = k.2 in
    above k.0 item (lt_of_lt_of_le k.1 whole) (subst (λ x. slice_get items k.0 ≡ Some x) same found)
