-- Tests that tell facts, and facts of all items of a list or of all numbers below one.
use Rattle.std.proofs.Common.{ℕ, ◌≡◌, ◌≤◌, ◌<◌, ◌+◌, ◌⊎◌, inl, inr, Bool, true, false, IsTrue, List, length, Some, refl}
use Rattle.std.proofs.Common.{slice_get, slice_index_or, sym, ◌∙◌, subst, arith, true≢false, lt_of_lt_of_le}
use Rattle.std.specs.Prelude.{◌↔◌}
use Rattle.std.proofs.lemmas.Bool.{cases_lt}
use Rattle.std.proofs.lemmas.Option.{slice_get-get_or}
use Rattle.plan_trees.specs.Lists.{IsListOf}

pub holds : {P : Type 0} → P → IsTrue true ↔ P
holds p = (λ t. p, λ q. refl)

pub fails : {P : Type 0} → ¬ P → IsTrue false ↔ P
fails never = (λ t. absurd (true≢false (sym t)), λ p. absurd (never p))

-- what a test that answers no tells
pub refused : {P : Type 0} (r : Bool) → (IsTrue r ↔ P) → r ≡ false → ¬ P
refused r h e p = true≢false (sym (h.1 p) ∙ e)

-- what a test that answers yes tells
pub told : {P : Type 0} (r : Bool) → (IsTrue r ↔ P) → r ≡ true → P
told r h e = h.0 e

-- two facts are told by the same test
pub retold : {P Q : Type 0} (r : Bool) → (IsTrue r ↔ P) → (P → Q) → (Q → P) → IsTrue r ↔ Q
retold r h to from = (λ t. to (h.0 t), λ q. h.1 (from q))

below_next : (k n : ℕ) → k < n + 1 → (k < n) ⊎ (k ≡ n)
below_next k n h = grind (arith, cases_lt)

-- Items of a list.

-- each of the first so many items has the fact
abbrev pub EachOf : {A : Type 0} → (A → Type 0) → List A → ℕ → Type 0
EachOf P items count =
    (position : ℕ) (item : _) → position < count → slice_get items position ≡ Some item → P item

each_by : {A : Type 0} (P : A → Type 0) (items : List A) (count : ℕ) (here : A) → EachOf P items count
    → slice_get items count ≡ Some here → P here
    → (position : ℕ) (item : A) → (position < count) ⊎ (position ≡ count) → slice_get items position ≡ Some item
    → P item
each_by P items count here each e p position item (inl less) there = each position item less there
each_by P items count here each e p position item (inr same) there =
    let found : slice_get items count ≡ Some item = rw (← same) there in
    let one : here ≡ item = cc in
    subst P one p

pub each_more : {A : Type 0} (P : A → Type 0) (items : List A) (count : ℕ) (here : A) → EachOf P items count
    → slice_get items count ≡ Some here → P here → EachOf P items (count + 1)
each_more P items count here each e p position item less there =
    each_by P items count here each e p position item (below_next position count less) there

pub each_all : {A : Type 0} (P Q : A → Type 0) (items : List A) (count : ℕ) → IsListOf Q items → length items ≤ count
    → EachOf P items count → (item : A) → Q item → P item
each_all P Q items count all whole each item h =
    let k = (all item).1 h in
    let found : slice_get items k.0 ≡ Some (slice_index_or items k.0 item) = slice_get-get_or items k.0 item k.1 in
    let same : slice_index_or items k.0 item ≡ item = k.2 in
    each k.0 item (lt_of_lt_of_le k.1 whole) (subst (λ x. slice_get items k.0 ≡ Some x) same found)

-- Numbers.

below_by : (P : ℕ → Type 0) (n : ℕ) → ((k : ℕ) → k < n → P k) → P n → (k : ℕ) → (k < n) ⊎ (k ≡ n) → P k
below_by P n each here k (inl less) = each k less
below_by P n each here k (inr same) = subst P (sym same) here

pub below_more : (P : ℕ → Type 0) (n : ℕ) → ((k : ℕ) → k < n → P k) → P n → (k : ℕ) → k < n + 1 → P k
below_more P n each here k less = below_by P n each here k (below_next k n less)
