-- Trees are the same by the test exactly where they are equal.
use Rattle.std.proofs.Common.{ℕ, ◌≡◌, ◌==◌, ◌&&◌, Bool, true, false, ap, refl, subst, sym}
use Rattle.std.specs.Prelude.{IsTrue, ◌↔◌}
use Rattle.std.proofs.lemmas.Bool.{and_from, and_parts, eq-eqb, eqb-true}
use Rattle.plan_trees.specs.declared.plans.Access.{Access}
use Rattle.plan_trees.specs.declared.plans.Access.TheVariants.{Seq, Range, Full}
use Rattle.plan_trees.specs.declared.plans.StepKind.{StepKind}
use Rattle.plan_trees.specs.declared.plans.StepKind.TheVariants.{Loop, Probe}
use Rattle.plan_trees.specs.Trees.{Tree, Base, Join, HashJoin, Sort, TopTree, Rows, SortedGroups, HashGroups}
use Rattle.plan_trees.specs.Trees.{same_access, same_step, same_tree, same_top}

-- The same are equal.

both_equal : (a b c d : ℕ) → (a == b && c == d) ≡ true → (a ≡ b) × (c ≡ d)
both_equal a b c d h = let parts = and_parts (a == b) (c == d) h in (eqb-true a b parts.0, eqb-true c d parts.1)

access_equal : (a b : Access) → same_access a b ≡ true → a ≡ b
access_equal (Seq t) (Seq u) h = ap Seq (eqb-true t u h)
access_equal (Range t c j) (Range u d k) h =
    let parts = and_parts (t == u && c == d) (j == k) h in
    let front = both_equal t u c d parts.0 in
    let place = front.0 in
    let column = front.1 in
    let pred : j ≡ k = eqb-true j k parts.1 in
    cc
access_equal (Full t c) (Full u d) h =
    let parts = both_equal t u c d h in
    let place = parts.0 in
    let column = parts.1 in
    cc
access_equal a b h = cc

step_equal : (a b : StepKind) → same_step a b ≡ true → a ≡ b
step_equal (Loop a) (Loop b) h = ap Loop (access_equal a b h)
step_equal (Probe t e) (Probe u f) h =
    let parts = both_equal t u e f h in
    let place = parts.0 in
    let edge = parts.1 in
    cc
step_equal a b h = cc

tree_equal : (a b : Tree) → same_tree a b ≡ true → a ≡ b
tree_equal (Base a) (Base b) h = ap Base (access_equal a b h)
tree_equal (Join p x) (Join q y) h =
    let parts = and_parts (same_step x y) (same_tree p q) h in
    let step : x ≡ y = step_equal x y parts.0 in
    let outer : p ≡ q = tree_equal p q parts.1 in
    cc
tree_equal (HashJoin p r e) (HashJoin q s f) h =
    let parts = and_parts (e == f && same_tree p q) (same_tree r s) h in
    let front = and_parts (e == f) (same_tree p q) parts.0 in
    let edge : e ≡ f = eqb-true e f front.0 in
    let outer : p ≡ q = tree_equal p q front.1 in
    let inner : r ≡ s = tree_equal r s parts.1 in
    cc
tree_equal (Sort p) (Sort q) h = ap Sort (tree_equal p q h)
tree_equal a b h = cc

top_equal : (a b : TopTree) → same_top a b ≡ true → a ≡ b
top_equal (Rows p) (Rows q) h = ap Rows (tree_equal p q h)
top_equal (SortedGroups p) (SortedGroups q) h = ap SortedGroups (tree_equal p q h)
top_equal (HashGroups p) (HashGroups q) h = ap HashGroups (tree_equal p q h)
top_equal a b h = cc

-- Each is the same as itself.

number_itself : (n : ℕ) → (n == n) ≡ true
number_itself n = eq-eqb n n refl

access_itself : (a : Access) → same_access a a ≡ true
access_itself (Seq t) = number_itself t
access_itself (Range t c j) =
    and_from (t == t && c == c) (j == j) (and_from (t == t) (c == c) (number_itself t) (number_itself c))
    (number_itself j)
access_itself (Full t c) = and_from (t == t) (c == c) (number_itself t) (number_itself c)

step_itself : (a : StepKind) → same_step a a ≡ true
step_itself (Loop a) = access_itself a
step_itself (Probe t e) = and_from (t == t) (e == e) (number_itself t) (number_itself e)

tree_itself : (a : Tree) → same_tree a a ≡ true
tree_itself (Base a) = access_itself a
tree_itself (Join p x) = and_from (same_step x x) (same_tree p p) (step_itself x) (tree_itself p)
tree_itself (HashJoin p r e) =
    and_from (e == e && same_tree p p) (same_tree r r) (and_from (e == e) (same_tree p p) (number_itself e)
    (tree_itself p)) (tree_itself r)
tree_itself (Sort p) = tree_itself p

top_itself : (a : TopTree) → same_top a a ≡ true
top_itself (Rows p) = tree_itself p
top_itself (SortedGroups p) = tree_itself p
top_itself (HashGroups p) = tree_itself p

pub same_trees : (a b : Tree) → IsTrue (same_tree a b) ↔ (a ≡ b)
same_trees a b = (tree_equal a b, λ e. subst (λ x. same_tree a x ≡ true) e (tree_itself a))

pub same_tops : (a b : TopTree) → IsTrue (same_top a b) ↔ (a ≡ b)
same_tops a b = (top_equal a b, λ e. subst (λ x. same_top a x ≡ true) e (top_itself a))

told_by : (found same : Bool) → (found ≡ true → same ≡ true) → (same ≡ true → found ≡ true) → found ≡ same
told_by true same to from = sym (to refl)
told_by false true to from = from refl
told_by false false to from = refl

-- what tells whether two trees are equal is the test
pub same_told : (found : Bool) (a b : Tree) → IsTrue found ↔ (a ≡ b) → found ≡ same_tree a b
same_told found a b h =
    told_by found (same_tree a b) (λ e. (same_trees a b).1 (h.0 e)) (λ e. h.1 ((same_trees a b).0 e))
