-- The finished plan of least cost.
use Rattle.std.proofs.Common.{ℕ, ◌≡◌, ◌≤◌, ◌+◌, ◌*◌, Bool, true, false, nat_lt, List, Option, Some, None, IfSome, refl}
use Rattle.std.proofs.Common.{sym, ◌∙◌, subst, arith, true≢false, le_refl, if◌then◌else◌}
use Rattle.std.proofs.lemmas.Bool.Decides.{nat_tests}
use Rattle.row_values.specs.Statements.{Statement}
use Rattle.plan_trees.specs.PlanSpace.{is_grouped, wants_order}
use Rattle.plan_trees.specs.Statistics.{Statistics}
use Rattle.plan_trees.specs.Trees.{Rows, SortedGroups, HashGroups}
use Rattle.cost_model.specs.Cardinalities.{card_of}
use Rattle.cost_model.specs.LeastCost.{AtMost, whole_set}
use Rattle.join_optimizer.specs.declared.found.Cheapest.{Cheapest}
use Rattle.join_optimizer.specs.Found.{Priced, AreFound, IsFound, cost_of, plan_in}
use Rattle.join_optimizer.specs.Tops.{PricedTop, IsTopOf, IsCheapestTop, as_rows, cheaper_top, in_hash_groups}
use Rattle.join_optimizer.specs.Tops.{in_sorted_groups}

-- a top over a plan, no dearer than any number that the plan is at most, with so much more
record IsOver (q : Statement) (s : Statistics) (vector : List ℕ) (o : Option Priced) (more : ℕ)
    (finished : PricedTop) : Type 0 where
  stands : IsTopOf q s vector finished
  least : (n : ℕ) → AtMost (cost_of o) n → finished.cost ≤ n + more

rows_over : (q : Statement) (s : Statistics) (vector : List ℕ) (o : Option Priced) (finished : PricedTop)
    → is_grouped q ≡ false → IfSome o (IsFound q s vector (wants_order q) (whole_set q)) → Some finished ≡ as_rows o
    → IsOver q s vector o 0 finished
rows_over q s vector None finished g h e = absurd (cc)
rows_over q s vector (Some found) finished g h e =
    let same : finished ≡ record { top = Rows found.plan; cost = found.cost } = cc in
    subst (IsOver q s vector (Some found) 0) (sym same) (record {
      stands =
          record {
            valid = record { plan = h.fits.valid; whole = h.fits.whole; suits = (g, h.fits.in_order) };
            costs =
                h.costs;
          };
      least = λ n k. omega arith;
    })

hash_over : (q : Statement) (s : Statistics) (vector : List ℕ) (more : ℕ) (o : Option Priced) (finished : PricedTop)
    → is_grouped q ≡ true → IfSome o (IsFound q s vector false (whole_set q))
    → more ≡ s.weights.hash * card_of q s vector (whole_set q)
    → Some finished ≡ in_hash_groups more o → IsOver q s vector o more finished
hash_over q s vector more None finished g h m e = absurd (cc)
hash_over q s vector more (Some found) finished g h m e =
    let same : finished ≡ record { top = HashGroups found.plan; cost = found.cost + more } = cc in
    subst (IsOver q s vector (Some found) more) (sym same) (record {
      stands =
          record {
            valid = record { plan = h.fits.valid; whole = h.fits.whole; suits = g };
            costs =
                rw (h.costs, h.fits.whole, m) refl;
          };
      least = λ n k. omega arith;
    })

sorted_over : (q : Statement) (s : Statistics) (vector : List ℕ) (more : ℕ) (o : Option Priced) → is_grouped q ≡ true
    → IfSome o (IsFound q s vector true (whole_set q)) → more ≡ s.weights.row * card_of q s vector (whole_set q)
    → IfSome (in_sorted_groups more o) (IsTopOf q s vector)
sorted_over q s vector more None g h m = h
sorted_over q s vector more (Some found) g h m =
    record {
      valid = record { plan = h.fits.valid; whole = h.fits.whole; suits = (g, h.fits.in_order refl) };
      costs =
          rw (h.costs, h.fits.whole, m) refl;
    }

pub rows_best : (q : Statement) (s : Statistics) (vector : List ℕ) (whole : Cheapest) (finished : PricedTop)
    → is_grouped q ≡ false → AreFound q s vector (whole_set q) (plan_in whole)
    → Some finished ≡ as_rows (plan_in whole (wants_order q)) → IsCheapestTop q s vector whole finished
rows_best q s vector whole finished g found e =
    let over = rows_over q s vector (plan_in whole (wants_order q)) finished g (found (wants_order q)) e in
    record {
      stands = over.stands;
      fits = record {
        rows = λ cost h k. let least : finished.cost ≤ cost + 0 = over.least cost k in omega arith;
        sorted_groups = λ cost h k. absurd (true≢false (sym h ∙ g));
        hash_groups = λ cost h k. absurd (true≢false (sym h ∙ g));
      };
    }

-- The cheaper of the two ways to group.

record IsChosen (q : Statement) (s : Statistics) (vector : List ℕ) (first : PricedTop) (o : Option Priced) (more : ℕ)
    (finished : PricedTop) : Type 0 where
  stands : IsTopOf q s vector finished
  first_least : finished.cost ≤ first.cost
  second_least : (n : ℕ) → AtMost (cost_of o) n → finished.cost ≤ n + more

chosen_by : (b : Bool) (q : Statement) (s : Statistics) (vector : List ℕ) (first : PricedTop) (found : Priced)
    (more : ℕ) → nat_lt (found.cost + more) first.cost ≡ b → IsTopOf q s vector first
    → IsTopOf q s vector (record { top = SortedGroups found.plan; cost = found.cost + more })
    → IsChosen q s vector first (Some found) more
    (if b then record { top = SortedGroups found.plan; cost = found.cost + more } else first)
chosen_by true q s vector first found more e h k =
    record { stands = k; first_least = grind (arith, nat_tests); second_least = λ n l. omega arith }
chosen_by false q s vector first found more e h k =
    let less : first.cost ≤ found.cost + more = grind (arith, nat_tests) in
    record { stands = h; first_least = le_refl first.cost; second_least = λ n l. omega arith }

inside : (b : Bool) (x y : PricedTop) → (if b then Some x else Some y) ≡ Some (if b then x else y)
inside true x y = refl
inside false x y = refl

chosen : (q : Statement) (s : Statistics) (vector : List ℕ) (first : PricedTop) (o : Option Priced) (more : ℕ)
    (finished : PricedTop) → IsTopOf q s vector first → IfSome (in_sorted_groups more o) (IsTopOf q s vector)
    → Some finished ≡ cheaper_top (Some first) (in_sorted_groups more o) → IsChosen q s vector first o more finished
chosen q s vector first None more finished h k e =
    let same : finished ≡ first = cc in
    subst (IsChosen q s vector first None more) (sym same)
    (record { stands = h; first_least = le_refl first.cost; second_least = λ n l. absurd l })
chosen q s vector first (Some found) more finished h k e =
    let b = nat_lt (found.cost + more) first.cost in
    let second : PricedTop = record { top = SortedGroups found.plan; cost = found.cost + more } in
    let one : Some finished ≡ Some (if b then second else first) = e ∙ inside b second first in
    let same : finished ≡ (if b then second else first) = cc in
    subst (IsChosen q s vector first (Some found) more) (sym same) (chosen_by b q s vector first found more refl h k)

pub groups_best : (q : Statement) (s : Statistics) (vector : List ℕ) (whole : Cheapest) (by_hash by_order : ℕ)
    (hashed finished : PricedTop) → is_grouped q ≡ true → AreFound q s vector (whole_set q) (plan_in whole)
    → by_hash ≡ s.weights.hash * card_of q s vector (whole_set q)
    → by_order ≡ s.weights.row * card_of q s vector (whole_set q)
    → Some hashed ≡ in_hash_groups by_hash (plan_in whole false)
    → Some finished ≡ cheaper_top (Some hashed) (in_sorted_groups by_order (plan_in whole true))
    → IsCheapestTop q s vector whole finished
groups_best q s vector whole by_hash by_order hashed finished g found m n e f =
    let first = hash_over q s vector by_hash (plan_in whole false) hashed g (found false) m e in
    let both = chosen q s vector hashed (plan_in whole true) by_order finished first.stands
    (sorted_over q s vector by_order (plan_in whole true) g (found true) n) f in
    record {
      stands = both.stands;
      fits = record {
        rows = λ cost h k. absurd (true≢false (sym g ∙ h));
        sorted_groups = λ cost h k. subst (λ x. finished.cost ≤ cost + x) n (both.second_least cost k);
        hash_groups = λ cost h k.
            let less : hashed.cost ≤ cost + by_hash = first.least cost k in
            let more : finished.cost ≤ hashed.cost = both.first_least in
            subst (λ x. finished.cost ≤ cost + x) m (omega arith);
      };
    }
