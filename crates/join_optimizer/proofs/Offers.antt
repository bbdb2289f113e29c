-- What is offered to the cell of a set, one after another.
use Rattle.std.proofs.Common.{ℕ, ◌≡◌, ◌≤◌, ◌<◌, ◌+◌, ◌⊎◌, inl, inr, Bool, true, false, List, length, slice_get}
use Rattle.std.proofs.Common.{slice_index_or, Option, Some, IfSome, sym, subst, arith, lt_of_lt_of_le}
use Rattle.std.proofs.lemmas.Option.{slice_get-get_or}
use Rattle.row_values.specs.Statements.{Statement}
use Rattle.plan_trees.specs.Lists.{IsListOf}
use Rattle.plan_trees.specs.Statistics.{Statistics}
use Rattle.cost_model.specs.LeastCost.{AtMost, Costs}
use Rattle.join_optimizer.specs.declared.found.Cheapest.{Cheapest}
use Rattle.join_optimizer.specs.Found.{Priced, AreFound, IsFound, cheaper, cost_in, cost_of, plan_in}
use Rattle.join_optimizer.specs.Search.{Keeps, Offered, TakesAll, TakesBetween, TakesEach}
use Rattle.plan_trees.proofs.ListLaws.{below_next}
use Rattle.join_optimizer.proofs.Cheaper.{at_most_first, at_most_second, one_of_both}

-- what holds in both orders
pub in_both : (P : Bool → Type 0) → P true → P false → (sorted : Bool) → P sorted
in_both P h k true = h
in_both P h k false = k

-- the cheaper of the best so far and an offer, in both orders
pub offered : (q : Statement) (s : Statistics) (vector : List ℕ) (set : ℕ) (Taken : Costs → Type 0)
    (before after : Cheapest) (offer : Bool → Option Priced) → AreFound q s vector set (plan_in before)
    → AreFound q s vector set offer
    → ((sorted : Bool) → plan_in after sorted ≡ cheaper (plan_in before sorted) (offer sorted))
    → (((sorted : Bool) (n : ℕ) → AtMost (cost_of (offer sorted)) n → AtMost (cost_in after sorted) n)
    → Taken (cost_in after)) → Offered q s vector set Taken before after
offered q s vector set Taken before after offer found fits e taken = record {
  keeps = λ sorted n h. subst (λ o. AtMost (cost_of o) n) (sym (e sorted))
      (at_most_first (plan_in before sorted) (offer sorted) n h);
  found = λ sorted. subst (λ o. IfSome o (IsFound q s vector sorted set)) (sym (e sorted))
      (one_of_both (IsFound q s vector sorted set) (plan_in before sorted) (offer sorted) (found sorted) (fits sorted));
  taken = taken
      (λ sorted n h. subst (λ o. AtMost (cost_of o) n) (sym (e sorted))
      (at_most_second (plan_in before sorted) (offer sorted) n h));
}

-- where nothing is offered, all stays
pub unchanged : (q : Statement) (s : Statistics) (vector : List ℕ) (set : ℕ) (Taken : Costs → Type 0) (cell : Cheapest)
    → AreFound q s vector set (plan_in cell) → Taken (cost_in cell) → Offered q s vector set Taken cell cell
unchanged q s vector set Taken cell found taken = record { keeps = λ sorted n h. h; found = found; taken = taken }

-- what is taken of a set stays so when costs fall
abbrev pub StaysTaken : {A : Type 0} → (A → Costs → Type 0) → Type 0
StaysTaken {A} Takes = (item : A) (before after : Costs) → Keeps before after → Takes item before → Takes item after

-- The items of a list.

pub list_start : {A : Type 0} (q : Statement) (s : Statistics) (vector : List ℕ) (set : ℕ) (Takes : A → Costs → Type 0)
    (items : List A) (first : Cheapest) → AreFound q s vector set (plan_in first)
    → Offered q s vector set (TakesEach Takes items 0) first first
list_start q s vector set Takes items first found =
    unchanged q s vector set _ first found (λ position item less there. absurd (omega arith))

each_by : {A : Type 0} (Takes : A → Costs → Type 0) (items : List A) (count : ℕ) (here : A) (before after : Costs)
    → StaysTaken Takes → Keeps before after → TakesEach Takes items count before → slice_get items count ≡ Some here
    → Takes here after
    → (position : ℕ) (item : A) → (position < count) ⊎ (position ≡ count) → slice_get items position ≡ Some item
    → Takes item after
each_by Takes items count here before after stays keeps each e taken position item (inl less) there =
    stays item before after keeps (each position item less there)
each_by Takes items count here before after stays keeps each e taken position item (inr same) there =
    let found : slice_get items count ≡ Some item = rw (← same) there in
    let one : here ≡ item = cc in
    subst (λ x. Takes x after) one taken

pub list_more : {A : Type 0} (q : Statement) (s : Statistics) (vector : List ℕ) (set : ℕ) (Takes : A → Costs → Type 0)
    (items : List A) (count : ℕ) (here : A) (first before after : Cheapest) → StaysTaken Takes
    → Offered q s vector set (TakesEach Takes items count) first before → slice_get items count ≡ Some here
    → Offered q s vector set (Takes here) before after
    → Offered q s vector set (TakesEach Takes items (count + 1)) first after
list_more q s vector set Takes items count here first before after stays f e g = record {
  keeps = λ sorted n h. g.keeps sorted n (f.keeps sorted n h);
  found = g.found;
  taken = λ position item less there. each_by Takes items count here (cost_in before)
      (cost_in after) stays g.keeps f.taken e g.taken position item (below_next position count less) there;
}

pub list_all : {A : Type 0} (q : Statement) (s : Statistics) (vector : List ℕ) (set : ℕ) (P : A → Type 0)
    (Takes : A → Costs → Type 0) (items : List A) (count : ℕ) (first after : Cheapest) → IsListOf P items
    → length items ≤ count
    → Offered q s vector set (TakesEach Takes items count) first after
    → Offered q s vector set (TakesAll P Takes) first after
list_all q s vector set P Takes items count first after all whole f = record {
  keeps = f.keeps;
  found = f.found;
  taken = λ item h.
      let k = (all item).1 h in
      let found : slice_get items k.0 ≡ Some (slice_index_or items k.0 item) = slice_get-get_or items k.0 item k.1 in
      let same : slice_index_or items k.0 item ≡ item = k.2 in
      let less : k.0 < count = lt_of_lt_of_le k.1 whole in
      f.taken k.0 item less (subst (λ x. slice_get items k.0 ≡ Some x) same found);
}

-- Numbers in order.

pub numbers_start : (q : Statement) (s : Statistics) (vector : List ℕ) (set : ℕ) (Takes : ℕ → Costs → Type 0) (low : ℕ)
    (first : Cheapest) → AreFound q s vector set (plan_in first)
    → Offered q s vector set (TakesBetween Takes low low) first first
numbers_start q s vector set Takes low first found =
    unchanged q s vector set _ first found (λ number more less. absurd (omega arith))

number_by : (Takes : ℕ → Costs → Type 0) (low high : ℕ) (before after : Costs) → StaysTaken Takes → Keeps before after
    → TakesBetween Takes low high before → Takes high after
    → (number : ℕ) → low ≤ number → (number < high) ⊎ (number ≡ high) → Takes number after
number_by Takes low high before after stays keeps each taken number more (inl less) =
    stays number before after keeps (each number more less)
number_by Takes low high before after stays keeps each taken number more (inr same) =
    subst (λ n. Takes n after) (sym same) taken

pub numbers_more : (q : Statement) (s : Statistics) (vector : List ℕ) (set : ℕ) (Takes : ℕ → Costs → Type 0)
    (low high : ℕ) (first before after : Cheapest) → StaysTaken Takes
    → Offered q s vector set (TakesBetween Takes low high) first before
    → Offered q s vector set (Takes high) before after
    → Offered q s vector set (TakesBetween Takes low (high + 1)) first after
numbers_more q s vector set Takes low high first before after stays f g = record {
  keeps = λ sorted n h. g.keeps sorted n (f.keeps sorted n h);
  found = g.found;
  taken = λ number more less. number_by Takes low high (cost_in before)
      (cost_in after) stays g.keeps f.taken g.taken number more (below_next number high less);
}
