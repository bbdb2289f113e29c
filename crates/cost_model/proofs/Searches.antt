-- What can be searched: of finitely many things, each with a cost or none, one costs least.
use Rattle.std.proofs.Common.{ℕ, zero, suc, ◌≡◌, ◌≤◌, ◌<◌, ◌⊎◌, inl, inr, Bool, true, false, Option, Some, None, ap}
use Rattle.std.proofs.Common.{sym, ◌∙◌, refl, arith, true≢false}
use Rattle.std.proofs.lemmas.Bool.{cases_lt}

-- What can be decided.

abbrev pub Decided : Type 0 → Type 0
Decided A = A ⊎ (A → ⊥)

pub decided_as : {A B : Type 0} → (A → B) → (B → A) → Decided A → Decided B
decided_as to from (inl a) = inl (to a)
decided_as to from (inr none) = inr (λ b. none (from b))

pub decided_both : {A B : Type 0} → Decided A → Decided B → Decided (A × B)
decided_both (inl a) (inl b) = inl (a, b)
decided_both (inl a) (inr none) = inr (λ p. none p.1)
decided_both (inr none) b = inr (λ p. none p.0)

pub decided_three : {A B C : Type 0} → Decided A → Decided B → Decided C → Decided (A × B × C)
decided_three a b c = decided_as (λ p. (p.0, p.1.0, p.1.1)) (λ p. (p.0, (p.1, p.2))) (decided_both a (decided_both b c))

pub decided_four : {A B C D : Type 0} → Decided A → Decided B → Decided C → Decided D → Decided (A × B × C × D)
decided_four a b c d =
    decided_as (λ p. (p.0, p.1.0, p.1.1, p.1.2)) (λ p. (p.0, (p.1, p.2, p.3))) (decided_both a (decided_three b c d))

pub decided_implies : {A B : Type 0} → Decided A → Decided B → Decided (A → B)
decided_implies (inl a) (inl b) = inl (λ _. b)
decided_implies (inl a) (inr none) = inr (λ f. none (f a))
decided_implies (inr none) b = inl (λ a. absurd (none a))

pub decided_bool : (a b : Bool) → Decided (a ≡ b)
decided_bool true true = inl refl
decided_bool true false = inr (λ e. true≢false e)
decided_bool false true = inr (λ e. true≢false (sym e))
decided_bool false false = inl refl

less_by : (a b : ℕ) → (a < b) ⊎ (b ≤ a) → Decided (a < b)
less_by a b (inl less) = inl less
less_by a b (inr more) = inr (λ less. omega arith)

same_by : (a b : ℕ) → (a < b) ⊎ (b ≤ a) → (b < a) ⊎ (a ≤ b) → Decided (a ≡ b)
same_by a b (inl less) o = inr (λ e. omega arith)
same_by a b (inr more) (inl less) = inr (λ e. omega arith)
same_by a b (inr more) (inr few) = inl (omega arith)

pub decided_less : (a b : ℕ) → Decided (a < b)
decided_less a b = less_by a b (cases_lt a b)

pub decided_same : (a b : ℕ) → Decided (a ≡ b)
decided_same a b = same_by a b (cases_lt a b) (cases_lt b a)

-- Of what costs something, the least.

pub record IsLeastFound (A : Type 0) (V : A → Type 0) (cost : A → Option ℕ) : Type 0 where
  pub item : A
  pub valid : V item
  pub least : ℕ
  pub costs : cost item ≡ Some least
  pub below_all : (other : A) (n : ℕ) → V other → cost other ≡ Some n → least ≤ n

-- the least is found, or nothing costs anything
abbrev pub Outcome : (A : Type 0) → (A → Type 0) → (A → Option ℕ) → Type 0
Outcome A V cost = IsLeastFound A V cost ⊎ ((other : A) → V other → cost other ≡ None)

abbrev pub Searchable : (A : Type 0) → (A → Type 0) → Type 0
Searchable A V = (cost : A → Option ℕ) → Outcome A V cost

none_costs : {A : Type 0} (x : Option ℕ) (n : ℕ) → x ≡ None → x ≡ Some n → A
none_costs x n e f = absurd (cc)

pub search_none : (A : Type 0) (V : A → Type 0) → ((a : A) → V a → ⊥) → Searchable A V
search_none A V none cost = inr (λ a v. absurd (none a v))

same_outcome : (A : Type 0) (V W : A → Type 0) (cost : A → Option ℕ) → ((a : A) → V a → W a) → ((a : A) → W a → V a)
    → Outcome A V cost → Outcome A W cost
same_outcome A V W cost to from (inl x) = inl (record {
  item = x.item;
  valid = to x.item x.valid;
  least = x.least;
  costs = x.costs;
  below_all = λ other n w e. x.below_all other n (from other w) e;
})
same_outcome A V W cost to from (inr none) = inr (λ other w. none other (from other w))

pub search_same : (A : Type 0) (V W : A → Type 0) → Searchable A V → ((a : A) → V a → W a) → ((a : A) → W a → V a)
    → Searchable A W
search_same A V W s to from cost = same_outcome A V W cost to from (s cost)

-- one of two kinds

below_either : (A : Type 0) (V W : A → Type 0) (cost : A → Option ℕ) (least : ℕ)
    → ((other : A) (n : ℕ) → V other → cost other ≡ Some n → least ≤ n)
    → ((other : A) (n : ℕ) → W other → cost other ≡ Some n → least ≤ n)
    → (other : A) (n : ℕ) → V other ⊎ W other → cost other ≡ Some n → least ≤ n
below_either A V W cost least b c other n (inl v) e = b other n v e
below_either A V W cost least b c other n (inr w) e = c other n w e

none_either : (A : Type 0) (V W : A → Type 0) (cost : A → Option ℕ) → ((other : A) → V other → cost other ≡ None)
    → ((other : A) → W other → cost other ≡ None) → (other : A) → V other ⊎ W other → cost other ≡ None
none_either A V W cost b c other (inl v) = b other v
none_either A V W cost b c other (inr w) = c other w

lesser_of : (A : Type 0) (V W : A → Type 0) (cost : A
    → Option ℕ) (x : IsLeastFound A V cost) (y : IsLeastFound A W cost) → (x.least < y.least) ⊎ (y.least ≤ x.least)
    → Outcome A (λ a. V a ⊎ W a) cost
lesser_of A V W cost x y (inl less) = inl (record {
  item = x.item;
  valid = inl x.valid;
  least = x.least;
  costs = x.costs;
  below_all = below_either A V W cost x.least x.below_all (λ other n w e. let m =
      y.below_all other n w e in omega arith);
})
lesser_of A V W cost x y (inr more) = inl (record {
  item = y.item;
  valid = inr y.valid;
  least = y.least;
  costs = y.costs;
  below_all = below_either A V W cost y.least (λ other n v e. let m =
      x.below_all other n v e in omega arith) y.below_all;
})

either_outcome : (A : Type 0) (V W : A → Type 0) (cost : A → Option ℕ) → Outcome A V cost → Outcome A W cost
    → Outcome A (λ a. V a ⊎ W a) cost
either_outcome A V W cost (inl x) (inl y) = lesser_of A V W cost x y (cases_lt x.least y.least)
either_outcome A V W cost (inl x) (inr none) = inl (record {
  item = x.item;
  valid = inl x.valid;
  least = x.least;
  costs = x.costs;
  below_all = below_either A V W cost x.least x.below_all (λ other n w e. none_costs (cost other) n (none other w) e);
})
either_outcome A V W cost (inr none) (inl y) = inl (record {
  item = y.item;
  valid = inr y.valid;
  least = y.least;
  costs = y.costs;
  below_all = below_either A V W cost y.least (λ other n v e. none_costs (cost other) n (none other v) e) y.below_all;
})
either_outcome A V W cost (inr none) (inr no_more) = inr (none_either A V W cost none no_more)

pub search_either : (A : Type 0) (V W : A → Type 0) → Searchable A V → Searchable A W → Searchable A (λ a. V a ⊎ W a)
search_either A V W s t cost = either_outcome A V W cost (s cost) (t cost)

-- those that pass a test

guarded : {A : Type 0} → Decided A → Option ℕ → Option ℕ
guarded (inl a) cost = cost
guarded (inr none) cost = None

passes : {A : Type 0} (d : Decided A) (cost : Option ℕ) (n : ℕ) → guarded d cost ≡ Some n → A
unfolding guarded
passes (inl a) cost n e = a
passes (inr none) cost n e = absurd (cc)

kept : {A : Type 0} (d : Decided A) (cost : Option ℕ) → A → guarded d cost ≡ cost
unfolding guarded
kept (inl a) cost w = refl
kept (inr none) cost w = absurd (none w)

filter_outcome : (A : Type 0) (V W : A → Type 0) (cost : A → Option ℕ) (d : (a : A) → Decided (W a))
    → Outcome A V (λ a. guarded (d a) (cost a)) → Outcome A (λ a. V a × W a) cost
filter_outcome A V W cost d (inl x) =
    let w = passes (d x.item) (cost x.item) x.least x.costs in
    inl (record {
      item = x.item;
      valid = (x.valid, w);
      least = x.least;
      costs = sym (kept (d x.item) (cost x.item) w) ∙ x.costs;
      below_all = λ other n v e. x.below_all other n v.0 (kept (d other) (cost other) v.1 ∙ e);
    })
filter_outcome A V W cost d (inr none) = inr (λ other v. sym (kept (d other) (cost other) v.1) ∙ none other v.0)

pub search_filtered : (A : Type 0) (V W : A → Type 0) → Searchable A V → ((a : A) → Decided (W a))
    → Searchable A (λ a. V a × W a)
search_filtered A V W s d cost = filter_outcome A V W cost d (s (λ a. guarded (d a) (cost a)))

-- all that is valid can be searched where it can be decided and is among what can be searched
pub search_among : (A : Type 0) (C V : A → Type 0) → Searchable A C → ((a : A) → V a → C a) → ((a : A) → Decided (V a))
    → Searchable A V
search_among A C V s among d =
    search_same A (λ a. C a × V a) V (search_filtered A C V s d) (λ a p. p.1) (λ a v. (among a v, v))

-- what a function makes of them

abbrev pub IsMadeFrom : (A B : Type 0) → (A → Type 0) → (A → B) → B → Type 0
IsMadeFrom A B V make b = (a : A) × V a × (make a ≡ b)

made_outcome : (A B : Type 0) (V : A → Type 0) (make : A → B) (cost : B → Option ℕ) → Outcome A V (λ a. cost (make a))
    → Outcome B (IsMadeFrom A B V make) cost
made_outcome A B V make cost (inl x) = inl (record {
  item = make x.item;
  valid = (x.item, x.valid, refl);
  least = x.least;
  costs = x.costs;
  below_all = λ other n v e. x.below_all v.0 n v.1 (ap cost v.2 ∙ e);
})
made_outcome A B V make cost (inr none) = inr (λ other v. sym (ap cost v.2) ∙ none v.0 v.1)

pub search_made : (A B : Type 0) (V : A → Type 0) (make : A → B) → Searchable A V → Searchable B (IsMadeFrom A B V make)
search_made A B V make s cost = made_outcome A B V make cost (s (λ a. cost (make a)))

-- pairs, the second of which may depend on the first

-- what the least found costs, or none
unfoldable pub least_cost : (B : Type 0) (W : B → Type 0) (cost : B → Option ℕ) → Outcome B W cost → Option ℕ
least_cost B W cost (inl y) = Some y.least
least_cost B W cost (inr none) = None

pair_least : (A B : Type 0) (W : A → B → Type 0) (cost : A × B → Option ℕ) (n m : ℕ) (o : A
    × B) (out : Outcome B (W o.0) (λ b. cost (o.0, b))) → W o.0 o.1 → cost o ≡ Some m
    → ((k : ℕ) → least_cost B (W o.0) (λ b. cost (o.0, b)) out ≡ Some k → n ≤ k) → n ≤ m
unfolding least_cost
pair_least A B W cost n m o (inl z) w e below = let a = below z.least refl in let b =
    z.below_all o.1 m w e in omega arith
pair_least A B W cost n m o (inr none) w e below = none_costs (cost o) m (none o.1 w) e

pair_none : (A B : Type 0) (W : A → B → Type 0) (cost : A × B → Option ℕ) (o : A
    × B) (out : Outcome B (W o.0) (λ b. cost (o.0, b))) → W o.0 o.1 → least_cost B (W o.0) (λ b. cost (o.0, b)) out
    ≡ None → cost o ≡ None
unfolding least_cost
pair_none A B W cost o (inl z) w e = absurd (cc)
pair_none A B W cost o (inr none) w e = none o.1 w

pair_found : (A B : Type 0) (V : A → Type 0) (W : A → B → Type 0) (t : (a : A) → Searchable B (W a)) (cost : A × B
    → Option ℕ) (a : A) (n : ℕ) → V a
    → ((other : A) (k : ℕ) → V other → least_cost B (W other) (λ b. cost (other, b)) (t other (λ b. cost (other, b)))
    ≡ Some k → n ≤ k) → (out : Outcome B (W a) (λ b. cost (a, b)))
    → least_cost B (W a) (λ b. cost (a, b)) out ≡ Some n → Outcome (A × B) (λ p. V p.0 × W p.0 p.1) cost
unfolding least_cost
pair_found A B V W t cost a n v below (inl y) e =
    let same : y.least ≡ n = cc in
    inl (record {
      item = (a, y.item);
      valid = (v, y.valid);
      least = n;
      costs = y.costs ∙ ap Some same;
      below_all = λ o m w f. pair_least A B W cost n m o (t o.0 (λ b. cost (o.0, b))) w.1 f (λ k g. below o.0 k w.0 g);
    })
pair_found A B V W t cost a n v below (inr none) e = absurd (cc)

pair_outcome : (A B : Type 0) (V : A → Type 0) (W : A → B → Type 0) (t : (a : A) → Searchable B (W a)) (cost : A × B
    → Option ℕ) → Outcome A V (λ a. least_cost B (W a) (λ b. cost (a, b)) (t a (λ b. cost (a, b))))
    → Outcome (A × B) (λ p. V p.0 × W p.0 p.1) cost
pair_outcome A B V W t cost (inl x) =
    pair_found A B V W t cost x.item x.least x.valid x.below_all (t x.item (λ b. cost (x.item, b))) x.costs
pair_outcome A B V W t cost (inr none) =
    inr (λ o v. pair_none A B W cost o (t o.0 (λ b. cost (o.0, b))) v.1 (none o.0 v.0))

pub search_pairs : (A B : Type 0) (V : A → Type 0) (W : A → B → Type 0) → Searchable A V
    → ((a : A) → Searchable B (W a)) → Searchable (A × B) (λ p. V p.0 × W p.0 p.1)
search_pairs A B V W s t cost =
    pair_outcome A B V W t cost (s (λ a. least_cost B (W a) (λ b. cost (a, b)) (t a (λ b. cost (a, b)))))

-- numbers

only_outcome : (k : ℕ) (cost : ℕ → Option ℕ) (o : Option ℕ) → cost k ≡ o → Outcome ℕ (λ m. m ≡ k) cost
only_outcome k cost (Some n) e = inl (record {
  item = k;
  valid = refl;
  least = n;
  costs = e;
  below_all = λ other m v f. let same : Some n ≡ Some m = sym e ∙ sym (ap cost v) ∙ f in let less : n ≡ m =
      cc in omega arith;
})
only_outcome k cost None e = inr (λ other v. ap cost v ∙ e)

below_next : (n k : ℕ) → (k < n) ⊎ (k ≡ n) → k < suc n
below_next n k (inl less) = omega arith
below_next n k (inr same) = omega arith

next_or_below : (n k : ℕ) → (k < n) ⊎ (n ≤ k) → k < suc n → (k < n) ⊎ (k ≡ n)
next_or_below n k (inl less) h = inl less
next_or_below n k (inr more) h = inr (omega arith)

pub search_numbers : (n : ℕ) → Searchable ℕ (λ k. k < n)
search_numbers zero = search_none ℕ (λ k. k < 0) (λ k less. omega arith)
search_numbers (suc n) =
    search_same ℕ (λ k. (k < n) ⊎ (k ≡ n)) (λ k. k < suc n) (search_either ℕ (λ k. k < n) (λ k. k
    ≡ n) (search_numbers n) (λ cost. only_outcome n cost (cost n) refl))
    (λ k v. below_next n k v) (λ k less. next_or_below n k (cases_lt k n) less)
