-- Groups by one column of numbers, once one more combination comes.
use Rattle.std.proofs.Common.{ℕ, ℤ, suc, zero, ◌≡◌, ◌==◌, ◌<◌, ◌≤◌, ◌+◌, ◌*◌, ◌++◌, ◌⊎◌, inl, inr, Bool, true, false, List, [], ◌∷◌, length, map, get_or}
use Rattle.std.proofs.Common.{ap, sym, ◌∙◌, refl, arith, subst, drop, length-drop, take, ◌^◌, ◌-◌}
use Rattle.std.specs.Prelude.{All, IfSome, Option, Some, None, filter, unwrap_or}
use Rattle.std.specs.Option.{option_cmp}
use Rattle.std.specs.Ordering.{int_cmp, is_eq}
use Rattle.std.specs.declared.cmp.Ordering.{Ordering}
use Rattle.std.specs.declared.cmp.Ordering.TheVariants.{Less, Equal, Greater}
use Rattle.std.specs.BTreeMap.{BTreeMap, get}
use Rattle.std.specs.BTreeMap.{Updates}
use Rattle.std.proofs.lemmas.Bool.{eq-eqb, eqb-true, false≢true}
use Rattle.std.proofs.Math.Nat.{suc-mul}
use Rattle.std.proofs.lemmas.List.{get_or_append_left, get_or-append-add, get_or-drop, get_or-map, get_or_push, get_or-take}
use Rattle.std.proofs.lemmas.List.{length-append, length-map, length_push, length-take-le}
use Rattle.std.proofs.lemmas.Map.Lookups.{exact_signed}
use Rattle.row_values.specs.Sorting.{heads, times}
use Rattle.row_values.specs.Statements.{Statement}
use Rattle.row_values.specs.declared.values.Value.{Value}
use Rattle.row_values.specs.declared.statement.Item.{Item}
use Rattle.row_values.specs.declared.statement.Item.TheVariants.{CountAll}
use Rattle.row_values.proofs.Counting.{times-append}
use Rattle.plan_operators.specs.Keys.{keys_rank}
use Rattle.plan_operators.specs.declared.keys.ReadyKey.{ReadyKey}
use Rattle.statement_meaning.specs.Meaning.{group_keys, is_same_group, keys_order}
use Rattle.statement_meaning.specs.PartialCombinations.{is_same}
use Rattle.statement_meaning.proofs.Groups.{same_group_equivalence}
use Rattle.result_shape.specs.Hints.{AreHintsAt, IsHintAt}
use Rattle.result_shape.specs.Numbered.{AreNumbered, IsMapped, IsNumberOf, number_seen, tallies_from}
use Rattle.result_shape.specs.Tallies.{AreTalliesOf, HasRoom, IsTallyOf}
use Rattle.result_shape.specs.declared.numbered.NumberColumn.{NumberColumn}
use Rattle.result_shape.proofs.GrowingGroups.{kept_few, more_members, no_members, no_more_heads, none_there, one_more_head}
use Rattle.result_shape.proofs.GrowingGroups.{same_members}
use Rattle.result_shape.proofs.Shapes.{ShowsGroup}
use Rattle.result_shape.proofs.Tallying.{tally_room}
use Rattle.result_shape.specs.declared.hints.Hint.{Hint}
use Rattle.result_shape.specs.declared.hints.Hints.{Hints}
use Rattle.result_shape.specs.declared.numbered.Placed.{Placed}
use Rattle.result_shape.specs.declared.tallies.ReadyItem.{ReadyItem}
use Rattle.result_shape.specs.declared.tallies.Tally.{Tally}

-- Numbers that may not be there.

pub same_number : (x y : Option ℤ) → is_eq (option_cmp int_cmp x y) ≡ true → x ≡ y
same_number None None h = refl
same_number None (Some y) h = cc
same_number (Some x) None h = cc
same_number (Some x) (Some y) h = ap (λ (n : ℤ). Some n) (exact_signed x y (tied (int_cmp x y) h))
  where
    tied : (o : Ordering) → is_eq o ≡ true → o ≡ Equal
    tied Less k = cc
    tied Equal k = refl
    tied Greater k = cc

some_same : (i p : ℕ) → Some i ≡ Some p → i ≡ p
some_same i p e = ap (λ (o : Option ℕ). unwrap_or o 0) e

not_none : (i : ℕ) → Some i ≡ None → ⊥
not_none i e = cc

-- Where the tallies of groups stand.

pub ranges_apart : (w i p k : ℕ) → (i ≡ p → ⊥) → k < w → (i * w + k < p * w) ⊎ (p * w + w ≤ i * w + k)
ranges_apart w zero zero k n l = absurd (n refl)
ranges_apart w zero (suc p) k n l = inl (omega (arith, l, suc-mul p w))
ranges_apart w (suc i) zero k n l = inr (omega (arith, l, suc-mul i w))
ranges_apart w (suc i) (suc p) k n l =
    one_on (ranges_apart w i p k (λ e. n (ap (λ (j : ℕ). suc j) e)) l)
  where
    one_on : (i * w + k < p * w) ⊎ (p * w + w ≤ i * w + k)
        → (suc i * w + k < suc p * w) ⊎ (suc p * w + w ≤ suc i * w + k)
    one_on (inl b) = inl (omega (arith, b, suc-mul i w, suc-mul p w))
    one_on (inr b) = inr (omega (arith, b, suc-mul i w, suc-mul p w))

pub range_inside : (w i n : ℕ) → i < n → i * w + w ≤ n * w
range_inside w i zero l = absurd (omega (arith, l))
range_inside w zero (suc n) l = omega (arith, suc-mul n w)
range_inside w (suc i) (suc n) l =
    let one : i < n = omega (arith, l) in
    omega (arith, range_inside w i n one, suc-mul i w, suc-mul n w)

-- One column of numbers tells the groups apart.
module _ (q : Statement) (tables : List (List (List Value))) (keys : List ReadyKey) (column : NumberColumn)
    (ranks : (a b : List ℕ) → keys_rank keys a b ≡ keys_order tables (group_keys q.groups) a b)
    (number : IsNumberOf keys column) where
  abbrev same : List ℕ → List ℕ → Bool
  same = is_same_group tables q.groups

  abbrev seen : List ℕ → Option ℤ
  seen = number_seen column

  same_by_number : (a b : List ℕ) → same a b ≡ is_eq (option_cmp int_cmp (seen a) (seen b))
  same_by_number a b = ap is_eq (sym (ranks a b) ∙ number a b)

  equal_numbers : (a b : List ℕ) → same a b ≡ true → seen a ≡ seen b
  equal_numbers a b h = same_number (seen a) (seen b) (sym (same_by_number a b) ∙ h)

  tied_numbers : (a b : List ℕ) → seen a ≡ seen b → same a b ≡ true
  tied_numbers a b e =
      same_by_number a b
      ∙ (ap (λ (n : Option ℤ). is_eq (option_cmp int_cmp (seen a) n)) (sym e)
      ∙ (sym (same_by_number a a) ∙ (same_group_equivalence tables q.groups).refl a))

  module _ (positions : BTreeMap (Option ℤ) ℕ) (firsts : List (List ℕ)) (m : IsMapped column positions firsts)
      (c : List ℕ) where
    others_apart : (p : ℕ) → get (option_cmp int_cmp) positions (seen c) ≡ Some p
        → (i : ℕ) (d : List ℕ) → i < length firsts → (i ≡ p → ⊥) → same (get_or firsts i d) c ≡ false
    others_apart p g i d l n = by_test (same (get_or firsts i d) c) refl
      where
        by_test : (b : Bool) → same (get_or firsts i d) c ≡ b → same (get_or firsts i d) c ≡ false
        by_test false e = e
        by_test true e =
            absurd (n (some_same i p (sym (m.all i d l)
            ∙ (ap (λ (o : Option ℤ). get (option_cmp int_cmp) positions o)
            (equal_numbers (get_or firsts i d) c e) ∙ g))))

    pub none_apart : get (option_cmp int_cmp) positions (seen c) ≡ None → All (λ f. same f c ≡ false) firsts
    none_apart g = λ i d l. by_test i d l (same (get_or firsts i d) c) refl
      where
        by_test : (i : ℕ) (d : List ℕ) → i < length firsts → (b : Bool) → same (get_or firsts i d) c ≡ b
            → same (get_or firsts i d) c ≡ false
        by_test i d l false e = e
        by_test i d l true e =
            absurd (not_none i (sym (m.all i d l)
            ∙ (ap (λ (o : Option ℤ). get (option_cmp int_cmp) positions o)
            (equal_numbers (get_or firsts i d) c e) ∙ g)))

    -- one more member of the group at this position
    pub numbered_grows : (p : ℕ) → get (option_cmp int_cmp) positions (seen c) ≡ Some p
        → (h : List (List ℕ)) (old new : List Tally) → AreNumbered q tables h firsts old → length new ≡ length old
        → ((k : ℕ) (item : Item) (e : Tally) → k < length q.items → (first : List ℕ) (members : List (List ℕ))
        → IsTallyOf tables first members (get_or q.items k item) (get_or old (p * length q.items + k) e)
        → IsTallyOf tables first (members ++ c ∷ []) (get_or q.items k item) (get_or new (p * length q.items + k) e))
        → ((k : ℕ) (e : Tally) → (k < p * length q.items) ⊎ (p * length q.items + length q.items ≤ k)
        → get_or new k e ≡ get_or old k e)
        → AreNumbered q tables (h ++ c ∷ []) firsts new
    numbered_grows p g h old new a same_length taken others = record {
      heads_are =
          λ x. ap (times is_same x) (no_more_heads tables q h firsts c a.heads_are some) ∙ a.heads_are x;
      whole = same_length ∙ a.whole;
      each = λ i k d item e li lk. by_place i k d item e li lk (i == p) refl;
    }
      where
        here : (d : List ℕ) → same (get_or firsts p d) c ≡ true
        here d = tied_numbers (get_or firsts p d) c (m.own (seen c) p d g)

        some : All (λ f. same f c ≡ false) firsts → ⊥
        some none = false≢true (sym (none p [] (m.inside (seen c) p g)) ∙ here [])

        by_place : (i k : ℕ) (d : List ℕ) (item : Item) (e : Tally) → i < length firsts → k < length q.items
            → (b : Bool) → (i == p) ≡ b
            → IsTallyOf tables (get_or firsts i d) (filter (same (get_or firsts i d)) (h ++ c ∷ []))
            (get_or q.items k item) (get_or new (i * length q.items + k) e)
        by_place i k d item e li lk true at =
            let is : i ≡ p = eqb-true i p at in
            let there : same (get_or firsts i d) c ≡ true = ap (λ (j : ℕ). same (get_or firsts j d) c) is ∙ here d in
            subst (λ (ms : List (List ℕ)). IsTallyOf tables (get_or firsts i d) ms (get_or q.items k item)
            (get_or new (i * length q.items + k) e))
            (sym (more_members tables q (get_or firsts i d) c h true there))
            (subst (λ (j : ℕ). IsTallyOf tables (get_or firsts i d) (filter (same (get_or firsts i d)) h ++ c ∷ [])
            (get_or q.items k item) (get_or new (j * length q.items + k) e)) (sym is)
            (taken k item e lk (get_or firsts i d) (filter (same (get_or firsts i d)) h)
            (subst (λ (j : ℕ). IsTallyOf tables (get_or firsts i d) (filter (same (get_or firsts i d)) h)
            (get_or q.items k item) (get_or old (j * length q.items + k) e)) is (a.each i k d item e li lk))))
        by_place i k d item e li lk false at =
            let apart : i ≡ p → ⊥ = λ is. false≢true (sym at ∙ eq-eqb i p is) in
            subst (λ (ms : List (List ℕ)). IsTallyOf tables (get_or firsts i d) ms (get_or q.items k item)
            (get_or new (i * length q.items + k) e))
            (sym (same_members tables q (get_or firsts i d) c h (others_apart p g i d li apart)))
            (subst (λ (tally : Tally). IsTallyOf tables (get_or firsts i d) (filter (same (get_or firsts i d)) h)
            (get_or q.items k item) tally)
            (sym (others (i * length q.items + k) e (ranges_apart (length q.items) i p k apart lk)))
            (a.each i k d item e li lk))

    -- nothing is in the group of a number that isn't there
    pub numbered_nothing : get (option_cmp int_cmp) positions (seen c) ≡ None → (h : List (List ℕ)) (ts : List Tally)
        → AreNumbered q tables h firsts ts → All (λ x. same x c ≡ false) h
    numbered_nothing g h ts a = none_there tables q h firsts c a.heads_are (none_apart g)

    -- the first member of a group that isn't there
    pub numbered_begins : get (option_cmp int_cmp) positions (seen c) ≡ None
        → (h : List (List ℕ)) (ts made : List Tally)
        → AreNumbered q tables h firsts ts → AreTalliesOf tables c (c ∷ []) q.items made
        → AreNumbered q tables (h ++ c ∷ []) (firsts ++ c ∷ []) (ts ++ made)
    numbered_begins g h ts made a begun = record {
      heads_are =
          λ x. ap (times is_same x) (one_more_head tables q h c none)
          ∙ (times-append is_same x (heads same h) (c ∷ [])
          ∙ (ap (λ (n : ℕ). n + times is_same x (c ∷ [])) (a.heads_are x)
          ∙ sym (times-append is_same x firsts (c ∷ []))));
      whole =
          omega (
            arith,
            length-append ts made,
            a.whole,
            begun.count,
            length_push firsts c,
            suc-mul (length firsts) (length q.items),
            longer,
          );
      each = λ i k d item e li lk. by_place i k d item e lk (split i (omega (arith, li, length_push firsts c)));
    }
      where
        none : All (λ x. same x c ≡ false) h
        none = numbered_nothing g h ts a

        longer : length (firsts ++ c ∷ []) * length q.items ≡ suc (length firsts) * length q.items
        longer = ap (λ (n : ℕ). n * length q.items) (length_push firsts c ∙ plus_one (length firsts))
          where
            plus_one : (n : ℕ) → n + 1 ≡ suc n
            plus_one n = omega arith

        alone : filter (same c) (h ++ c ∷ []) ≡ c ∷ []
        alone =
            more_members tables q c c h true ((same_group_equivalence tables q.groups).refl c)
            ∙ ap (λ (ms : List (List ℕ)). ms ++ c ∷ []) (no_members tables q c h none)

        split : (i : ℕ) → i < length firsts + 1 → (i < length firsts) ⊎ (i ≡ length firsts)
        split i l = by_test (i == length firsts) refl
          where
            by_test : (b : Bool) → (i == length firsts) ≡ b → (i < length firsts) ⊎ (i ≡ length firsts)
            by_test true e = inr (eqb-true i (length firsts) e)
            by_test false e =
                let n : i ≡ length firsts → ⊥ = λ is. false≢true (sym e ∙ eq-eqb i (length firsts) is) in
                inl (omega (arith, l, n))

        by_place : (i k : ℕ) (d : List ℕ) (item : Item) (e : Tally) → k < length q.items
            → (i < length firsts) ⊎ (i ≡ length firsts)
            → IsTallyOf tables (get_or (firsts ++ c ∷ []) i d)
            (filter (same (get_or (firsts ++ c ∷ []) i d)) (h ++ c ∷ [])) (get_or q.items k item)
            (get_or (ts ++ made) (i * length q.items + k) e)
        by_place i k d item e lk (inl li) =
            let before : i * length q.items + k < length ts =
            omega (arith, range_inside (length q.items) i (length firsts) li, lk, a.whole) in
            subst (λ (first : List ℕ). IsTallyOf tables first (filter (same first) (h ++ c ∷ []))
            (get_or q.items k item) (get_or (ts ++ made) (i * length q.items + k) e))
            (sym (get_or_append_left firsts (c ∷ []) d i li))
            (subst (λ (ms : List (List ℕ)). IsTallyOf tables (get_or firsts i d) ms (get_or q.items k item)
            (get_or (ts ++ made) (i * length q.items + k) e))
            (sym (same_members tables q (get_or firsts i d) c h (none_apart g i d li)))
            (subst (λ (tally : Tally). IsTallyOf tables (get_or firsts i d) (filter (same (get_or firsts i d)) h)
            (get_or q.items k item) tally)
            (sym (get_or_append_left ts made e (i * length q.items + k) before))
            (a.each i k d item e li lk)))
        by_place i k d item e lk (inr is) =
            let at : i * length q.items + k ≡ length ts + k =
            ap (λ (n : ℕ). n + k) (ap (λ (j : ℕ). j * length q.items) is ∙ sym a.whole) in
            subst (λ (first : List ℕ). IsTallyOf tables first (filter (same first) (h ++ c ∷ []))
            (get_or q.items k item) (get_or (ts ++ made) (i * length q.items + k) e))
            (sym (get_or_push firsts c d i (sym is)))
            (subst (λ (ms : List (List ℕ)). IsTallyOf tables c ms (get_or q.items k item)
            (get_or (ts ++ made) (i * length q.items + k) e)) (sym alone)
            (subst (λ (tally : Tally). IsTallyOf tables c (c ∷ []) (get_or q.items k item) tally)
            (sym (ap (λ (j : ℕ). get_or (ts ++ made) j e) at ∙ get_or-append-add ts made k e))
            (begun.each k item e lk)))

-- the map with one more number
pub mapped_begins : (column : NumberColumn) (positions more : BTreeMap (Option ℤ) ℕ) (firsts : List (List ℕ))
    (c : List ℕ)
    → IsMapped column positions firsts → get (option_cmp int_cmp) positions (number_seen column c) ≡ None
    → Updates (option_cmp int_cmp) positions more (number_seen column c) (Some (length firsts))
    → IsMapped column more (firsts ++ c ∷ [])
mapped_begins column positions more firsts c m g u = record {
  all = λ i d l. all_of i d (split i (omega (arith, l, length_push firsts c)));
  inside = λ n i e. (of n i e (is_eq (option_cmp int_cmp (number_seen column c) n)) refl).0;
  own = λ n i d e. (of n i e (is_eq (option_cmp int_cmp (number_seen column c) n)) refl).1 d;
}
  where
    split : (i : ℕ) → i < length firsts + 1 → (i < length firsts) ⊎ (i ≡ length firsts)
    split i l = by_test (i == length firsts) refl
      where
        by_test : (b : Bool) → (i == length firsts) ≡ b → (i < length firsts) ⊎ (i ≡ length firsts)
        by_test true e = inr (eqb-true i (length firsts) e)
        by_test false e =
            let n : i ≡ length firsts → ⊥ = λ is. false≢true (sym e ∙ eq-eqb i (length firsts) is) in
            inl (omega (arith, l, n))

    all_of : (i : ℕ) (d : List ℕ) → (i < length firsts) ⊎ (i ≡ length firsts)
        → get (option_cmp int_cmp) more (number_seen column (get_or (firsts ++ c ∷ []) i d)) ≡ Some i
    all_of i d (inl l) =
        ap (λ (f : List ℕ). get (option_cmp int_cmp) more (number_seen column f))
        (get_or_append_left firsts (c ∷ []) d i l)
        ∙ by_test (is_eq (option_cmp int_cmp (number_seen column c) (number_seen column (get_or firsts i d)))) refl
      where
        by_test : (b : Bool)
            → is_eq (option_cmp int_cmp (number_seen column c) (number_seen column (get_or firsts i d))) ≡ b
            → get (option_cmp int_cmp) more (number_seen column (get_or firsts i d)) ≡ Some i
        by_test true e =
            absurd (not_none i (sym (m.all i d l)
            ∙ (ap (λ (o : Option ℤ). get (option_cmp int_cmp) positions o)
            (sym (same_number (number_seen column c) (number_seen column (get_or firsts i d)) e)) ∙ g)))
        by_test false e = u.2 (number_seen column (get_or firsts i d)) e ∙ m.all i d l
    all_of i d (inr is) =
        ap (λ (f : List ℕ). get (option_cmp int_cmp) more (number_seen column f)) (get_or_push firsts c d i (sym is))
        ∙ (u.1 ∙ ap (λ (n : ℕ). Some n) (sym is))

    of : (n : Option ℤ) (i : ℕ) → get (option_cmp int_cmp) more n ≡ Some i
        → (b : Bool) → is_eq (option_cmp int_cmp (number_seen column c) n) ≡ b
        → (i < length (firsts ++ c ∷ []))
        × ((d : List ℕ) → number_seen column (get_or (firsts ++ c ∷ []) i d) ≡ n)
    of n i e true t =
        let is : n ≡ number_seen column c = sym (same_number (number_seen column c) n t) in
        let at : i ≡ length firsts =
        some_same i (length firsts) (sym e ∙ (ap (λ (o : Option ℤ). get (option_cmp int_cmp) more o) is ∙ u.1)) in (
          omega (arith, at, length_push firsts c),
          λ d. ap (number_seen column) (get_or_push firsts c d i (sym at)) ∙ sym is,
        )
    of n i e false t =
        let old : get (option_cmp int_cmp) positions n ≡ Some i = sym (u.2 n t) ∙ e in
        let l : i < length firsts = m.inside n i old in (
          omega (arith, l, length_push firsts c),
          λ d. ap (number_seen column) (get_or_append_left firsts (c ∷ []) d i l) ∙ m.own n i d old,
        )

-- a hint stays an entry, since the number that comes was not there
pub hints_stay : (positions more : BTreeMap (Option ℤ) ℕ) (number : Option ℤ) (position : ℕ) (hints : Hints)
    → AreHintsAt positions hints → get (option_cmp int_cmp) positions number ≡ None
    → Updates (option_cmp int_cmp) positions more number (Some position)
    → AreHintsAt more hints
hints_stay positions more number position hints entries g u =
    λ i d l. stays (get_or hints.slots i d) (entries i d l)
  where
    by_test : (hint : Hint) → IsHintAt positions hint → (b : Bool)
        → is_eq (option_cmp int_cmp number (Some hint.number)) ≡ b → IsHintAt more hint
    by_test hint e true t =
        absurd (not_none hint.position (sym e ∙ (ap (λ (o : Option ℤ). get (option_cmp int_cmp) positions o)
        (sym (same_number number (Some hint.number) t)) ∙ g)))
    by_test hint e false t = u.2 (Some hint.number) t ∙ e

    stays : (slot : Option Hint) → IfSome slot (IsHintAt positions) → IfSome slot (IsHintAt more)
    stays None t = t
    stays (Some hint) e = by_test hint e (is_eq (option_cmp int_cmp number (Some hint.number))) refl

-- the tallies of one more group
pub grown_whole : (firsts : List (List ℕ)) (c : List ℕ) (ts made : List Tally) (count : ℕ)
    → length ts ≡ length firsts * count → length made ≡ count
    → length (ts ++ made) ≡ length (firsts ++ c ∷ []) * count
grown_whole firsts c ts made count w m =
    length-append ts made
    ∙ (sums (length ts) (length made) (length firsts * count) count w m
    ∙ (sym (suc-mul (length firsts) count)
    ∙ sym (ap (λ (n : ℕ). n * count) (length_push firsts c ∙ plus_one (length firsts)))))
  where
    sums : (a b x y : ℕ) → a ≡ x → b ≡ y → a + b ≡ x + y
    sums a b x y e f = omega (arith, e, f)

    plus_one : (n : ℕ) → n + 1 ≡ suc n
    plus_one n = omega arith

-- what holds of each item that is ready holds of the items of the statement
pub each_item : (P : ℕ → Item → Type 0) (items : List ReadyItem)
    → ((k : ℕ) (d : ReadyItem) → k < length items → P k (get_or items k d).item)
    → (k : ℕ) (item : Item) → k < length (map (λ (ready : ReadyItem). ready.item) items)
    → P k (get_or (map (λ (ready : ReadyItem). ready.item) items) k item)
each_item P [] all k item l = absurd (omega (arith, l))
each_item P (one ∷ items) all zero item l = all 0 one (omega arith)
each_item P (one ∷ items) all (suc k) item l =
    each_item (λ j. P (suc j)) items (λ j d m. all (suc j) d (omega (arith, m))) k item (omega (arith, l))

-- fewer than 2 ^ 63 combinations leave room in each tally
pub number_room : (q : Statement) (tables : List (List (List Value))) (h firsts : List (List ℕ)) (ts : List Tally)
    (items : List ReadyItem)
    → AreNumbered q tables h firsts ts → map (λ (ready : ReadyItem). ready.item) items ≡ q.items → length h < 2 ^ 63
    → (i k : ℕ) (e : Tally) → i < length firsts → k < length items → HasRoom (get_or ts (i * length items + k) e)
number_room q tables h firsts ts items a is few =
    subst (λ (count : ℕ). (i k : ℕ) (e : Tally) → i < length firsts → k < count → HasRoom (get_or ts (i * count + k) e))
    (sym (sym (length-map items (λ (ready : ReadyItem). ready.item)) ∙ ap (λ (shown : List Item). length shown) is))
    (λ i k e li lk. tally_room tables (get_or firsts i [])
    (filter (is_same_group tables q.groups (get_or firsts i [])) h) (get_or q.items k CountAll)
    (get_or ts (i * length q.items + k) e) (a.each i k [] CountAll e li lk)
    (omega (arith, kept_few (is_same_group tables q.groups (get_or firsts i [])) h, few)))

-- the tallies of a group, where they begin
pub placed_show : (q : Statement) (tables : List (List (List Value))) (h firsts : List (List ℕ)) (ts : List Tally)
    (placed : List Placed)
    → AreNumbered q tables h firsts ts → map (λ (one : Placed). one.first) placed ≡ firsts
    → ((i : ℕ) (d : Placed) → i < length placed → (get_or placed i d).start ≡ i * length q.items)
    → All (ShowsGroup (λ (one : Placed). one.first) (tallies_from ts (length q.items)) q tables h) placed
placed_show q tables h firsts ts placed a is starts = λ i d l. shown i d l
  where
    shown : (i : ℕ) (d : Placed) → i < length placed
        → AreTalliesOf tables (get_or placed i d).first
        (filter (is_same_group tables q.groups (get_or placed i d).first) h) q.items
        (take (length q.items) (drop (get_or placed i d).start ts))
    shown i d l = record {
      count = length-take-le (length q.items) (drop (get_or placed i d).start ts) full;
      each =
          λ k item e lk.
          subst (λ (tally : Tally). IsTallyOf tables (get_or placed i d).first
          (filter (is_same_group tables q.groups (get_or placed i d).first) h) (get_or q.items k item) tally)
          (sym (get_or-take (length q.items) (drop (get_or placed i d).start ts) k e lk
          ∙ (get_or-drop (get_or placed i d).start ts k e ∙ ap (λ (s : ℕ). get_or ts (s + k) e) (starts i d l))))
          (subst (λ (first : List ℕ). IsTallyOf tables first (filter (is_same_group tables q.groups first) h)
          (get_or q.items k item) (get_or ts (i * length q.items + k) e)) first_is
          (a.each i k d.first item e there lk));
    }
      where
        first_is : get_or firsts i d.first ≡ (get_or placed i d).first
        first_is =
            ap (λ (fs : List (List ℕ)). get_or fs i d.first) (sym is)
            ∙ get_or-map (λ (one : Placed). one.first) placed i d d.first l

        there : i < length firsts
        there =
            subst (λ (n : ℕ). i < n) (sym (length-map placed (λ (one : Placed). one.first))
            ∙ ap (λ (fs : List (List ℕ)). length fs) is) l

        full : length q.items ≤ length (drop (get_or placed i d).start ts)
        full =
            let within : i * length q.items + length q.items ≤ length firsts * length q.items =
            range_inside (length q.items) i (length firsts) there in
            let left : length (drop (get_or placed i d).start ts) ≡ length ts - (get_or placed i d).start =
            length-drop (get_or placed i d).start ts in
            omega (arith, left, within, a.whole, starts i d l)
