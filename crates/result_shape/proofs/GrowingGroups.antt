-- The groups of some combinations once one more comes: it is taken into its group, or begins one.
use Rattle.std.proofs.Common.{ℕ, suc, zero, ◌≡◌, ◌<◌, ◌≤◌, ◌+◌, ◌^◌, ◌++◌, ◌==◌, Bool, true, false, not, ◌||◌, List, [], ◌∷◌, length, map, cond, get_or}
use Rattle.std.proofs.Common.{ap, sym, ◌∙◌, refl, arith, subst, append-nil}
use Rattle.std.specs.Prelude.{All, filter}
use Rattle.std.specs.List.{list_any}
use Rattle.std.specs.List.Sorted.{IsStrictlySortedBy}
use Rattle.std.specs.Cmp.{IsEquivalence, IsTotalOrder}
use Rattle.std.specs.Ordering.{is_eq, ordering_reverse}
use Rattle.std.specs.declared.cmp.Ordering.{Ordering}
use Rattle.std.specs.declared.cmp.Ordering.TheVariants.{Less, Equal, Greater}
use Rattle.std.proofs.lemmas.Bool.{false≢true}
use Rattle.std.proofs.lemmas.List.{length-map}
use Rattle.std.proofs.lemmas.List.Elements.{All-nil, All-cons, All-head, All-tail, All-append, All-map, filter-append}
use Rattle.std.proofs.lemmas.List.Folds.{list_any_none}
use Rattle.row_values.specs.Sorting.{heads, times}
use Rattle.row_values.specs.Statements.{Statement}
use Rattle.row_values.specs.declared.values.Value.{Value}
use Rattle.row_values.specs.declared.statement.Item.{Item}
use Rattle.row_values.proofs.Counting.{exact_lists, HaveSame, all_of_same, times-append}
use Rattle.statement_meaning.specs.Meaning.{group_keys, is_same_group, keys_order}
use Rattle.statement_meaning.specs.PartialCombinations.{is_same}
use Rattle.statement_meaning.proofs.FullOrders.{keys_total}
use Rattle.statement_meaning.proofs.Groups.{same_group_equivalence}
use Rattle.statement_meaning.proofs.Grouping.{heads_all}
use Rattle.table_index.proofs.Changes.{heads_push}
use Rattle.result_shape.specs.Groups.{AreGroupsOf, IsRoomy, firsts}
use Rattle.result_shape.specs.Tallies.{AreTalliesOf}
use Rattle.result_shape.specs.declared.groups.Group.{Group}
use Rattle.result_shape.specs.declared.tallies.ReadyItem.{ReadyItem}
use Rattle.result_shape.proofs.StrictOrder.{strict_before, strict_behind, strict_put}
use Rattle.result_shape.proofs.Tallying.{tallies_room}

-- Heads.

unfilter : {X : Type 0} (P : X → Type 0) (p : X → Bool) → ((x : X) → p x ≡ false → P x) → (xs : List X)
    → All P (filter p xs) → All P xs
unfilter P p out [] a = a
unfilter {X = X} P p out (x ∷ xs) a = by_test (p x) refl a (unfilter P p out xs)
  where
    by_test : (b : Bool) → p x ≡ b → All P (cond b (x ∷ filter p xs) (filter p xs)) → (All P (filter p xs) → All P xs)
        → All P (x ∷ xs)
    by_test true e k rest =
        All-cons P x xs (All-head P x (filter p xs) k) (rest (All-tail P x (filter p xs) k))
    by_test false e k rest = All-cons P x xs (out x e) (rest k)

-- where no head is in the class of an element, nothing is
pub heads_cover : {X : Type 0} (same : X → X → Bool) → IsEquivalence same → (c : X) (xs : List X)
    → All (λ y. same y c ≡ false) (heads same xs) → All (λ x. same x c ≡ false) xs
heads_cover same e c [] a = a
heads_cover {X = X} same e c (x ∷ xs) a =
    All-cons (λ y. same y c ≡ false) x xs first
    (heads_cover same e c xs (unfilter (λ y. same y c ≡ false) (λ y. not (same x y)) (λ y k. of_first y k)
    (heads same xs) (All-tail (λ y. same y c ≡ false) x (filter (λ y. not (same x y)) (heads same xs)) a)))
  where
    first : same x c ≡ false
    first = All-head (λ y. same y c ≡ false) x (filter (λ y. not (same x y)) (heads same xs)) a

    by_bool : (b : Bool) → not b ≡ false → b ≡ true
    by_bool true k = refl
    by_bool false k = absurd (false≢true (sym k))

    of_first : (y : X) → not (same x y) ≡ false → same y c ≡ false
    of_first y k = sym (e.congr x y c (by_bool (same x y) k)) ∙ first

any_or_all : {X : Type 0} (p : X → Bool) (xs : List X) → list_any p xs ≡ false → All (λ x. p x ≡ false) xs
any_or_all p [] h = All-nil (λ x. p x ≡ false)
any_or_all {X = X} p (x ∷ xs) h = by_test (p x) refl h (any_or_all p xs)
  where
    by_test : (b : Bool) → p x ≡ b → (b || list_any p xs) ≡ false
        → (list_any p xs ≡ false → All (λ x. p x ≡ false) xs) → All (λ x. p x ≡ false) (x ∷ xs)
    by_test true e k rest = absurd (false≢true (sym k))
    by_test false e k rest = All-cons (λ x. p x ≡ false) x xs e (rest k)

pub all_parts : {X : Type 0} (P : X → Type 0) (xs ys : List X) → All P (xs ++ ys) → All P xs × All P ys
all_parts P [] ys a = (All-nil P, a)
all_parts P (x ∷ xs) ys a =
    let rest = all_parts P xs ys (All-tail P x (xs ++ ys) a) in
    (All-cons P x xs (All-head P x (xs ++ ys) a) rest.0, rest.1)

pub all_of_map : {X Y : Type 0} (f : X → Y) (P : Y → Type 0) (xs : List X) → All P (map f xs) → All (λ x. P (f x)) xs
all_of_map f P [] a = All-nil (λ x. P (f x))
all_of_map f P (x ∷ xs) a =
    All-cons (λ x. P (f x)) x xs (All-head P (f x) (map f xs) a)
    (all_of_map f P xs (All-tail P (f x) (map f xs) a))

-- the groups of a list: their first members are the heads of its classes
module _ (tables : List (List (List Value))) (q : Statement) where
  abbrev same : List ℕ → List ℕ → Bool
  same = is_same_group tables q.groups

  abbrev cmp : List ℕ → List ℕ → Ordering
  cmp = keys_order tables (group_keys q.groups)

  -- what is in the class of a head adds none
  pub no_more_heads : (h fs : List (List ℕ)) (c : List ℕ) → HaveSame is_same (heads same h) fs
      → (All (λ f. same f c ≡ false) fs → ⊥) → heads same (h ++ c ∷ []) ≡ heads same h
  no_more_heads h fs c k some =
      heads_push same h c
      ∙ (ap (λ (b : Bool). heads same h ++ cond b [] (c ∷ [])) (by_any (list_any (λ x. same x c) h) refl)
      ∙ append-nil (heads same h))
    where
      by_any : (b : Bool) → list_any (λ x. same x c) h ≡ b → list_any (λ x. same x c) h ≡ true
      by_any true e = e
      by_any false e =
          absurd (some (all_of_same is_same exact_lists (λ x. same x c ≡ false) (heads same h) fs k
          (heads_all same (λ x. same x c ≡ false) h (any_or_all (λ x. same x c) h e))))

  -- no member of any group is in the class of what is in none of the groups
  pub none_there : (h fs : List (List ℕ)) (c : List ℕ) → HaveSame is_same (heads same h) fs
      → All (λ f. same f c ≡ false) fs → All (λ x. same x c ≡ false) h
  none_there h fs c k none =
      heads_cover same (same_group_equivalence tables q.groups) c h
      (all_of_same is_same exact_lists (λ x. same x c ≡ false) fs (heads same h) (λ m. sym (k m)) none)

  pub one_more_head : (h : List (List ℕ)) (c : List ℕ) → All (λ x. same x c ≡ false) h
      → heads same (h ++ c ∷ []) ≡ heads same h ++ c ∷ []
  one_more_head h c none =
      heads_push same h c
      ∙ ap (λ (b : Bool). heads same h ++ cond b [] (c ∷ [])) (list_any_none (λ x. same x c) h none)

  pub more_members : (f c : List ℕ) (h : List (List ℕ)) (b : Bool) → same f c ≡ b
      → filter (same f) (h ++ c ∷ []) ≡ filter (same f) h ++ cond b (c ∷ []) []
  more_members f c h b e =
      filter-append (same f) h (c ∷ []) ∙ ap (λ (k : Bool). filter (same f) h ++ cond k (c ∷ []) []) e

  pub same_members : (f c : List ℕ) (h : List (List ℕ)) → same f c ≡ false
      → filter (same f) (h ++ c ∷ []) ≡ filter (same f) h
  same_members f c h e = more_members f c h false e ∙ append-nil (filter (same f) h)

  pub no_members : (f : List ℕ) (h : List (List ℕ)) → All (λ x. same x f ≡ false) h → filter (same f) h ≡ []
  no_members f [] a = refl
  no_members f (x ∷ xs) a =
      ap (λ (b : Bool). cond b (x ∷ filter (same f) xs) (filter (same f) xs))
      ((same_group_equivalence tables q.groups).symm f x ∙ All-head (λ x. same x f ≡ false) x xs a)
      ∙ no_members f xs (All-tail (λ x. same x f ≡ false) x xs a)

  -- the other groups stay as they are
  abbrev HasTallies : List (List ℕ) → Group → Type 0
  HasTallies h group = AreTalliesOf tables group.first (filter (same group.first) h) q.items group.tallies.items

  others : (h : List (List ℕ)) (c : List ℕ) (gs : List Group) → All (λ g. same g.first c ≡ false) gs
      → All (HasTallies h) gs → All (HasTallies (h ++ c ∷ [])) gs
  others h c gs apart a =
      λ k d l. subst (λ (ms : List (List ℕ)). AreTalliesOf tables (get_or gs k d).first ms q.items
      (get_or gs k d).tallies.items) (sym (same_members (get_or gs k d).first c h (apart k d l))) (a k d l)

  firsts_go : (xs ys : List Group) (g : Group) → firsts (xs ++ g ∷ ys) ≡ firsts xs ++ g.first ∷ firsts ys
  firsts_go [] ys g = refl
  firsts_go (x ∷ xs) ys g = ap (λ (fs : List (List ℕ)). x.first ∷ fs) (firsts_go xs ys g)

  firsts_append : (xs ys : List Group) → firsts (xs ++ ys) ≡ firsts xs ++ firsts ys
  firsts_append [] ys = refl
  firsts_append (x ∷ xs) ys = ap (λ (fs : List (List ℕ)). x.first ∷ fs) (firsts_append xs ys)

  -- no combination has no group
  pub no_groups : AreGroupsOf q tables [] []
  unfolding IsStrictlySortedBy
  no_groups = record { heads_are = λ c. refl; tallies = All-nil (HasTallies []); in_order = tt }

  -- an order told at an element that ties another
  told_at : (x f c : List ℕ) → cmp f c ≡ Equal → cmp x c ≡ cmp x f
  told_at x f c e =
      o.antisymm x c ∙ (ap ordering_reverse (sym (o.congr f c x e)) ∙ sym (o.antisymm x f))
    where
      o : IsTotalOrder cmp
      o = keys_total tables (group_keys q.groups)

  less_apart : (x f c : List ℕ) → cmp f c ≡ Equal → cmp x f ≡ Less → same x c ≡ false
  less_apart x f c e l = ap is_eq (told_at x f c e ∙ l)

  greater_apart : (x f c : List ℕ) → cmp f c ≡ Equal → cmp f x ≡ Less → same x c ≡ false
  greater_apart x f c e l =
      ap is_eq (told_at x f c e ∙ (o.antisymm x f ∙ ap ordering_reverse l))
    where
      o : IsTotalOrder cmp
      o = keys_total tables (group_keys q.groups)

  -- one more member of a group that is there
  pub group_grows : (h : List (List ℕ)) (c : List ℕ) (xs ys : List Group) (g made : Group)
      → AreGroupsOf q tables h (xs ++ g ∷ ys) → cmp g.first c ≡ Equal → made.first ≡ g.first
      → ((members : List (List ℕ)) → AreTalliesOf tables g.first members q.items g.tallies.items
      → AreTalliesOf tables g.first (members ++ c ∷ []) q.items made.tallies.items)
      → AreGroupsOf q tables (h ++ c ∷ []) (xs ++ made ∷ ys)
  group_grows h c xs ys g made a e f more = record {
    heads_are =
        λ m. ap (times is_same m) (no_more_heads h (firsts (xs ++ g ∷ ys)) c a.heads_are some)
        ∙ (a.heads_are m ∙ ap (times is_same m) stay);
    tallies =
        All-append (HasTallies (h ++ c ∷ [])) xs (made ∷ ys)
        (others h c xs (λ k d l. less_apart (get_or xs k d).first g.first c e (before k d l)) both.0)
        (All-cons (HasTallies (h ++ c ∷ [])) made ys
        (subst (λ (first : List ℕ). AreTalliesOf tables first (filter (same first) (h ++ c ∷ [])) q.items
        made.tallies.items) (sym f) (subst (λ (ms : List (List ℕ)). AreTalliesOf tables g.first ms q.items
        made.tallies.items) (sym (more_members g.first c h true (ap is_eq e)))
        (more (filter (same g.first) h) (All-head (HasTallies h) g ys both.1))))
        (others h c ys (λ k d l. greater_apart (get_or ys k d).first g.first c e (behind k d l))
        (All-tail (HasTallies h) g ys both.1)));
    in_order = subst (λ (fs : List (List ℕ)). IsStrictlySortedBy cmp fs) stay a.in_order;
  }
    where
      both : All (HasTallies h) xs × All (HasTallies h) (g ∷ ys)
      both = all_parts (HasTallies h) xs (g ∷ ys) a.tallies

      stay : firsts (xs ++ g ∷ ys) ≡ firsts (xs ++ made ∷ ys)
      stay =
          firsts_go xs ys g
          ∙ (ap (λ (first : List ℕ). firsts xs ++ first ∷ firsts ys) (sym f) ∙ sym (firsts_go xs ys made))

      strict : IsStrictlySortedBy cmp (firsts xs ++ g.first ∷ firsts ys)
      strict = subst (λ (fs : List (List ℕ)). IsStrictlySortedBy cmp fs) (firsts_go xs ys g) a.in_order

      before : All (λ (x : Group). cmp x.first g.first ≡ Less) xs
      before =
          all_of_map (λ (group : Group). group.first) (λ x. cmp x g.first ≡ Less) xs
          (strict_before cmp (firsts xs) (firsts ys) g.first strict)

      behind : All (λ (y : Group). cmp g.first y.first ≡ Less) ys
      behind =
          all_of_map (λ (group : Group). group.first) (λ y. cmp g.first y ≡ Less) ys
          (strict_behind cmp (firsts xs) (firsts ys) g.first strict)

      some : All (λ x. same x c ≡ false) (firsts (xs ++ g ∷ ys)) → ⊥
      some none =
          false≢true (sym (All-head (λ x. same x c ≡ false) g.first (firsts ys)
          (all_parts (λ x. same x c ≡ false) (firsts xs) (g.first ∷ firsts ys)
          (subst (All (λ x. same x c ≡ false)) (firsts_go xs ys g) none)).1) ∙ ap is_eq e)

  -- the first member of a group that isn't there
  pub none_of_groups : (h : List (List ℕ)) (c : List ℕ) (xs ys : List Group) → AreGroupsOf q tables h (xs ++ ys)
      → All (λ (x : Group). cmp x.first c ≡ Less) xs → All (λ (y : Group). cmp y.first c ≡ Greater) ys
      → All (λ x. same x c ≡ false) h
  none_of_groups h c xs ys a l r =
      none_there h (firsts (xs ++ ys)) c a.heads_are
      (All-map (λ x. same x c ≡ false) (λ (group : Group). group.first) (xs ++ ys)
      (All-append (λ (x : Group). same x.first c ≡ false) xs ys (λ k d m. ap is_eq (l k d m))
      (λ k d m. ap is_eq (r k d m))))

  pub group_begins : (h : List (List ℕ)) (c : List ℕ) (xs ys : List Group) (made : Group)
      → AreGroupsOf q tables h (xs ++ ys) → All (λ (x : Group). cmp x.first c ≡ Less) xs
      → All (λ (y : Group). cmp y.first c ≡ Greater) ys → made.first ≡ c
      → AreTalliesOf tables c (c ∷ []) q.items made.tallies.items
      → AreGroupsOf q tables (h ++ c ∷ []) (xs ++ made ∷ ys)
  group_begins h c xs ys made a l r f begun = record {
    heads_are =
        λ m. ap (times is_same m) (one_more_head h c none)
        ∙ (times-append is_same m (heads same h) (c ∷ [])
        ∙ (ap (λ (n : ℕ). n + times is_same m (c ∷ [])) (a.heads_are m ∙ ap (times is_same m) (firsts_append xs ys))
        ∙ (moved m (firsts xs) (firsts ys) ∙ ap (times is_same m) (sym firsts_are))));
    tallies =
        All-append (HasTallies (h ++ c ∷ [])) xs (made ∷ ys)
        (others h c xs (λ k d m. ap is_eq (l k d m)) both.0)
        (All-cons (HasTallies (h ++ c ∷ [])) made ys
        (subst (λ (first : List ℕ). AreTalliesOf tables first (filter (same first) (h ++ c ∷ [])) q.items
        made.tallies.items) (sym f) (subst (λ (ms : List (List ℕ)). AreTalliesOf tables c ms q.items
        made.tallies.items) (sym alone) begun))
        (others h c ys (λ k d m. ap is_eq (r k d m)) both.1));
    in_order =
        subst (λ (fs : List (List ℕ)). IsStrictlySortedBy cmp fs) (sym firsts_are)
        (strict_put cmp (keys_total tables (group_keys q.groups)) (firsts xs) (firsts ys) c
        (subst (λ (fs : List (List ℕ)). IsStrictlySortedBy cmp fs) (firsts_append xs ys) a.in_order)
        (All-map (λ x. cmp x c ≡ Less) (λ (group : Group). group.first) xs l)
        (All-map (λ y. cmp y c ≡ Greater) (λ (group : Group). group.first) ys r));
  }
    where
      both : All (HasTallies h) xs × All (HasTallies h) ys
      both = all_parts (HasTallies h) xs ys a.tallies

      none : All (λ x. same x c ≡ false) h
      none = none_of_groups h c xs ys a l r

      alone : filter (same c) (h ++ c ∷ []) ≡ c ∷ []
      alone =
          more_members c c h true ((same_group_equivalence tables q.groups).refl c)
          ∙ ap (λ (ms : List (List ℕ)). ms ++ c ∷ []) (no_members c h none)

      firsts_are : firsts (xs ++ made ∷ ys) ≡ firsts xs ++ c ∷ firsts ys
      firsts_are = firsts_go xs ys made ∙ ap (λ (first : List ℕ). firsts xs ++ first ∷ firsts ys) f

      moved : (m : List ℕ) (fs gs : List (List ℕ))
          → times is_same m (fs ++ gs) + times is_same m (c ∷ []) ≡ times is_same m (fs ++ c ∷ gs)
      moved m fs gs =
          ap (λ (n : ℕ). n + times is_same m (c ∷ [])) (times-append is_same m fs gs)
          ∙ (by_bool (is_same m c) (times is_same m fs) (times is_same m gs)
          ∙ sym (times-append is_same m fs (c ∷ gs)))
        where
          by_bool : (b : Bool) (x y : ℕ) → (x + y) + cond b (suc 0) 0 ≡ x + cond b (suc y) y
          by_bool true x y = omega arith
          by_bool false x y = omega arith

pub kept_few : {X : Type 0} (p : X → Bool) (xs : List X) → length (filter p xs) ≤ length xs
kept_few p [] = omega arith
kept_few p (x ∷ xs) = by_test (p x) (kept_few p xs)
  where
    by_test : (b : Bool) → length (filter p xs) ≤ length xs → length (cond b (x ∷ filter p xs) (filter p xs)) ≤ suc (length xs)
    by_test true more = omega (arith, more)
    by_test false more = omega (arith, more)

-- fewer than 2 ^ 63 combinations leave room in each tally of each group
pub roomy : (q : Statement) (tables : List (List (List Value))) (h : List (List ℕ)) (groups : List Group)
    (items : List ReadyItem)
    → AreGroupsOf q tables h groups → map (λ (ready : ReadyItem). ready.item) items ≡ q.items → length h < 2 ^ 63
    → All (IsRoomy (length items)) groups
roomy q tables h groups items a e few =
    λ k d l.
    let members : List (List ℕ) = filter (is_same_group tables q.groups (get_or groups k d).first) h in
    let short : length members ≤ length h = kept_few (is_same_group tables q.groups (get_or groups k d).first) h in
    record {
      same_count =
          (a.tallies k d l).count
          ∙ (ap (λ (shown : List Item). length shown) (sym e)
          ∙ length-map items (λ (ready : ReadyItem). ready.item));
      room =
          tallies_room tables (get_or groups k d).first members q.items (get_or groups k d).tallies.items
          (a.tallies k d l) (omega (arith, short, few));
    }

-- a list that isn't empty
pub some_there : (n : ℕ) → false ≡ (n == 0) → 0 < n
some_there zero e = absurd (false≢true e)
some_there (suc n) e = omega arith
