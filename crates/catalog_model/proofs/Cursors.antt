-- What cursors hold beside the present versions, as a cursor is opened and as one is closed.
use Rattle.std.proofs.Common.{ℕ, ◌≡◌, ◌∙◌, ◌≤◌, ◌<◌, ◌+◌, ◌==◌, ◌||◌, not, List, [], ◌∷◌, ◌++◌, length, filter_map}
use Rattle.std.proofs.Common.{Bool}
use Rattle.std.proofs.Common.{true, false, cond, Option, Some, None, IfSome, All, ap, ap₂, refl, sym, subst, arith}
use Rattle.std.specs.List.{cons_option}
use Rattle.std.specs.Str.{bytes_eq}
use Rattle.std.proofs.lemmas.Bool.{and_from, and_parts, not-true, or_from, or_parts}
use Rattle.std.proofs.lemmas.Bool.Decides.{nat_tests}
use Rattle.std.proofs.lemmas.List.Elements.{All-append, All-cons, All-head, All-nil, All-tail, All-weaker}
use Rattle.std.proofs.lemmas.Slice.Eq.{bytes_eq-Decides}
use Rattle.row_values.specs.Statements.{Statement}
use Rattle.row_values.specs.declared.statement.Place.{Place}
use Rattle.catalog_model.specs.Catalogs.{Catalog, TableState, Version, find_version, put_version}
use Rattle.catalog_model.specs.Held.{HeldCursor, bytes_held, bytes_in, cells_held, cells_in, cells_of, cursors_differ}
use Rattle.catalog_model.specs.Held.{each_once, has_number, held_by, is_open, present_versions, versions_of}
use Rattle.catalog_model.specs.Held.{without_cursor}
use Rattle.catalog_model.specs.Sound.{AreNumbered, IsCatalog}
use Rattle.catalog_model.proofs.Names.{same_bytes}
use Rattle.catalog_model.proofs.Versions.{all_put}

-- Lists of versions, one behind the other.

append_assoc : {X : Type 0} (xs ys zs : List X) → (xs ++ ys) ++ zs ≡ xs ++ (ys ++ zs)
append_assoc [] ys zs = refl
append_assoc {X = X} (x ∷ xs) ys zs = ap (λ (rest : List X). x ∷ rest) (append_assoc xs ys zs)

append_none : {X : Type 0} (xs : List X) → xs ++ [] ≡ xs
append_none [] = refl
append_none {X = X} (x ∷ xs) = ap (λ (rest : List X). x ∷ rest) (append_none xs)

all_front : {X : Type 0} (P : X → Type 0) (xs ys : List X) → All P (xs ++ ys) → All P xs
all_front P [] ys a = All-nil P
all_front P (x ∷ xs) ys a = All-cons P x xs (All-head P x (xs ++ ys) a) (all_front P xs ys (All-tail P x (xs ++ ys) a))

all_back : {X : Type 0} (P : X → Type 0) (xs ys : List X) → All P (xs ++ ys) → All P ys
all_back P [] ys a = a
all_back P (x ∷ xs) ys a = all_back P xs ys (All-tail P x (xs ++ ys) a)

or_assoc : (a b c : Bool) → ((a || b) || c) ≡ (a || (b || c))
or_assoc true b c = refl
or_assoc false b c = refl

or_between : (a b c : Bool) → (a || (b || c)) ≡ (b || (a || c))
or_between true true c = refl
or_between true false c = refl
or_between false b c = refl

number_in_both : (n : ℕ) (xs ys : List Version) → has_number n (xs ++ ys) ≡ (has_number n xs || has_number n ys)
number_in_both n [] ys = refl
number_in_both n (x ∷ xs) ys =
    ap (λ (rest : Bool). (x.number == n) || rest) (number_in_both n xs ys)
    ∙ sym (or_assoc (x.number == n) (has_number n xs) (has_number n ys))

number_with : (n : ℕ) (xs zs : List Version) (y : Version)
    → has_number n (xs ++ y ∷ zs) ≡ ((y.number == n) || has_number n (xs ++ zs))
number_with n [] zs y = refl
number_with n (x ∷ xs) zs y =
    ap (λ (rest : Bool). (x.number == n) || rest) (number_with n xs zs y)
    ∙ or_between (x.number == n) (y.number == n) (has_number n (xs ++ zs))

-- A cursor is opened: what it holds is present, and counts there already.

abbrev IsIn : List Version → Version → Type 0
IsIn present version = has_number version.number present ≡ true

same_number : (a b : ℕ) → (a == b) ≡ true → a ≡ b
same_number a b e = grind (arith, nat_tests)

own_number : (a : ℕ) → (a == a) ≡ true
own_number a = grind (arith, nat_tests)

number_through : (n : ℕ) (new present : List Version) → All (IsIn present) new
    → has_number n (new ++ present) ≡ has_number n present
number_through n [] present a = refl
number_through n (v ∷ new) present a =
    by_test (v.number == n) refl (number_through n new present (All-tail (IsIn present) v new a))
  where
    by_test : (test : Bool) → (v.number == n) ≡ test → has_number n (new ++ present) ≡ has_number n present
        → (test || has_number n (new ++ present)) ≡ has_number n present
    by_test true e later =
        sym (ap (λ (m : ℕ). has_number m present) (sym (same_number v.number n e))
        ∙ All-head (IsIn present) v new a)
    by_test false e later = later

once_through : (new present : List Version) → All (IsIn present) new → each_once (new ++ present) ≡ each_once present
once_through [] present a = refl
once_through (v ∷ new) present a =
    let rest = All-tail (IsIn present) v new a in
    let there : has_number v.number (new ++ present) ≡ true =
    number_through v.number new present rest ∙ All-head (IsIn present) v new a in
    rw there (once_through new present rest)

once_beside : (held new present : List Version) → All (IsIn present) new
    → each_once (held ++ (new ++ present)) ≡ each_once (held ++ present)
once_beside [] new present a = once_through new present a
once_beside (h ∷ held) new present a =
    let number : has_number h.number (held ++ (new ++ present)) ≡ has_number h.number (held ++ present) =
    number_in_both h.number held (new ++ present)
    ∙ (ap (λ (rest : Bool). has_number h.number held || rest) (number_through h.number new present a)
    ∙ sym (number_in_both h.number held present)) in
    ap₂ (λ (test : Bool) (rest : List Version). cond test rest (h ∷ rest)) number (once_beside held new present a)

all_own : (present : List Version) → All (IsIn present) present
all_own [] = All-nil (IsIn [])
all_own (v ∷ present) =
    All-cons (IsIn (v ∷ present)) v present (by_test (v.number == v.number) (own_number v.number))
    (All-weaker (IsIn present) (IsIn (v ∷ present)) (λ w h. behind (v.number == w.number) h) present (all_own present))
  where
    by_test : (test : Bool) → test ≡ true → (test || has_number v.number present) ≡ true
    by_test true e = refl
    by_test false e = absurd cc

    behind : {rest : Bool} (test : Bool) → rest ≡ true → (test || rest) ≡ true
    behind true e = refl
    behind false e = e

found_has : (P : Version → Type 0) (ts : List TableState) (name : List ℕ) → All P (present_versions ts)
    → IfSome (find_version ts name) P
found_has P [] name a = tt
found_has P (t ∷ ts) name a =
    by_test (bytes_eq name t.name) (found_has P ts name (All-tail P t.now (present_versions ts) a))
  where
    by_test : (test : Bool) → IfSome (find_version ts name) P
        → IfSome (cond test (Some t.now) (find_version ts name)) P
    by_test true later = All-head P t.now (present_versions ts) a
    by_test false later = later

-- what each present version has, each has that a statement's cursor holds
all_found : (P : Version → Type 0) (ts : List TableState) (places : List Place) → All P (present_versions ts)
    → All P (filter_map (λ place. find_version ts place.table) places)
all_found P ts [] a = All-nil P
all_found P ts (place ∷ places) a =
    by_found (find_version ts place.table) (found_has P ts place.table a) (all_found P ts places a)
  where
    by_found : (found : Option Version) → IfSome found P
        → All P (filter_map (λ place. find_version ts place.table) places)
        → All P (cons_option found (filter_map (λ place. find_version ts place.table) places))
    by_found None h later = later
    by_found (Some v) h later = All-cons P v (filter_map (λ place. find_version ts place.table) places) h later

held_behind : (cursors : List HeldCursor) (cursor : HeldCursor) → held_by (cursors ++ cursor ∷ [])
    ≡ held_by cursors ++ cursor.held
held_behind [] cursor = append_none cursor.held
held_behind (first ∷ cursors) cursor =
    ap (λ (rest : List Version). first.held ++ rest) (held_behind cursors cursor)
    ∙ sym (append_assoc first.held (held_by cursors) cursor.held)

behind_all : (cursors : List HeldCursor) (cursor : HeldCursor) (present : List Version)
    → held_by (cursors ++ cursor ∷ []) ++ present ≡ held_by cursors ++ (cursor.held ++ present)
behind_all cursors cursor present =
    ap (λ (held : List Version). held ++ present) (held_behind cursors cursor)
    ∙ append_assoc (held_by cursors) cursor.held present

-- A cursor is closed: no more is held than before.

-- a version of a number that no other has counts where it stands
alone : (size : Version → ℕ) (total : List Version → ℕ)
    → ((v : Version) (vs : List Version) → total (v ∷ vs) ≡ size v + total vs) → (xs zs : List Version) (y : Version)
    → has_number y.number (xs ++ zs) ≡ false
    → total (each_once (xs ++ y ∷ zs)) ≡ size y + total (each_once (xs ++ zs))
alone size total more [] zs y apart = rw apart (more y (each_once zs))
alone size total more (x ∷ xs) zs y apart =
    let p = or_parts (x.number == y.number) (has_number y.number (xs ++ zs)) apart in
    let other : (y.number == x.number) ≡ false = turned x.number y.number p.0 in
    let number : has_number x.number (xs ++ y ∷ zs) ≡ has_number x.number (xs ++ zs) =
    number_with x.number xs zs y ∙ ap (λ (test : Bool). test || has_number x.number (xs ++ zs)) other in
    let rest = alone size total more xs zs y p.1 in
    rw number (by_test (has_number x.number (xs ++ zs)) rest)
  where
    turned : (a b : ℕ) → (a == b) ≡ false → (b == a) ≡ false
    turned a b e = grind (arith, nat_tests)

    by_test : (test : Bool) → total (each_once (xs ++ y ∷ zs)) ≡ size y + total (each_once (xs ++ zs))
        → total (cond test (each_once (xs ++ y ∷ zs)) (x ∷ each_once (xs ++ y ∷ zs)))
        ≡ size y + total (cond test (each_once (xs ++ zs)) (x ∷ each_once (xs ++ zs)))
    by_test true rest = rest
    by_test false rest =
        let a = more x (each_once (xs ++ y ∷ zs)) in
        let b = more x (each_once (xs ++ zs)) in
        omega (arith, a, b, rest)

-- where each number stands for one version, leaving one out makes no more
fewer_by_one : (size : Version → ℕ) (total : List Version → ℕ)
    → ((v : Version) (vs : List Version) → total (v ∷ vs) ≡ size v + total vs) → (at : ℕ → Version)
    → (xs zs : List Version) (y : Version) → at y.number ≡ y → All (λ x. at x.number ≡ x) xs
    → total (each_once (xs ++ zs)) ≤ total (each_once (xs ++ y ∷ zs))
fewer_by_one size total more at [] zs y here a = by_test (has_number y.number zs)
  where
    by_test : (test : Bool) → total (each_once zs) ≤ total (cond test (each_once zs) (y ∷ each_once zs))
    by_test true = omega arith
    by_test false = let m = more y (each_once zs) in omega (arith, m)
fewer_by_one size total more at (x ∷ xs) zs y here a =
    rw (number_with x.number xs zs y)
    (by_tests (has_number x.number (xs ++ zs)) (y.number == x.number) refl refl
    (fewer_by_one size total more at xs zs y here (All-tail (λ x. at x.number ≡ x) x xs a)))
  where
    by_tests : (later same : Bool) → has_number x.number (xs ++ zs) ≡ later → (y.number == x.number) ≡ same
        → total (each_once (xs ++ zs)) ≤ total (each_once (xs ++ y ∷ zs))
        → total (cond later (each_once (xs ++ zs)) (x ∷ each_once (xs ++ zs)))
        ≤ total (cond (same || later) (each_once (xs ++ y ∷ zs)) (x ∷ each_once (xs ++ y ∷ zs)))
    by_tests true true l s rest = rest
    by_tests true false l s rest = rest
    by_tests false false l s rest =
        let b = more x (each_once (xs ++ y ∷ zs)) in
        let c = more x (each_once (xs ++ zs)) in
        omega (arith, b, c, rest)
    by_tests false true l s rest =
        let e : y.number ≡ x.number = same_number y.number x.number s in
        let apart : has_number y.number (xs ++ zs) ≡ false =
        ap (λ (n : ℕ). has_number n (xs ++ zs)) e ∙ l in
        let one : x ≡ y = sym (All-head (λ x. at x.number ≡ x) x xs a) ∙ (ap at (sym e) ∙ here) in
        let sizes : size x ≡ size y = ap size one in
        let b = alone size total more xs zs y apart in
        let c = more x (each_once (xs ++ zs)) in
        omega (arith, b, c, sizes)

fewer : (size : Version → ℕ) (total : List Version → ℕ)
    → ((v : Version) (vs : List Version) → total (v ∷ vs) ≡ size v + total vs) → (at : ℕ → Version)
    → (xs ys zs : List Version) → All (λ x. at x.number ≡ x) xs → All (λ y. at y.number ≡ y) ys
    → total (each_once (xs ++ zs)) ≤ total (each_once (xs ++ (ys ++ zs)))
fewer size total more at xs [] zs a b = omega arith
fewer size total more at xs (y ∷ ys) zs a b =
    let one = fewer_by_one size total more at xs (ys ++ zs) y (All-head (λ y. at y.number ≡ y) y ys b) a in
    let rest = fewer size total more at xs ys zs a (All-tail (λ y. at y.number ≡ y) y ys b) in
    omega (arith, one, rest)

-- what a cursor held stood between what those before it and those behind it hold
record Parted (before after : List Version) : Type 0 where
  pub xs : List Version
  pub ys : List Version
  pub zs : List Version
  pub all : before ≡ xs ++ (ys ++ zs)
  pub left : after ≡ xs ++ zs

parted : (name : List ℕ) (cursors : List HeldCursor) → Parted (held_by cursors) (held_by (without_cursor name cursors))
parted name [] = record { xs = []; ys = []; zs = []; all = refl; left = refl }
parted name (c ∷ cursors) = by_test (bytes_eq c.name name) (parted name cursors)
  where
    by_test : (test : Bool) → Parted (held_by cursors) (held_by (without_cursor name cursors))
        → Parted (c.held ++ held_by cursors) (held_by (cond test cursors (c ∷ without_cursor name cursors)))
    by_test true rest = record { xs = []; ys = c.held; zs = held_by cursors; all = refl; left = refl }
    by_test false rest = record {
      xs = c.held ++ rest.xs;
      ys = rest.ys;
      zs = rest.zs;
      all = ap (λ (vs : List Version). c.held ++ vs) rest.all ∙ sym (append_assoc c.held rest.xs (rest.ys ++ rest.zs));
      left = ap (λ (vs : List Version). c.held ++ vs) rest.left ∙ sym (append_assoc c.held rest.xs rest.zs);
    }

-- the same with the present versions behind them
parted_all : (name : List ℕ) (cursors : List HeldCursor) (present : List Version)
    → Parted (held_by cursors ++ present) (held_by (without_cursor name cursors) ++ present)
parted_all name cursors present =
    let p = parted name cursors in
    record {
      xs = p.xs;
      ys = p.ys;
      zs = p.zs ++ present;
      all = ap (λ (vs : List Version). vs ++ present) p.all
          ∙ (append_assoc p.xs (p.ys ++ p.zs) present
          ∙ ap (λ (vs : List Version). p.xs ++ vs) (append_assoc p.ys p.zs present));
      left = ap (λ (vs : List Version). vs ++ present) p.left ∙ append_assoc p.xs p.zs present;
    }

fewer_left : (size : Version → ℕ) (total : List Version → ℕ)
    → ((v : Version) (vs : List Version) → total (v ∷ vs) ≡ size v + total vs) → (next : ℕ)
    (before after : List Version)
    → AreNumbered next before → Parted before after → total (each_once after) ≤ total (each_once before)
fewer_left size total more next before after numbered p =
    let all : All (λ v. numbered.version_of v.number ≡ v) (p.xs ++ (p.ys ++ p.zs)) =
    subst (All (λ v. numbered.version_of v.number ≡ v)) p.all numbered.one_each in
    let some = fewer size total more numbered.version_of p.xs p.ys p.zs
    (all_front (λ v. numbered.version_of v.number ≡ v) p.xs (p.ys ++ p.zs) all)
    (all_front (λ v. numbered.version_of v.number ≡ v) p.ys p.zs
    (all_back (λ v. numbered.version_of v.number ≡ v) p.xs (p.ys ++ p.zs) all)) in
    let a : total (each_once after) ≡ total (each_once (p.xs ++ p.zs)) =
    ap (λ (vs : List Version). total (each_once vs)) p.left in
    let b : total (each_once before) ≡ total (each_once (p.xs ++ (p.ys ++ p.zs))) =
    ap (λ (vs : List Version). total (each_once vs)) p.all in
    omega (arith, some, a, b)

all_left : (P : Version → Type 0) (before after : List Version) → Parted before after → All P before → All P after
all_left P before after p a =
    let all : All P (p.xs ++ (p.ys ++ p.zs)) = subst (All P) p.all a in
    subst (All P) (sym p.left)
    (All-append P p.xs p.zs (all_front P p.xs (p.ys ++ p.zs) all)
    (all_back P p.ys p.zs (all_back P p.xs (p.ys ++ p.zs) all)))

-- Names of cursors.

names_turned : (a b : List ℕ) → bytes_eq a b ≡ false → bytes_eq b a ≡ false
names_turned a b e = by_test (bytes_eq b a) refl
  where
    by_test : (test : Bool) → bytes_eq b a ≡ test → test ≡ false
    by_test true h =
        let same : bytes_eq a b ≡ true = (bytes_eq-Decides a b).1 (sym (same_bytes b a h)) in
        let bad : false ≡ true = sym e ∙ same in
        absurd cc
    by_test false h = refl

open_behind : (cursors : List HeldCursor) (new : HeldCursor) (name : List ℕ) → bytes_eq new.name name ≡ false
    → is_open name cursors ≡ false → is_open name (cursors ++ new ∷ []) ≡ false
open_behind [] new name other h = or_from (bytes_eq new.name name) false other refl
open_behind (c ∷ cursors) new name other h =
    let p = or_parts (bytes_eq c.name name) (is_open name cursors) h in
    or_from (bytes_eq c.name name) _ p.0 (open_behind cursors new name other p.1)

-- names differ still as a cursor of a new name is opened, and as one is closed
pub differ_opened : (cursors : List HeldCursor) (new : HeldCursor) → is_open new.name cursors ≡ false
    → cursors_differ cursors ≡ true → cursors_differ (cursors ++ new ∷ []) ≡ true
differ_opened [] new h d = refl
differ_opened (c ∷ cursors) new h d =
    let p = or_parts (bytes_eq c.name new.name) (is_open new.name cursors) h in
    let q = and_parts (not (is_open c.name cursors)) (cursors_differ cursors) d in
    and_from _ _
    (ap not (open_behind cursors new c.name (names_turned c.name new.name p.0) (not-true _ q.0)))
    (differ_opened cursors new p.1 q.1)

open_without : (cursors : List HeldCursor) (closed name : List ℕ) → is_open name cursors ≡ false
    → is_open name (without_cursor closed cursors) ≡ false
open_without [] closed name h = refl
open_without (c ∷ cursors) closed name h =
    let p = or_parts (bytes_eq c.name name) (is_open name cursors) h in
    by_test (bytes_eq c.name closed) p.0 p.1 (open_without cursors closed name p.1)
  where
    by_test : (test : Bool) → bytes_eq c.name name ≡ false → is_open name cursors ≡ false
        → is_open name (without_cursor closed cursors) ≡ false
        → is_open name (cond test cursors (c ∷ without_cursor closed cursors)) ≡ false
    by_test true first rest later = rest
    by_test false first rest later = or_from (bytes_eq c.name name) _ first later

pub differ_closed : (cursors : List HeldCursor) (closed : List ℕ) → cursors_differ cursors ≡ true
    → cursors_differ (without_cursor closed cursors) ≡ true
differ_closed [] closed d = refl
differ_closed (c ∷ cursors) closed d =
    let q = and_parts (not (is_open c.name cursors)) (cursors_differ cursors) d in
    by_test (bytes_eq c.name closed) (not-true _ q.0) q.1 (differ_closed cursors closed q.1)
  where
    by_test : (test : Bool) → is_open c.name cursors ≡ false → cursors_differ cursors ≡ true
        → cursors_differ (without_cursor closed cursors) ≡ true
        → cursors_differ (cond test cursors (c ∷ without_cursor closed cursors)) ≡ true
    by_test true first rest later = rest
    by_test false first rest later = and_from _ _ (ap not (open_without cursors closed c.name first)) later

-- no more cursors are open
pub few_left : (cursors : List HeldCursor) (closed : List ℕ)
    → length (without_cursor closed cursors) ≤ length cursors
few_left [] closed = omega arith
few_left (c ∷ cursors) closed = by_test (bytes_eq c.name closed) (few_left cursors closed)
  where
    by_test : (test : Bool) → length (without_cursor closed cursors) ≤ length cursors
        → length (cond test cursors (c ∷ without_cursor closed cursors)) ≤ length (c ∷ cursors)
    by_test true later = omega arith
    by_test false later = omega (arith, later)

-- The catalog and the numbers.

-- a catalog is sound beside other held versions that need no more
beside : (held now : List Version) (catalog : Catalog) → IsCatalog held catalog
    → cells_held (now ++ present_versions catalog.tables) ≤ cells_held (held ++ present_versions catalog.tables)
    → bytes_held (now ++ present_versions catalog.tables) ≤ bytes_held (held ++ present_versions catalog.tables)
    → IsCatalog now catalog
beside held now catalog sound cells bytes =
    let few_cells = sound.few_cells in
    let few_bytes = sound.few_bytes in
    record {
      weights = sound.weights;
      table_names = sound.table_names;
      statement_names = sound.statement_names;
      version_numbers = sound.version_numbers;
      numbered = sound.numbered;
      are_tables = sound.are_tables;
      are_sound = sound.are_sound;
      loaded = sound.loaded;
      few_tables = sound.few_tables;
      few_statements = sound.few_statements;
      few_cells = omega (arith, cells, few_cells);
      few_bytes = omega (arith, bytes, few_bytes);
    }

-- a cursor is opened over a statement
pub opened : (cursors : List HeldCursor) (name : List ℕ) (catalog : Catalog) (q : Statement)
    → IsCatalog (held_by cursors) catalog
    → IsCatalog (held_by (cursors ++ record { name = name; held = versions_of catalog.tables q } ∷ [])) catalog
opened cursors name catalog q sound =
    let new : HeldCursor = record { name = name; held = versions_of catalog.tables q } in
    let present : List Version = present_versions catalog.tables in
    let once : each_once (held_by (cursors ++ new ∷ []) ++ present) ≡ each_once (held_by cursors ++ present) =
    ap each_once (behind_all cursors new present)
    ∙ once_beside (held_by cursors) new.held present
    (all_found (IsIn present) catalog.tables q.places (all_own present)) in
    let cells : cells_held (held_by (cursors ++ new ∷ []) ++ present) ≡ cells_held (held_by cursors ++ present) =
    ap cells_in once in
    let bytes : bytes_held (held_by (cursors ++ new ∷ []) ++ present) ≡ bytes_held (held_by cursors ++ present) =
    ap bytes_in once in
    beside (held_by cursors) (held_by (cursors ++ new ∷ [])) catalog sound (omega (arith, cells)) (omega (arith, bytes))

pub numbered_opened : (cursors : List HeldCursor) (name : List ℕ) (catalog : Catalog) (q : Statement)
    → AreNumbered catalog.versions (held_by cursors ++ present_versions catalog.tables)
    → AreNumbered catalog.versions
    (held_by (cursors ++ record { name = name; held = versions_of catalog.tables q } ∷ [])
    ++ present_versions catalog.tables)
numbered_opened cursors name catalog q numbered = record {
  version_of = numbered.version_of;
  one_each = more (λ v. numbered.version_of v.number ≡ v) numbered.one_each;
  before = more (λ v. v.number < catalog.versions) numbered.before;
}
  where
    more : (P : Version → Type 0) → All P (held_by cursors ++ present_versions catalog.tables)
        → All P (held_by (cursors ++ record { name = name; held = versions_of catalog.tables q } ∷ [])
        ++ present_versions catalog.tables)
    more P a =
        let new : HeldCursor = record { name = name; held = versions_of catalog.tables q } in
        let present : List Version = present_versions catalog.tables in
        let here : All P present = all_back P (held_by cursors) present a in
        subst (All P) (sym (behind_all cursors new present))
        (All-append P (held_by cursors) (new.held ++ present) (all_front P (held_by cursors) present a)
        (All-append P new.held present (all_found P catalog.tables q.places here) here))

-- a cursor is closed
pub closed : (cursors : List HeldCursor) (name : List ℕ) (catalog : Catalog) → IsCatalog (held_by cursors) catalog
    → AreNumbered catalog.versions (held_by cursors ++ present_versions catalog.tables)
    → IsCatalog (held_by (without_cursor name cursors)) catalog
closed cursors name catalog sound numbered =
    let p = parted_all name cursors (present_versions catalog.tables) in
    beside (held_by cursors) (held_by (without_cursor name cursors)) catalog sound
    (fewer_left (λ v. cells_of v.content) cells_in (λ v vs. refl) catalog.versions _ _ numbered p)
    (fewer_left (λ v. v.bytes) bytes_in (λ v vs. refl) catalog.versions _ _ numbered p)

pub numbered_closed : (cursors : List HeldCursor) (name : List ℕ) (catalog : Catalog)
    → AreNumbered catalog.versions (held_by cursors ++ present_versions catalog.tables)
    → AreNumbered catalog.versions
    (held_by (without_cursor name cursors) ++ present_versions catalog.tables)
numbered_closed cursors name catalog numbered =
    let p = parted_all name cursors (present_versions catalog.tables) in
    record {
      version_of = numbered.version_of;
      one_each = all_left (λ v. numbered.version_of v.number ≡ v) _ _ p numbered.one_each;
      before = all_left (λ v. v.number < catalog.versions) _ _ p numbered.before;
    }

-- a version of the next number is put
put_among : (P : Version → Type 0) (held : List Version) (ts : List TableState) (name : List ℕ) (version : Version)
    → P version → All P (held ++ present_versions ts) → All P (held ++ present_versions (put_version ts name version))
put_among P held ts name version here a =
    All-append P held (present_versions (put_version ts name version)) (all_front P held (present_versions ts) a)
    (mapped (put_version ts name version)
    (all_put P ts name version here (unmapped ts (all_back P held (present_versions ts) a))))
  where
    mapped : (ts : List TableState) → All (λ (t : TableState). P t.now) ts → All P (present_versions ts)
    mapped [] a = All-nil P
    mapped (t ∷ ts) a =
        All-cons P t.now (present_versions ts) (All-head (λ (t : TableState). P t.now) t ts a)
        (mapped ts (All-tail (λ (t : TableState). P t.now) t ts a))

    unmapped : (ts : List TableState) → All P (present_versions ts) → All (λ (t : TableState). P t.now) ts
    unmapped [] a = All-nil (λ (t : TableState). P t.now)
    unmapped (t ∷ ts) a =
        All-cons (λ (t : TableState). P t.now) t ts (All-head P t.now (present_versions ts) a)
        (unmapped ts (All-tail P t.now (present_versions ts) a))

pub numbered_put : (held : List Version) (ts : List TableState) (name : List ℕ) (version : Version)
    → AreNumbered version.number (held ++ present_versions ts)
    → AreNumbered (version.number + 1) (held ++ present_versions (put_version ts name version))
numbered_put held ts name version numbered = record {
  version_of = now;
  one_each = put_among (λ v. now v.number ≡ v) held ts name version (here _ (own_number version.number))
      (kept (held ++ present_versions ts) numbered.one_each numbered.before);
  before = put_among (λ v. v.number < version.number + 1) held ts name version (omega arith)
      (All-weaker (λ v. v.number < version.number) (λ v. v.number < version.number + 1) (λ v h. omega (arith, h))
      (held ++ present_versions ts) numbered.before);
}
  where
    now : ℕ → Version
    now n = cond (n == version.number) version (numbered.version_of n)

    here : (test : Bool) → test ≡ true → cond test version (numbered.version_of version.number) ≡ version
    here true e = refl
    here false e = absurd cc

    kept : (vs : List Version) → All (λ v. numbered.version_of v.number ≡ v) vs
        → All (λ v. v.number < version.number) vs → All (λ v. now v.number ≡ v) vs
    kept [] a b = All-nil (λ v. now v.number ≡ v)
    kept (v ∷ vs) a b =
        let less : v.number < version.number = All-head (λ v. v.number < version.number) v vs b in
        let apart : (v.number == version.number) ≡ false = grind (arith, nat_tests) in
        let old : numbered.version_of v.number ≡ v = All-head (λ v. numbered.version_of v.number ≡ v) v vs a in
        All-cons (λ v. now v.number ≡ v) v vs (rw apart old)
        (kept vs (All-tail (λ v. numbered.version_of v.number ≡ v) v vs a)
        (All-tail (λ v. v.number < version.number) v vs b))
