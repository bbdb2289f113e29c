-- Plans: each is read from its spelling, and what is read is spelled so.
use Rattle.std.proofs.Common.{ℕ, zero, suc, ◌≡◌, ◌≤◌, ◌<◌, ◌+◌, ◌-◌, ◌==◌, max, ◌⊎◌, inl, inr, List, [], ◌∷◌, ◌++◌}
use Rattle.std.proofs.Common.{length, codes, Bool, true, false, Some, None, if◌then◌else◌, refl, sym, ap, ◌∙◌, subst}
use Rattle.std.proofs.Common.{arith, append_assoc}
use Rattle.std.proofs.lemmas.Bool.{eqb-true}
use Rattle.row_values.specs.Statements.{Statement}
use Rattle.plan_trees.specs.declared.plans.Access.{Access}
use Rattle.plan_trees.specs.declared.plans.Access.TheVariants.{Seq, Range, Full}
use Rattle.plan_trees.specs.declared.plans.StepKind.{StepKind}
use Rattle.plan_trees.specs.declared.plans.StepKind.TheVariants.{Loop, Probe}
use Rattle.plan_trees.specs.declared.reading.Form.{Form}
use Rattle.plan_trees.specs.declared.reading.Form.TheVariants as form
use Rattle.plan_trees.specs.Reading.{◌>>=◌, after, after_byte, place_at, number_at, access_at, form_at, closed_at}
use Rattle.plan_trees.specs.Reading.{joined_at, base_at, plan_at, whole_at, top_at}
use Rattle.plan_trees.specs.Spelling.{HasStep, HasParts, IsPlanText, nesting, place_text, number_text, access_text}
use Rattle.plan_trees.specs.Spelling.{step_name, step_text, plan_text, top_text}
use Rattle.plan_trees.specs.Trees.{Tree, Base, Join, HashJoin, Sort, TopTree, Rows, SortedGroups, HashGroups}
use Rattle.plan_trees.specs.Trees.{plan_below}
use Rattle.plan_trees.proofs.Words.{plan_more}
use Rattle.plan_trees.proofs.NameLaws.{bracket, comma}
use Rattle.plan_trees.proofs.ReadLaws.{Bound, bind_some, byte_taken, word_taken}
use Rattle.plan_trees.proofs.PieceLaws.{IsReadable, place_front, place_taken, number_front, number_taken}
use Rattle.plan_trees.proofs.AccessLaws.{chosen_some, access_front, access_taken}

-- Forms.

abbrev form_of : StepKind → Form
form_of (Loop access) = form.Loop
form_of (Probe place edge) = form.Probe

abbrev form_name : Form → List ℕ
form_name form.Loop = codes "loop("
form_name form.Probe = codes "probe("
form_name form.Sort = codes "sort("

form_front : (step : StepKind) (rest : List ℕ) → form_at (step_name step ++ rest) ≡ Some (form_of step, rest)
unfolding form_at
form_front (Loop access) rest = refl
form_front (Probe place edge) rest = refl

sort_front : (rest : List ℕ) → form_at (codes "sort(" ++ rest) ≡ Some (form.Sort, rest)
unfolding form_at
sort_front rest = refl

no_form : (q : Statement) (access : Access) (rest : List ℕ) → form_at (access_text q.places access ++ rest) ≡ None
unfolding form_at
no_form q (Seq t) rest = refl
no_form q (Range t c j) rest = refl
no_form q (Full t c) rest = refl

form_taken : (text : List ℕ) (found : Form × List ℕ) → form_at text ≡ Some found → text ≡ form_name found.0 ++ found.1
unfolding form_at
form_taken text found e =
    elim (chosen_some (after (codes "loop(") text) (λ rest. Some (form.Loop, rest)) _ found e) [
      | inl b ↦ let same : (form.Loop, b.value) ≡ found =
          cc in subst (λ (f : Form × List ℕ). text
          ≡ form_name f.0 ++ f.1) same (word_taken (codes "loop(") text b.value b.first)
      | inr e2 ↦ elim (chosen_some (after (codes "probe(") text) (λ rest. Some (form.Probe, rest)) _ found e2) [
        | inl b ↦ let same : (form.Probe, b.value) ≡ found =
            cc in subst (λ (f : Form × List ℕ). text
            ≡ form_name f.0 ++ f.1) same (word_taken (codes "probe(") text b.value b.first)
        | inr e3 ↦ elim (chosen_some (after (codes "sort(") text) (λ rest. Some (form.Sort, rest)) None found e3) [
          | inl b ↦ let same : (form.Sort, b.value) ≡ found =
              cc in subst (λ (f : Form × List ℕ). text
              ≡ form_name f.0 ++ f.1) same (word_taken (codes "sort(") text b.value b.first)
          | inr e4 ↦ cc
        ]
      ]
    ]

-- A hash join is no form over one plan.

step_no_hash : (step : StepKind) (rest : List ℕ) → after (codes "hash(") (step_name step ++ rest) ≡ None
step_no_hash (Loop access) rest = refl
step_no_hash (Probe place edge) rest = refl

access_no_hash : (q : Statement) (access : Access) (rest : List ℕ)
    → after (codes "hash(") (access_text q.places access ++ rest) ≡ None
access_no_hash q (Seq t) rest = refl
access_no_hash q (Range t c j) rest = refl
access_no_hash q (Full t c) rest = refl

-- What stands behind the outer plan.

closed_front : (q : Statement) (step : StepKind) (outer : Tree) (rest : List ℕ) → IsReadable q → HasStep q step
    → closed_at q (form_of step) outer (step_text q.places step ++ rest) ≡ Some (Join outer step, rest)
unfolding closed_at
closed_front q (Loop access) outer rest readable there =
    ap (λ (text : List ℕ). access_at q text >>= λ a. after_byte 41 a.1 >>= λ r. Some (Join outer (Loop a.0), r))
    (append_assoc (access_text q.places access) (41 ∷ []) rest)
    ∙ rw (access_front q access (41 ∷ rest) readable there) refl
closed_front q (Probe place edge) outer rest readable there =
    ap (λ (text : List ℕ). place_at 44 q.places text >>= λ p. number_at 41 (length q.edges) p.1 >>= λ e.
    Some (Join outer (Probe p.0 e.0), e.1))
    (in_probe (place_text q.places place) (number_text edge) rest)
    ∙ rw (place_front q 44 place (number_text edge ++ 41 ∷ rest) readable comma there.0)
    (rw (number_front 41 (length q.edges) edge rest bracket readable.edges there.1) refl)
  where
    in_probe : (a b r : List ℕ) → (((a ++ 44 ∷ []) ++ b) ++ 41 ∷ []) ++ r ≡ a ++ 44 ∷ (b ++ 41 ∷ r)
    in_probe a b r = simp append_assoc

pub record TakenClosed (q : Statement) (f : Form) (outer : Tree) (text : List ℕ) (found : Tree × List ℕ) : Type 0 where
  pub parts : HasParts q outer → HasParts q found.0
  pub deeper : nesting found.0 ≡ nesting outer + 1
  pub taken : form_name f ++ (plan_text q.places outer ++ text) ≡ plan_text q.places found.0 ++ found.1

in_order : (name outer step text rest : List ℕ) → text ≡ step ++ rest → name ++ (outer ++ text)
    ≡ ((name ++ outer) ++ step) ++ rest
in_order name outer step text rest e = rw e (simp append_assoc)

two_parts : (a b r : List ℕ) → a ++ 44 ∷ (b ++ 41 ∷ r) ≡ (((a ++ 44 ∷ []) ++ b) ++ 41 ∷ []) ++ r
two_parts a b r = simp append_assoc

closed_taken : (q : Statement) (f : Form) (outer : Tree) (text : List ℕ) (found : Tree × List ℕ)
    → closed_at q f outer text ≡ Some found → TakenClosed q f outer text found
unfolding closed_at
closed_taken q form.Loop outer text found e =
    let s1 = bind_some (after_byte 44 text) (λ rest. access_at q rest >>= λ a. after_byte 41 a.1 >>= λ r.
    Some (Join outer (Loop a.0), r)) found e in
    let s2 = bind_some (access_at q s1.value) (λ a. after_byte 41 a.1 >>= λ r. Some (Join outer (Loop a.0), r)) found
    s1.second in
    let access = s2.value in
    let s3 = bind_some (after_byte 41 access.1) (λ r. Some (Join outer (Loop access.0), r)) found s2.second in
    let same : (Join outer (Loop access.0), s3.value) ≡ found = cc in
    let a = access_taken q s1.value access s2.first in
    let behind : text ≡ 44 ∷ (access_text q.places access.0 ++ 41 ∷ s3.value) =
    byte_taken 44 text s1.value s1.first ∙ ap (λ (tail : List ℕ). 44 ∷ tail) (a.taken
    ∙ ap (λ (tail : List ℕ). access_text q.places access.0 ++ tail) (byte_taken 41 access.1 s3.value s3.first)) in
    let spelled : text ≡ step_text q.places (Loop access.0) ++ s3.value = behind
    ∙ ap (λ (tail : List ℕ). 44 ∷ tail) (sym (append_assoc (access_text q.places access.0) (41 ∷ []) s3.value)) in
    subst (λ (x : Tree × List ℕ). TakenClosed q form.Loop outer text x) same
    (record {
      parts = λ p. (p, a.there);
      deeper = refl;
      taken =
          in_order (codes "loop(") (plan_text q.places outer) (step_text q.places (Loop access.0)) text s3.value spelled;
    })
closed_taken q form.Probe outer text found e =
    let s1 = bind_some (after_byte 44 text) (λ rest. place_at 44 q.places rest >>= λ p.
    number_at 41 (length q.edges) p.1 >>= λ n. Some (Join outer (Probe p.0 n.0), n.1)) found e in
    let s2 = bind_some (place_at 44 q.places s1.value) (λ p. number_at 41 (length q.edges) p.1 >>= λ n.
    Some (Join outer (Probe p.0 n.0), n.1)) found s1.second in
    let place = s2.value in
    let s3 = bind_some (number_at 41 (length q.edges) place.1) (λ n. Some (Join outer (Probe place.0 n.0), n.1)) found
    s2.second in
    let edge = s3.value in
    let same : (Join outer (Probe place.0 edge.0), edge.1) ≡ found = cc in
    let p = place_taken q.places 44 s1.value place s2.first in
    let n = number_taken 41 (length q.edges) place.1 edge s3.first in
    let high = n.high in
    let behind : text ≡ 44 ∷ (place_text q.places place.0 ++ 44 ∷ (number_text edge.0 ++ 41 ∷ edge.1)) =
    byte_taken 44 text s1.value s1.first ∙ ap (λ (tail : List ℕ). 44 ∷ tail) (p.taken
    ∙ ap (λ (tail : List ℕ). place_text q.places place.0 ++ 44 ∷ tail) n.taken) in
    let spelled : text ≡ step_text q.places (Probe place.0 edge.0) ++ edge.1 = behind
    ∙ ap (λ (tail : List ℕ). 44 ∷ tail) (two_parts (place_text q.places place.0) (number_text edge.0) edge.1) in
    subst (λ (x : Tree × List ℕ). TakenClosed q form.Probe outer text x) same
    (record {
      parts = λ o. (o, (p.there, omega arith));
      deeper = refl;
      taken =
          in_order (codes "probe(") (plan_text q.places outer) (step_text q.places (Probe place.0 edge.0)) text edge.1
          spelled;
    })
closed_taken q form.Sort outer text found e =
    let s1 = bind_some (after_byte 41 text) (λ rest. Some (Sort outer, rest)) found e in
    let same : (Sort outer, s1.value) ≡ found = cc in
    subst (λ (x : Tree × List ℕ). TakenClosed q form.Sort outer text x) same
    (record {
      parts = λ o. o;
      deeper = refl;
      taken =
          in_order (codes "sort(") (plan_text q.places outer) (41 ∷ []) text s1.value
          (byte_taken 41 text s1.value s1.first);
    })

-- What stands behind the inner plan of a hash join.

joined_front : (q : Statement) (outer inner : Tree) (edge : ℕ) (rest : List ℕ) → IsReadable q → edge < length q.edges
    → joined_at q outer inner (44 ∷ (number_text edge ++ 41 ∷ rest)) ≡ Some (HashJoin outer inner edge, rest)
unfolding joined_at
joined_front q outer inner edge rest readable there =
    rw (number_front 41 (length q.edges) edge rest bracket readable.edges there) refl

pub record TakenJoined (q : Statement) (outer inner : Tree) (text : List ℕ) (found : Tree × List ℕ) : Type 0 where
  pub parts : HasParts q outer → HasParts q inner → HasParts q found.0
  pub deeper : nesting found.0 ≡ max (nesting outer) (nesting inner) + 1
  pub taken : codes "hash(" ++ (plan_text q.places outer ++ 44 ∷ (plan_text q.places inner ++ text))
      ≡ plan_text q.places found.0 ++ found.1

hash_in_order : (outer inner number rest : List ℕ) → ((((outer ++ 44 ∷ []) ++ inner) ++ 44 ∷ []) ++ number ++ 41 ∷ [])
    ++ rest ≡ outer ++ 44 ∷ (inner ++ 44 ∷ (number ++ 41 ∷ rest))
hash_in_order outer inner number rest = simp append_assoc

joined_taken : (q : Statement) (outer inner : Tree) (text : List ℕ) (found : Tree × List ℕ)
    → joined_at q outer inner text ≡ Some found → TakenJoined q outer inner text found
unfolding joined_at
joined_taken q outer inner text found e =
    let s1 = bind_some (after_byte 44 text) (λ rest. number_at 41 (length q.edges) rest >>= λ n.
    Some (HashJoin outer inner n.0, n.1)) found e in
    let s2 = bind_some (number_at 41 (length q.edges) s1.value) (λ n. Some (HashJoin outer inner n.0, n.1)) found
    s1.second in
    let edge = s2.value in
    let same : (HashJoin outer inner edge.0, edge.1) ≡ found = cc in
    let n = number_taken 41 (length q.edges) s1.value edge s2.first in
    let high = n.high in
    let behind : text ≡ 44 ∷ (number_text edge.0 ++ 41 ∷ edge.1) = byte_taken 44 text s1.value s1.first
    ∙ ap (λ (tail : List ℕ). 44 ∷ tail) n.taken in
    let whole : codes "hash(" ++ (plan_text q.places outer ++ 44 ∷ (plan_text q.places inner ++ text))
    ≡ plan_text q.places (HashJoin outer inner edge.0) ++ edge.1 =
    ap (λ (tail : List ℕ). codes "hash(" ++ (plan_text q.places outer ++ 44 ∷ (plan_text q.places inner ++ tail)))
    behind
    ∙ ap (λ (tail : List ℕ). codes "hash("
    ++ tail) (sym (hash_in_order (plan_text q.places outer) (plan_text q.places inner) (number_text edge.0) edge.1))
    in
    subst (λ (x : Tree × List ℕ). TakenJoined q outer inner text x) same (record {
      parts = λ o i. (o, i, omega arith);
      deeper = refl;
      taken = whole;
    })

-- Plans.

sort_closed : (q : Statement) (outer : Tree) (rest : List ℕ) → closed_at q form.Sort outer (41 ∷ rest)
    ≡ Some (Sort outer, rest)
unfolding closed_at
sort_closed q outer rest = refl

pub plan_front : (q : Statement) (plan : Tree) (room : ℕ) (rest : List ℕ) → IsReadable q → HasParts q plan
    → nesting plan ≤ room → plan_at room q (plan_text q.places plan ++ rest) ≡ Some (plan, rest)
unfolding base_at
plan_front q (Base access) room rest readable there fits =
    plan_more room q (access_text q.places access ++ rest) (omega arith)
    ∙ rw (access_no_hash q access rest, no_form q access rest) (rw (access_front q access rest readable there) refl)
plan_front q (Join outer step) room rest readable there fits =
    let inside : List ℕ = plan_text q.places outer ++ (step_text q.places step ++ rest) in
    let parted : ((step_name step ++ plan_text q.places outer) ++ step_text q.places step) ++ rest
    ≡ step_name step ++ inside =
    append_assoc (step_name step ++ plan_text q.places outer) (step_text q.places step) rest
    ∙ append_assoc (step_name step) (plan_text q.places outer) (step_text q.places step ++ rest) in
    let below : nesting outer ≤ room - 1 = omega arith in
    ap (plan_at room q) parted ∙ plan_more room q (step_name step ++ inside) (omega arith)
    ∙ rw (step_no_hash step inside, form_front step inside)
    (rw (plan_front q outer (room - 1) (step_text q.places step ++ rest) readable there.0 below)
    (closed_front q step outer rest readable there.1))
plan_front q (HashJoin outer inner edge) room rest readable there fits =
    let behind : List ℕ = 44 ∷ (number_text edge ++ 41 ∷ rest) in
    let inside : List ℕ = plan_text q.places outer ++ 44 ∷ (plan_text q.places inner ++ behind) in
    let parted : plan_text q.places (HashJoin outer inner edge) ++ rest ≡ codes "hash(" ++ inside =
    ap (λ (tail : List ℕ). codes "hash(" ++ tail) (hash_in_order (plan_text q.places outer) (plan_text q.places inner)
    (number_text edge) rest) in
    let left : nesting outer ≤ room - 1 = omega arith in
    let right : nesting inner ≤ room - 1 = omega arith in
    ap (plan_at room q) parted ∙ plan_more room q (codes "hash(" ++ inside) (omega arith)
    ∙ rw (plan_front q outer (room - 1) (44 ∷ (plan_text q.places inner ++ behind)) readable there.0 left)
    (rw (plan_front q inner (room - 1) behind readable there.1 right)
    (joined_front q outer inner edge rest readable there.2))
plan_front q (Sort outer) room rest readable there fits =
    let inside : List ℕ = plan_text q.places outer ++ (41 ∷ rest) in
    let parted : ((codes "sort(" ++ plan_text q.places outer) ++ codes ")") ++ rest ≡ codes "sort(" ++ inside =
    ap (λ (tail : List ℕ). codes "sort(" ++ tail) (append_assoc (plan_text q.places outer) (41 ∷ []) rest) in
    let below : nesting outer ≤ room - 1 = omega arith in
    ap (plan_at room q) parted ∙ plan_more room q (codes "sort(" ++ inside) (omega arith)
    ∙ rw (sort_front inside) (rw (plan_front q outer (room - 1) (41 ∷ rest) readable there below)
    (sort_closed q outer rest))

pub record TakenPlan (q : Statement) (room : ℕ) (text : List ℕ) (found : Tree × List ℕ) : Type 0 where
  pub parts : HasParts q found.0
  pub fits : nesting found.0 ≤ room
  pub taken : text ≡ plan_text q.places found.0 ++ found.1

base_taken : (q : Statement) (room : ℕ) (text : List ℕ) (found : Tree × List ℕ) → base_at q text ≡ Some found
    → TakenPlan q (suc room) text found
unfolding base_at
base_taken q room text found e =
    let step = bind_some (access_at q text) (λ a. Some (Base a.0, a.1)) found e in
    let same : (Base step.value.0, step.value.1) ≡ found = cc in
    let a = access_taken q text step.value step.first in
    subst (λ (x : Tree × List ℕ). TakenPlan q (suc room) text x) same (record {
      parts = a.there;
      fits =
          omega arith;
      taken = a.taken;
    })

-- a reader of plans with this much room
abbrev ReadsTaken : ℕ → Statement → Type 0
ReadsTaken room q = (inside : List ℕ) (plan : Tree × List ℕ) → plan_at room q inside ≡ Some plan
    → TakenPlan q room inside plan

over_two : (room : ℕ) (q : Statement) (text : List ℕ) (found : Tree × List ℕ)
    → Bound (after (codes "hash(") text) (λ rest. plan_at room q rest >>= λ outer. after_byte 44 outer.1 >>= λ rest.
    plan_at room q rest >>= λ inner. joined_at q outer.0 inner.0 inner.1) found
    → ReadsTaken room q → TakenPlan q (suc room) text found
over_two room q text found b below =
    let s1 = bind_some (plan_at room q b.value) (λ outer. after_byte 44 outer.1 >>= λ rest.
    plan_at room q rest >>= λ inner. joined_at q outer.0 inner.0 inner.1) found b.second in
    let outer = s1.value in
    let s2 = bind_some (after_byte 44 outer.1) (λ rest. plan_at room q rest >>= λ inner.
    joined_at q outer.0 inner.0 inner.1) found s1.second in
    let s3 = bind_some (plan_at room q s2.value) (λ inner. joined_at q outer.0 inner.0 inner.1) found s2.second in
    let inner = s3.value in
    let o = below b.value outer s1.first in
    let i = below s2.value inner s3.first in
    let j = joined_taken q outer.0 inner.0 inner.1 found s3.second in
    let left = o.fits in
    let right = i.fits in
    let deeper = j.deeper in
    let both : b.value ≡ plan_text q.places outer.0 ++ 44 ∷ (plan_text q.places inner.0 ++ inner.1) =
    o.taken ∙ ap (λ (tail : List ℕ). plan_text q.places outer.0 ++ tail) (byte_taken 44 outer.1 s2.value s2.first
    ∙ ap (λ (tail : List ℕ). 44 ∷ tail) i.taken) in
    record {
      parts = j.parts o.parts i.parts;
      fits = omega arith;
      taken =
          word_taken (codes "hash(") text b.value b.first ∙ ap (λ (tail : List ℕ). codes "hash(" ++ tail) both ∙ j.taken;
    }

over_one : (room : ℕ) (q : Statement) (text : List ℕ) (found : Tree × List ℕ)
    → Bound (form_at text) (λ f. plan_at room q f.1 >>= λ outer. closed_at q f.0 outer.0 outer.1) found
    ⊎ (base_at q text ≡ Some found) → ReadsTaken room q → TakenPlan q (suc room) text found
over_one room q text found (inr e) below = base_taken q room text found e
over_one room q text found (inl b) below =
    let f = b.value in
    let step = bind_some (plan_at room q f.1) (λ outer. closed_at q f.0 outer.0 outer.1) found b.second in
    let outer = step.value in
    let o = below f.1 outer step.first in
    let c = closed_taken q f.0 outer.0 outer.1 found step.second in
    let fits = o.fits in
    let deeper = c.deeper in
    record {
      parts = c.parts o.parts;
      fits = omega arith;
      taken = form_taken text f b.first
          ∙ ap (λ (tail : List ℕ). form_name f.0 ++ tail) o.taken ∙ c.taken;
    }

pub plan_taken : (room : ℕ) (q : Statement) (text : List ℕ) (found : Tree × List ℕ) → plan_at room q text ≡ Some found
    → TakenPlan q room text found
unfolding plan_at
plan_taken zero q text found e = cc
plan_taken (suc room) q text found e =
    elim (chosen_some (after (codes "hash(") text) (λ rest. plan_at room q rest >>= λ outer.
    after_byte 44 outer.1 >>= λ rest. plan_at room q rest >>= λ inner. joined_at q outer.0 inner.0 inner.1) _ found
    e) [
      | inl b ↦ over_two room q text found b (λ inside plan h. plan_taken room q inside plan h)
      | inr e2 ↦ over_one room q text found
          (chosen_some (form_at text) (λ f. plan_at room q f.1 >>= λ outer. closed_at q f.0 outer.0 outer.1)
          (base_at q text) found e2) (λ inside plan h. plan_taken room q inside plan h)
    ]

-- Tops.

whole_front : (q : Statement) (plan : Tree) → IsReadable q → HasParts q plan → nesting plan ≤ 16
    → whole_at q (plan_text q.places plan ++ 41 ∷ []) ≡ Some plan
unfolding whole_at
whole_front q plan readable there fits = rw (plan_front q plan 16 (41 ∷ []) readable there fits) refl

spelled_front : (q : Statement) (top : TopTree) → IsReadable q → HasParts q (plan_below top)
    → nesting (plan_below top) ≤ 16 → top_at q (top_text q.places top) ≡ Some top
unfolding top_at
spelled_front q (Rows plan) readable there fits = rw (whole_front q plan readable there fits) refl
spelled_front q (SortedGroups plan) readable there fits = rw (whole_front q plan readable there fits) refl
spelled_front q (HashGroups plan) readable there fits = rw (whole_front q plan readable there fits) refl

-- what is spelled so is read
pub top_front : (q : Statement) (text : List ℕ) (top : TopTree) → IsReadable q → IsPlanText q text top → top_at q text
    ≡ Some top
top_front q text top readable spelled = ap (top_at q) spelled.spelled
    ∙ spelled_front q top readable spelled.parts spelled.nested

pub record TakenWhole (q : Statement) (text : List ℕ) (plan : Tree) : Type 0 where
  pub parts : HasParts q plan
  pub fits : nesting plan ≤ 16
  pub taken : text ≡ plan_text q.places plan ++ 41 ∷ []

by_test : {A : Type 0} (test : Bool) (x y : A) → (if test then Some x else None) ≡ Some y → (test ≡ true) × (x ≡ y)
by_test true x y e = (refl, cc)
by_test false x y e = absurd (cc)

empty : (rest : List ℕ) → length rest ≡ 0 → rest ≡ []
empty [] none = refl
empty (byte ∷ rest) none = absurd (omega arith)

none_left : {A : Type 0} (rest : List ℕ) (x y : A) → (if length rest == 0 then Some x else None) ≡ Some y → (rest ≡ [])
    × (x ≡ y)
none_left rest x y e = let t = by_test (length rest == 0) x y e in (empty rest (eqb-true (length rest) 0 t.0), t.1)

whole_taken : (q : Statement) (text : List ℕ) (plan : Tree) → whole_at q text ≡ Some plan → TakenWhole q text plan
unfolding whole_at
whole_taken q text plan e =
    let s1 = bind_some (plan_at 16 q text) (λ found. after_byte 41 found.1 >>= λ rest. if length rest == 0
    then Some found.0 else None) plan e in
    let found = s1.value in
    let s2 = bind_some (after_byte 41 found.1) (λ rest. if length rest == 0 then Some found.0 else None) plan s1.second
    in
    let p = plan_taken 16 q text found s1.first in
    let left = none_left s2.value found.0 plan s2.second in
    let behind : found.1 ≡ 41 ∷ [] = byte_taken 41 found.1 s2.value s2.first ∙ ap (λ (rest : List ℕ). 41 ∷ rest) left.0
    in
    subst (λ (x : Tree). TakenWhole q text x) left.1 (record {
      parts = p.parts;
      fits = p.fits;
      taken = p.taken
          ∙ ap (λ (tail : List ℕ). plan_text q.places found.0 ++ tail) behind;
    })

under : (q : Statement) (name text rest : List ℕ) (plan : Tree) (make : Tree → TopTree) (top : TopTree)
    → after name text ≡ Some rest → whole_at q rest ≡ Some plan → make plan ≡ top
    → plan_below (make plan) ≡ plan → top_text q.places (make plan) ≡ (name ++ plan_text q.places plan) ++ 41 ∷ []
    → IsPlanText q text top
under q name text rest plan make top front whole same below spelled =
    let w = whole_taken q rest plan whole in
    let parts : HasParts q (plan_below (make plan)) = rw below w.parts in
    let fits : nesting (plan_below (make plan)) ≤ 16 = rw below w.fits in
    let text_is : text ≡ top_text q.places (make plan) =
    word_taken name text rest front ∙ ap (λ (tail : List ℕ). name ++ tail) w.taken
    ∙ sym (append_assoc name (plan_text q.places plan) (41 ∷ [])) ∙ sym spelled in
    subst (λ (t : TopTree). IsPlanText q text t) same (record { parts = parts; nested = fits; spelled = text_is })

-- what is read is spelled so
pub top_taken : (q : Statement) (text : List ℕ) (top : TopTree) → top_at q text ≡ Some top → IsPlanText q text top
unfolding top_at
top_taken q text top e =
    elim (chosen_some (after (codes "rows(") text) (λ rest. whole_at q rest >>= λ plan. Some (Rows plan)) _ top e) [
      | inl b ↦ let s = bind_some (whole_at q b.value) (λ plan. Some (Rows plan)) top b.second in
          under q (codes "rows(") text b.value s.value (λ plan. Rows plan) top b.first s.first (cc) refl refl
      | inr e2 ↦ elim (chosen_some (after (codes "sorted_groups(") text) (λ rest. whole_at q rest >>= λ plan.
          Some (SortedGroups plan)) _ top e2) [
            | inl b ↦ let s = bind_some (whole_at q b.value) (λ plan. Some (SortedGroups plan)) top b.second in
                under q (codes "sorted_groups(") text b.value s.value (λ plan. SortedGroups plan) top b.first s.first
                (cc) refl refl
            | inr e3 ↦ elim (chosen_some (after (codes "hash_groups(") text) (λ rest. whole_at q rest >>= λ plan.
                Some (HashGroups plan)) None top e3) [
                  | inl b ↦ let s = bind_some (whole_at q b.value) (λ plan. Some (HashGroups plan)) top b.second in
                      under q (codes "hash_groups(") text b.value s.value (λ plan. HashGroups plan) top b.first s.first
                      (cc) refl refl
                  | inr e4 ↦ cc
                ]
          ]
    ]
