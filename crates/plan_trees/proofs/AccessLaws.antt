-- Accesses: each is read from its spelling, and what is read is spelled so.
use Rattle.std.proofs.Common.{ℕ, ◌≡◌, ◌<◌, ◌⊎◌, inl, inr, List, [], ◌∷◌, ◌++◌, length, codes, Option, Some, None, refl}
use Rattle.std.proofs.Common.{sym, ap, ◌∙◌, subst, arith, append_assoc}
use Rattle.row_values.specs.Statements.{Statement, IsColumn}
use Rattle.plan_trees.specs.declared.plans.Access.{Access}
use Rattle.plan_trees.specs.declared.plans.Access.TheVariants.{Seq, Range, Full}
use Rattle.plan_trees.specs.PlanSpace.{column_of}
use Rattle.plan_trees.specs.Reading.{◌>>=◌, chosen, after, place_at, column_at, number_at, seq_at, range_at, full_at}
use Rattle.plan_trees.specs.Reading.{access_at}
use Rattle.plan_trees.specs.Spelling.{HasAccess, columns_of, place_text, column_text, number_text, access_text}
use Rattle.plan_trees.proofs.SoundParts.{column_in_range}
use Rattle.plan_trees.proofs.NameLaws.{bracket, comma, dot}
use Rattle.plan_trees.proofs.ReadLaws.{Bound, bind_some, word_taken}
use Rattle.plan_trees.proofs.PieceLaws.{IsReadable, place_front, place_taken, column_front, column_taken, number_front}
use Rattle.plan_trees.proofs.PieceLaws.{number_taken}

pub chosen_some : {A B : Type 0} (o : Option A) (read : A → Option B) (other : Option B) (y : B) → chosen o read other
    ≡ Some y → Bound o read y ⊎ (other ≡ Some y)
chosen_some None read other y e = inr e
chosen_some (Some x) read other y e = inl (record { value = x; first = refl; second = e })

-- Sequential scans.

seq_front : (q : Statement) (t : ℕ) (rest : List ℕ) → IsReadable q → t < length q.places
    → seq_at q (place_text q.places t ++ 41 ∷ rest) ≡ Some (Seq t, rest)
unfolding seq_at
seq_front q t rest readable there = rw (place_front q 41 t rest readable bracket there) refl

pub record TakenAccess (q : Statement) (front text : List ℕ) (found : Access × List ℕ) : Type 0 where
  pub there : HasAccess q found.0
  pub taken : front ++ text ≡ access_text q.places found.0 ++ found.1

seq_taken : (q : Statement) (text : List ℕ) (found : Access × List ℕ) → seq_at q text ≡ Some found
    → TakenAccess q (codes "seq(") text found
unfolding seq_at
seq_taken q text found e =
    let step = bind_some (place_at 41 q.places text) (λ place. Some (Seq place.0, place.1)) found e in
    let f = place_taken q.places 41 text step.value step.first in
    let same : (Seq step.value.0, step.value.1) ≡ found = cc in
    let spelled : codes "seq(" ++ text ≡ access_text q.places (Seq step.value.0) ++ step.value.1 =
    ap (λ (tail : List ℕ). codes "seq(" ++ tail) (f.taken
    ∙ sym (append_assoc (place_text q.places step.value.0) (41 ∷ []) step.value.1)) in
    subst (λ (x : Access × List ℕ). TakenAccess q (codes "seq(") text x) same (record {
      there = f.there;
      taken =
          spelled;
    })

-- Index range scans.

in_range : (a b c r : List ℕ) → ((((a ++ 46 ∷ []) ++ b) ++ 44 ∷ []) ++ c) ++ (41 ∷ r)
    ≡ a ++ 46 ∷ (b ++ 44 ∷ (c ++ 41 ∷ r))
in_range a b c r = simp append_assoc

range_front : (q : Statement) (t c j : ℕ) (rest : List ℕ) → IsReadable q → IsColumn q.places (column_of t c)
    → t < length q.places → j < length q.preds
    → range_at q (place_text q.places t ++ 46 ∷ (column_text q.places t c ++ 44 ∷ (number_text j ++ 41 ∷ rest)))
    ≡ Some (Range t c j, rest)
unfolding range_at
range_front q t c j rest readable there less pred =
    rw (place_front q 46 t (column_text q.places t c ++ 44 ∷ (number_text j ++ 41 ∷ rest)) readable dot less)
    (rw (column_front q 44 t c (number_text j ++ 41 ∷ rest) readable comma there)
    (rw (number_front 41 (length q.preds) j rest bracket readable.preds pred) refl))

range_taken : (q : Statement) (text : List ℕ) (found : Access × List ℕ) → range_at q text ≡ Some found
    → TakenAccess q (codes "range(") text found
unfolding range_at
range_taken q text found e =
    let step = bind_some (place_at 46 q.places text) (λ place. column_at 44 (columns_of q.places place.0) place.1 >>=
    λ column. number_at 41 (length q.preds) column.1 >>= λ pred. Some (Range place.0 column.0 pred.0, pred.1)) found
    e in
    let place = step.value in
    let step2 = bind_some (column_at 44 (columns_of q.places place.0) place.1)
    (λ column. number_at 41 (length q.preds) column.1 >>= λ pred. Some (Range place.0 column.0 pred.0, pred.1))
    found step.second in
    let column = step2.value in
    let step3 = bind_some (number_at 41 (length q.preds) column.1)
    (λ pred. Some (Range place.0 column.0 pred.0, pred.1)) found step2.second in
    let pred = step3.value in
    let same : (Range place.0 column.0 pred.0, pred.1) ≡ found = cc in
    let p = place_taken q.places 46 text place step.first in
    let c = column_taken q.places place.0 44 place.1 column step2.first in
    let n = number_taken 41 (length q.preds) column.1 pred step3.first in
    let high = n.high in
    let spelled : text ≡ place_text q.places place.0 ++ 46 ∷ (column_text q.places place.0 column.0 ++ 44
    ∷ (number_text pred.0 ++ 41 ∷ pred.1)) =
    p.taken ∙ ap (λ (tail : List ℕ). place_text q.places place.0 ++ 46 ∷ tail) (c.taken
    ∙ ap (λ (tail : List ℕ). column_text q.places place.0 column.0 ++ 44 ∷ tail) n.taken) in
    let whole : codes "range(" ++ text ≡ access_text q.places (Range place.0 column.0 pred.0) ++ pred.1 =
    ap (λ (tail : List ℕ). codes "range(" ++ tail) (spelled
    ∙ sym (in_range (place_text q.places place.0) (column_text q.places place.0 column.0) (number_text pred.0)
    pred.1)
    ∙ sym (append_assoc ((((place_text q.places place.0 ++ 46 ∷ []) ++ column_text q.places place.0 column.0) ++ 44
    ∷ []) ++ number_text pred.0) (41 ∷ []) pred.1)) in
    subst (λ (x : Access × List ℕ). TakenAccess q (codes "range(") text x) same (record {
      there =
          (c.there, omega arith);
      taken = whole;
    })

-- Full index scans.

in_full : (a b r : List ℕ) → ((a ++ 46 ∷ []) ++ b) ++ (41 ∷ r) ≡ a ++ 46 ∷ (b ++ 41 ∷ r)
in_full a b r = simp append_assoc

full_front : (q : Statement) (t c : ℕ) (rest : List ℕ) → IsReadable q → IsColumn q.places (column_of t c)
    → t < length q.places
    → full_at q (place_text q.places t ++ 46 ∷ (column_text q.places t c ++ 41 ∷ rest)) ≡ Some (Full t c, rest)
unfolding full_at
full_front q t c rest readable there less =
    rw (place_front q 46 t (column_text q.places t c ++ 41 ∷ rest) readable dot less)
    (rw (column_front q 41 t c rest readable bracket there) refl)

full_taken : (q : Statement) (text : List ℕ) (found : Access × List ℕ) → full_at q text ≡ Some found
    → TakenAccess q (codes "full(") text found
unfolding full_at
full_taken q text found e =
    let step = bind_some (place_at 46 q.places text) (λ place. column_at 41 (columns_of q.places place.0) place.1 >>=
    λ column. Some (Full place.0 column.0, column.1)) found e in
    let place = step.value in
    let step2 = bind_some (column_at 41 (columns_of q.places place.0) place.1)
    (λ column. Some (Full place.0 column.0, column.1)) found step.second in
    let column = step2.value in
    let same : (Full place.0 column.0, column.1) ≡ found = cc in
    let p = place_taken q.places 46 text place step.first in
    let c = column_taken q.places place.0 41 place.1 column step2.first in
    let spelled : text ≡ place_text q.places place.0 ++ 46 ∷ (column_text q.places place.0 column.0 ++ 41 ∷ column.1) =
    p.taken ∙ ap (λ (tail : List ℕ). place_text q.places place.0 ++ 46 ∷ tail) c.taken in
    let whole : codes "full(" ++ text ≡ access_text q.places (Full place.0 column.0) ++ column.1 =
    ap (λ (tail : List ℕ). codes "full(" ++ tail) (spelled
    ∙ sym (in_full (place_text q.places place.0) (column_text q.places place.0 column.0) column.1)
    ∙ sym (append_assoc ((place_text q.places place.0 ++ 46 ∷ []) ++ column_text q.places place.0 column.0) (41
    ∷ []) column.1)) in
    subst (λ (x : Access × List ℕ). TakenAccess q (codes "full(") text x) same (record {
      there = c.there;
      taken =
          whole;
    })

-- All accesses.

pub access_front : (q : Statement) (access : Access) (rest : List ℕ) → IsReadable q → HasAccess q access
    → access_at q (access_text q.places access ++ rest) ≡ Some (access, rest)
unfolding access_at
access_front q (Seq t) rest readable there =
    ap (seq_at q) (append_assoc (place_text q.places t) (41 ∷ []) rest) ∙ seq_front q t rest readable there
access_front q (Range t c j) rest readable there =
    ap (range_at q) (append_assoc ((((place_text q.places t ++ 46 ∷ []) ++ column_text q.places t c) ++ 44 ∷ [])
    ++ number_text j) (41 ∷ []) rest
    ∙ in_range (place_text q.places t) (column_text q.places t c) (number_text j) rest)
    ∙ range_front q t c j rest readable there.0 (column_in_range q.places (column_of t c) there.0) there.1
access_front q (Full t c) rest readable there =
    ap (full_at q) (append_assoc ((place_text q.places t ++ 46 ∷ []) ++ column_text q.places t c) (41 ∷ []) rest
    ∙ in_full (place_text q.places t) (column_text q.places t c) rest)
    ∙ full_front q t c rest readable there (column_in_range q.places (column_of t c) there)

pub record IsAccessFront (q : Statement) (text : List ℕ) (found : Access × List ℕ) : Type 0 where
  pub there : HasAccess q found.0
  pub taken : text ≡ access_text q.places found.0 ++ found.1

behind : (q : Statement) (word text rest : List ℕ) (found : Access × List ℕ) → after word text ≡ Some rest
    → TakenAccess q word rest found → IsAccessFront q text found
behind q word text rest found e t = record { there = t.there; taken = word_taken word text rest e ∙ t.taken }

pub access_taken : (q : Statement) (text : List ℕ) (found : Access × List ℕ) → access_at q text ≡ Some found
    → IsAccessFront q text found
unfolding access_at
access_taken q text found e =
    elim (chosen_some (after (codes "seq(") text) (seq_at q) _ found e) [
      | inl b ↦ behind q (codes "seq(") text b.value found b.first (seq_taken q b.value found b.second)
      | inr e2 ↦ elim (chosen_some (after (codes "range(") text) (range_at q) _ found e2) [
        | inl b ↦ behind q (codes "range(") text b.value found b.first (range_taken q b.value found b.second)
        | inr e3 ↦ elim (chosen_some (after (codes "full(") text) (full_at q) None found e3) [
          | inl b ↦ behind q (codes "full(") text b.value found b.first (full_taken q b.value found b.second)
          | inr e4 ↦ cc
        ]
      ]
    ]
