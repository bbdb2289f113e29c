-- One more among the nearest: where it goes, and which one falls out.
use Rattle.std.proofs.Common.{ℕ, zero, suc, ◌≡◌, ◌≤◌, ◌<◌, ◌+◌, ◌-◌, Bool, true, false, cond, not, List, [], ◌∷◌}
use Rattle.std.proofs.Common.{length, nat_lt, take, Option, Some, None, unwrap_or, ap, sym, ◌∙◌, refl, subst, arith}
use Rattle.std.specs.List.{insert, position, position_or_len}
use Rattle.std.proofs.lemmas.List.{take_all}
use Rattle.std.proofs.lemmas.Bool.{ltb-false}
use Rattle.std.proofs.lemmas.List.Sums.{prefix_len-le-length}
use Rattle.std.proofs.lemmas.List.Edits.{length-insert}
use Rattle.cost_check.specs.declared.nearest.Near.{Near}
use Rattle.cost_check.specs.Nearest.{is_nearer, put_near}

-- the place: the first that isn't nearer, or the end
abbrev pub place_of : Near → List Near → ℕ
place_of new nears = position_or_len (λ near. not (is_nearer near new)) nears

put_by : (b : Bool) (new near : Near) (others : List Near) (n : ℕ) → put_near new others ≡ insert others n new
    → cond b (near ∷ put_near new others) (new ∷ near ∷ others)
    ≡ insert (near ∷ others) (cond (not (not b)) (1 + n) 0) new
put_by true new near others n e =
    let next : suc n ≡ 1 + n = omega arith in
    ap (λ rest. near ∷ rest) e ∙ ap (λ m. insert (near ∷ others) m new) next
put_by false new near others n e = refl

pub put_at : (new : Near) (nears : List Near) → put_near new nears ≡ insert nears (place_of new nears) new
put_at new [] = refl
put_at new (near ∷ others) = put_by (is_nearer near new) new near others (place_of new others) (put_at new others)

take_at : {X : Type 0} (xs : List X) (n : ℕ) (new : X) → n ≤ length xs → take n (insert xs n new) ≡ take n xs
take_at xs zero new less = refl
take_at [] (suc n) new less = absurd (omega arith)
take_at (x ∷ xs) (suc n) new less = ap (λ rest. x ∷ rest) (take_at xs n new (omega arith))

insert_taken : {X : Type 0} (xs : List X) (place n : ℕ) (new : X) → place ≤ n → place ≤ length xs
    → insert (take n xs) place new ≡ take (suc n) (insert xs place new)
insert_taken xs zero n new less inside = refl
insert_taken [] (suc place) n new less inside = absurd (omega arith)
insert_taken (x ∷ xs) (suc place) zero new less inside = absurd (omega arith)
insert_taken (x ∷ xs) (suc place) (suc n) new less inside =
    ap (λ rest. x ∷ rest) (insert_taken xs place n new (omega arith) (omega arith))

-- it comes after all, and there is no room
pub put_last : (new : Near) (nears : List Near) (place limit : ℕ) → place ≡ place_of new nears → place ≤ length nears
    → length nears ≤ limit → place ≡ limit → nears ≡ take limit (put_near new nears)
put_last new nears place limit at inside few e =
    sym
    (ap (take limit) (put_at new nears) ∙ ap (λ n. take limit (insert nears n new)) (sym at ∙ e)
    ∙ take_at nears limit new (omega arith) ∙ take_all limit nears few)

-- there is no room, and the last goes
pub put_full : (new : Near) (nears : List Near) (place limit : ℕ) → place ≡ place_of new nears → place ≤ length nears
    → length nears ≡ limit → place < limit
    → insert (take (length nears - 1) nears) place new ≡ take limit (put_near new nears)
put_full new nears place limit at inside full less =
    let whole : suc (length nears - 1) ≡ limit = omega arith in
    insert_taken nears place (length nears - 1) new (omega arith) inside
    ∙ ap (λ n. take n (insert nears place new)) whole
    ∙ ap (λ n. take limit (insert nears n new)) at ∙ ap (take limit) (sym (put_at new nears))

-- there is room
pub put_room : (new : Near) (nears : List Near) (place limit : ℕ) → place ≡ place_of new nears → place ≤ length nears
    → length nears < limit → insert nears place new ≡ take limit (put_near new nears)
put_room new nears place limit at inside room =
    let long = length-insert nears place new inside in
    sym
    (ap (take limit) (put_at new nears) ∙ ap (λ n. take limit (insert nears n new)) (sym at)
    ∙ take_all limit (insert nears place new) (omega arith))

-- What is cut off before is cut off after.

take_less : {X : Type 0} (m : ℕ) (xs : List X) → take m (take (suc m) xs) ≡ take m xs
take_less zero xs = refl
take_less (suc m) [] = refl
take_less (suc m) (x ∷ xs) = ap (λ rest. x ∷ rest) (take_less m xs)

behind : {X : Type 0} (n : ℕ) (x : X) (xs : List X) → take n (x ∷ take n xs) ≡ take n (x ∷ xs)
behind zero x xs = refl
behind (suc m) x xs = ap (λ rest. x ∷ rest) (take_less m xs)

take_put_by : (b : Bool) (n : ℕ) (new near : Near) (others : List Near)
    → take n (put_near new (take n others)) ≡ take n (put_near new others)
    → take (suc n) (cond b (near ∷ put_near new (take n others)) (new ∷ near ∷ take n others))
    ≡ take (suc n) (cond b (near ∷ put_near new others) (new ∷ near ∷ others))
take_put_by true n new near others e = ap (λ rest. near ∷ rest) e
take_put_by false n new near others e = ap (λ rest. new ∷ rest) (behind n near others)

pub take_put : (n : ℕ) (new : Near) (nears : List Near)
    → take n (put_near new (take n nears)) ≡ take n (put_near new nears)
take_put zero new nears = refl
take_put (suc n) new [] = refl
take_put (suc n) new (near ∷ others) = take_put_by (is_nearer near new) n new near others (take_put n new others)

-- Where the code finds the place.

pub place_is : (new : Near) (nears : List Near) (found : Option ℕ) (len place : ℕ)
    → found ≡ position (λ near. not (is_nearer near new)) nears → len ≡ length nears → place ≡ unwrap_or found len
    → place ≡ place_of new nears
place_is new nears found len place e long at =
    at ∙ ap (λ o. unwrap_or o len) e ∙ ap (unwrap_or (position (λ near. not (is_nearer near new)) nears)) long
    ∙ place_by (nat_lt (place_of new nears) (length nears)) (place_of new nears) (length nears) refl
    (prefix_len-le-length (λ near. not (not (is_nearer near new))) nears)
  where
    place_by : (b : Bool) (n m : ℕ) → nat_lt n m ≡ b → n ≤ m → unwrap_or (cond b (Some n) None) m ≡ n
    place_by true n m e less = refl
    place_by false n m e less = let past = ltb-false n m e in omega arith

pub place_within : (new : Near) (nears : List Near) (place : ℕ) → place ≡ place_of new nears → place ≤ length nears
place_within new nears place at =
    subst (λ n. n ≤ length nears) (sym at) (prefix_len-le-length (λ near. not (not (is_nearer near new))) nears)
