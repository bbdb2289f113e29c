-- Reading a list of parts in a loop: what was read so far, and what is left.
use Rattle.std.proofs.Common.{◌≡◌, ℕ, zero, suc, ◌<◌, Bool, true, false, Option, Some, None, List, [], ◌∷◌, ◌++◌}
use Rattle.std.proofs.Common.{length, drop, refl, sym, ◌∙◌, ap, arith}
use Rattle.std.proofs.lemmas.List.{append-nil, append_assoc}
use Rattle.sql_parser.specs.Grammar.{Joined, joined_places, joined_conds}
use Rattle.sql_parser.specs.Reading.{◌>>=◌, all_at, more_at, list_at, begins, begins_joined, from_at, joins_at}
use Rattle.sql_parser.specs.Reading.{joined_at, place_at}
use Rattle.sql_parser.specs.declared.statement.RawPlace.{RawPlace}
use Rattle.sql_parser.specs.declared.statement.RawCond.{RawCond}
use Rattle.sql_parser.specs.Reading.{Fails}
use Rattle.sql_parser.specs.declared.faults.ParseFault.{ParseFault}
use Rattle.sql_parser.specs.declared.faults.ParseFault.TheVariants as fault
use Rattle.sql_parser.specs.declared.tokens.Symbol.{Symbol}
use Rattle.sql_parser.specs.declared.tokens.Token.{Token}

-- the parts so far before what is read further
abbrev pub put_front : {T : Type 0} → List T → Option (List T × List Token) → Option (List T × List Token)
put_front xs o = o >>= λ ys. Some (xs ++ ys.0, ys.1)

pub record InList {T : Type 0} (separator : Symbol) (at : List Token
    → Option (T × List Token)) (old : List Token) (xs : List T) (tokens : List Token) : Type 0 where
  pub fuel : ℕ
  pub enough : length tokens < fuel
  pub same : list_at separator at old ≡ put_front xs (all_at (begins separator) (λ rest. at (drop 1 rest)) fuel tokens)

pub list_start : {T : Type 0} (separator : Symbol) (at : List Token
    → Option (T × List Token)) (old : List Token) (x : T) (rest : List Token)
    → at old ≡ Some (x, rest) → InList separator at old (x ∷ []) rest
unfolding list_at more_at
list_start separator at old x rest e = record {
  fuel = suc (length rest);
  enough = omega arith;
  same = rw e refl;
}

abbrev pub put_one : {T : Type 0} → T → Option (List T × List Token) → Option (List T × List Token)
put_one x o = o >>= λ ys. Some (x ∷ ys.0, ys.1)

list_regroup : {T : Type 0} (o : Option (List T × List Token)) (xs : List T) (x : T)
    → put_front xs (put_one x o) ≡ put_front (xs ++ x ∷ []) o
list_regroup None xs x = refl
list_regroup {T} (Some ys) xs x = let f : List T → Option (List T × List Token) = λ z. Some (z, ys.1) in
    ap f (sym (append_assoc xs (x ∷ []) ys.0))

step_at : {T : Type 0} (starts : List Token → Bool) (at : List Token
    → Option (T × List Token)) (n : ℕ) (tokens : List Token) (x : T) (rest : List Token)
    → starts tokens ≡ true → at tokens ≡ Some (x, rest)
    → all_at starts at (suc n) tokens ≡ put_one x (all_at starts at n rest)
step_at starts at n tokens x rest b e = rw (b, e) refl

stop_at : {T : Type 0} (starts : List Token → Bool) (at : List Token
    → Option (T × List Token)) (n : ℕ) (tokens : List Token)
    → starts tokens ≡ false → all_at starts at (suc n) tokens ≡ Some ([], tokens)
stop_at starts at n tokens b = rw b refl

fail_at : {T : Type 0} (starts : List Token → Bool) (at : List Token
    → Option (T × List Token)) (n : ℕ) (tokens : List Token)
    → starts tokens ≡ true → at tokens ≡ None → all_at starts at (suc n) tokens ≡ None
fail_at starts at n tokens b e = rw (b, e) refl

list_step_by : {T : Type 0} (separator : Symbol) (at : List Token
    → Option (T × List Token)) (old : List Token) (xs : List T) (tokens : List Token) (x : T) (rest : List Token)
    (fuel : ℕ)
    → length tokens < fuel → list_at separator at old
    ≡ put_front xs (all_at (begins separator) (λ rest. at (drop 1 rest)) fuel tokens)
    → begins separator tokens ≡ true → at (drop 1 tokens) ≡ Some (x, rest) → length rest < length tokens
    → InList separator at old (xs ++ x ∷ []) rest
list_step_by separator at old xs tokens x rest zero n s b e l = absurd (omega arith)
list_step_by separator at old xs tokens x rest (suc fuel) n s b e l = record {
  fuel = fuel;
  enough = omega arith;
  same = s ∙ ap (put_front xs) (step_at (begins separator) (λ rest. at (drop 1 rest)) fuel tokens x rest b e)
      ∙ list_regroup (all_at (begins separator) (λ rest. at (drop 1 rest)) fuel rest) xs x;
}

list_stop_by : {T : Type 0} (separator : Symbol) (at : List Token
    → Option (T × List Token)) (old : List Token) (xs : List T) (tokens : List Token) (fuel : ℕ)
    → length tokens < fuel → list_at separator at old
    ≡ put_front xs (all_at (begins separator) (λ rest. at (drop 1 rest)) fuel tokens)
    → begins separator tokens ≡ false → list_at separator at old ≡ Some (xs, tokens)
list_stop_by separator at old xs tokens zero n s b = absurd (omega arith)
list_stop_by {T} separator at old xs tokens (suc fuel) n s b =
    s ∙ ap (put_front xs) (stop_at (begins separator) (λ rest. at (drop 1 rest)) fuel tokens b)
    ∙ (let f : List T → Option (List T × List Token) = λ z. Some (z, tokens) in ap f (append-nil xs))

list_fail_by : {T : Type 0} (separator : Symbol) (at : List Token
    → Option (T × List Token)) (old : List Token) (xs : List T) (tokens : List Token) (fuel : ℕ)
    → length tokens < fuel → list_at separator at old
    ≡ put_front xs (all_at (begins separator) (λ rest. at (drop 1 rest)) fuel tokens)
    → begins separator tokens ≡ true → at (drop 1 tokens) ≡ None → list_at separator at old ≡ None
list_fail_by separator at old xs tokens zero n s b e = absurd (omega arith)
list_fail_by separator at old xs tokens (suc fuel) n s b e =
    s ∙ ap (put_front xs) (fail_at (begins separator) (λ rest. at (drop 1 rest)) fuel tokens b e)

pub list_step : {T : Type 0} (separator : Symbol) (at : List Token
    → Option (T × List Token)) (old : List Token) (xs : List T) (tokens : List Token) (x : T) (rest : List Token)
    → InList separator at old xs tokens → begins separator tokens ≡ true → at (drop 1 tokens) ≡ Some (x, rest)
    → length rest < length tokens
    → InList separator at old (xs ++ x ∷ []) rest
list_step {T} separator at old xs tokens x rest within b e l =
    list_step_by separator at old xs tokens x rest within.fuel within.enough within.same b e l

pub list_stop : {T : Type 0} (separator : Symbol) (at : List Token
    → Option (T × List Token)) (old : List Token) (xs : List T) (tokens : List Token)
    → InList separator at old xs tokens → begins separator tokens ≡ false → list_at separator at old ≡ Some (xs, tokens)
list_stop separator at old xs tokens within b =
    list_stop_by separator at old xs tokens within.fuel within.enough within.same b

pub list_fail : {T : Type 0} (separator : Symbol) (at : List Token
    → Option (T × List Token)) (old : List Token) (xs : List T) (tokens : List Token)
    → InList separator at old xs tokens → begins separator tokens ≡ true → at (drop 1 tokens) ≡ None
    → list_at separator at old ≡ None
list_fail separator at old xs tokens within b e =
    list_fail_by separator at old xs tokens within.fuel within.enough within.same b e

pub list_first_fail : {T : Type 0} (separator : Symbol) (at : List Token → Option (T × List Token)) (old : List Token)
    → at old ≡ None → list_at separator at old ≡ None
unfolding list_at
list_first_fail separator at old e = rw e refl

pub err_first : {T : Type 0} (separator : Symbol) (at : List Token
    → Option (T × List Token)) (old : List Token) (e : ParseFault) → Fails e (at old)
    → Fails e (list_at separator at old)
err_first separator at old fault.Syntax h = list_first_fail separator at old h
err_first separator at old fault.Memory h = tt

-- the places of FROM
abbrev pub put_joins : List RawPlace → List RawCond → Option (List Joined × List Token)
    → Option ((List RawPlace × List RawCond) × List Token)
put_joins ps cs o = o >>= λ js. Some ((ps ++ joined_places js.0, cs ++ joined_conds js.0), js.1)

pub record InFrom (old : List Token) (places : List RawPlace) (conds : List RawCond) (tokens : List Token) : Type 0
  where
    pub fuel : ℕ
    pub enough : length tokens < fuel
    pub same : from_at old ≡ put_joins places conds (all_at begins_joined joined_at fuel tokens)

pub from_start : (old : List Token) (p : RawPlace) (rest : List Token) → place_at old ≡ Some (p, rest)
    → InFrom old (p ∷ []) [] rest
unfolding from_at joins_at
from_start old p rest e = record { fuel = suc (length rest); enough = omega arith; same = rw e refl }

pub from_first_fail : (old : List Token) → place_at old ≡ None → from_at old ≡ None
unfolding from_at
from_first_fail old e = rw e refl

from_regroup : (o : Option (List Joined × List Token)) (ps : List RawPlace) (cs : List RawCond) (j : Joined)
    → put_joins ps cs (put_one j o) ≡ put_joins (ps ++ j.place ∷ []) (cs ++ j.conds) o
from_regroup None ps cs j = refl
from_regroup (Some js) ps cs j =
    let f : List RawPlace → List RawCond → Option ((List RawPlace × List RawCond) × List Token) =
    λ a b. Some ((a, b), js.1) in
    ap (λ z. f z (cs ++ (j.conds ++ joined_conds js.0))) (sym (append_assoc ps (j.place ∷ []) (joined_places js.0)))
    ∙ ap (λ z. f ((ps ++ j.place ∷ []) ++ joined_places js.0) z) (sym (append_assoc cs j.conds (joined_conds js.0)))

from_step_by : (old : List Token) (ps : List RawPlace) (cs : List RawCond) (tokens : List Token) (j : Joined)
    (rest : List Token) (fuel : ℕ)
    → length tokens < fuel → from_at old ≡ put_joins ps cs (all_at begins_joined joined_at fuel tokens)
    → begins_joined tokens ≡ true → joined_at tokens ≡ Some (j, rest) → length rest < length tokens
    → InFrom old (ps ++ j.place ∷ []) (cs ++ j.conds) rest
from_step_by old ps cs tokens j rest zero n s b e l = absurd (omega arith)
from_step_by old ps cs tokens j rest (suc fuel) n s b e l = record {
  fuel = fuel;
  enough = omega arith;
  same = s ∙ ap (put_joins ps cs) (step_at begins_joined joined_at fuel tokens j rest b e)
      ∙ from_regroup (all_at begins_joined joined_at fuel rest) ps cs j;
}

from_stop_by : (old : List Token) (ps : List RawPlace) (cs : List RawCond) (tokens : List Token) (fuel : ℕ)
    → length tokens < fuel → from_at old ≡ put_joins ps cs (all_at begins_joined joined_at fuel tokens)
    → begins_joined tokens ≡ false → from_at old ≡ Some ((ps, cs), tokens)
from_stop_by old ps cs tokens zero n s b = absurd (omega arith)
from_stop_by old ps cs tokens (suc fuel) n s b =
    let f : List RawPlace → List RawCond → Option ((List RawPlace × List RawCond) × List Token) =
    λ x y. Some ((x, y), tokens) in
    s ∙ ap (put_joins ps cs) (stop_at begins_joined joined_at fuel tokens b) ∙ ap (λ z. f z (cs ++ [])) (append-nil ps)
    ∙ ap (f ps) (append-nil cs)

from_fail_by : (old : List Token) (ps : List RawPlace) (cs : List RawCond) (tokens : List Token) (fuel : ℕ)
    → length tokens < fuel → from_at old ≡ put_joins ps cs (all_at begins_joined joined_at fuel tokens)
    → begins_joined tokens ≡ true → joined_at tokens ≡ None → from_at old ≡ None
from_fail_by old ps cs tokens zero n s b e = absurd (omega arith)
from_fail_by old ps cs tokens (suc fuel) n s b e = s
    ∙ ap (put_joins ps cs) (fail_at begins_joined joined_at fuel tokens b e)

pub from_step : (old : List Token) (ps : List RawPlace) (cs : List RawCond) (tokens : List Token) (j : Joined)
    (rest : List Token)
    → InFrom old ps cs tokens → begins_joined tokens ≡ true → joined_at tokens ≡ Some (j, rest)
    → length rest < length tokens → InFrom old (ps ++ j.place ∷ []) (cs ++ j.conds) rest
from_step old ps cs tokens j rest within b e l =
    from_step_by old ps cs tokens j rest within.fuel within.enough within.same b e l

pub from_stop : (old : List Token) (ps : List RawPlace) (cs : List RawCond) (tokens : List Token)
    → InFrom old ps cs tokens → begins_joined tokens ≡ false → from_at old ≡ Some ((ps, cs), tokens)
from_stop old ps cs tokens within b = from_stop_by old ps cs tokens within.fuel within.enough within.same b

pub err_from : (old : List Token) (e : ParseFault) → Fails e (place_at old) → Fails e (from_at old)
err_from old fault.Syntax h = from_first_fail old h
err_from old fault.Memory h = tt
