-- Arguments are read off a text one by one: what was read, and what the rest says.
use Rattle.std.proofs.Common.{ℕ, zero, suc, ◌≡◌, ◌<◌, ◌≤◌, ◌+◌, List, [], ◌∷◌, ◌++◌, length, Bool, true, false, cond}
use Rattle.std.proofs.Common.{Option, Some, None, refl, sym, ap, ◌∙◌, subst, arith}
use Rattle.std.proofs.lemmas.List.{length-append, append-nil, append_assoc}
use Rattle.row_values.specs.declared.values.Value.{Value}
use Rattle.sql_parser.specs.Reading.{◌>>=◌}
use Rattle.sql_parser.specs.Spelled.{first_at}
use Rattle.sql_parser.specs.declared.tokens.Token.{Token}
use Rattle.sql_parser.proofs.TokensOnce.{front_some}
use Rattle.sql_parser.proofs.Readers.{bind_some}
use Rattle.sql_parser.proofs.FunctionsAreGrammar.{first_sound}
use Rattle.script_report.specs.Parts.{is_blank, skip_blanks, next_part, value_of, value_part}
use Rattle.script_report.specs.Commands.{values_in, args_in}

-- ---- a part taken makes the text shorter

first_shorter : (text : List ℕ) (found : Token × List ℕ) → first_at text ≡ Some found → length found.1 < length text
first_shorter text found e =
    let first = first_sound text found e in
    let m : length text ≡ length first.prefix + length found.1 = ap length first.whole
    ∙ length-append first.prefix found.1 in
    let l = front_some found.0 first.prefix found.1 first.spelled in
    omega arith

skip_no_longer : (text : List ℕ) → length (skip_blanks text) ≤ length text
skip_no_longer [] = omega arith
skip_no_longer (byte ∷ text) =
    let h = skip_no_longer text in
    let step : (v : Bool) → length (cond v (skip_blanks text) (byte ∷ text)) ≤ suc (length text) =
    λ v. elim v as (λ v. length (cond v (skip_blanks text) (byte ∷ text)) ≤ suc (length text)) [
      | true ↦ omega arith
      | false ↦ omega arith
    ]
    in step (is_blank byte)

next_no_longer : (text rest : List ℕ) → next_part text ≡ Some rest → length rest ≤ length text
next_no_longer [] rest e = (let same : [] ≡ rest = cc in subst (λ z. length z ≤ 0) same (omega arith))
next_no_longer (byte ∷ text) rest e =
    let h = skip_no_longer text in
    let step : (v : Bool) → cond v (Some (skip_blanks text)) None ≡ Some rest → length rest ≤ suc (length text) =
    λ v. elim v as (λ v. cond v (Some (skip_blanks text)) None ≡ Some rest → length rest ≤ suc (length text)) [
      | true ↦ λ t. let same : skip_blanks text ≡ rest = cc in
          subst (λ z. length z ≤ suc (length text)) same (omega arith)
      | false ↦ λ t. absurd cc
    ]
    in step (is_blank byte) e

second : (v w : Value) (a b : List ℕ) → ◌≡◌ {A = Option (Value × List ℕ)} (Some (v, a)) (Some (w, b)) → a ≡ b
second v w a b e = let pair : ◌≡◌ {A = Value × List ℕ} (v, a) (w, b) = cc in ap (λ z. z.1) pair

pub value_shorter : (text : List ℕ) (value : Value) (next : List ℕ) → value_part text ≡ Some (value, next)
    → length next < length text
unfolding value_part
value_shorter text value next e =
    let f = bind_some (first_at text)
    (λ found. (value_of found.0 >>= λ v. (next_part found.1 >>= λ rest. Some (v, rest)))) (value, next) e in
    let v = bind_some (value_of f.0.0) (λ v. (next_part f.0.1 >>= λ rest. Some (v, rest))) (value, next) f.2 in
    let r = bind_some (next_part f.0.1) (λ rest. Some (v.0, rest)) (value, next) v.2 in
    let same = second v.0 value r.0 next r.2 in
    let a = first_shorter text f.0 f.1 in
    let b = next_no_longer f.0.1 r.0 r.1 in
    subst (λ z. length z < length text) same (omega arith)

-- ---- arguments so far

-- the values with further ones behind them
abbrev pub with_more : List Value → Option (List Value) → Option (List Value)
with_more values None = None
with_more values (Some more) = Some (values ++ more)

-- the values were read, and the arguments in the rest are the further ones
pub record ReadSoFar (text : List ℕ) (values : List Value) (rest : List ℕ) : Type 0 where
  pub most : ℕ
  pub enough : length rest < most
  pub same : with_more values (values_in most rest) ≡ args_in text

none_more : (o : Option (List Value)) → with_more [] o ≡ o
none_more None = refl
none_more (Some more) = refl

pub read_none : (text : List ℕ) → ReadSoFar text [] text
read_none text = record {
  most = suc (length text);
  enough = omega arith;
  same = none_more (values_in (suc (length text)) text);
}

one_more : (values : List Value) (value : Value) (o : Option (List Value))
    → with_more values (o >>= λ more. Some (value ∷ more)) ≡ with_more (values ++ value ∷ []) o
one_more values value None = refl
one_more values value (Some more) = ap (λ z. Some z) (sym (append_assoc values (value ∷ []) more))

pub read_one : (text : List ℕ) (values : List Value) (rest : List ℕ) (value : Value) (next : List ℕ)
    → ReadSoFar text values rest → value_part rest ≡ Some (value, next)
    → ReadSoFar text (values ++ value ∷ []) next
read_one text values rest value next so e = one so.most rest so.enough so.same e
  where
    one : (most : ℕ) (rest : List ℕ) → length rest < most → with_more values (values_in most rest) ≡ args_in text
        → value_part rest ≡ Some (value, next) → ReadSoFar text (values ++ value ∷ []) next
    one zero rest l s e = absurd (omega arith)
    one (suc most) [] l s e = (let t = value_shorter [] value next e in absurd (omega arith))
    one (suc most) (byte ∷ rest) l s e =
        let t = value_shorter (byte ∷ rest) value next e in
        record {
          most = most;
          enough = omega arith;
          same = sym (one_more values value (values_in most next))
              ∙ (rw e at s);
        }

pub read_stuck : (text : List ℕ) (values : List Value) (rest : List ℕ) → ReadSoFar text values rest → 0 < length rest
    → value_part rest ≡ None → args_in text ≡ None
read_stuck text values rest so l e = stuck so.most rest so.enough so.same l e
  where
    stuck : (most : ℕ) (rest : List ℕ) → length rest < most → with_more values (values_in most rest) ≡ args_in text
        → 0 < length rest → value_part rest ≡ None → args_in text ≡ None
    stuck zero rest l s n e = absurd (omega arith)
    stuck (suc most) [] l s n e = absurd (omega arith)
    stuck (suc most) (byte ∷ rest) l s n e = sym (rw e at s)

pub read_all : (text : List ℕ) (values : List Value) (rest : List ℕ) → ReadSoFar text values rest → length rest ≡ 0
    → args_in text ≡ Some values
read_all text values rest so z = done so.most rest so.enough so.same z
  where
    done : (most : ℕ) (rest : List ℕ) → length rest < most → with_more values (values_in most rest) ≡ args_in text
        → length rest ≡ 0 → args_in text ≡ Some values
    done zero rest l s z = absurd (omega arith)
    done (suc most) [] l s z = sym s ∙ ap (λ z. Some z) (append-nil values)
    done (suc most) (byte ∷ rest) l s z = absurd (omega arith)
