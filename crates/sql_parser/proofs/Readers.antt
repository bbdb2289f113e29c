-- How what a reader takes is put together of what its parts take.
use Rattle.std.proofs.Common.{◌≡◌, ℕ, ◌≤◌, ◌<◌, Bool, true, false, cond, Option, Some, None, List, [], ◌∷◌, ◌++◌}
use Rattle.std.proofs.Common.{length, drop, refl, ◌∙◌, ap, sym, subst, arith}
use Rattle.std.proofs.lemmas.Bool.{cond_both}
use Rattle.std.proofs.lemmas.List.{append_assoc, length-append}
use Rattle.row_values.specs.declared.values.Value.{Value}
use Rattle.sql_parser.specs.Reading.{◌>>=◌, begins, name_at, literal_at, symbol_at}
use Rattle.sql_parser.specs.declared.tokens.Symbol.{Symbol}
use Rattle.sql_parser.specs.declared.tokens.Token.{Token}
use Rattle.sql_parser.specs.declared.tokens.Token.TheVariants as token
use Rattle.sql_parser.proofs.Symbols.{symbol_same}

-- the part that stands at the front of the tokens
pub record Taken {T : Type 0} (Is : T → List Token → Type 0) (x : T) (tokens rest : List Token) : Type 0 where
  pub prefix : List Token
  pub is : Is x prefix
  pub whole : tokens ≡ prefix ++ rest

-- a reader took nothing, or a part that stands at the front of the tokens
pub data Reads {T : Type 0} (Is : T → List Token → Type 0) (tokens : List Token) : Option (T × List Token)
    → Type 0 where
  refused : Reads Is tokens None
  taken : {x : T} {rest : List Token} → Taken Is x tokens rest → Reads Is tokens (Some (x, rest))

pub pair_is : {A B : Type 0} (a b : A × B) → ◌≡◌ {A = Option (A × B)} (Some a) (Some b) → a ≡ b
pair_is a b e = cc

pub reads_taken : {T : Type 0} (Is : T → List Token → Type 0) (tokens : List Token) (o : Option (T × List Token))
    (x : T) (rest : List Token)
    → Reads Is tokens o → o ≡ Some (x, rest) → Taken Is x tokens rest
reads_taken Is tokens o x rest refused e = absurd cc
reads_taken {T} Is tokens o x rest (taken {x = y} {rest = r} t) e =
    let p = pair_is (y, r) (x, rest) e in
    let P : T × List Token → Type 0 = λ z. Taken Is z.0 tokens z.1 in
    subst P p t

pub bind_some : {A B : Type 0} (o : Option A) (f : A → Option B) (y : B) → (o >>= f) ≡ Some y
    → (x : A) × (o ≡ Some x) × (f x ≡ Some y)
bind_some None f y e = absurd cc
bind_some (Some x) f y e = (x, refl, e)

-- ---- closure: a part in front, a choice, the last part

prepend : {T : Type 0} (Is : T → List Token → Type 0) (f tokens rest : List Token) (o : Option (T × List Token))
    → tokens ≡ f ++ rest
    → Reads (λ x g. Is x (f ++ g)) rest o → Reads Is tokens o
prepend Is f tokens rest o e refused = refused
prepend Is f tokens rest o e (taken {x} {rest = r} t) = taken (record {
  prefix = f ++ t.prefix;
  is = t.is;
  whole = e ∙ ap (λ z. f ++ z) t.whole ∙ sym (append_assoc f t.prefix r);
})

-- nothing more is taken
pub done : {T : Type 0} {Is : T → List Token → Type 0} {x : T} {tokens : List Token} → Is x []
    → Reads Is tokens (Some (x, tokens))
done is = taken (record { prefix = []; is = is; whole = refl })

-- a part, and what is read behind it
pub part_then : {A B : Type 0} {Is : A → List Token → Type 0} {Js : B → List Token
    → Type 0} {tokens : List Token} {o : Option (A × List Token)}
    (k : A × List Token → Option (B × List Token)) → Reads Is tokens o
    → ((x : A) (f rest : List Token) → Is x f → Reads (λ y g. Js y (f ++ g)) rest (k (x, rest)))
    → Reads Js tokens (o >>= k)
part_then k refused h = refused
part_then {Js} {tokens} k (taken {x} {rest} t) h =
    prepend Js t.prefix tokens rest (k (x, rest)) t.whole (h x t.prefix rest t.is)

-- the last part, of which the whole is made
pub part_last : {A B : Type 0} {Is : A → List Token → Type 0} {Js : B → List Token
    → Type 0} {tokens : List Token} {o : Option (A × List Token)} (make : A → B)
    → Reads Is tokens o → ((x : A) (f : List Token) → Is x f → Js (make x) f)
    → Reads Js tokens (o >>= λ r. Some (make r.0, r.1))
part_last make refused h = refused
part_last make (taken {x} {rest} t) h = taken (record { prefix = t.prefix; is = h x t.prefix t.is; whole = t.whole })

-- the same part under another name
pub part_as : {T : Type 0} {Is Js : T → List Token → Type 0} {tokens : List Token} {o : Option (T × List Token)}
    → Reads Is tokens o
    → ((x : T) (f : List Token) → Is x f → Js x f) → Reads Js tokens o
part_as refused h = refused
part_as (taken {x} t) h = taken (record { prefix = t.prefix; is = h x t.prefix t.is; whole = t.whole })

begins_true : (m : Symbol) (tokens : List Token) → begins m tokens ≡ true
    → tokens ≡ (token.Symbol m ∷ []) ++ drop 1 tokens
begins_true m [] e = absurd cc
begins_true m (token.Name n ∷ tokens) e = absurd cc
begins_true m (token.Literal v ∷ tokens) e = absurd cc
begins_true m (token.Symbol f ∷ tokens) e = ap (λ z. token.Symbol z ∷ tokens) (symbol_same f m e)

-- a reading behind a symbol that is next
pub symbol_front : {T : Type 0} {Is : T → List Token
    → Type 0} (m : Symbol) {tokens : List Token} {o : Option (T × List Token)} → begins m tokens ≡ true
    → Reads (λ x g. Is x (token.Symbol m ∷ g)) (drop 1 tokens) o → Reads Is tokens o
symbol_front {Is} m {tokens} {o} e p =
    prepend Is (token.Symbol m ∷ []) tokens (drop 1 tokens) o (begins_true m tokens e) p

-- one reading behind a symbol, another where it isn't next
pub symbol_or : {T : Type 0} {Is : T → List Token
    → Type 0} (m : Symbol) {tokens : List Token} {a b : Option (T × List Token)}
    → Reads (λ x g. Is x (token.Symbol m ∷ g)) (drop 1 tokens) a → Reads Is tokens b
    → Reads Is tokens (cond (begins m tokens) a b)
symbol_or {Is} m {tokens} {a} {b} p q =
    cond_both (begins m tokens) a b (Reads Is tokens) (λ e. symbol_front m e p) (λ e. q)

pub either : {T : Type 0} {Is : T → List Token
    → Type 0} {tokens : List Token} (v : Bool) {a b : Option (T × List Token)}
    → Reads Is tokens a → Reads Is tokens b → Reads Is tokens (cond v a b)
either true p q = p
either false p q = q

pub symbol_then : {T : Type 0} {Is : T → List Token
    → Type 0} (m : Symbol) {tokens : List Token} (k : Unit {0} × List Token → Option (T × List Token))
    → ((rest : List Token) → Reads (λ x g. Is x (token.Symbol m ∷ g)) rest (k (tt, rest)))
    → Reads Is tokens (symbol_at m tokens >>= k)
symbol_then {T} {Is} m {tokens} k h =
    let next : Option (Unit {0} × List Token) = Some (tt, drop 1 tokens) in
    cond_both (begins m tokens) next None (λ o. Reads Is tokens (o >>= k))
    (λ e. symbol_front m e (h (drop 1 tokens))) (λ e. refused)

pub name_then : {T : Type 0} {Is : T → List Token → Type 0} {tokens : List Token} (k : List ℕ × List Token
    → Option (T × List Token))
    → ((n : List ℕ) (rest : List Token) → Reads (λ x g. Is x (token.Name n ∷ g)) rest (k (n, rest)))
    → Reads Is tokens (name_at tokens >>= k)
name_then {tokens = []} k h = refused
name_then {Is} {tokens = token.Name n ∷ rest} k h =
    prepend Is (token.Name n ∷ []) (token.Name n ∷ rest) rest (k (n, rest)) refl (h n rest)
name_then {tokens = token.Literal v ∷ rest} k h = refused
name_then {tokens = token.Symbol m ∷ rest} k h = refused

pub literal_then : {T : Type 0} {Is : T → List Token → Type 0} {tokens : List Token} (k : Value × List Token
    → Option (T × List Token))
    → ((v : Value) (rest : List Token) → Reads (λ x g. Is x (token.Literal v ∷ g)) rest (k (v, rest)))
    → Reads Is tokens (literal_at tokens >>= k)
literal_then {tokens = []} k h = refused
literal_then {tokens = token.Name n ∷ rest} k h = refused
literal_then {Is} {tokens = token.Literal v ∷ rest} k h =
    prepend Is (token.Literal v ∷ []) (token.Literal v ∷ rest) rest (k (v, rest)) refl (h v rest)
literal_then {tokens = token.Symbol m ∷ rest} k h = refused

-- ---- what is left

pub taken_shorter : {T : Type 0} (Is : T → List Token → Type 0) (x : T) (tokens rest : List Token)
    → Taken Is x tokens rest → length rest ≤ length tokens
taken_shorter Is x tokens rest t = let n = ap length t.whole ∙ length-append t.prefix rest in omega arith

pub begins_shorter : (m : Symbol) (tokens : List Token) → begins m tokens ≡ true
    → length (drop 1 tokens) < length tokens
begins_shorter m [] e = absurd cc
begins_shorter m (t ∷ tokens) e = omega arith
