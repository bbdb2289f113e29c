-- One more key is made ready.
use Rattle.std.proofs.Common.{ℕ, ◌≡◌, ◌<◌, ◌+◌, ◌++◌, List, [], ◌∷◌, length, take, get_or, ap, sym, ◌∙◌, refl}
use Rattle.std.specs.Ordering.{ordering_then}
use Rattle.std.specs.declared.cmp.Ordering.{Ordering}
use Rattle.std.specs.declared.cmp.Ordering.TheVariants.{Less, Equal, Greater}
use Rattle.std.proofs.lemmas.List.{take_more}
use Rattle.row_values.specs.declared.values.Value.{Value}
use Rattle.row_values.specs.declared.statement.OrderKey.{OrderKey}
use Rattle.statement_meaning.specs.Meaning.{key_order, keys_order}
use Rattle.plan_operators.specs.Keys.{key_rank, keys_rank}
use Rattle.plan_operators.specs.declared.keys.ReadyKey.{ReadyKey}

then_equal : (o : Ordering) → ordering_then o Equal ≡ o
then_equal Less = refl
then_equal Equal = refl
then_equal Greater = refl

then_assoc : (a b c : Ordering) → ordering_then a (ordering_then b c) ≡ ordering_then (ordering_then a b) c
then_assoc Less b c = refl
then_assoc Equal b c = refl
then_assoc Greater b c = refl

keys_rank-push : (keys : List ReadyKey) (key : ReadyKey) (a b : List ℕ)
    → keys_rank (keys ++ key ∷ []) a b ≡ ordering_then (keys_rank keys a b) (key_rank key a b)
keys_rank-push [] key a b = then_equal (key_rank key a b)
keys_rank-push (one ∷ keys) key a b =
    ap (ordering_then (key_rank one a b)) (keys_rank-push keys key a b)
    ∙ then_assoc (key_rank one a b) (keys_rank keys a b) (key_rank key a b)

keys_order-push : (tables : List (List (List Value))) (keys : List OrderKey) (key : OrderKey) (a b : List ℕ)
    → keys_order tables (keys ++ key ∷ []) a b ≡ ordering_then (keys_order tables keys a b) (key_order tables key a b)
keys_order-push tables [] key a b = then_equal (key_order tables key a b)
keys_order-push tables (one ∷ keys) key a b =
    ap (ordering_then (key_order tables one a b)) (keys_order-push tables keys key a b)
    ∙ then_assoc (key_order tables one a b) (keys_order tables keys a b) (key_order tables key a b)

pub key_more : (tables : List (List (List Value))) (keys : List OrderKey) (i : ℕ) (d : OrderKey)
    (ready : List ReadyKey) (one : ReadyKey)
    → i < length keys → ((a b : List ℕ) → key_rank one a b ≡ key_order tables (get_or keys i d) a b)
    → ((a b : List ℕ) → keys_rank ready a b ≡ keys_order tables (take i keys) a b)
    → (a b : List ℕ) → keys_rank (ready ++ one ∷ []) a b ≡ keys_order tables (take (i + 1) keys) a b
key_more tables keys i d ready one there same before a b =
    keys_rank-push ready one a b
    ∙ (ap (λ (o : Ordering). ordering_then o (key_rank one a b)) (before a b)
    ∙ (ap (ordering_then (keys_order tables (take i keys) a b)) (same a b)
    ∙ sym (ap (λ (ks : List OrderKey). keys_order tables ks a b) (take_more keys i d there)
    ∙ keys_order-push tables (take i keys) (get_or keys i d) a b)))
