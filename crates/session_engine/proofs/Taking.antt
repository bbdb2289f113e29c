-- Combinations that a shaper takes one at a time, until none is left or there are too many.
use Rattle.std.proofs.Common.{ℕ, ◌≡◌, ◌≤◌, ◌<◌, ◌+◌, ◌^◌, ◌∙◌, List, [], ◌∷◌, ◌++◌, length, length-append, append-nil}
use Rattle.std.proofs.Common.{append_assoc}
use Rattle.std.proofs.Common.{Option, Some, None, ap, sym, subst, refl, arith, IfNone}
use Rattle.std.specs.Option.{option_to_list}
use Rattle.row_values.specs.Statements.{Statement}
use Rattle.csv_tables.specs.StatementTables.{rows_in}
use Rattle.csv_tables.specs.Tables.{TableValue}
use Rattle.statement_meaning.specs.Meaning.{shape_of}
use Rattle.result_shape.specs.Rows.{IsPushed, IsStanding, StandsFor}
use Rattle.result_shape.specs.declared.shaper.Pushed.TheVariants as pushed
use Rattle.result_shape.specs.declared.shaper.Shaper.{Shaper}
use Rattle.result_shape.proofs.Shapes.{plain_length}

-- of all combinations these are left, and the shaper stands for those before them
pub record HasTaken (q : Statement) (tables : List TableValue) (shaper : Shaper) (all left : List (List ℕ))
    : Type 0 where
  pub taken : List (List ℕ)
  pub whole : all ≡ taken ++ left
  pub stands : StandsFor q tables shaper taken

pub none_taken : (q : Statement) (tables : List TableValue) (shaper : Shaper) (all : List (List ℕ))
    → StandsFor q tables shaper [] → HasTaken q tables shaper all all
none_taken q tables shaper all h = record { taken = []; whole = refl; stands = h }

-- what was left, where one was given
given_one : (o : Option (List ℕ)) (c : List ℕ) (left more : List (List ℕ)) → o ≡ Some c
    → left ≡ option_to_list o ++ more → left ≡ c ∷ more
given_one o c left more e h = h ∙ ap (λ (x : Option (List ℕ)). option_to_list x ++ more) e

longer : (taken left more all : List (List ℕ)) (c : List ℕ) → all ≡ taken ++ left → left ≡ c ∷ more
    → length all ≡ length taken + length (c ∷ more)
longer taken left more all c e h =
    ap length (e ∙ ap (λ (rest : List (List ℕ)). taken ++ rest) h) ∙ length-append taken (c ∷ more)

pub fewer : (o : Option (List ℕ)) (c : List ℕ) (left more : List (List ℕ)) → o ≡ Some c
    → left ≡ option_to_list o ++ more → length more < length left
fewer o c left more e h =
    let one = ap length (given_one o c left more e h) in
    omega (arith, one)

-- one more may be pushed
pub standing : (q : Statement) (tables : List TableValue) (shaper : Shaper) (all left more : List (List ℕ))
    (o : Option (List ℕ)) (c : List ℕ) → length all ≤ 2 ^ 63 → o ≡ Some c → left ≡ option_to_list o ++ more
    → HasTaken q tables shaper all left → IsStanding q shaper
standing q tables shaper all left more o c few e h t =
    let count = longer t.taken left more all c t.whole (given_one o c left more e h) in
    (tables, (t.taken, (t.stands, omega (arith, count, few))))

-- it was taken
pub one_taken : (q : Statement) (tables : List TableValue) (old new : Shaper) (all left more : List (List ℕ))
    (o : Option (List ℕ)) (c : List ℕ) → o ≡ Some c → left ≡ option_to_list o ++ more
    → (t : HasTaken q tables old all left) → IsPushed q tables t.taken c new pushed.More
    → HasTaken q tables new all more
one_taken q tables old new all left more o c e h t p = record {
  taken = t.taken ++ c ∷ [];
  whole = t.whole ∙ ap (λ (rest : List (List ℕ)). t.taken ++ rest) (given_one o c left more e h)
      ∙ sym (append_assoc t.taken (c ∷ []) more);
  stands = p.0;
}

-- there are too many of them
pub one_too_many : (q : Statement) (tables : List TableValue) (old new : Shaper) (all left more : List (List ℕ))
    (o : Option (List ℕ)) (c : List ℕ) → o ≡ Some c → left ≡ option_to_list o ++ more
    → (t : HasTaken q tables old all left) → IsPushed q tables t.taken c new pushed.TooManyRows
    → 1000000 < length (shape_of q (rows_in tables) all)
one_too_many q tables old new all left more o c e h t p =
    let count = longer t.taken left more all c t.whole (given_one o c left more e h) in
    let many : 1000000 ≤ length t.taken = p.2 in
    subst (λ n. 1000000 < n) (sym (plain_length q (rows_in tables) all p.1)) (omega (arith, count, many))

no_more : (o : Option (List ℕ)) (left more : List (List ℕ)) → ((c : List ℕ) → o ≡ Some c → ⊥)
    → left ≡ option_to_list o ++ more → IfNone o (more ≡ []) → left ≡ []
no_more None left more none h n = h ∙ n
no_more (Some c) left more none h n = absurd (none c refl)

-- none is left: the shaper stands for all
pub all_taken : (q : Statement) (tables : List TableValue) (shaper : Shaper) (all left more : List (List ℕ))
    (o : Option (List ℕ)) → ((c : List ℕ) → o ≡ Some c → ⊥) → left ≡ option_to_list o ++ more
    → IfNone o (more ≡ []) → HasTaken q tables shaper all left → StandsFor q tables shaper all
all_taken q tables shaper all left more o none h n t =
    let end : left ≡ [] = no_more o left more none h n in
    let same : t.taken ≡ all =
    sym (append-nil t.taken) ∙ ap (λ (rest : List (List ℕ)). t.taken ++ rest) (sym end) ∙ sym t.whole in
    subst (StandsFor q tables shaper) same t.stands
