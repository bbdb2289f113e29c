-- Forgetting, statement by statement.
use Rattle.std.proofs.Common.{ℕ, zero, suc, ◌≡◌, ◌∙◌, ◌<◌, ◌+◌, List, [], ◌∷◌, drop, length, slice_get, Some, Bool}
use Rattle.std.proofs.Common.{ap, refl, sym, arith, if◌then◌else◌}
use Rattle.catalog_model.specs.Catalogs.{StatementState, reads_table}
use Rattle.certificate_check.specs.Ledgers.{without}
use Rattle.certificate_check.specs.declared.entries.Entry.{Entry}
use Rattle.report_verifier.specs.Walk.{forgotten_from}

-- the statement of this number
pub record IsAt (statements : List StatementState) (number : ℕ) : Type 0 where
  pub prepared : StatementState
  pub there : slice_get statements number ≡ Some prepared
  pub rest : drop number statements ≡ prepared ∷ drop (number + 1) statements

pub at : (statements : List StatementState) (number : ℕ) → number < length statements → IsAt statements number
at [] number less = absurd (omega (arith, less))
at (prepared ∷ others) zero less = record { prepared = prepared; there = refl; rest = refl }
at (first ∷ others) (suc number) less =
    let before : number < length others = omega (arith, less) in
    let one = at others number before in
    let next : suc number + 1 ≡ suc (number + 1) = omega arith in
    record { prepared = one.prepared; there = one.there; rest = rw next one.rest }

-- one statement more is forgotten, if it reads the table
pub one_more : (table : List ℕ) (statements : List StatementState) (number : ℕ) (ledger next all : List Entry)
    (read : Bool) → (here : IsAt statements number) → read ≡ reads_table table here.prepared.statement.places
    → next ≡ (if read then without ledger number else ledger)
    → forgotten_from number table (drop number statements) ledger ≡ all
    → forgotten_from (number + 1) table (drop (number + 1) statements) next ≡ all
one_more table statements number ledger next all read here test left so_far =
    ap (λ entries. forgotten_from (number + 1) table (drop (number + 1) statements) entries)
    (left ∙ ap (λ (r : Bool). if r then without ledger number else ledger) test)
    ∙ sym (ap (λ rest. forgotten_from number table rest ledger) here.rest) ∙ so_far
