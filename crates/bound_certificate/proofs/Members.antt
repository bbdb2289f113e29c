-- The members of a certificate, looked up.
use Rattle.std.proofs.Common.{ℕ, ◌≡◌, List, codes, Some, refl, ap, sym, ◌∙◌}
use Rattle.std.proofs.Common.{Option, option_and_then}
use Rattle.serde_json.specs.Data.{Data, number, unsigned, string, array}
use Rattle.serde_json.specs.Find.{as_str, get}
use Rattle.serde_json.proofs.OnLiterals.{serde_json_on_literals}
use Rattle.plan_costs.specs.LowerBounds.{LowerBounds}
use Rattle.plan_costs.specs.declared.potentials.Cell.{Cell}
use Rattle.bound_certificate.specs.Certificates.{anchor_data, cell_data, cells_data, certificate_data, cost_data}
use Rattle.bound_certificate.specs.Certificates.{sorted_data}
use Rattle.bound_certificate.specs.declared.certificates.Cert.{Cert}
use Rattle.bound_certificate.specs.declared.certificates.Cert.TheVariants.{Optimum, Selectivity, Cost}

pub any_of : (set : ℕ) (cell : Cell) → get (codes "any") (cell_data set cell) ≡ Some (cost_data cell.any)
unfolding serde_json_on_literals
any_of set cell = refl

pub sorted_of : (set : ℕ) (cell : Cell) → get (codes "sorted") (cell_data set cell) ≡ Some (sorted_data cell.sorted)
unfolding serde_json_on_literals
sorted_of set cell = refl

pub least_of : (bounds : LowerBounds) → get (codes "least") (certificate_data (Optimum bounds))
    ≡ Some (cost_data bounds.least)
unfolding serde_json_on_literals
least_of bounds = refl

pub table_of : (bounds : LowerBounds) → get (codes "table") (certificate_data (Optimum bounds))
    ≡ Some (array (cells_data 1 bounds.cells))
unfolding serde_json_on_literals
table_of bounds = refl

pub kind_of : (bounds : LowerBounds) → get (codes "kind") (certificate_data (Optimum bounds))
    ≡ Some (string (codes "optimum"))
unfolding serde_json_on_literals
kind_of bounds = refl

pub anchor_of : (kind : List ℕ) (anchor : ℕ) → get (codes "anchor") (anchor_data kind anchor)
    ≡ Some (number (unsigned anchor))
unfolding serde_json_on_literals
anchor_of kind anchor = refl

pub anchor_kind_of : (kind : List ℕ) (anchor : ℕ) → get (codes "kind") (anchor_data kind anchor)
    ≡ Some (string kind)
unfolding serde_json_on_literals
anchor_kind_of kind anchor = refl

-- The kind of an object.

abbrev pub kind_in : Data → Option (List ℕ)
kind_in json = option_and_then as_str (get (codes "kind") json)

-- where the kind is that of a reuse by selectivity, no other certificate was meant
pub by_selectivity : (json : Data) (cert : Cert) (found : Option Cert) → ¬ (kind_in json ≡ Some (codes "optimum"))
    → kind_in json ≡ Some (codes "selectivity")
    → ((anchor : ℕ) → json ≡ certificate_data (Selectivity anchor) → found ≡ Some (Selectivity anchor))
    → json ≡ certificate_data cert → found ≡ Some cert
by_selectivity json (Optimum bounds) found not_optimum kind f e =
    absurd (not_optimum (ap kind_in e ∙ ap (option_and_then as_str) (kind_of bounds)))
by_selectivity json (Selectivity anchor) found not_optimum kind f e = f anchor e
by_selectivity json (Cost anchor) found not_optimum kind f e =
    let other : Some (codes "selectivity") ≡ Some (codes "cost") =
    sym kind ∙ ap kind_in e ∙ ap (option_and_then as_str) (anchor_kind_of (codes "cost") anchor) in
    cc
