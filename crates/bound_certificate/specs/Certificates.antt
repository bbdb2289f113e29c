-- Certificates as JSON: an object for each, with exactly these members.
use Rattle.std.specs.Prelude.{ℕ, ◌≡◌, ◌≤◌, ◌<◌, ◌+◌, ◌^◌, List, [], ◌∷◌, length, codes, decimal, Option, Some, None}
use Rattle.std.specs.Prelude.{All, IfSome}
use Rattle.serde_json.specs.Data.{Data, null, number, unsigned, string, array, object, Items, no_items, item}
use Rattle.serde_json.specs.Data.{no_members, member}
use Rattle.serde_json.specs.Read.{read}
use Rattle.serde_json.specs.Written.{compact_text}
use Rattle.plan_costs.specs.declared.potentials.Cell.{Cell}
use Rattle.bound_certificate.specs.declared.certificates.Cert.{Cert}
use Rattle.bound_certificate.specs.declared.certificates.Cert.TheVariants.{Optimum, Selectivity, Cost}
use Rattle.bound_certificate.specs.declared.certificates.TheConstants.{CELL_LIMIT, EXECUTION_LIMIT}

-- Cells.

-- a cost, as a decimal number in quotes: JSON's own numbers are too small for it
abbrev pub cost_data : ℕ → Data
cost_data cost = string (decimal cost)

-- a bound on the plans in the wanted order; null is no bound
abbrev pub sorted_data : Option ℕ → Data
sorted_data None = null
sorted_data (Some cost) = cost_data cost

-- the cell of the set of this number
abbrev pub cell_data : ℕ → Cell → Data
cell_data set cell =
    object (member (codes "any") (cost_data cell.any)
    (member (codes "set") (number (unsigned set))
    (member (codes "sorted") (sorted_data cell.sorted) no_members)))

-- the cells of the sets from this one on
abbrev pub cells_data : ℕ → List Cell → Items
cells_data set [] = no_items
cells_data set (cell ∷ cells) = item (cell_data set cell) (cells_data (set + 1) cells)

-- Certificates.

abbrev pub anchor_data : List ℕ → ℕ → Data
anchor_data kind anchor =
    object (member (codes "anchor") (number (unsigned anchor)) (member (codes "kind") (string kind) no_members))

abbrev pub certificate_data : Cert → Data
certificate_data (Optimum potentials) =
    object (member (codes "kind") (string (codes "optimum"))
    (member (codes "least") (cost_data potentials.least)
    (member (codes "table") (array (cells_data 1 potentials.cells)) no_members)))
certificate_data (Selectivity anchor) = anchor_data (codes "selectivity") anchor
certificate_data (Cost anchor) = anchor_data (codes "cost") anchor

-- the one line that is written: compact, the members in the order of their names' bytes
abbrev pub certificate_text : Cert → List ℕ
certificate_text cert = compact_text (certificate_data cert)

-- What may be read.

-- an execution that a certificate may name
abbrev pub IsExecution : ℕ → Type 0
IsExecution execution = (1 ≤ execution) × (execution < EXECUTION_LIMIT)

-- the execution is one, or there are no more cells than sets of places
abbrev pub IsInRange : Cert → Type 0
IsInRange (Optimum potentials) = length potentials.cells ≤ CELL_LIMIT
IsInRange (Selectivity anchor) = IsExecution anchor
IsInRange (Cost anchor) = IsExecution anchor

-- both costs of the cell are below 2 ^ 128
pub record IsCell (cell : Cell) : Type 0 where
  pub any : cell.any < 2 ^ 128
  pub sorted : IfSome cell.sorted (λ cost. cost < 2 ^ 128)

-- each cost in the certificate is below 2 ^ 128
abbrev pub HasCosts : Cert → Type 0
HasCosts (Optimum potentials) = (potentials.least < 2 ^ 128) × All IsCell potentials.cells
HasCosts (Selectivity anchor) = Unit {0}
HasCosts (Cost anchor) = Unit {0}

-- a certificate that is read again where it was written
abbrev pub IsCertificate : Cert → Type 0
IsCertificate cert = IsInRange cert × HasCosts cert

-- the certificate names an execution, and has no costs
abbrev pub IsReuse : Cert → Type 0
IsReuse (Optimum potentials) = ⊥
IsReuse (Selectivity anchor) = Unit {0}
IsReuse (Cost anchor) = Unit {0}

-- the text is JSON of this certificate, whatever its white space and the order of its members
abbrev pub IsTextOf : Cert → List ℕ → Type 0
IsTextOf cert text = read text ≡ Some (certificate_data cert)
