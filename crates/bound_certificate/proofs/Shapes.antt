-- The JSON of a certificate has no float, and is not deep.
use Rattle.std.proofs.Common.{ℕ, ◌≡◌, ◌≤◌, ◌+◌, false, List, [], ◌∷◌, Option, Some, None, max, refl, arith}
use Rattle.serde_json.specs.Data.{depth, items_depth}
use Rattle.serde_json.specs.Read.{max_depth}
use Rattle.serde_json.specs.Written.{has_float, items_have_float}
use Rattle.plan_costs.specs.declared.potentials.Cell.{Cell}
use Rattle.bound_certificate.specs.Certificates.{cell_data, cells_data, certificate_data, sorted_data}
use Rattle.bound_certificate.specs.declared.certificates.Cert.{Cert}
use Rattle.bound_certificate.specs.declared.certificates.Cert.TheVariants.{Optimum, Selectivity, Cost}

sorted_exact : (sorted : Option ℕ) → has_float (sorted_data sorted) ≡ false
sorted_exact None = refl
sorted_exact (Some cost) = refl

cell_exact : (set : ℕ) (cell : Cell) → has_float (cell_data set cell) ≡ false
cell_exact set cell = rw (sorted_exact cell.sorted) refl

cells_exact : (set : ℕ) (cells : List Cell) → items_have_float (cells_data set cells) ≡ false
cells_exact set [] = refl
cells_exact set (cell ∷ cells) = rw (cell_exact set cell, cells_exact (set + 1) cells) refl

pub exact : (cert : Cert) → has_float (certificate_data cert) ≡ false
exact (Optimum bounds) = rw (cells_exact 1 bounds.cells) refl
exact (Selectivity anchor) = refl
exact (Cost anchor) = refl

sorted_flat : (sorted : Option ℕ) → depth (sorted_data sorted) ≡ 0
sorted_flat None = refl
sorted_flat (Some cost) = refl

cell_flat : (set : ℕ) (cell : Cell) → depth (cell_data set cell) ≤ 1
cell_flat set cell = rw (sorted_flat cell.sorted) (omega arith)

both_flat : (m n : ℕ) → m ≤ 1 → n ≤ 1 → max m n ≤ 1
both_flat m n h k = omega arith

cells_flat : (set : ℕ) (cells : List Cell) → items_depth (cells_data set cells) ≤ 1
cells_flat set [] = omega arith
cells_flat set (cell ∷ cells) =
    both_flat (depth (cell_data set cell)) (items_depth (cells_data (set + 1) cells)) (cell_flat set cell)
    (cells_flat (set + 1) cells)

pub flat : (cert : Cert) → depth (certificate_data cert) ≤ max_depth
flat (Optimum bounds) = let h = cells_flat 1 bounds.cells in omega arith
flat (Selectivity anchor) = omega arith
flat (Cost anchor) = omega arith
