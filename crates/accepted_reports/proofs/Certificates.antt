-- The line of a certificate is read as that certificate.
use Rattle.std.proofs.Common.{ℕ, ◌≡◌, ◌∙◌, ◌≤◌, ◌<◌, ◌+◌, ◌^◌, List, [], ◌∷◌, length, Option, Some, None, max}
use Rattle.std.proofs.Common.{ap, append-nil, option_and_then, refl, sym, arith}
use Rattle.json.specs.Json.{Json, if_last, value}
use Rattle.json.specs.Token.{Token}
use Rattle.json.specs.Tree.{HasNumbers, ItemsHaveNumbers, depth, items_depth, json_tokens}
use Rattle.json.proofs.Printed.Decimals.{IsNumber-decimal}
use Rattle.json.proofs.Printed.Tokens.{tokens-print}
use Rattle.json.proofs.Printed.Trees.{ArePrintable-json_tokens, value-json_tokens}
use Rattle.serde_json.specs.Data.{Data}
use Rattle.serde_json.specs.Read.{max_depth, of_items, of_json, read}
use Rattle.serde_json.specs.Written.{compact_text, items_outline, outline}
use Rattle.serde_json.proofs.Numbers.{number_of-decimal}
use Rattle.serde_json.proofs.Texts.{print-outline}
use Rattle.plan_costs.specs.declared.potentials.Cell.{Cell}
use Rattle.bound_certificate.specs.Certificates.{IsCertificate, IsTextOf, cell_data, cells_data}
use Rattle.bound_certificate.specs.Certificates.{certificate_data, certificate_text, sorted_data}
use Rattle.bound_certificate.specs.declared.certificates.Cert.{Cert}
use Rattle.bound_certificate.specs.declared.certificates.Cert.TheVariants.{Cost, Optimum, Selectivity}

-- what is read of a value with no tokens behind it
abbrev whole : Option (Json × List Token) → Option Data
whole found = option_and_then of_json (option_and_then (λ p. if_last p.0 p.1) found)

-- what is printed of a value that reads as itself is read as it
read_again : (d : Data) → HasNumbers (outline d) → depth (outline d) ≤ max_depth → of_json (outline d) ≡ Some d
    → read (compact_text d) ≡ Some d
read_again d numbers shallow same =
    let ts = json_tokens (outline d) in
    ap read (sym (print-outline d))
    ∙ (ap whole (ap (value max_depth) (tokens-print ts (ArePrintable-json_tokens (outline d)
    numbers) ∙ sym (append-nil ts))
    ∙ value-json_tokens (outline d) max_depth [] shallow) ∙ same)

-- Cells.

sorted_reads : (sorted : Option ℕ) → of_json (outline (sorted_data sorted)) ≡ Some (sorted_data sorted)
sorted_reads None = refl
sorted_reads (Some cost) = refl

sorted_numbers : (sorted : Option ℕ) → HasNumbers (outline (sorted_data sorted))
sorted_numbers None = tt
sorted_numbers (Some cost) = tt

sorted_flat : (sorted : Option ℕ) → depth (outline (sorted_data sorted)) ≡ 0
sorted_flat None = refl
sorted_flat (Some cost) = refl

cell_reads : (set : ℕ) (cell : Cell) → set < 2 ^ 64 → of_json (outline (cell_data set cell)) ≡ Some
    (cell_data set cell)
cell_reads set cell h = rw (number_of-decimal set h, sorted_reads cell.sorted) refl

cells_read : (set : ℕ) (cells : List Cell) → set + length cells < 2 ^ 64
    → of_items (items_outline (cells_data set cells)) ≡ Some (cells_data set cells)
cells_read set [] h = refl
cells_read set (cell ∷ cells) h =
    rw (cell_reads set cell (omega (arith, h)), cells_read (set + 1) cells (omega (arith, h))) refl

cells_numbers : (set : ℕ) (cells : List Cell) → set + length cells < 2 ^ 64
    → ItemsHaveNumbers (items_outline (cells_data set cells))
cells_numbers set [] h = tt
cells_numbers set (cell ∷ cells) h = (
  (tt, (IsNumber-decimal set (omega (arith, h)), (sorted_numbers cell.sorted, tt))),
  cells_numbers (set + 1) cells (omega (arith, h)),
)

cell_flat : (set : ℕ) (cell : Cell) → depth (outline (cell_data set cell)) ≤ 1
cell_flat set cell = rw (sorted_flat cell.sorted) (omega arith)

both_flat : (m n : ℕ) → m ≤ 1 → n ≤ 1 → max m n ≤ 1
both_flat m n h k = omega arith

cells_flat : (set : ℕ) (cells : List Cell) → items_depth (items_outline (cells_data set cells)) ≤ 1
cells_flat set [] = omega arith
cells_flat set (cell ∷ cells) =
    both_flat (depth (outline (cell_data set cell))) (items_depth (items_outline (cells_data (set + 1) cells)))
    (cell_flat set cell) (cells_flat (set + 1) cells)

-- Certificates.

certificate_reads : (cert : Cert) → IsCertificate cert
    → of_json (outline (certificate_data cert)) ≡ Some (certificate_data cert)
certificate_reads (Optimum bounds) is = rw (cells_read 1 bounds.cells (omega (arith, is.0))) refl
certificate_reads (Selectivity anchor) is = rw (number_of-decimal anchor (omega (arith, is.0.1))) refl
certificate_reads (Cost anchor) is = rw (number_of-decimal anchor (omega (arith, is.0.1))) refl

certificate_numbers : (cert : Cert) → IsCertificate cert → HasNumbers (outline (certificate_data cert))
certificate_numbers (Optimum bounds) is = (tt, (tt, (cells_numbers 1 bounds.cells (omega (arith, is.0)), tt)))
certificate_numbers (Selectivity anchor) is = (IsNumber-decimal anchor (omega (arith, is.0.1)), (tt, tt))
certificate_numbers (Cost anchor) is = (IsNumber-decimal anchor (omega (arith, is.0.1)), (tt, tt))

certificate_flat : (cert : Cert) → depth (outline (certificate_data cert)) ≤ max_depth
certificate_flat (Optimum bounds) = let h = cells_flat 1 bounds.cells in omega arith
certificate_flat (Selectivity anchor) = omega arith
certificate_flat (Cost anchor) = omega arith

pub certificate_read : (cert : Cert) → IsCertificate cert → IsTextOf cert (certificate_text cert)
certificate_read cert is =
    read_again (certificate_data cert) (certificate_numbers cert is) (certificate_flat cert)
    (certificate_reads cert is)
