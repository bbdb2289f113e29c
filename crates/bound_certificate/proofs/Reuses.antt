-- What is written of a reuse is read as it, and as no other certificate.
use Rattle.std.proofs.Common.{ℕ, ◌≡◌, ◌<◌, ◌^◌, ◌∙◌, ◌++◌, List, Option, Some, ap, codes, decimal, refl, sym}
use Rattle.std.proofs.Common.{option_and_then}
use Rattle.json.specs.Json.{if_last, value}
use Rattle.json.specs.Lex.{tokens}
use Rattle.json.specs.Print.{ArePrintable, escape_byte}
use Rattle.json.specs.Token.{Token}
use Rattle.json.specs.Tree.{json_tokens}
use Rattle.json.proofs.OnLiterals.{json_on_literals}
use Rattle.json.proofs.Printed.Decimals.{IsNumber-decimal}
use Rattle.json.proofs.Printed.Tokens.{tokens-print}
use Rattle.serde_json.specs.Data.{Data}
use Rattle.serde_json.specs.Read.{max_depth, of_json, read}
use Rattle.serde_json.specs.Written.{compact_text, outline}
use Rattle.serde_json.proofs.Numbers.{number_of-decimal}
use Rattle.serde_json.proofs.Texts.{print-outline}
use Rattle.bound_certificate.specs.Certificates.{IsTextOf, anchor_data}
use Rattle.bound_certificate.specs.declared.certificates.Cert.TheVariants.{Cost, Selectivity}

-- the tokens that are written are read
printed : (kind : List ℕ) (anchor : ℕ) → anchor < 2 ^ 64
    → tokens (compact_text (anchor_data kind anchor)) ≡ json_tokens (outline (anchor_data kind anchor))
unfolding ArePrintable
printed kind anchor small =
    ap tokens (sym (print-outline (anchor_data kind anchor)))
    ∙ tokens-print (json_tokens (outline (anchor_data kind anchor)))
    (tt, (tt, (IsNumber-decimal anchor small, (tt, (tt, (tt, tt))))))

-- what tokens are, as JSON
read_tokens : List Token → Option Data
read_tokens ts = option_and_then of_json (option_and_then (λ p. if_last p.0 p.1) (value max_depth ts))

told : (kind : List ℕ) (anchor : ℕ) → anchor < 2 ^ 64
    → read_tokens (json_tokens (outline (anchor_data kind anchor))) ≡ Some (anchor_data kind anchor)
unfolding json_on_literals read_tokens
told kind anchor small = rw (number_of-decimal anchor small) refl

pub read_reuse : (kind : List ℕ) (anchor : ℕ) → anchor < 2 ^ 64
    → read (compact_text (anchor_data kind anchor)) ≡ Some (anchor_data kind anchor)
unfolding read_tokens
read_reuse kind anchor small = ap read_tokens (printed kind anchor small) ∙ told kind anchor small

-- A text that is taken apart: what stands before the number, the number, and what stands behind it.

parted : (text rest digits front back : List ℕ) (anchor : ℕ) → text ≡ front ++ rest → rest ≡ digits ++ back
    → digits ≡ decimal anchor → text ≡ front ++ (decimal anchor ++ back)
parted text rest digits front back anchor t r d = t ∙ ap (λ x. front ++ x) (r ∙ ap (λ x. x ++ back) d)

pub of_selectivity : (text rest digits : List ℕ) (anchor : ℕ) → text ≡ codes "{\"anchor\":" ++ rest
    → rest ≡ digits ++ codes ",\"kind\":\"selectivity\"}" → digits ≡ decimal anchor → anchor < 2 ^ 64
    → IsTextOf (Selectivity anchor) text
unfolding escape_byte
of_selectivity text rest digits anchor t r d small =
    ap read (parted text rest digits (codes "{\"anchor\":") (codes ",\"kind\":\"selectivity\"}") anchor t r d)
    ∙ read_reuse (codes "selectivity") anchor small

pub of_cost : (text rest digits : List ℕ) (anchor : ℕ) → text ≡ codes "{\"anchor\":" ++ rest
    → rest ≡ digits ++ codes ",\"kind\":\"cost\"}" → digits ≡ decimal anchor → anchor < 2 ^ 64
    → IsTextOf (Cost anchor) text
unfolding escape_byte
of_cost text rest digits anchor t r d small =
    ap read (parted text rest digits (codes "{\"anchor\":") (codes ",\"kind\":\"cost\"}") anchor t r d)
    ∙ read_reuse (codes "cost") anchor small
