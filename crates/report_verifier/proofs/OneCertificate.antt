-- One text is JSON of one certificate at most, and spells one cost at most.
use Rattle.std.proofs.Common.{ℕ, ◌≡◌, ◌<◌, ◌^◌, ◌∙◌, ◌+◌, List, [], ◌∷◌, All, Option, Some, None, IfSome, ap, codes}
use Rattle.std.proofs.Common.{decimal, length}
use Rattle.std.proofs.Common.{arith, refl, sym}
use Rattle.std.proofs.lemmas.Fmt.{decimal_is_IsNumeral_wide}
use Rattle.std.proofs.lemmas.List.Elements.{All-head, All-tail}
use Rattle.std.proofs.lemmas.Option.{same_Some}
use Rattle.std.specs.Str.Parse.{digits_value}
use Rattle.plan_costs.specs.declared.potentials.Cell.{Cell}
use Rattle.bound_certificate.specs.Certificates.{IsCell, IsCertificate, cells_data, certificate_data, sorted_data}
use Rattle.bound_certificate.specs.declared.certificates.Cert.{Cert}
use Rattle.bound_certificate.specs.declared.certificates.Cert.TheVariants.{Cost, Optimum, Selectivity}
use Rattle.report_verifier.specs.Claims.{IsCertText, IsCostText}

decimal_once : (a b : ℕ) → a < 2 ^ 128 → b < 2 ^ 128 → decimal a ≡ decimal b → a ≡ b
decimal_once a b small low e =
    let few : a < 10 ^ 64 = omega arith in
    let less : b < 10 ^ 64 = omega arith in
    sym (decimal_is_IsNumeral_wide a few).1 ∙ ap (digits_value 10) e ∙ (decimal_is_IsNumeral_wide b less).1

pub one_cost : (text : List ℕ) (a b : ℕ) → IsCostText text a → IsCostText text b → a ≡ b
one_cost text a b h k = decimal_once a b h.small k.small (sym h.spelled ∙ k.spelled)

sorted_once : (a b : Option ℕ) → IfSome a (λ c. c < 2 ^ 128) → IfSome b (λ c. c < 2 ^ 128)
    → sorted_data a ≡ sorted_data b → a ≡ b
sorted_once None None h k e = refl
sorted_once None (Some b) h k e = absurd cc
sorted_once (Some a) None h k e = absurd cc
sorted_once (Some a) (Some b) h k e = let d : decimal a ≡ decimal b = cc in ap (λ c. Some c) (decimal_once a b h k d)

cells_once : (set : ℕ) (a b : List Cell) → All IsCell a → All IsCell b → cells_data set a ≡ cells_data set b → a ≡ b
cells_once set [] [] h k e = refl
cells_once set [] (cell ∷ cells) h k e = absurd cc
cells_once set (cell ∷ cells) [] h k e = absurd cc
cells_once set (a ∷ as') (b ∷ bs) h k e =
    let any : decimal a.any ≡ decimal b.any = cc in
    let sorted : sorted_data a.sorted ≡ sorted_data b.sorted = cc in
    let rest : cells_data (set + 1) as' ≡ cells_data (set + 1) bs = cc in
    let here = All-head IsCell a as' h in
    let there = All-head IsCell b bs k in
    let same_any = decimal_once a.any b.any here.any there.any any in
    let same_sorted = sorted_once a.sorted b.sorted here.sorted there.sorted sorted in
    let later = cells_once (set + 1) as' bs (All-tail IsCell a as' h) (All-tail IsCell b bs k) rest in
    λ i. (record { any = same_any i; sorted = same_sorted i }) ∷ later i

data_once : (a b : Cert) → IsCertificate a → IsCertificate b → certificate_data a ≡ certificate_data b → a ≡ b
data_once (Optimum a) (Optimum b) h k e =
    let number : decimal a.least ≡ decimal b.least = cc in
    let table : cells_data 1 a.cells ≡ cells_data 1 b.cells = cc in
    let least = decimal_once a.least b.least h.1.0 k.1.0 number in
    let cells = cells_once 1 a.cells b.cells h.1.1 k.1.1 table in
    λ i. Optimum (record { cells = cells i; least = least i })
data_once (Selectivity a) (Selectivity b) h k e = let same : a ≡ b = cc in ap (λ n. Selectivity n) same
data_once (Cost a) (Cost b) h k e = let same : a ≡ b = cc in ap (λ n. Cost n) same
data_once (Optimum a) (Selectivity b) h k e = absurd (let w : codes "kind" ≡ codes "anchor" = cc in let l = ap
    length w in omega arith)
data_once (Optimum a) (Cost b) h k e = absurd (let w : codes "kind" ≡ codes "anchor" = cc in let l = ap length w in
    omega arith)
data_once (Selectivity a) (Optimum b) h k e = absurd (let w : codes "anchor" ≡ codes "kind" = cc in let l = ap
    length w in omega arith)
data_once (Cost a) (Optimum b) h k e = absurd (let w : codes "anchor" ≡ codes "kind" = cc in let l = ap length w in
    omega arith)
data_once (Selectivity a) (Cost b) h k e =
    absurd (let w : codes "selectivity" ≡ codes "cost" = cc in let l = ap length w in omega arith)
data_once (Cost a) (Selectivity b) h k e =
    absurd (let w : codes "cost" ≡ codes "selectivity" = cc in let l = ap length w in omega arith)

pub one_certificate : (text : List ℕ) (a b : Cert) → IsCertText text a → IsCertText text b → a ≡ b
one_certificate text a b h k =
    data_once a b h.certificate k.certificate
    (same_Some (certificate_data a) (certificate_data b) (sym h.spelled ∙ k.spelled))
