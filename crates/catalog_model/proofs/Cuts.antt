-- A file that is cut behind its limit is too long, and so is the whole one.
use Rattle.std.proofs.Common.{ℕ, ◌≡◌, ◌≤◌, ◌∙◌, ◌+◌, List, length, take, nat_lt, Bool, true, false, ap, refl, arith, cond}
use Rattle.std.proofs.lemmas.Bool.Decides.{nat_tests}
use Rattle.std.proofs.lemmas.List.{take_all, length-take}
use Rattle.outside_model.specs.declared.TheConstants.{FILE_LIMIT}
use Rattle.outside_model.specs.Files.{up_to}
use Rattle.csv_tables.specs.Spelled.{table_of}
use Rattle.catalog_model.specs.Catalogs.{Catalog, Version}
use Rattle.catalog_model.specs.Loading.{loading_of, spelled_version}

cut_by : {T : Type 0} (limit : ℕ) (bytes : List ℕ) (long : T) (read : List ℕ → T) (test : Bool)
    → nat_lt limit (length bytes) ≡ test →
    cond (nat_lt limit (length (take (limit + 1) bytes))) long (read (take (limit + 1) bytes)) ≡ cond test long
    (read bytes)
cut_by {T = T} limit bytes long read true h =
    let l = length-take (limit + 1) bytes in
    let e : nat_lt limit (length (take (limit + 1) bytes)) ≡ true = grind (arith, nat_tests) in
    ap (λ (b : Bool). cond b long (read (take (limit + 1) bytes))) e
cut_by {T = T} limit bytes long read false h =
    let s : length bytes ≤ limit + 1 = grind (arith, nat_tests) in
    ap (λ (b : List ℕ). cond (nat_lt limit (length b)) long (read b)) (take_all (limit + 1) bytes s)
    ∙ ap (λ (b : Bool). cond b long (read bytes)) h

-- the same of what takes one answer of all files that are too long
pub cut : {T : Type 0} (limit : ℕ) (bytes : List ℕ) (long : T) (read : List ℕ → T) →
    cond (nat_lt limit (length (up_to limit bytes))) long (read (up_to limit bytes)) ≡ cond
    (nat_lt limit (length bytes)) long (read bytes)
unfolding up_to
cut limit bytes long read = cut_by limit bytes long read (nat_lt limit (length bytes)) refl

pub cut_load : (held : List Version) (catalog : Catalog) (name bytes : List ℕ)
    → loading_of held catalog name (up_to FILE_LIMIT bytes) ≡ loading_of held catalog name bytes
unfolding loading_of
cut_load held catalog name bytes =
    cut FILE_LIMIT bytes _ (λ (b : List ℕ). spelled_version held catalog name (length b) (table_of b))
