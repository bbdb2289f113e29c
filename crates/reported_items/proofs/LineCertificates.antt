-- Certificates are written on one line, which no CR ends.
use Rattle.std.proofs.Common.{ℕ, ◌≡◌, ◌+◌, ◌==◌, not, nat_lt, List, [], ◌∷◌, ◌++◌, codes, Bool, true, false, Option}
use Rattle.std.proofs.Common.{Some, None, append_assoc, refl, sym, subst, arith, ap, ◌∙◌}
use Rattle.std.specs.Char.{is_ascii_digit}
use Rattle.std.specs.Fmt.{decimal}
use Rattle.std.specs.Str.{all_ascii_digits}
use Rattle.std.proofs.lemmas.Bool.{and_from, and_parts}
use Rattle.std.proofs.lemmas.Bool.Decides.{nat_tests}
use Rattle.serde_json.specs.Data.{Members, array, member, no_members, number, string, unsigned}
use Rattle.serde_json.specs.Written.{comma_if, compact_text, items_text, members_text}
use Rattle.serde_json.proofs.OnLiterals.{serde_json_on_literals}
use Rattle.plan_costs.specs.declared.potentials.Cell.{Cell}
use Rattle.bound_certificate.specs.Certificates.{cell_data, cells_data, certificate_text, cost_data, sorted_data}
use Rattle.bound_certificate.specs.declared.certificates.Cert.{Cert}
use Rattle.bound_certificate.specs.declared.certificates.Cert.TheVariants.{Cost, Optimum, Selectivity}
use Rattle.reported_items.specs.Reported.{Stays, is_one_line}
use Rattle.reported_items.proofs.Pieces.{decimal_digits, decimal_one_line, end_stays, one_line_both}

-- what a digit is not
record IsDigit (d : ℕ) : Type 0 where
  quote : (d == 34) ≡ false
  slash : (d == 92) ≡ false
  back : (d == 8) ≡ false
  feed : (d == 12) ≡ false
  line : (d == 10) ≡ false
  return : (d == 13) ≡ false
  tab : (d == 9) ≡ false
  control : nat_lt d 32 ≡ false
  stays : not (d == 10) ≡ true

digit : (d : ℕ) → is_ascii_digit d ≡ true → IsDigit d
digit d h = record {
  quote = grind (arith, nat_tests);
  slash = grind (arith, nat_tests);
  back = grind (arith, nat_tests);
  feed = grind (arith, nat_tests);
  line = grind (arith, nat_tests);
  return = grind (arith, nat_tests);
  tab = grind (arith, nat_tests);
  control = grind (arith, nat_tests);
  stays = grind (arith, nat_tests);
}

digits_line : (ds : List ℕ) → all_ascii_digits ds ≡ true → is_one_line (compact_text (string ds)) ≡ true
unfolding serde_json_on_literals
digits_line [] h = refl
digits_line (d ∷ ds) h =
    let p = and_parts (is_ascii_digit d) (all_ascii_digits ds) h in
    let is = digit d p.0 in
    let quote : (d == 34) ≡ false = is.quote in
    let slash : (d == 92) ≡ false = is.slash in
    let back : (d == 8) ≡ false = is.back in
    let feed : (d == 12) ≡ false = is.feed in
    let line : (d == 10) ≡ false = is.line in
    let return : (d == 13) ≡ false = is.return in
    let tab : (d == 9) ≡ false = is.tab in
    let control : nat_lt d 32 ≡ false = is.control in
    rw (quote, slash, back, feed, line, return, tab, control)
    (and_from (not (d == 10)) (is_one_line (compact_text (string ds))) is.stays (digits_line ds p.1))

cost_line : (cost : ℕ) → is_one_line (compact_text (cost_data cost)) ≡ true
cost_line cost = digits_line (decimal cost) (decimal_digits cost)

sorted_line : (sorted : Option ℕ) → is_one_line (compact_text (sorted_data sorted)) ≡ true
sorted_line None = refl
sorted_line (Some cost) = cost_line cost

comma_line : (later : Bool) → is_one_line (comma_if later) ≡ true
comma_line true = refl
comma_line false = refl

cell_line : (set : ℕ) (cell : Cell) → is_one_line (compact_text (cell_data set cell)) ≡ true
unfolding serde_json_on_literals
cell_line set cell =
    let sorted : Members = member (codes "sorted") (sorted_data cell.sorted) no_members in
    one_line_both (compact_text (cost_data cell.any))
    (members_text true (member (codes "set") (number (unsigned set)) sorted)) (cost_line cell.any)
    (one_line_both (decimal set) (members_text true sorted) (decimal_one_line set)
    (one_line_both (compact_text (sorted_data cell.sorted)) (codes "}") (sorted_line cell.sorted) refl))

cells_line : (later : Bool) (set : ℕ) (cells : List Cell) → is_one_line (items_text later (cells_data set cells)) ≡ true
cells_line later set [] = refl
cells_line later set (cell ∷ cells) =
    one_line_both (comma_if later) (compact_text (cell_data set cell) ++ items_text true (cells_data (set + 1) cells))
    (comma_line later)
    (one_line_both (compact_text (cell_data set cell)) (items_text true (cells_data (set + 1) cells))
    (cell_line set cell) (cells_line true (set + 1) cells))

-- a certificate is of one line
pub certificate_line : (cert : Cert) → is_one_line (certificate_text cert) ≡ true
unfolding serde_json_on_literals
certificate_line (Optimum potentials) =
    one_line_both (compact_text (cost_data potentials.least))
    (members_text true (member (codes "table") (array (cells_data 1 potentials.cells)) no_members))
    (cost_line potentials.least)
    (one_line_both (items_text false (cells_data 1 potentials.cells)) (codes "}")
    (cells_line false 1 potentials.cells) refl)
certificate_line (Selectivity anchor) =
    one_line_both (decimal anchor) (members_text true (member (codes "kind") (string (codes "selectivity")) no_members))
    (decimal_one_line anchor) refl
certificate_line (Cost anchor) =
    one_line_both (decimal anchor) (members_text true (member (codes "kind") (string (codes "cost")) no_members))
    (decimal_one_line anchor) refl

-- a text that ends with a brace
record IsClosed (text : List ℕ) : Type 0 where
  before : List ℕ
  ends : text ≡ before ++ codes "}"

closed_behind : (a : List ℕ) {b : List ℕ} → IsClosed b → IsClosed (a ++ b)
closed_behind a c = record {
  before = a ++ c.before;
  ends = ap (λ (z : List ℕ). a ++ z) c.ends ∙ sym (append_assoc a c.before (codes "}"));
}

members_closed : (later : Bool) (members : Members) → IsClosed (members_text later members)
members_closed later no_members = record { before = []; ends = refl }
members_closed later (member key value members) =
    closed_behind (comma_if later) (closed_behind (compact_text (string key)) (closed_behind (codes ":")
    (closed_behind (compact_text value) (members_closed true members))))

closed_stays : (text : List ℕ) → IsClosed text → Stays (codes "cert " ++ text)
closed_stays text c =
    subst (λ (z : List ℕ). Stays (codes "cert " ++ z)) (sym c.ends)
    (end_stays (codes "cert " ++ c.before) (codes "}") (omega arith) refl)

-- no CR ends it
pub certificate_stays : (cert : Cert) → Stays (codes "cert " ++ certificate_text cert)
certificate_stays (Optimum potentials) =
    closed_stays _ (closed_behind (codes "{") (members_closed false (member (codes "kind") (string (codes "optimum"))
    (member (codes "least") (cost_data potentials.least)
    (member (codes "table") (array (cells_data 1 potentials.cells)) no_members)))))
certificate_stays (Selectivity anchor) =
    closed_stays _ (closed_behind (codes "{") (members_closed false (member (codes "anchor") (number (unsigned anchor))
    (member (codes "kind") (string (codes "selectivity")) no_members))))
certificate_stays (Cost anchor) =
    closed_stays _ (closed_behind (codes "{") (members_closed false (member (codes "anchor") (number (unsigned anchor))
    (member (codes "kind") (string (codes "cost")) no_members))))
