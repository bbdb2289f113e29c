-- Heads as a report writes them, which are read as what they say.
use Rattle.std.specs.Prelude.{ℕ, ◌≡◌, ◌≤◌, ◌<◌, ◌^◌, List, ◌++◌, codes, Some, true}
use Rattle.std.specs.Fmt.{decimal}
use Rattle.row_values.specs.Names.{canonical_name}
use Rattle.sql_parser.specs.Statement.{is_name}
use Rattle.report_items.specs.Heads.{heading_of, too_large_in}

-- `L ran NAME execution E`
abbrev pub ran_head : ℕ → List ℕ → ℕ → List ℕ
ran_head line name number =
    decimal line ++ (codes " ran " ++ (canonical_name name ++ (codes " execution " ++ decimal number)))

-- `L opened CUR NAME execution E`
abbrev pub opened_head : ℕ → List ℕ → List ℕ → ℕ → List ℕ
opened_head line cursor name number =
    decimal line ++ (codes " opened "
    ++ (canonical_name cursor ++ (codes " " ++ (canonical_name name ++ (codes " execution " ++ decimal number)))))

-- `L refused 12 too many rows`
abbrev pub too_large_head : ℕ → List ℕ
too_large_head line = decimal line ++ codes " refused 12 too many rows"

pub record IsNumber (number : ℕ) : Type 0 where
  pub positive : 1 ≤ number
  pub small : number < 2 ^ 63

abbrev pub RanLaw : Type 0
RanLaw =
    (line number : ℕ) (name : List ℕ) → IsNumber line → IsNumber number → is_name name ≡ true
    → heading_of (ran_head line name number) ≡ Some (record { line = line; name = name; number = number })

abbrev pub OpenedLaw : Type 0
OpenedLaw =
    (line number : ℕ) (cursor name : List ℕ) → IsNumber line → IsNumber number → is_name cursor ≡ true
    → is_name name ≡ true
    → heading_of (opened_head line cursor name number) ≡ Some (record { line = line; name = name; number = number })

abbrev pub TooLargeLaw : Type 0
TooLargeLaw = (line : ℕ) → IsNumber line → too_large_in (too_large_head line) ≡ Some line
