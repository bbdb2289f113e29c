-- A survey of some rows, and of those that are left.
use Rattle.std.proofs.Common.{◌≡◌, ◌<◌, ◌+◌, ℕ, zero, suc, Bool, true, false, ◌&&◌, if◌then◌else◌, List, [], ◌∷◌}
use Rattle.std.proofs.Common.{get_or, length, option_map, Option, None, Some, refl, sym, ap, ◌∙◌, add-one, add-suc}
use Rattle.std.proofs.Common.{add-zero, zero-add, suc-add, arith, inl, inr, ◌==◌}
use Rattle.std.specs.Option.{option_or}
use Rattle.std.proofs.lemmas.Bool.{cases_Bool}
use Rattle.std.proofs.lemmas.List.{length-replicate, get_or-replicate}
use Rattle.csv_tables.specs.Cells.{all_numbers, bad_column, field}
use Rattle.csv_tables.specs.Numbers.{is_whole_number}
use Rattle.csv_tables.specs.Spelled.{bad_cell, cell_in_row, uneven_row}
use Rattle.csv_tables.specs.Surveys.{IsNew, IsSurvey, Notes, numbers_after}
use Rattle.csv_tables.specs.declared.header.Heading.{Heading}
use Rattle.csv_tables.specs.declared.survey.Survey.{Survey}

-- what the survey found and the rows that are left decide as all the rows do
pub record SurveysRest (headings : List Heading) (all rest : List (List (List ℕ))) (survey : Survey) : Type 0 where
  pub row_count : survey.row_count + length rest ≡ length all
  pub bad_cell : option_or survey.bad_cell (bad_cell (survey.row_count + 1) headings rest) ≡ bad_cell 1 headings all
  pub one_each : length survey.numbers.items ≡ length headings
  pub numbers : (column : ℕ) → column < length headings
      → (get_or survey.numbers.items column false && all_numbers column rest) ≡ all_numbers column all

pub at_start : (headings : List Heading) (all : List (List (List ℕ))) (survey : Survey) → IsNew (length headings) survey
    → SurveysRest headings all all survey
at_start headings all survey new = record {
  row_count = rw new.row_count (zero-add (length all));
  bad_cell = rw (new.row_count, new.bad_cell) refl;
  one_each = rw new.numbers (length-replicate (length headings) true);
  numbers = λ column h. rw (new.numbers, get_or-replicate (length headings) column true false h) refl;
}

no_more : (b : Bool) → (b && true) ≡ b
no_more true = refl
no_more false = refl

pub none_later : {T : Type 0} → (found : Option T) → option_or found None ≡ found
none_later None = refl
none_later (Some found) = refl

pub at_end : (headings : List Heading) (all : List (List (List ℕ))) (survey : Survey)
    → SurveysRest headings all [] survey → IsSurvey headings all survey
at_end headings all survey rest = record {
  row_count = sym (add-zero survey.row_count) ∙ rest.row_count;
  bad_cell = sym (none_later survey.bad_cell) ∙ rest.bad_cell;
  one_each = rest.one_each;
  numbers = λ column h. sym (no_more (get_or survey.numbers.items column false)) ∙ rest.numbers column h;
}

pub uneven_step : (found : Option ℕ) (n width : ℕ) (row : List (List ℕ)) (rest : List (List (List ℕ)))
    → option_or (option_or found (if length row == width then None else Some n)) (uneven_row (n + 1) width rest)
    ≡ option_or found (uneven_row n width (row ∷ rest))
uneven_step (Some found) n width row rest = refl
uneven_step None n width row rest =
    elim (cases_Bool (length row == width)) [ inl e ↦ rw (e, add-one n) refl | inr e ↦ rw e refl ]

in_row : (found : Option (ℕ × ℕ)) (n : ℕ) (column : Option ℕ) (below : Option (ℕ × ℕ))
    → option_or (option_or found (option_map (λ column. (n, column)) column)) below
    ≡ option_or found (cell_in_row n column below)
in_row (Some found) n column below = refl
in_row None n None below = refl
in_row None n (Some column) below = refl

numbers_length : (column : ℕ) (numbers : List Bool) (row : List (List ℕ))
    → length (numbers_after column numbers row) ≡ length numbers
numbers_length column [] row = refl
numbers_length column (number ∷ numbers) row = ap suc (numbers_length (suc column) numbers row)

number_after : (from column : ℕ) (numbers : List Bool) (row : List (List ℕ)) → column < length numbers
    → get_or (numbers_after from numbers row) column false
    ≡ (get_or numbers column false && is_whole_number (field row (from + column)))
number_after from column [] row h = absurd (omega arith)
number_after from zero (number ∷ numbers) row h = rw (add-zero from) refl
number_after from (suc column) (number ∷ numbers) row h =
    rw add-suc (rw suc-add at (number_after (suc from) column numbers row (omega arith)))

and_assoc : (a b c : Bool) → ((a && b) && c) ≡ (a && (b && c))
and_assoc true b c = refl
and_assoc false b c = refl

pub step : (headings : List Heading) (all rest : List (List (List ℕ))) (row : List (List ℕ)) (old new : Survey)
    → SurveysRest headings all (row ∷ rest) old → Notes headings row old new → SurveysRest headings all rest new
step headings all rest row old new was notes = record {
  row_count =
      let next : old.row_count + 1 + length rest ≡ old.row_count + suc (length rest) =
      omega arith in rw notes.row_count (next ∙ was.row_count);
  bad_cell = rw (notes.bad_cell, notes.row_count, add-one (old.row_count + 1))
      (in_row old.bad_cell (old.row_count + 1) (bad_column 0 headings row)
      (bad_cell (suc (old.row_count + 1)) headings rest) ∙ was.bad_cell);
  one_each = rw notes.numbers (numbers_length 0 old.numbers.items row ∙ was.one_each);
  numbers = λ column h.
      let within : column < length old.numbers.items = rw was.one_each h in
      rw (notes.numbers, number_after 0 column old.numbers.items row within, zero-add column)
      (and_assoc (get_or old.numbers.items column false) (is_whole_number (field row column)) (all_numbers column rest)
      ∙ was.numbers column h);
}
