-- Groups as lists of their members.
use Rattle.std.specs.Prelude.{ℕ, List, [], slice_index_or}
use Rattle.row_values.specs.declared.values.Value.{Value}
use Rattle.row_values.specs.declared.statement.Item.{Item}
use Rattle.statement_meaning.specs.Meaning.{Shown, shown_row}

-- the first member of a group
abbrev pub first_member : List (List ℕ) → List ℕ
first_member members = slice_index_or members 0 []

-- what the items show of a group with these members
abbrev pub group_row : List (List (List Value)) → List Item → List (List ℕ) → List Shown
group_row tables items members = shown_row tables items members (first_member members)
