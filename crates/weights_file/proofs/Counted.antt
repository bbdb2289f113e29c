-- How many members a map has.
use Rattle.std.proofs.Common.{◌≡◌, ap, refl, List, [], ◌∷◌, length, add-one, ◌∙◌, suc}
use Rattle.std.specs.Prelude.{String}
use Rattle.std.specs.declared.alloc.Global.{Global}
use Rattle.serde_json.specs.View.{members_view}
use Rattle.serde_json.specs.declared.value.Value.{Value}
use Rattle.weights_file.specs.Files.{count_members}

pub counted : (members : List (String Global × Value)) → count_members (members_view members) ≡ length members
counted [] = refl
counted (m ∷ members) = add-one _ ∙ ap suc (counted members)
