-- What has no partner merges with any combination.
use Rattle.std.proofs.Common.{ℕ, ◌≡◌, List, [], get_or, length}
use Rattle.std.specs.Prelude.{All}
use Rattle.std.proofs.lemmas.List.Elements.{All-nil}

pub no_partner : (cs : List (List ℕ)) → All (λ (c : List ℕ). All (λ (d : List ℕ). length c ≡ length d) []) cs
no_partner cs k d l = All-nil (λ (e : List ℕ). length (get_or cs k d) ≡ length e)
