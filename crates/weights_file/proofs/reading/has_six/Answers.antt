use Rattle.std.proofs.Common.{◌∙◌, ◌==◌, ℕ, ap, sym}
use Rattle.weights_file.specs.Files.{has_six}
use Rattle.weights_file.proofs.Counted.{counted}
use Rattle.weights_file.proofs.reading.has_six.Goals as goal

pub returns-in-Some : goal.returns-in-Some
returns-in-Some c =
    let members = c.in-Some.members.now.entries in
    ap (λ (n : ℕ). n == 6) (c.len.ensures.len ∙ sym (counted members)) ∙ ap has_six c.in-Some.ensures
