use Rattle.std.proofs.Common.{◌≡◌, ◌≤◌, Some, false, ap, sym, ◌∙◌, subst}
use Rattle.serde_json.specs.Data.{depth}
use Rattle.serde_json.specs.Read.{max_depth}
use Rattle.serde_json.specs.View.{view}
use Rattle.serde_json.specs.Written.{compact_text, has_float}
use Rattle.bound_certificate.specs.declared.certificates.Cert.TheVariants.{Optimum}
use Rattle.bound_certificate.proofs.Shapes.{exact, flat}
use Rattle.bound_certificate.proofs.writing.optimum_text.Goals as goal

pub returns-clause-value : goal.returns-clause-value
returns-clause-value c =
    let same = c.in_ok-value.ensures in
    let plain : has_float (view c.in_ok-value.value) ≡ false =
    ap has_float same ∙ exact (Optimum c.args.potentials.now) in
    c.in_ok-text.ensures.text plain ∙ ap compact_text same

pub returns-clause-read_again : goal.returns-clause-read_again
returns-clause-read_again c =
    let same = c.in_ok-value.ensures in
    let deep : depth (view c.in_ok-value.value) ≤ max_depth =
    subst (λ d. depth d ≤ max_depth) (sym same) (flat (Optimum c.args.potentials.now)) in
    c.in_ok-text.ensures.reads_back deep ∙ ap Some same
