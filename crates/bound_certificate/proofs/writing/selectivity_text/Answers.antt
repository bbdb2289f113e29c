use Rattle.std.proofs.Common.{◌∙◌, ap, arith, codes}
use Rattle.json.specs.Print.{escape_byte}
use Rattle.serde_json.specs.Read.{read}
use Rattle.bound_certificate.proofs.Reuses.{read_reuse}
use Rattle.bound_certificate.proofs.writing.selectivity_text.Goals as goal

pub returns-clause-value : goal.returns-clause-value
unfolding escape_byte
returns-clause-value c = c.in_ok-text.ensures.ok

pub returns-clause-read_again : goal.returns-clause-read_again
returns-clause-read_again c =
    ap read (returns-clause-value c) ∙ read_reuse (codes "selectivity") c.args.anchor (omega arith)
