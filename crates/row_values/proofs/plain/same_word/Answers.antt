use Rattle.std.proofs.Common.{map, rules}
use Rattle.std.specs.Char.{to_ascii_lowercase}
use Rattle.std.proofs.lemmas.Bool.Decides.{same_from_decides}
use Rattle.std.proofs.lemmas.Slice.Eq.{bytes_eq-Decides}
use Rattle.row_values.proofs.plain.same_word.Goals as goal

pub returns : goal.returns
returns c = same_from_decides _ _ (λ e. c.eq_ignore_ascii_case.ensures.test.0 (search rules), λ e. search rules)
    (bytes_eq-Decides (map to_ascii_lowercase c.args.a.now) (map to_ascii_lowercase c.args.b.now))
