use Rattle.std.proofs.Common.{rules}
use Rattle.outside_io.proofs.KeptBytes.{up_to-enough, up_to-ended}
use Rattle.outside_io.proofs.host.read_up_to.Goals as goal

pub returns-in-Ok-eq0-clause-got : goal.returns-in-Ok-eq0-clause-got
returns-in-Ok-eq0-clause-got g c =
    λ _. up_to-ended _ _ _ _ _ _ _ c.loop-buffer.invariant.so_far c.loop-buffer.invariant.long c.in-Ok-eq0.field-0-test
    (search rules) c.in-Ok-eq0.ensures.bytes

pub returns-clause-got : goal.returns-clause-got
returns-clause-got g c = λ _. up_to-enough _ _ _ _ c.loop-buffer.invariant.so_far (search rules)
