use Rattle.std.proofs.Common.{◌≡◌, drop}
use Rattle.outside_io.specs.Memory.{takes_at}
use Rattle.outside_io.proofs.memory.takes_of.Given as goal

abbrev pub invariant-loop-put : goal.invariant-loop-put
invariant-loop-put l = takes_at (drop l.put-index l.failing) l.call ≡ takes_at l.failing l.call
