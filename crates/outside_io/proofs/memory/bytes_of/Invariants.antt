use Rattle.std.proofs.Common.{◌≡◌, drop}
use Rattle.outside_io.specs.Memory.{bytes_at}
use Rattle.outside_io.proofs.memory.bytes_of.Given as goal

abbrev pub invariant-loop-file : goal.invariant-loop-file
invariant-loop-file l = bytes_at (drop l.file-index l.files) l.name ≡ bytes_at l.files l.name
