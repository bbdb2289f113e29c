use Rattle.std.proofs.Common.{◌≡◌, [], drop, take}
use Rattle.name_binder.specs.Refusals.{first_repeated_alias}
use Rattle.name_binder.proofs.places.first_repeated_alias.Given as goal

-- the entries that are left decide, against those before them
abbrev pub invariant-loop-i : goal.invariant-loop-i
invariant-loop-i l = first_repeated_alias (take l.i l.entries) (drop l.i l.entries) ≡ first_repeated_alias [] l.entries
