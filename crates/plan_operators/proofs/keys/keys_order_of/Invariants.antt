use Rattle.std.proofs.Common.{◌≡◌, drop}
use Rattle.plan_operators.specs.Keys.{keys_rank}
use Rattle.plan_operators.proofs.keys.keys_order_of.Given as goal

-- the keys that are left decide
abbrev pub invariant-loop-key : goal.invariant-loop-key
invariant-loop-key l = keys_rank (drop l.key-index l.keys) l.a l.b ≡ keys_rank l.keys l.a l.b
