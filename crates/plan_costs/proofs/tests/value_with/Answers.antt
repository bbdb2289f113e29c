use Rattle.std.proofs.Common.{rules, ℕ, zero, suc, ◌≤◌, [], ◌∷◌, All, arith}
use Rattle.plan_costs.proofs.tests.value_with.Goals as goal

one_some : (n : ℕ) → 1 ≤ n → All (λ count. 1 ≤ count) (n ∷ [])
one_some n h zero d less = h
one_some n h (suc k) d less = absurd (omega arith)

pub eval-requires : goal.eval-requires
eval-requires c = c.requires (c.args.rows ∷ []) (c.takes.ensures (search rules)).one_each
    (one_some c.args.rows (omega arith))
