use Rattle.std.proofs.Common.{◌≡◌, ◌<◌, ◌≤◌, ◌+◌, ◌⊎◌, inl, inr, ℕ, length, get_or, arith}
use Rattle.result_shape.specs.declared.tallies.Tally.{Tally}
use Rattle.result_shape.proofs.numbered.add_member_at.Goals as goal

pub returns-clause-others : goal.returns-clause-others
returns-clause-others c = λ k e apart. by_side k e apart
  where
    by_side : (k : ℕ) (e : Tally) → (k < c.args.start) ⊎ (c.args.start + length c.args.items.now ≤ k)
        → get_or c.loop-i.tallies k e ≡ get_or c.args.tallies.now k e
    by_side k e (inl l) = c.loop-i.invariant.before k e l
    by_side k e (inr l) = c.loop-i.invariant.left k e (omega (arith, l, c.loop-i-test.false, c.loop-i.auto.i-end))
