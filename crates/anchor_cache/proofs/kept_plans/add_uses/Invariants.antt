use Rattle.std.proofs.Common.{◌≡◌, ◌<◌, ◌≤◌, ◌+◌, ◌^◌, ◌++◌, ℕ, drop, length, map, slice_index_or, take}
use Rattle.anchor_cache.specs.declared.kept_plans.PlanUses.{PlanUses}
use Rattle.anchor_cache.specs.Sums.{used_more}
use Rattle.anchor_cache.proofs.kept_plans.add_uses.Given as goal

-- the sums so far have more, and the others are as they were
abbrev pub invariant-loop-sum : goal.invariant-loop-sum
invariant-loop-sum l =
    record {
      done : l.sum-items ≡ map (used_more l.plan l.uses)
          (take l.sum-index l.fn.sums.items) ++ drop l.sum-index l.fn.sums.items;
      long : length l.sum-items ≡ length l.fn.sums.items;
      fits : (k : ℕ) (d : PlanUses) → l.sum-index ≤ k → k < length l.sum-items
          → (slice_index_or l.sum-items k d).uses + l.uses < 2 ^ 128;
    }
