use Rattle.worked_caches.proofs.Sound.{nothing_kept}
use Rattle.worked_caches.proofs.caches.WorkedCache.new.Goals as goal

pub invariant_of-result : goal.invariant_of-result
invariant_of-result c = record {
  of_statement = nothing_kept c.args.worked.query c.args.worked.stats c.new.result 0 1 c.new.ensures.state;
}
