use Rattle.std.proofs.Common.{rules}
use Rattle.std.proofs.lemmas.List.{take_rest}
use Rattle.outside_io.proofs.KeptBytes.{appends_more}
use Rattle.outside_io.proofs.host.write_whole.Goals as goal

pub loop-at-preserved : goal.loop-at-preserved
loop-at-preserved g c = record {
  within = search rules;
  so_far = appends_more _ _ _ _ _ _ c.loop-at.invariant.so_far
      (rw (take_rest c.args.bytes.now c.loop-at.at) at c.in-Ok.ensures.bytes);
}
