use Rattle.std.proofs.Common.{◌≡◌, ◌^◌, ◌-◌, ℕ, ap, length, subst, ◌∙◌}
use Rattle.csv_tables.specs.StatementTables.{rows_in, tables_in}
use Rattle.plan_trees.specs.PlaceSets.{has}
use Rattle.plan_trees.specs.Trees.{places_of}
use Rattle.statement_meaning.specs.Combinations.{world_of}
use Rattle.statement_meaning.specs.PartialCombinations.{Once}
use Rattle.statement_meaning.proofs.Keeping.{once_is_kept, sound_edges}
use Rattle.statement_meaning.proofs.PlaceSets.{once_whole}
use Rattle.pull_operators.specs.StillToCome.{chain_to_come}
use Rattle.pull_operators.proofs.pull.Pull.begin.Goals as goal

pub returns : goal.returns
returns c =
    let places : c.in_ok-chain.chain.places ≡ 2 ^ length c.args.q.now.places - 1 =
    c.in_ok-chain.ensures.places ∙ (ap places_of c.plan_under.ensures ∙ c.requires.valid.whole) in
    let once : Once (world_of c.args.q.now (rows_in (tables_in c.args.tables.now)) c.args.args.now)
    (has (2 ^ length c.args.q.now.places - 1)) (chain_to_come c.in_ok-chain.chain) =
    subst (λ (set : ℕ). Once (world_of c.args.q.now (rows_in (tables_in c.args.tables.now)) c.args.args.now) (has set)
    (chain_to_come c.in_ok-chain.chain)) places c.in_ok-chain.ensures.each_once in
    record {
      each_once =
          once_is_kept (world_of c.args.q.now (rows_in (tables_in c.args.tables.now)) c.args.args.now)
          (sound_edges c.args.q.now (rows_in (tables_in c.args.tables.now)) c.args.args.now c.sound.ensures.value)
          (chain_to_come c.in_ok-chain.chain)
          (once_whole (world_of c.args.q.now (rows_in (tables_in c.args.tables.now)) c.args.args.now)
          (chain_to_come c.in_ok-chain.chain) once);
      in_order = λ sorted. c.in_ok-chain.ensures.in_order (rw c.plan_under.ensures sorted);
    }
