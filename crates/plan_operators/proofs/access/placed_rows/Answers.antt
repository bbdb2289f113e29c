use Rattle.std.proofs.Common.{ℕ, List, get_or, length, replicate, set, ap, ◌∙◌}
use Rattle.row_values.specs.declared.statement.Place.{Place}
use Rattle.statement_meaning.specs.PartialCombinations.{placed}
use Rattle.plan_operators.specs.Sources.{world_read}
use Rattle.plan_operators.proofs.Placing.{placed_next, pushed_last}
use Rattle.plan_operators.proofs.access.placed_rows.Goals as goal

pub loop-position-preserved : goal.loop-position-preserved
loop-position-preserved c =
    let zeros = c.zeros-none.ensures ∙ ap (λ (places : List Place). replicate (length places) 0) c.places.ensures.value
    in
    let last = c.index_mut.ensures.value
    ∙ (ap (λ (combos : List (List ℕ)). get_or combos c.loop-position.position c.index_mut.result.now)
    c.in_ok-push.ensures.items
    ∙ pushed_last (placed (world_read c.args.source.now) c.args.place) c.args.rows.now c.loop-position.position
    c.loop-position.combos.items c.zeros-none.result c.index_mut.result.now c.loop-position-test.true
    c.loop-position.invariant) in
    placed_next (placed (world_read c.args.source.now) c.args.place) c.args.rows.now c.loop-position.position 0
    c.loop-position.combos.items c.push.new.self.items c.zeros-none.result c.put.new.self c.loop-position-test.true
    c.loop-position.invariant c.in_ok-push.ensures.items
    (c.put.ensures ∙ ap (λ (combo : List ℕ). set combo c.args.place (get_or c.args.rows.now c.loop-position.position 0)) (last ∙ zeros))
