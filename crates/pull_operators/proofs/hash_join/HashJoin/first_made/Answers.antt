use Rattle.std.proofs.Common.{◌≡◌, ◌+◌, ◌∷◌, ◌∙◌, List, ℕ, ap, false, sym, true}
use Rattle.std.specs.Prelude.{slice_range}
use Rattle.plan_trees.specs.PlaceSets.{has}
use Rattle.statement_meaning.specs.PartialCombinations.{merged}
use Rattle.plan_operators.specs.Edges.{all_meet}
use Rattle.plan_operators.specs.declared.edges.ReadyEdge.{ReadyEdge}
use Rattle.pull_operators.specs.StillToCome.{hash_from}
use Rattle.pull_operators.proofs.Turns.{passed, range_more, taken}
use Rattle.pull_operators.proofs.hash_join.HashJoin.first_made.Goals as goal

pub returns-then-meets_all-clause-found : goal.returns-then-meets_all-clause-found
returns-then-meets_all-clause-found c =
    let self = c.args.self.now in
    let first = range_more self.side.combos.items c.loop-position.position self.end c.index.result.now
    c.loop-position-test.true c.requires.inside
    ∙ ap (λ (x : List ℕ). x ∷ slice_range self.side.combos.items (c.loop-position.position + 1) self.end)
    (sym c.index.ensures) in
    let meets : all_meet self.edges.items (merged (has self.places) self.combo c.index.result.now) ≡ true =
    ap (all_meet self.edges.items) (sym c.merge-made.ensures)
    ∙ (ap (λ (edges : List ReadyEdge). all_meet edges c.merge-made.result) (sym c.deref.ensures.value)
    ∙ (sym c.meets_all.ensures ∙ c.if-meets_all.true)) in
    c.loop-position.invariant
    ∙ (taken (merged (has self.places) self.combo) (all_meet self.edges.items)
    (slice_range self.side.combos.items c.loop-position.position self.end)
    (slice_range self.side.combos.items (c.loop-position.position + 1) self.end) c.index.result.now first meets
    ∙ ap (λ (made : List ℕ). made ∷ hash_from self (c.loop-position.position + 1)) (sym c.merge-made.ensures))

pub loop-position-preserved : goal.loop-position-preserved
loop-position-preserved c =
    let self = c.args.self.now in
    let first = range_more self.side.combos.items c.loop-position.position self.end c.index.result.now
    c.loop-position-test.true c.requires.inside
    ∙ ap (λ (x : List ℕ). x ∷ slice_range self.side.combos.items (c.loop-position.position + 1) self.end)
    (sym c.index.ensures) in
    let meets : all_meet self.edges.items (merged (has self.places) self.combo c.index.result.now) ≡ false =
    ap (all_meet self.edges.items) (sym c.merge-made.ensures)
    ∙ (ap (λ (edges : List ReadyEdge). all_meet edges c.merge-made.result) (sym c.deref.ensures.value)
    ∙ (sym c.meets_all.ensures ∙ c.if-meets_all.false)) in
    c.loop-position.invariant
    ∙ passed (merged (has self.places) self.combo) (all_meet self.edges.items)
    (slice_range self.side.combos.items c.loop-position.position self.end)
    (slice_range self.side.combos.items (c.loop-position.position + 1) self.end) c.index.result.now first meets
