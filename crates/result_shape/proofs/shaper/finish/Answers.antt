use Rattle.std.proofs.Common.{◌<◌, ◌≤◌, ◌++◌, ◌∷◌, [], ℕ, List, min, length, length-take, take, sym, ◌∙◌, ap, arith, subst}
use Rattle.std.proofs.lemmas.List.{take_more}
use Rattle.csv_tables.specs.StatementTables.{rows_in, tables_in}
use Rattle.result_shape.specs.Rows.{IsPushed, StandsFor}
use Rattle.result_shape.specs.declared.shaper.Pushed.{Pushed}
use Rattle.result_shape.proofs.Shapes.{plain_length}
use Rattle.result_shape.proofs.shaper.finish.Goals as goal

pub returns-in-TooManyRows : goal.returns-in-TooManyRows
returns-in-TooManyRows c =
    let pushed = subst (λ (r : Pushed). IsPushed c.args.q.now (tables_in c.args.tables.now)
    (take c.loop-combo.combo-index c.as_slice-combo-items.result.now) c.combo-item.result c.push.new.self r)
    c.in-TooManyRows.is
    (c.in_ok-push.ensures.pushed (tables_in c.args.tables.now)
    (take c.loop-combo.combo-index c.as_slice-combo-items.result.now) c.loop-combo.invariant) in
    let many : 1000000 ≤ min c.loop-combo.combo-index (length c.as_slice-combo-items.result.now) =
    rw length-take at pushed.2 in
    let more : 1000000 < length c.as_slice-combo-items.result.now = omega (arith, many, c.loop-combo-test.true) in
    subst (λ (n : ℕ). 1000000 < n)
    (ap (λ (combos : List (List ℕ)). length combos) c.as_slice-combo-items.ensures
    ∙ sym (plain_length c.args.q.now (rows_in (tables_in c.args.tables.now)) c.args.combos pushed.1))
    more

pub loop-combo-preserved : goal.loop-combo-preserved
loop-combo-preserved c =
    let pushed = subst (λ (r : Pushed). IsPushed c.args.q.now (tables_in c.args.tables.now)
    (take c.loop-combo.combo-index c.as_slice-combo-items.result.now) c.combo-item.result c.push.new.self r)
    c.in-More.is
    (c.in_ok-push.ensures.pushed (tables_in c.args.tables.now)
    (take c.loop-combo.combo-index c.as_slice-combo-items.result.now) c.loop-combo.invariant) in
    subst (StandsFor c.args.q.now (tables_in c.args.tables.now) c.push.new.self)
    (ap (λ (one : List ℕ). take c.loop-combo.combo-index c.as_slice-combo-items.result.now ++ one ∷ []) c.combo-item.is
    ∙ sym (take_more c.as_slice-combo-items.result.now c.loop-combo.combo-index c.combo-item.result
    c.loop-combo-test.true))
    pushed.0
