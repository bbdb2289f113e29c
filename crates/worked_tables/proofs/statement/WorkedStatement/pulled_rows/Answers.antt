use Rattle.std.proofs.Common.{◌≤◌, ◌+◌, ◌++◌, ◌∷◌, [], length, arith, subst}
use Rattle.std.proofs.lemmas.List.{length_push}
use Rattle.result_shape.specs.Rows.{IsPushed}
use Rattle.result_shape.specs.declared.shaper.Pushed.{Pushed}
use Rattle.worked_tables.proofs.statement.WorkedStatement.pulled_rows.Goals as goal

pub push-requires : goal.push-requires
push-requires c =
    let some = c.loop-pushed.invariant in
    record { standing = (some.0, (some.1.0, (some.1.1.0, omega (arith, some.1.1.1)))) }

pub loop-pushed-init : goal.loop-pushed-init
loop-pushed-init c = (_, ([], (c.in_ok-shaper.ensures, omega arith)))

pub loop-pushed-preserved : goal.loop-pushed-preserved
loop-pushed-preserved c =
    let some = c.loop-pushed.invariant in
    let pushed = subst (λ (r : Pushed). IsPushed c.self.inside.query some.0 some.1.0 c.in-Some.combo c.push.new.self r)
    c.in-More.is (c.in_ok-push.ensures.pushed some.0 some.1.0 some.1.1.0) in
    let more : length (some.1.0 ++ c.in-Some.combo ∷ []) ≤ c.loop-pushed._pushed + 1 =
    omega (arith, length_push some.1.0 c.in-Some.combo, some.1.1.1) in
    (some.0, (some.1.0 ++ c.in-Some.combo ∷ [], (pushed.0, more)))
