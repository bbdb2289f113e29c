use Rattle.std.proofs.Common.{subst}
use Rattle.csv_tables.specs.StatementTables.{tables_in}
use Rattle.result_shape.specs.Rows.{IsPushed}
use Rattle.result_shape.specs.declared.shaper.Pushed.{Pushed}
use Rattle.session_engine.proofs.Taking.{all_taken, fewer, none_taken, one_taken, one_too_many, standing}
use Rattle.session_engine.proofs.shaping.shaped.Goals as goal

pub loop-shaper-init : goal.loop-shaper-init
loop-shaper-init c = none_taken _ _ _ _ c.in_ok-shaper.ensures

pub push-requires : goal.push-requires
push-requires c = record {
  standing = standing c.args.q.now (tables_in c.args.tables.now) _ c.args.pull _ _ c.in_ok-combo.field-0 c.in-Some.combo
      c.requires c.in-Some.is c.in_ok-combo.ensures.given c.loop-shaper.invariant;
}

pub loop-shaper-smaller : goal.loop-shaper-smaller
loop-shaper-smaller c = fewer c.in_ok-combo.field-0 c.in-Some.combo _ _ c.in-Some.is c.in_ok-combo.ensures.given

pub loop-shaper-preserved : goal.loop-shaper-preserved
loop-shaper-preserved c =
    let taken = c.loop-shaper.invariant in
    let pushed = subst (λ (r : Pushed). IsPushed c.args.q.now (tables_in c.args.tables.now) taken.taken
    c.in-Some.combo c.push.new.self r) c.in-More.is
    (c.in_ok-push.ensures.pushed (tables_in c.args.tables.now) taken.taken taken.stands) in
    one_taken _ _ _ _ _ _ _ c.in_ok-combo.field-0 c.in-Some.combo c.in-Some.is c.in_ok-combo.ensures.given taken pushed

pub returns-in-TooManyRows : goal.returns-in-TooManyRows
returns-in-TooManyRows c =
    let taken = c.loop-shaper.invariant in
    let pushed = subst (λ (r : Pushed). IsPushed c.args.q.now (tables_in c.args.tables.now) taken.taken
    c.in-Some.combo c.push.new.self r) c.in-TooManyRows.is
    (c.in_ok-push.ensures.pushed (tables_in c.args.tables.now) taken.taken taken.stands) in
    one_too_many c.args.q.now (tables_in c.args.tables.now) _ c.push.new.self c.args.pull _ _ c.in_ok-combo.field-0
    c.in-Some.combo c.in-Some.is c.in_ok-combo.ensures.given taken pushed

pub returns : goal.returns
returns c =
    c.end.ensures (tables_in c.args.tables.now) c.args.pull
    (all_taken _ _ _ _ _ _ c.in_ok-combo.field-0 c.in_default.not-Some c.in_ok-combo.ensures.given
    c.in_ok-combo.ensures.none c.loop-shaper.invariant)
