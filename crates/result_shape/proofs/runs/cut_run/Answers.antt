use Rattle.std.proofs.Common.{◌≡◌, ◌<◌, ◌∙◌, ℕ, List, length, take, drop, set, suc, ap, sym, subst, arith, add-one}
use Rattle.std.specs.Prelude.{Vec}
use Rattle.std.specs.Vec.{vec_len}
use Rattle.std.specs.List.{insert}
use Rattle.std.specs.declared.alloc.Global.{Global}
use Rattle.result_shape.specs.Groups.{AreRuns, groups_in}
use Rattle.result_shape.specs.declared.groups.Group.{Group}
use Rattle.result_shape.proofs.RunPlaces.{groups_cut, runs_cut}
use Rattle.result_shape.proofs.runs.cut_run.Goals as goal

pub returns-clause-groups : goal.returns-clause-groups
returns-clause-groups c =
    let runs : List (Vec Group Global) = c.args.runs.now.items in
    let cut : c.insert.new.self.items ≡ insert (set runs c.args.at c.split_off.new.self) (suc c.args.at)
    c.in_ok-rest.rest = rw add-one at c.in_ok-insert.ensures.items in
    ap groups_in cut
    ∙ groups_cut runs c.args.at c.index_mut-run.result.now c.split_off.new.self c.in_ok-rest.rest c.requires.bound 128
    (c.in_ok-rest.ensures.items ∙ ap (λ (run : Vec Group Global). take 128 run.items) c.index_mut-run.ensures.value)
    (c.in_ok-rest.ensures.tail ∙ ap (λ (run : Vec Group Global). drop 128 run.items) c.index_mut-run.ensures.value)

pub returns-clause-runs : goal.returns-clause-runs
returns-clause-runs c =
    let runs : List (Vec Group Global) = c.args.runs.now.items in
    let cut : c.insert.new.self.items ≡ insert (set runs c.args.at c.split_off.new.self) (suc c.args.at)
    c.in_ok-rest.rest = rw add-one at c.in_ok-insert.ensures.items in
    let cuts : length c.split_off.new.self.items ≡ 128 = sym c.split_off.new.self.ok.0 ∙ c.in_ok-rest.ensures.len in
    let long : 0 < vec_len c.in_ok-rest.rest =
    omega (arith, c.in_ok-rest.ensures.tail_len, c.if-len-le-RUN_LENGTH.false, c.len.ensures) in
    subst AreRuns (sym cut)
    (runs_cut runs c.args.at c.index_mut-run.result.now c.split_off.new.self c.in_ok-rest.rest c.requires.bound
    c.requires.runs (omega (arith, cuts)) (subst (λ (n : ℕ). 0 < n) c.in_ok-rest.rest.ok.0 long))
