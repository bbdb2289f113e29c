use Rattle.std.proofs.Common.{◌<◌, List, [], length, sym, subst}
use Rattle.std.specs.Prelude.{Vec}
use Rattle.std.specs.declared.alloc.Global.{Global}
use Rattle.std.proofs.lemmas.List.Elements.{All-nil}
use Rattle.result_shape.specs.Groups.{AreGroupsOf, AreRuns, groups_in}
use Rattle.result_shape.specs.declared.groups.Group.{Group}
use Rattle.result_shape.proofs.GrowingGroups as growing
use Rattle.result_shape.proofs.shaper.no_groups.Goals as goal

pub returns-in-None : goal.returns-in-None
returns-in-None c =
    λ q tables items. (
      subst (λ (runs : List (Vec Group Global)). AreGroupsOf q tables [] (groups_in runs))
          (sym c.new-in-None.ensures.items) (growing.no_groups tables q),
      subst (λ (runs : List (Vec Group Global)). AreRuns runs) (sym c.new-in-None.ensures.items)
          (All-nil (λ (run : Vec Group Global). 0 < length run.items)),
    )
