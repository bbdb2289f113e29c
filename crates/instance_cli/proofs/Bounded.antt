-- Every execution of a run is within the bound.
use Rattle.std.proofs.Common.{◌≡◌, List, [], Option}
use Rattle.outside_model.specs.Files.{Files}
use Rattle.script_report.specs.declared.replies.Reply.{Reply}
use Rattle.session_bound.proofs.Bounded.{bounded_along}
use Rattle.session_bound.specs.Bound.{AreBounded}
use Rattle.session_model.specs.Run.{Line, IsChain}
use Rattle.session_model.specs.Session.{AreSettings}
use Rattle.session_model.specs.State.{initial_state}
use Rattle.session_model.specs.declared.settings.Settings.{Settings}
use Rattle.instance_cli.specs.Moments.{Moment, state_at}
use Rattle.instance_cli.specs.Report.{ServesLine}

pub bounded : (settings : Settings) → AreSettings settings → (files : Option Files) (first : Moment)
    (lines : List Line) (replies : List Reply) (last : Moment)
    (run : IsChain (ServesLine files) first lines replies last) → first.state ≡ initial_state settings
    → AreBounded state_at (ServesLine files) [] first lines replies last run
bounded settings are files first lines replies last run starts =
    bounded_along state_at (ServesLine files) (λ old line reply new serves. (serves.file, serves.step)) settings are
    first
    lines replies last run starts
