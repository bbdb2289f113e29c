-- A file that was cut behind its limit gives the step of the whole one.
use Rattle.std.proofs.Common.{ℕ, List, Option, Some, None, Result, MatchResult, subst}
use Rattle.std.specs.Option.{option_map}
use Rattle.outside_model.specs.declared.TheConstants.{FILE_LIMIT}
use Rattle.outside_model.specs.Files.{up_to}
use Rattle.row_values.specs.declared.refusals.Refusal.{Refusal}
use Rattle.script_report.specs.Commands.{Reading, Silent, Says, Bad}
use Rattle.script_report.specs.declared.commands.Command.{Command}
use Rattle.script_report.specs.declared.commands.Command.TheVariants.{Load, Index, Prepare, Run, Cursor, Fetch, Close, Evict, Show}
use Rattle.script_report.specs.declared.replies.Reply.{Reply}
use Rattle.catalog_model.specs.Catalogs.{Version}
use Rattle.catalog_model.proofs.Cuts.{cut_load}
use Rattle.session_model.specs.State.{State, held_versions}
use Rattle.session_model.specs.Step.{Step, CommandStep, LoadStep, Refuses, Loads}

load_whole : (old new : State) (name : List ℕ) (file : Option (List ℕ)) (reply : Reply)
    → LoadStep old name (option_map (up_to FILE_LIMIT) file) reply new → LoadStep old name file reply new
load_whole old new name None reply step = step
load_whole old new name (Some bytes) reply step =
    subst (λ (r : Result Version Refusal). MatchResult r (λ version. Loads old name version reply new)
    (λ why. Refuses why old reply new)) (cut_load (held_versions old.cursors) old.catalog name bytes) step

command_whole : (old new : State) (command : Command) (file : Option (List ℕ)) (reply : Reply)
    → CommandStep old command (option_map (up_to FILE_LIMIT) file) reply new → CommandStep old command file reply new
command_whole old new (Load table name) file reply step = load_whole old new table file reply step
command_whole old new (Index table column) file reply step = step
command_whole old new (Prepare name select) file reply step = step
command_whole old new (Run name args) file reply step = step
command_whole old new (Cursor cursor name args) file reply step = step
command_whole old new (Fetch cursor rows) file reply step = step
command_whole old new (Close cursor) file reply step = step
command_whole old new (Evict name plan) file reply step = step
command_whole old new (Show name) file reply step = step

pub whole : (old : State) (reading : Reading) (file : Option (List ℕ)) (reply : Reply) (new : State)
    → Step old reading (option_map (up_to FILE_LIMIT) file) reply new → Step old reading file reply new
unfolding Step
whole old Silent file reply new step = step
whole old (Says command) file reply new step = command_whole old new command file reply step
whole old Bad file reply new step = step
