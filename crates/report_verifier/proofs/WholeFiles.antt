-- A file that was cut behind its limit makes the step of the whole one.
use Rattle.std.proofs.Common.{ℕ, ◌≡◌, ◌∙◌, List, Option, Some, None, Result, Ok, ap, option_map, refl}
use Rattle.outside_model.specs.Files.{up_to}
use Rattle.outside_model.specs.declared.TheConstants.{FILE_LIMIT}
use Rattle.row_values.specs.declared.refusals.Refusal.{Refusal}
use Rattle.catalog_model.specs.Catalogs.{Version}
use Rattle.catalog_model.specs.Held.{held_by}
use Rattle.catalog_model.proofs.Cuts.{cut_load}
use Rattle.script_report.specs.Commands.{Reading, Silent, Says, Bad}
use Rattle.script_report.specs.declared.commands.Command.{Command}
use Rattle.script_report.specs.declared.commands.Command.TheVariants.{Load, Index, Prepare, Run, Cursor, Fetch, Close}
use Rattle.script_report.specs.declared.commands.Command.TheVariants.{Evict, Show}
use Rattle.report_verifier.specs.Walk.{CommandStep, Step, Walk, fetched, loaded}
use Rattle.report_verifier.specs.declared.rejections.Why.{Why}

-- the same, where there is a file
abbrev cut : Option (List ℕ) → Option (List ℕ)
cut file = option_map (up_to FILE_LIMIT) file

same_fetched : (old : Walk) (table : List ℕ) (file : Option (List ℕ)) → fetched old table (cut file) ≡ fetched old
    table file
same_fetched old table None = refl
same_fetched old table (Some bytes) =
    ap (λ (r : Result Version Refusal). loaded old table r) (cut_load (held_by old.cursors) old.catalog table bytes)

command_whole : (old : Walk) (line : ℕ) (command : Command) (file : Option (List ℕ)) (outcome : Result Walk Why)
    → CommandStep old line command (cut file) outcome → CommandStep old line command file outcome
command_whole old line (Load table name) file outcome h = h ∙ ap (λ w. Ok w) (same_fetched old table file)
command_whole old line (Index table column) file outcome h = h
command_whole old line (Prepare name select) file outcome h = h
command_whole old line (Run name args) file outcome h = h
command_whole old line (Cursor cursor name args) file outcome h = h
command_whole old line (Fetch cursor rows) file outcome h = h
command_whole old line (Close cursor) file outcome h = h
command_whole old line (Evict name plan) file outcome h = h
command_whole old line (Show name) file outcome h = h

pub whole : (old : Walk) (line : ℕ) (reading : Reading) (file : Option (List ℕ)) (outcome : Result Walk Why)
    → Step old line reading (cut file) outcome → Step old line reading file outcome
unfolding Step
whole old line Silent file outcome h = h
whole old line Bad file outcome h = h
whole old line (Says command) file outcome h = command_whole old line command file outcome h
