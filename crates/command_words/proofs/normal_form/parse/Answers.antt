use Rattle.std.proofs.Common.{◌∙◌, map, string_bytes}
use Rattle.clap.specs.Words.{app_of}
use Rattle.command_words.proofs.Parsing.{found_as_defined, fails_for_memory}
use Rattle.command_words.proofs.normal_form.parse.Goals as goal

pub unreachable-requires : goal.unreachable-requires
unreachable-requires c = absurd (c.in_default.not-OutOfMemory (c.kind.ensures
    ∙ fails_for_memory (app_of c.in_ok-scr.scr) (map string_bytes c.args.words.now) c.in-Err.error c.in_ok-scr.ensures
    c.in-Err.ensures.passes c.requires))

pub returns-in-Ok : goal.returns-in-Ok
returns-in-Ok c = found_as_defined (app_of c.in_ok-scr.scr) (map string_bytes c.args.words.now) c.in-Ok.matches
    c.in_ok-scr.ensures c.in-Ok.ensures.matches
