-- What a parse by the program's own command tells.
use Rattle.std.proofs.Common.{◌≡◌, ◌∙◌, ap, List, ℕ, true, refl}
use Rattle.clap.specs.Words.{App, HasMatchesOf, found_of, is_simple, kind_of, matches_of, rows_of, takes}
use Rattle.clap.specs.declared.error.Error.{Error}
use Rattle.clap.specs.declared.error.kind.ErrorKind.TheVariants.{OutOfMemory}
use Rattle.clap.specs.declared.parser.matches.ArgMatches.{ArgMatches}
use Rattle.clap.proofs.OnLiterals.{clap_on_literals}
use Rattle.command_words.specs.NormalForm.{IsTaken, found_by_clap, found_in, scr_app}

is_simple_app : is_simple scr_app ≡ true
unfolding clap_on_literals
is_simple_app = refl

pub found_as_defined : (app : App) (words : List (List ℕ)) (m : ArgMatches) → app ≡ scr_app → HasMatchesOf app words m
    → found_in (rows_of (found_of m)) ≡ found_by_clap words
unfolding found_by_clap
found_as_defined app words m is has = ap found_in ((has (ap is_simple is ∙ is_simple_app)).0
    ∙ ap (λ (a : App). matches_of a words) is)

pub fails_for_memory : (app : App) (words : List (List ℕ)) (e : Error) → app ≡ scr_app
    → (takes app words ≡ true → kind_of e ≡ OutOfMemory) → IsTaken words → kind_of e ≡ OutOfMemory
unfolding IsTaken
fails_for_memory app words e is memory taken = memory (ap (λ (a : App). takes a words) is ∙ taken)
