-- What the types of the reader stand for, their references followed.
use Rattle.std.specs.Prelude.{ℕ, List, map, Option, option_map}
use Rattle.std.specs.Borrow.{Bor}
use Rattle.command_words.specs.declared.items.Item.{Item as AnItem}
use Rattle.command_words.specs.declared.items.Item.TheVariants as item
use Rattle.command_words.specs.declared.items.Next.{Next as ANext}
use Rattle.command_words.specs.declared.items.Next.TheVariants as next
use Rattle.command_words.specs.declared.items.Met.{Met as AMet}
use Rattle.command_words.specs.declared.given.Given.{Given as TheGiven}
use Rattle.command_words.specs.declared.normal_form.Plain.{Plain as APlain}
use Rattle.command_words.specs.declared.normal_form.Found.{Found as TheFound}
use Rattle.command_words.specs.declared.jobs.Mode.{Mode as AMode}
use Rattle.command_words.specs.declared.jobs.Mode.TheVariants as mode
use Rattle.command_words.specs.declared.jobs.Options.{Options as TheOptions}
use Rattle.command_words.specs.declared.jobs.Job.{Job as AJob}
use Rattle.command_words.specs.Items.{Item, Value, Positional, Next, AnyWord, ValueOf, PositionalOnly, Met}
use Rattle.command_words.specs.Jobs.{Mode, Run, Verify, Demo, Options, Job}
use Rattle.command_words.specs.NormalForm.{Plain, Found}
use Rattle.command_words.specs.Settings.{Given}

abbrev pub item_view : AnItem → Item
item_view (item.Value name value) = Value name.now value.now
item_view (item.Positional word) = Positional word.now

abbrev pub next_view : ANext → Next
next_view next.AnyWord = AnyWord
next_view (next.ValueOf name) = ValueOf name.now
next_view next.PositionalOnly = PositionalOnly

abbrev pub met_view : AMet → Met
met_view met = record { item = option_map item_view met.item; next = next_view met.next }

abbrev pub text_if : Option (Bor (List ℕ)) → Option (List ℕ)
text_if found = option_map (λ text. text.now) found

abbrev pub given_view : TheGiven → Given
given_view given = record {
  lambda = text_if given.lambda;
  keep = text_if given.keep;
  budget = text_if given.budget;
  recosts = text_if given.recosts;
  weights = text_if given.weights;
  positionals = map (λ text. text.now) given.positionals.items;
}

abbrev pub plain_view : APlain → Plain
plain_view plain = record {
  lambda = plain.lambda.now;
  keep = text_if plain.keep;
  budget = plain.budget.now;
  recosts = plain.recosts.now;
  weights = text_if plain.weights;
  command = plain.command.now;
  subject = plain.subject.now;
  other = text_if plain.other;
}

abbrev pub found_view : TheFound → Found
found_view found = record {
  lambda = text_if found.lambda;
  keep = text_if found.keep;
  budget = text_if found.budget;
  recosts = text_if found.recosts;
  weights = text_if found.weights;
  command = text_if found.command;
  subject = text_if found.subject;
  other = text_if found.other;
}

abbrev pub mode_view : AMode → Mode
mode_view (mode.Run script) = Run script
mode_view (mode.Verify script report) = Verify script report
mode_view (mode.Demo number) = Demo number

abbrev pub options_view : TheOptions → Options
options_view options = record {
  lambda = options.lambda;
  keep = options.keep;
  budget = options.budget;
  recosts = options.recosts;
  weights = options.weights;
}

-- what a job asks for
abbrev pub meaning : AJob → Job
meaning job = record { mode = mode_view job.mode; options = options_view job.options }
