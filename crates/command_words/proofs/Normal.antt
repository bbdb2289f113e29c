-- What clap finds in the normal form: what the form was made of. And it never refuses it.
use Rattle.std.specs.Prelude.{◌≡◌, ℕ, List, refl, true, Option, Some, None}
use Rattle.clap.specs.Words.{takes, matches_of}
use Rattle.clap.proofs.OnLiterals.{clap_on_literals}
use Rattle.command_words.specs.NormalForm.{IsTaken, Plain, found_by_clap, found_in, normal_form, plainly, scr_app}

abbrev plain_of : List ℕ → Option (List ℕ) → List ℕ → List ℕ → Option (List ℕ) → List ℕ → List ℕ
    → Option (List ℕ) → Plain
plain_of lambda keep budget recosts weights command subject other = record {
  lambda = lambda;
  keep = keep;
  budget = budget;
  recosts = recosts;
  weights = weights;
  command = command;
  subject = subject;
  other = other;
}

abbrev Fits : Plain → Type 0
Fits plain = found_in (matches_of scr_app (normal_form plain)) ≡ plainly plain

fits_by : (l : List ℕ) (k : Option (List ℕ)) (b r : List ℕ) (w : Option (List ℕ)) (c s : List ℕ) (o : Option (List ℕ))
    → Fits (plain_of l k b r w c s o)
unfolding clap_on_literals
fits_by l None b r None c s None = refl
fits_by l None b r None c s (Some o) = refl
fits_by l None b r (Some w) c s None = refl
fits_by l None b r (Some w) c s (Some o) = refl
fits_by l (Some k) b r None c s None = refl
fits_by l (Some k) b r None c s (Some o) = refl
fits_by l (Some k) b r (Some w) c s None = refl
fits_by l (Some k) b r (Some w) c s (Some o) = refl

pub finds_what_was_given : (plain : Plain) → found_by_clap (normal_form plain) ≡ plainly plain
unfolding found_by_clap
finds_what_was_given p = fits_by p.lambda p.keep p.budget p.recosts p.weights p.command p.subject p.other

abbrev Takes : Plain → Type 0
Takes plain = takes scr_app (normal_form plain) ≡ true

takes_by : (l : List ℕ) (k : Option (List ℕ)) (b r : List ℕ) (w : Option (List ℕ)) (c s : List ℕ) (o : Option (List ℕ))
    → Takes (plain_of l k b r w c s o)
unfolding clap_on_literals
takes_by l None b r None c s None = refl
takes_by l None b r None c s (Some o) = refl
takes_by l None b r (Some w) c s None = refl
takes_by l None b r (Some w) c s (Some o) = refl
takes_by l (Some k) b r None c s None = refl
takes_by l (Some k) b r None c s (Some o) = refl
takes_by l (Some k) b r (Some w) c s None = refl
takes_by l (Some k) b r (Some w) c s (Some o) = refl

pub takes_the_normal_form : (plain : Plain) → IsTaken (normal_form plain)
unfolding IsTaken
takes_the_normal_form p = takes_by p.lambda p.keep p.budget p.recosts p.weights p.command p.subject p.other
