-- What is asked for by two positionals, by three, and by another number of them; `others` are those after the second.
use Rattle.std.proofs.Common.{◌≡◌, ◌≤◌, ◌<◌, ◌-◌, ℕ, List, [], ◌∷◌, Bor, Some, None, Option, get_or, length, map}
use Rattle.std.proofs.Common.{take}
use Rattle.std.proofs.Common.{drop, refl, arith, ap}
use Rattle.std.proofs.lemmas.Grind.{common_steps}
use Rattle.command_words.specs.Jobs.{Job}
use Rattle.command_words.specs.NormalForm.{Plain, filled, job_found, plainly}
use Rattle.command_words.specs.Settings.{Given, job_of}

abbrev pub texts : List (Bor (List ℕ)) → List (List ℕ)
texts words = map (λ word. word.now) words

abbrev pub others_of : List (Bor (List ℕ)) → List (Bor (List ℕ))
others_of words = take (length words - 2) (drop 2 words)

others_are : (words : List (Bor (List ℕ))) → others_of words ≡ drop 2 words
others_are words = grind (arith, common_steps)

-- a list of two and more, and what is told of the others
others_length : (x y : Bor (List ℕ)) (words : List (Bor (List ℕ))) → length (others_of (x ∷ y ∷ words)) ≡ length words
others_length x y words = ap length (others_are (x ∷ y ∷ words))

other_first : (x y : Bor (List ℕ)) (words : List (Bor (List ℕ))) (d : Bor (List ℕ))
    → get_or (others_of (x ∷ y ∷ words)) 0 d ≡ get_or words 0 d
other_first x y words d = ap (λ (w : List (Bor (List ℕ))). get_or w 0 d) (others_are (x ∷ y ∷ words))

pub two_positionals : (given : Given) (words : List (Bor (List ℕ))) (d : Bor (List ℕ)) (plain : Plain)
    (job : Option Job) → given.positionals ≡ texts words → 2 ≤ length words → length (others_of words) < 1
    → plain ≡ filled given (get_or words 0 d).now (get_or words 1 d).now None
    → job ≡ job_found (plainly plain) → job ≡ job_of given
two_positionals given [] d plain job is many few made found = absurd (omega arith)
two_positionals given (x ∷ []) d plain job is many few made found = absurd (omega arith)
two_positionals given (x ∷ y ∷ []) d plain job is many few made found = rw (found, made, is) refl
two_positionals given (x ∷ y ∷ z ∷ words) d plain job is many few made found =
    absurd (omega (arith, others_length x y (z ∷ words)))

pub three_positionals : (given : Given) (words : List (Bor (List ℕ))) (d : Bor (List ℕ)) (plain : Plain)
    (job : Option Job) → given.positionals ≡ texts words → 2 ≤ length words → 1 ≤ length (others_of words)
    → length (others_of words) < 2
    → plain ≡ filled given (get_or words 0 d).now (get_or words 1 d).now (Some (get_or (others_of words) 0 d).now)
    → job ≡ job_found (plainly plain) → job ≡ job_of given
three_positionals given [] d plain job is many one few made found = absurd (omega arith)
three_positionals given (x ∷ []) d plain job is many one few made found = absurd (omega arith)
three_positionals given (x ∷ y ∷ []) d plain job is many one few made found =
    absurd (omega (arith, others_length x y []))
three_positionals given (x ∷ y ∷ z ∷ []) d plain job is many one few made found =
    rw (found, made, other_first x y (z ∷ []) d, is) refl
three_positionals given (x ∷ y ∷ z ∷ w ∷ words) d plain job is many one few made found =
    absurd (omega (arith, others_length x y (z ∷ w ∷ words)))

pub few_positionals : (given : Given) (words : List (Bor (List ℕ))) → given.positionals ≡ texts words
    → length words < 2 → None ≡ job_of given
few_positionals given [] is few = rw is refl
few_positionals given (x ∷ []) is few = rw is refl
few_positionals given (x ∷ y ∷ words) is few = absurd (omega arith)

pub many_positionals : (given : Given) (words : List (Bor (List ℕ))) → given.positionals ≡ texts words
    → 2 ≤ length words → 2 ≤ length (others_of words) → None ≡ job_of given
many_positionals given [] is two more = absurd (omega arith)
many_positionals given (x ∷ []) is two more = absurd (omega arith)
many_positionals given (x ∷ y ∷ []) is two more = absurd (omega (arith, others_length x y []))
many_positionals given (x ∷ y ∷ z ∷ []) is two more = absurd (omega (arith, others_length x y (z ∷ [])))
many_positionals given (x ∷ y ∷ z ∷ w ∷ words) is two more = rw is refl
