-- Spaces and tabs are ASCII, so a text may be cut at them.
use Rattle.std.proofs.Common.{ℕ, ◌≡◌, ◌<◌, ◌+◌, List, length, get_or, true, arith}
use Rattle.std.specs.Str.{IsCharBoundary, IsUtf8}
use Rattle.std.proofs.lemmas.Bool.Decides.{nat_tests}
use Rattle.std.proofs.lemmas.Str.{IsCharBoundary-before_ascii, IsCharBoundary-after_ascii}
use Rattle.script_report.specs.Parts.{is_blank}

small : (byte : ℕ) → is_blank byte ≡ true → byte < 128
small byte h = grind (arith, nat_tests)

pub at_blank : (text : List ℕ) (i : ℕ) → i < length text → is_blank (get_or text i 0) ≡ true → IsCharBoundary text i
at_blank text i lt h = IsCharBoundary-before_ascii text i lt (small _ h)

pub after_blank : (text : List ℕ) (i : ℕ) → IsUtf8 text → i < length text → is_blank (get_or text i 0) ≡ true
    → IsCharBoundary text (i + 1)
after_blank text i utf8 lt h = IsCharBoundary-after_ascii text i utf8 lt (small _ h)
