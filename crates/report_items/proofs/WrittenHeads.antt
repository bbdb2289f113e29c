-- Heads as they are written, and what they are read as.
use Rattle.std.proofs.Common.{ℕ, suc, ◌≡◌, ◌<◌, ◌≤◌, ◌+◌, ◌^◌, ◌==◌, ◌&&◌, nat_lt, pos, List, [], ◌∷◌, ◌++◌, codes}
use Rattle.std.proofs.Common.{drop, get_or, length, true, false, Some, ap, arith, refl, rules}
use Rattle.std.proofs.Common.{length-append}
use Rattle.std.specs.Char.{is_ascii_digit}
use Rattle.std.specs.Fmt.{decimal}
use Rattle.std.specs.List.{position_or_len, starts_with}
use Rattle.std.specs.Str.{all_ascii_digits}
use Rattle.std.proofs.lemmas.Bool.{and_parts}
use Rattle.std.proofs.lemmas.Bool.Decides.{Decides-eqb, nat_tests}
use Rattle.std.proofs.lemmas.Fmt.{decimal_nonempty, digits_decimal, digits_value-decimal, first_decimal}
use Rattle.std.proofs.lemmas.List.{drop_at, take_at}
use Rattle.std.proofs.lemmas.Slice.Eq.{starts_is}
use Rattle.std.proofs.lemmas.Str.Parse.{IsNumeralModel, numerals_by_fold}
use Rattle.row_values.specs.Names.{canonical_name}
use Rattle.row_values.specs.Numbers.{are_digits, read_on, whole_number_of}
use Rattle.sql_parser.specs.Statement.{is_name}
use Rattle.sql_parser.specs.declared.tokens.Token.TheVariants as token
use Rattle.sql_parser.proofs.CanonicalIsRead.{name_at_front, stops}
use Rattle.sql_parser.proofs.FunctionsAreGrammar.{first_again}
use Rattle.report_items.specs.Heads.{behind, counted, execution_in, has_zero_first, heading_of, is_space, name_at}
use Rattle.report_items.specs.Heads.{number_of, numbered, split_at_space, too_large_in}
use Rattle.report_items.specs.Written.{IsNumber, opened_head, ran_head, too_large_head}

-- Numbers.

pub numerals : IsNumeralModel (λ ds. all_ascii_digits ds ≡ true) (read_on 0)
numerals = numerals_by_fold _ (search rules) read_on (search rules)

digits_read : (ds : List ℕ) (n : ℕ) → all_ascii_digits ds ≡ true → 0 < length ds → read_on 0 ds ≡ n → 48 < get_or ds 0 0
    → n < 2 ^ 63 → whole_number_of ds ≡ Some (pos n)
digits_read [] n a l e f s = absurd (omega arith)
digits_read (byte ∷ ds) n a l e f s =
    let digit : (byte == 45) ≡ false = grind (arith, nat_tests) in
    let plain : (are_digits (byte ∷ ds) && nat_lt (read_on 0 (byte ∷ ds)) (2 ^ 63)) ≡ true = grind (arith, nat_tests) in
    rw (digit, plain) (ap (λ z. Some (pos z)) e)

no_zero : (ds : List ℕ) → 48 < get_or ds 0 0 → has_zero_first ds ≡ false
no_zero [] h = refl
no_zero (byte ∷ ds) h = grind (arith, nat_tests)

in_range : (n : ℕ) → 1 ≤ n → counted (Some (pos n)) ≡ Some n
in_range n h = let some : (n == 0) ≡ false = grind (arith, nat_tests) in rw some refl

pub number_read : (n : ℕ) → IsNumber n → number_of (decimal n) ≡ Some n
number_read n is =
    let some : 1 ≤ n = is.positive in
    let small : n < 2 ^ 63 = is.small in
    let first = first_decimal n (omega arith) (omega arith) in
    rw (
      no_zero (decimal n) first,
      digits_read (decimal n) n (digits_decimal numerals n (omega arith)) (decimal_nonempty n (omega arith))
          (digits_value-decimal numerals n (omega arith)) first small,
    )
    (in_range n some)

-- Spaces.

no_space : (byte : ℕ) → is_ascii_digit byte ≡ true → is_space byte ≡ false
no_space byte h = grind (arith, nat_tests)

-- the first space stands behind the digits
space_behind : (ds rest : List ℕ) → all_ascii_digits ds ≡ true → position_or_len is_space (ds ++ 32 ∷ rest) ≡ length ds
space_behind [] rest h = refl
space_behind (byte ∷ ds) rest h =
    let parts = and_parts (is_ascii_digit byte) (all_ascii_digits ds) h in
    let later = space_behind ds rest parts.1 in
    rw (no_space byte parts.0) (omega (arith, later))

longer : (ds rest : List ℕ) → nat_lt (length ds) (length (ds ++ 32 ∷ rest)) ≡ true
longer ds rest = rw length-append (grind (arith, nat_tests))

drop_space : (ds rest : List ℕ) → drop (length ds + 1) (ds ++ 32 ∷ rest) ≡ rest
drop_space [] rest = refl
drop_space (byte ∷ ds) rest =
    let next : suc (length ds) + 1 ≡ suc (length ds + 1) = omega arith in rw next (drop_space ds rest)

pub split_read : (ds rest : List ℕ) → all_ascii_digits ds ≡ true → split_at_space (ds ++ 32 ∷ rest) ≡ Some (ds, rest)
split_read ds rest h =
    rw (space_behind ds rest h, longer ds rest, take_at ds (32 ∷ rest) (length ds) refl, drop_space ds rest) refl

pub numbered_read : (n : ℕ) (rest : List ℕ) → IsNumber n → numbered (decimal n ++ 32 ∷ rest) ≡ Some (n, rest)
numbered_read n rest is =
    let small : n < 2 ^ 63 = is.small in
    rw (split_read (decimal n) rest (digits_decimal numerals n (omega arith)), number_read n is) refl

-- Names.

behind_front : (word rest : List ℕ) → behind word (word ++ rest) ≡ Some rest
behind_front word rest =
    let starts : starts_with (λ a b. a == b) (word ++ rest) word ≡ true =
    (starts_is Decides-eqb (word ++ rest) word _ refl).1 rest refl in
    rw (starts, drop_at word rest (length word) refl) refl

name_read : (name rest : List ℕ) → is_name name ≡ true → stops rest ≡ true
    → name_at (canonical_name name ++ rest) ≡ Some (name, rest)
unfolding name_at
name_read name rest h s =
    rw (
      first_again (canonical_name name ++ rest) (token.Name name) rest (name_at_front name rest h s),
      behind_front (canonical_name name) rest,
    )
    refl

-- Heads.

execution_read : (line number : ℕ) (name : List ℕ) → IsNumber number → is_name name ≡ true
    → execution_in line (canonical_name name ++ (codes " execution " ++ decimal number))
    ≡ Some (record { line = line; name = name; number = number })
execution_read line number name is h =
    rw (name_read name (codes " execution " ++ decimal number) h refl, number_read number is) refl

pub ran_read : (line number : ℕ) (name : List ℕ) → IsNumber line → IsNumber number → is_name name ≡ true
    → heading_of (ran_head line name number) ≡ Some (record { line = line; name = name; number = number })
unfolding heading_of
ran_read line number name one two h =
    rw (numbered_read line (codes "ran " ++ (canonical_name name ++ (codes " execution " ++ decimal number))) one)
    (execution_read line number name two h)

pub opened_read : (line number : ℕ) (cursor name : List ℕ) → IsNumber line → IsNumber number → is_name cursor ≡ true
    → is_name name ≡ true
    → heading_of (opened_head line cursor name number) ≡ Some (record { line = line; name = name; number = number })
unfolding heading_of
opened_read line number cursor name one two h k =
    let named : List ℕ = canonical_name name ++ (codes " execution " ++ decimal number) in
    rw (
      numbered_read line (codes "opened " ++ (canonical_name cursor ++ (codes " " ++ named))) one,
      name_read cursor (codes " " ++ named) h refl,
    ) (execution_read line number name two k)

pub too_large_read : (line : ℕ) → IsNumber line → too_large_in (too_large_head line) ≡ Some line
unfolding too_large_in
too_large_read line one = rw (numbered_read line (codes "refused 12 too many rows") one) refl
