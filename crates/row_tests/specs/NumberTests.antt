-- What meets a test against whole numbers, and what lies between two of them.
use Rattle.std.specs.Prelude.{ℤ, Bool, ◌&&◌}
use Rattle.std.specs.Ordering.{int_cmp, is_lt, is_le, is_gt, is_ge, is_eq}
use Rattle.row_tests.specs.declared.number_tests.NumberTest.{NumberTest}
use Rattle.row_tests.specs.declared.number_tests.NumberTest.TheVariants.{Lt, Le, Gt, Ge, Eq, Between}

-- whether a whole number meets a test against whole numbers
abbrev pub number_holds : NumberTest → ℤ → Bool
number_holds (Lt a) number = is_lt (int_cmp number a)
number_holds (Le a) number = is_le (int_cmp number a)
number_holds (Gt a) number = is_gt (int_cmp number a)
number_holds (Ge a) number = is_ge (int_cmp number a)
number_holds (Eq a) number = is_eq (int_cmp number a)
number_holds (Between a b) number = is_ge (int_cmp number a) && is_le (int_cmp number b)

-- whether a whole number lies between two ends, which both belong to what lies there
abbrev pub lies_between : ℤ → ℤ → ℤ → Bool
lies_between low high number = is_ge (int_cmp number low) && is_le (int_cmp number high)
