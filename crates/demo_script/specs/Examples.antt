-- Worked by computation: the first rows that are drawn.
use Rattle.std.specs.Prelude.{◌≡◌, codes, refl}
use Rattle.std.specs.Fmt.{digits}
use Rattle.demo_script.specs.Draws.{after, start}
use Rattle.demo_script.specs.Tables.{a_rows, b_rows, behind_a}

-- the first five zones are 8, 8, 3, 5 and 1
first_zones : a_rows 5 start ≡ codes "1,8\n2,8\n3,3\n4,5\n5,1\n"
unfolding after a_rows digits
first_zones = refl

-- behind 500 draws, two draws a row: an id of `a`, then a day
first_days : b_rows 2 behind_a ≡ codes "1,294,441\n2,485,759\n"
unfolding after b_rows digits
first_days = refl
