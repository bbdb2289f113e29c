-- Worked texts and what they spell, by computation.
use Rattle.std.specs.Prelude.{◌≡◌, ℕ, pos, negsuc, List, [], ◌∷◌, true, map, codes, Some, None, refl}
use Rattle.row_values.specs.declared.values.Value.TheVariants.{Int, Text}
use Rattle.sql_parser.specs.Reading.{symbol_eq, ref_at, enclosed_at, count_at, item_at, place_at, operand_at}
use Rattle.sql_parser.specs.Reading.{between_at, in_at, test_at, cond_at, key_at, more_at, list_at, join_at, joined_at}
use Rattle.sql_parser.specs.Reading.{joins_at, where_at, group_at, order_at, end_at, from_at, source_at, statement_at}
use Rattle.sql_parser.specs.Spelled.{tokens_of, statement_of}
use Rattle.sql_parser.specs.declared.statement.RawRef.{RawRef}
use Rattle.sql_parser.specs.declared.statement.RawPlace.{RawPlace}
use Rattle.sql_parser.specs.declared.statement.RawItem.TheVariants.{Column, Sum}
use Rattle.sql_parser.specs.declared.statement.RawOperand.{RawOperand}
use Rattle.sql_parser.specs.declared.statement.RawOperand.TheVariants.{Literal, Param}
use Rattle.sql_parser.specs.declared.statement.RawTest.TheVariants.{Ge, Eq, Between, OneOf}
use Rattle.sql_parser.specs.declared.statement.RawCond.TheVariants.{Test, Same}
use Rattle.sql_parser.specs.declared.tokens.Symbol.TheVariants as symbol
use Rattle.sql_parser.specs.declared.tokens.Token.TheVariants as token

abbrev plain : List ℕ → RawRef
plain column = record { alias = None; column = column }

abbrev dotted : List ℕ → List ℕ → RawRef
dotted alias column = record { alias = Some alias; column = column }

abbrev called : List ℕ → List ℕ → RawPlace
called table alias = record { table = table; alias = alias }

abbrev number : ℕ → RawOperand
number n = Literal (Int (pos n))

-- words in small letters, a name that needs its quotes, and white space that nothing needs
quoted_column : statement_of (codes "select \"order id\" from t where day >= 5 ; ") ≡ Some (record {
  items = Column (plain (codes "order id")) ∷ [];
  places = called (codes "t") (codes "t") ∷ [];
  conds = Test (plain (codes "day")) (Ge (number 5)) ∷ [];
  groups = [];
  order = [];
})
unfolding statement_of tokens_of statement_at symbol_eq ref_at enclosed_at count_at item_at place_at operand_at
    between_at in_at test_at cond_at key_at more_at list_at join_at joined_at joins_at where_at group_at order_at end_at
    from_at source_at
quoted_column = refl

-- the conditions of a join stand before those of WHERE; a quote in a name or in a text is written as two
joined : statement_of (codes "SELECT SUM(s.\"a\"\"b\") FROM sales AS s JOIN days d ON s.day = d.day WHERE d.name = 'it''s' AND s.a BETWEEN 1AND ? ORDER BY d.day DESC") ≡ Some (record {
  items = Sum (dotted (codes "s") (codes "a\"b")) ∷ [];
  places = called (codes "sales") (codes "s") ∷ called (codes "days") (codes "d") ∷ [];
  conds = Same (dotted (codes "s") (codes "day")) (dotted (codes "d") (codes "day"))
      ∷ Test (dotted (codes "d") (codes "name")) (Eq (Literal (Text (codes "it's"))))
      ∷ Test (dotted (codes "s") (codes "a")) (Between (number 1) Param)
      ∷ [];
  groups = [];
  order = record { at = dotted (codes "d") (codes "day"); descending = true } ∷ [];
})
unfolding statement_of tokens_of statement_at symbol_eq ref_at enclosed_at count_at item_at place_at operand_at
    between_at in_at test_at cond_at key_at more_at list_at join_at joined_at joins_at where_at group_at order_at end_at
    from_at source_at
joined = refl

-- an IN with a number, a text and a parameter among its operands
one_of_three : statement_of (codes "SELECT v FROM t WHERE v IN(3,?, 'x')") ≡ Some (record {
  items = Column (plain (codes "v")) ∷ [];
  places = called (codes "t") (codes "t") ∷ [];
  conds = Test (plain (codes "v")) (OneOf (number 3 ∷ Param ∷ Literal (Text (codes "x")) ∷ [])) ∷ [];
  groups = [];
  order = [];
})
unfolding statement_of tokens_of statement_at symbol_eq ref_at enclosed_at count_at item_at place_at operand_at
    between_at in_at test_at cond_at key_at more_at list_at join_at joined_at joins_at where_at group_at order_at end_at
    from_at source_at
one_of_three = refl

-- no place; nothing behind a comma; a name without a byte; a text that no quote closes; a number of more than 64 bits;
-- an IN of no operand
no_statements : map statement_of (
    codes "SELECT v FROM"
    ∷ codes "SELECT v, FROM t"
    ∷ codes "SELECT \"\" FROM t"
    ∷ codes "SELECT v FROM t WHERE v = 'it''s"
    ∷ codes "SELECT v FROM t WHERE v = 9223372036854775808"
    ∷ codes "SELECT v FROM t WHERE v IN ()"
    ∷ []
    ) ≡ None ∷ None ∷ None ∷ None ∷ None ∷ None ∷ []
unfolding statement_of tokens_of statement_at symbol_eq ref_at enclosed_at count_at item_at place_at operand_at
    between_at in_at test_at cond_at key_at more_at list_at join_at joined_at joins_at where_at group_at order_at end_at
    from_at source_at
no_statements = refl

-- a number ends where its digits end, and a sign where a longer one doesn't stand, so that no white space is needed
-- there
run_together : tokens_of (codes "5AND-7a<=9<b") ≡ Some (
    token.Literal (Int (pos 5))
    ∷ token.Symbol symbol.And
    ∷ token.Literal (Int (negsuc 6))
    ∷ token.Name (codes "a")
    ∷ token.Symbol symbol.AtMost
    ∷ token.Literal (Int (pos 9))
    ∷ token.Symbol symbol.Less
    ∷ token.Name (codes "b")
    ∷ []
    )
unfolding tokens_of
run_together = refl
