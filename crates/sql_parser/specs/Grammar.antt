-- The grammar of statements, one case a production.
use Rattle.std.specs.Prelude.{ℕ, List, [], ◌∷◌, ◌++◌, true, false, Some, None}
use Rattle.row_values.specs.declared.values.Value.{Value}
use Rattle.sql_parser.specs.Statement.{Parts}
use Rattle.sql_parser.specs.Tokens.{AreTokens}
use Rattle.sql_parser.specs.declared.statement.RawRef.{RawRef}
use Rattle.sql_parser.specs.declared.statement.RawPlace.{RawPlace}
use Rattle.sql_parser.specs.declared.statement.RawItem.{RawItem}
use Rattle.sql_parser.specs.declared.statement.RawItem.TheVariants as item
use Rattle.sql_parser.specs.declared.statement.RawOperand.{RawOperand}
use Rattle.sql_parser.specs.declared.statement.RawOperand.TheVariants as operand
use Rattle.sql_parser.specs.declared.statement.RawTest.{RawTest}
use Rattle.sql_parser.specs.declared.statement.RawTest.TheVariants as test
use Rattle.sql_parser.specs.declared.statement.RawCond.{RawCond}
use Rattle.sql_parser.specs.declared.statement.RawCond.TheVariants as cond
use Rattle.sql_parser.specs.declared.statement.RawKey.{RawKey}
use Rattle.sql_parser.specs.declared.tokens.Symbol.TheVariants as symbol
use Rattle.sql_parser.specs.declared.tokens.Token.{Token}
use Rattle.sql_parser.specs.declared.tokens.Token.TheVariants.{Name, Literal, Symbol}

-- ref = name | name "." name
pub data IsRef : RawRef → List Token → Type 0 where
  plain : {column : List ℕ} → IsRef (record { alias = None; column = column }) (Name column ∷ [])
  dotted : {alias column : List ℕ}
      → IsRef (record { alias = Some alias; column = column }) (Name alias ∷ Symbol symbol.Dot ∷ Name column ∷ [])

-- item = ref | COUNT "(" "*" ")" | SUM "(" ref ")" | MIN "(" ref ")" | MAX "(" ref ")"
pub data IsItem : RawItem → List Token → Type 0 where
  column : {r : RawRef} {ref : List Token} → IsRef r ref → IsItem (item.Column r) ref
  count : IsItem item.CountAll
      (Symbol symbol.Count ∷ Symbol symbol.Open ∷ Symbol symbol.Star ∷ Symbol symbol.Close ∷ [])
  sum : {r : RawRef} {ref : List Token} → IsRef r ref
      → IsItem (item.Sum r) (Symbol symbol.Sum ∷ Symbol symbol.Open ∷ (ref ++ Symbol symbol.Close ∷ []))
  min : {r : RawRef} {ref : List Token} → IsRef r ref
      → IsItem (item.Min r) (Symbol symbol.Min ∷ Symbol symbol.Open ∷ (ref ++ Symbol symbol.Close ∷ []))
  max : {r : RawRef} {ref : List Token} → IsRef r ref
      → IsItem (item.Max r) (Symbol symbol.Max ∷ Symbol symbol.Open ∷ (ref ++ Symbol symbol.Close ∷ []))

-- place = name [[AS] name]; the alias of a place without one is its table's name
pub data IsPlace : RawPlace → List Token → Type 0 where
  bare : {table : List ℕ} → IsPlace (record { table = table; alias = table }) (Name table ∷ [])
  called : {table alias : List ℕ} → IsPlace (record { table = table; alias = alias }) (Name table ∷ Name alias ∷ [])
  called_as : {table alias : List ℕ}
      → IsPlace (record { table = table; alias = alias }) (Name table ∷ Symbol symbol.As ∷ Name alias ∷ [])

-- operand = number | text | "?"
pub data IsOperand : RawOperand → Token → Type 0 where
  literal : {value : Value} → IsOperand (operand.Literal value) (Literal value)
  parameter : IsOperand operand.Param (Symbol symbol.Question)

-- {part}
pub data AreAll {T : Type 0} (Is : T → List Token → Type 0) : List T → List Token → Type 0 where
  no_part : AreAll Is [] []
  part : {x : T} {xs : List T} {first rest : List Token} → Is x first → AreAll Is xs rest
      → AreAll Is (x ∷ xs) (first ++ rest)

-- separator part
pub data IsBehind {T : Type 0} (Is : T → List Token → Type 0) (separator : Token) : T → List Token → Type 0 where
  behind : {x : T} {tokens : List Token} → Is x tokens → IsBehind Is separator x (separator ∷ tokens)

-- part {separator part}
pub data AreListed {T : Type 0} (Is : T → List Token → Type 0) (separator : Token) : List T → List Token → Type 0 where
  listed : {x : T} {xs : List T} {first rest : List Token} → Is x first → AreAll (IsBehind Is separator) xs rest
      → AreListed Is separator (x ∷ xs) (first ++ rest)

-- operand, as a part of a list
pub data IsListedOperand : RawOperand → List Token → Type 0 where
  alone : {x : RawOperand} {t : Token} → IsOperand x t → IsListedOperand x (t ∷ [])

-- op operand | BETWEEN operand AND operand | IN "(" operand {"," operand} ")"
pub data IsTest : RawTest → List Token → Type 0 where
  less : {x : RawOperand} {t : Token} → IsOperand x t → IsTest (test.Lt x) (Symbol symbol.Less ∷ t ∷ [])
  at_most : {x : RawOperand} {t : Token} → IsOperand x t → IsTest (test.Le x) (Symbol symbol.AtMost ∷ t ∷ [])
  greater : {x : RawOperand} {t : Token} → IsOperand x t → IsTest (test.Gt x) (Symbol symbol.Greater ∷ t ∷ [])
  at_least : {x : RawOperand} {t : Token} → IsOperand x t → IsTest (test.Ge x) (Symbol symbol.AtLeast ∷ t ∷ [])
  equal : {x : RawOperand} {t : Token} → IsOperand x t → IsTest (test.Eq x) (Symbol symbol.Equals ∷ t ∷ [])
  between : {x y : RawOperand} {t u : Token} → IsOperand x t → IsOperand y u
      → IsTest (test.Between x y) (Symbol symbol.Between ∷ t ∷ Symbol symbol.And ∷ u ∷ [])
  one_of : {xs : List RawOperand} {operands : List Token} → AreListed IsListedOperand (Symbol symbol.Comma) xs operands
      → IsTest (test.OneOf xs) (Symbol symbol.In ∷ Symbol symbol.Open ∷ (operands ++ Symbol symbol.Close ∷ []))

-- cond = ref op operand | ref "=" ref | ref BETWEEN operand AND operand | ref IN "(" operand {"," operand} ")"
pub data IsCond : RawCond → List Token → Type 0 where
  tested : {r : RawRef} {t : RawTest} {ref rest : List Token} → IsRef r ref → IsTest t rest
      → IsCond (cond.Test r t) (ref ++ rest)
  same : {r s : RawRef} {left right : List Token} → IsRef r left → IsRef s right
      → IsCond (cond.Same r s) (left ++ Symbol symbol.Equals ∷ right)

-- key = ref [ASC | DESC]
pub data IsKey : RawKey → List Token → Type 0 where
  rising : {r : RawRef} {ref : List Token} → IsRef r ref → IsKey (record { at = r; descending = false }) ref
  rising_asc : {r : RawRef} {ref : List Token} → IsRef r ref
      → IsKey (record { at = r; descending = false }) (ref ++ Symbol symbol.Asc ∷ [])
  falling : {r : RawRef} {ref : List Token} → IsRef r ref
      → IsKey (record { at = r; descending = true }) (ref ++ Symbol symbol.Desc ∷ [])

-- a further place, with the conditions that stand behind it
pub record Joined : Type 0 where
  pub place : RawPlace
  pub conds : List RawCond

-- "," place | [INNER] JOIN place ON cond {AND cond}
pub data IsJoined : Joined → List Token → Type 0 where
  comma : {place : RawPlace} {tokens : List Token} → IsPlace place tokens
      → IsJoined (record { place = place; conds = [] }) (Symbol symbol.Comma ∷ tokens)
  join : {place : RawPlace} {conds : List RawCond} {first rest : List Token} → IsPlace place first
      → AreListed IsCond (Symbol symbol.And) conds rest
      → IsJoined (record { place = place; conds = conds }) (Symbol symbol.Join ∷ (first ++ Symbol symbol.On ∷ rest))
  inner_join : {place : RawPlace} {conds : List RawCond} {first rest : List Token} → IsPlace place first
      → AreListed IsCond (Symbol symbol.And) conds rest
      → IsJoined (record { place = place; conds = conds }) (Symbol symbol.Inner ∷ Symbol symbol.Join
      ∷ (first ++ Symbol symbol.On ∷ rest))

-- the places and the conditions of several joins
abbrev pub joined_places : List Joined → List RawPlace
joined_places [] = []
joined_places (j ∷ js) = j.place ∷ joined_places js

abbrev pub joined_conds : List Joined → List RawCond
joined_conds [] = []
joined_conds (j ∷ js) = j.conds ++ joined_conds js

-- [WHERE cond {AND cond}]
pub data IsWhere : List RawCond → List Token → Type 0 where
  no_where : IsWhere [] []
  filtered : {conds : List RawCond} {tokens : List Token} → AreListed IsCond (Symbol symbol.And) conds tokens
      → IsWhere conds (Symbol symbol.Where ∷ tokens)

-- [GROUP BY ref {"," ref}]
pub data IsGroup : List RawRef → List Token → Type 0 where
  no_group : IsGroup [] []
  grouped : {refs : List RawRef} {tokens : List Token} → AreListed IsRef (Symbol symbol.Comma) refs tokens
      → IsGroup refs (Symbol symbol.Group ∷ Symbol symbol.By ∷ tokens)

-- [ORDER BY key {"," key}]
pub data IsOrder : List RawKey → List Token → Type 0 where
  no_order : IsOrder [] []
  ordered : {keys : List RawKey} {tokens : List Token} → AreListed IsKey (Symbol symbol.Comma) keys tokens
      → IsOrder keys (Symbol symbol.Order ∷ Symbol symbol.By ∷ tokens)

-- [";"]
pub data IsEnd : List Token → Type 0 where
  bare_end : IsEnd []
  semicolon : IsEnd (Symbol symbol.Semicolon ∷ [])

-- SELECT item {"," item} FROM place {"," place | join} [WHERE ..] [GROUP BY ..] [ORDER BY ..] [";"]; the conditions of
-- the joins stand before those of WHERE
pub data IsStatement : Parts → List Token → Type 0 where
  statement : {items : List RawItem} {place : RawPlace} {joins : List Joined} {conds : List RawCond}
      {groups : List RawRef} {keys : List RawKey}
      {select from further where_ group order end : List Token}
      → AreListed IsItem (Symbol symbol.Comma) items select → IsPlace place from → AreAll IsJoined joins further
      → IsWhere conds where_
      → IsGroup groups group → IsOrder keys order → IsEnd end
      → IsStatement
      (record {
        items = items;
        places = place ∷ joined_places joins;
        conds = joined_conds joins ++ conds;
        groups = groups;
        order = keys;
      })
      (Symbol symbol.Select ∷ (select
      ++ Symbol symbol.From ∷ (from ++ (further ++ (where_ ++ (group ++ (order ++ end)))))))

-- the text is a statement with these parts
pub record IsStatementText (text : List ℕ) (s : Parts) : Type 0 where
  pub tokens : List Token
  pub are : AreTokens text tokens
  pub spelled : IsStatement s tokens
