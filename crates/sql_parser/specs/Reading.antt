-- Reading the parts of a statement off a list of tokens, each with the tokens that follow it. This is how the program
-- reads; what it means to be read so is the grammar's.
use Rattle.std.specs.Prelude.{ℕ, zero, suc, ◌==◌, ◌≡◌, List, [], ◌∷◌, ◌++◌, length, drop, Bool, true, false, ◌||◌}
use Rattle.std.specs.Prelude.{if◌then◌else◌, Option, Some, None, Result, Ok, Err}
use Rattle.row_values.specs.declared.values.Value.{Value}
use Rattle.sql_parser.specs.Statement.{Parts, is_name, is_operand}
use Rattle.sql_parser.specs.Grammar.{Joined, joined_places, joined_conds}
use Rattle.sql_parser.specs.declared.faults.ParseFault.{ParseFault}
use Rattle.sql_parser.specs.declared.faults.ParseFault.TheVariants as fault
use Rattle.sql_parser.specs.declared.statement.RawRef.{RawRef}
use Rattle.sql_parser.specs.declared.statement.RawPlace.{RawPlace}
use Rattle.sql_parser.specs.declared.statement.RawItem.{RawItem}
use Rattle.sql_parser.specs.declared.statement.RawItem.TheVariants as item
use Rattle.sql_parser.specs.declared.statement.RawOperand.{RawOperand}
use Rattle.sql_parser.specs.declared.statement.RawOperand.TheVariants as operand
use Rattle.sql_parser.specs.declared.statement.RawTest.{RawTest}
use Rattle.sql_parser.specs.declared.statement.RawTest.TheVariants as test
use Rattle.sql_parser.specs.declared.statement.RawCond.{RawCond}
use Rattle.sql_parser.specs.declared.statement.RawCond.TheVariants as cond
use Rattle.sql_parser.specs.declared.statement.RawKey.{RawKey}
use Rattle.sql_parser.specs.declared.tokens.Symbol.{Symbol}
use Rattle.sql_parser.specs.declared.tokens.Symbol.TheVariants as symbol
use Rattle.sql_parser.specs.declared.tokens.Token.{Token}
use Rattle.sql_parser.specs.declared.tokens.Token.TheVariants as token

-- the place of a symbol among all symbols
abbrev pub position_of : Symbol → ℕ
position_of symbol.Select = 0
position_of symbol.From = 1
position_of symbol.Where = 2
position_of symbol.And = 3
position_of symbol.Group = 4
position_of symbol.By = 5
position_of symbol.Order = 6
position_of symbol.Asc = 7
position_of symbol.Desc = 8
position_of symbol.Between = 9
position_of symbol.Count = 10
position_of symbol.Sum = 11
position_of symbol.Min = 12
position_of symbol.Max = 13
position_of symbol.As = 14
position_of symbol.Join = 15
position_of symbol.Inner = 16
position_of symbol.On = 17
position_of symbol.In = 18
position_of symbol.Comma = 19
position_of symbol.Dot = 20
position_of symbol.Open = 21
position_of symbol.Close = 22
position_of symbol.Star = 23
position_of symbol.Question = 24
position_of symbol.Semicolon = 25
position_of symbol.Less = 26
position_of symbol.AtMost = 27
position_of symbol.Greater = 28
position_of symbol.AtLeast = 29
position_of symbol.Equals = 30

unfoldable pub symbol_eq : Symbol → Symbol → Bool
symbol_eq a b = position_of a == position_of b

infixl 10 ◌>>=◌
abbrev pub ◌>>=◌ : {A B : Type 0} → Option A → (A → Option B) → Option B
None >>= f = None
(Some x) >>= f = f x

-- what a function returned, seen by view, and the tokens that it left, are what reading gives; after want of memory
-- nothing is said
abbrev pub Fails : {A : Type 0} → ParseFault → Option A → Type 0
Fails fault.Syntax read = read ≡ None
Fails fault.Memory read = Unit {0}

abbrev pub Gives : {X Y : Type 0} → (X → Y) → Result X ParseFault → List Token → Option (Y × List Token) → Type 0
Gives view (Ok x) rest read = read ≡ Some (view x, rest)
Gives view (Err e) rest read = Fails e read

-- whether the tokens begin with this symbol, or with a name
abbrev pub begins : Symbol → List Token → Bool
begins m [] = false
begins m (token.Name name ∷ tokens) = false
begins m (token.Literal value ∷ tokens) = false
begins m (token.Symbol found ∷ tokens) = symbol_eq found m

abbrev pub begins_name : List Token → Bool
begins_name [] = false
begins_name (token.Name name ∷ tokens) = true
begins_name (token.Literal value ∷ tokens) = false
begins_name (token.Symbol found ∷ tokens) = false

abbrev pub name_at : List Token → Option (List ℕ × List Token)
name_at [] = None
name_at (token.Name name ∷ tokens) = Some (name, tokens)
name_at (token.Literal value ∷ tokens) = None
name_at (token.Symbol found ∷ tokens) = None

abbrev pub literal_at : List Token → Option (Value × List Token)
literal_at [] = None
literal_at (token.Name name ∷ tokens) = None
literal_at (token.Literal value ∷ tokens) = Some (value, tokens)
literal_at (token.Symbol found ∷ tokens) = None

abbrev pub symbol_at : Symbol → List Token → Option (Unit {0} × List Token)
symbol_at m tokens = if begins m tokens then Some (tt, drop 1 tokens) else None

unfoldable pub ref_at : List Token → Option (RawRef × List Token)
ref_at tokens = do
  first ← name_at tokens
  if begins symbol.Dot first.1
      then (do
        column ← name_at (drop 1 first.1)
        Some (record { alias = Some first.0; column = column.0 }, column.1))
      else Some (record { alias = None; column = first.0 }, first.1)

-- "(" ref ")"
unfoldable pub enclosed_at : List Token → Option (RawRef × List Token)
enclosed_at tokens = do
  open_ ← symbol_at symbol.Open tokens
  r ← ref_at open_.1
  close ← symbol_at symbol.Close r.1
  Some (r.0, close.1)

unfoldable pub count_at : List Token → Option (RawItem × List Token)
count_at tokens = do
  open_ ← symbol_at symbol.Open tokens
  star ← symbol_at symbol.Star open_.1
  close ← symbol_at symbol.Close star.1
  Some (item.CountAll, close.1)

unfoldable pub item_at : List Token → Option (RawItem × List Token)
item_at tokens =
    if begins symbol.Count tokens then count_at (drop 1 tokens) else
    if begins symbol.Sum tokens then (do
      r ← enclosed_at (drop 1 tokens)
      Some (item.Sum r.0, r.1)) else
    if begins symbol.Min tokens then (do
      r ← enclosed_at (drop 1 tokens)
      Some (item.Min r.0, r.1)) else
    if begins symbol.Max tokens then (do
      r ← enclosed_at (drop 1 tokens)
      Some (item.Max r.0, r.1)) else
    (do
      r ← ref_at tokens
      Some (item.Column r.0, r.1))

unfoldable pub place_at : List Token → Option (RawPlace × List Token)
place_at tokens = do
  table ← name_at tokens
  if begins symbol.As table.1
      then (do
        alias ← name_at (drop 1 table.1)
        Some (record { table = table.0; alias = alias.0 }, alias.1))
      else (if begins_name table.1
      then (do
        alias ← name_at table.1
        Some (record { table = table.0; alias = alias.0 }, alias.1))
      else Some (record { table = table.0; alias = table.0 }, table.1))

unfoldable pub operand_at : List Token → Option (RawOperand × List Token)
operand_at tokens =
    if begins symbol.Question tokens then Some (operand.Param, drop 1 tokens) else
    (do
      value ← literal_at tokens
      Some (operand.Literal value.0, value.1))

-- as many parts as begin so, at most this many
abbrev pub all_at : {T : Type 0} → (List Token → Bool) → (List Token → Option (T × List Token)) → ℕ → List Token
    → Option (List T × List Token)
all_at starts at zero tokens = None
all_at starts at (suc n) tokens = if starts tokens
    then (at tokens >>= λ x. (all_at starts at n x.1 >>= λ xs. Some (x.0 ∷ xs.0, xs.1)))
    else Some ([], tokens)

-- parts behind a separator, as many as there are
unfoldable pub more_at : {T : Type 0} → Symbol → (List Token → Option (T × List Token)) → List Token
    → Option (List T × List Token)
more_at separator at tokens = all_at (begins separator) (λ rest. at (drop 1 rest)) (suc (length tokens)) tokens

-- a part, and more behind a separator
unfoldable pub list_at : {T : Type 0} → Symbol → (List Token → Option (T × List Token)) → List Token
    → Option (List T × List Token)
list_at separator at tokens = do
  x ← at tokens
  xs ← more_at separator at x.1
  Some (x.0 ∷ xs.0, xs.1)

-- BETWEEN operand AND operand
unfoldable pub between_at : List Token → Option (RawTest × List Token)
between_at tokens = do
  between ← symbol_at symbol.Between tokens
  low ← operand_at between.1
  and ← symbol_at symbol.And low.1
  high ← operand_at and.1
  Some (test.Between low.0 high.0, high.1)

-- "(" operand {"," operand} ")"
unfoldable pub in_at : List Token → Option (RawTest × List Token)
in_at tokens = do
  open_ ← symbol_at symbol.Open tokens
  operands ← list_at symbol.Comma operand_at open_.1
  close ← symbol_at symbol.Close operands.1
  Some (test.OneOf operands.0, close.1)

unfoldable pub test_at : List Token → Option (RawTest × List Token)
test_at tokens =
    if begins symbol.Less tokens then (do
      x ← operand_at (drop 1 tokens)
      Some (test.Lt x.0, x.1)) else
    if begins symbol.AtMost tokens then (do
      x ← operand_at (drop 1 tokens)
      Some (test.Le x.0, x.1)) else
    if begins symbol.Greater tokens then (do
      x ← operand_at (drop 1 tokens)
      Some (test.Gt x.0, x.1)) else
    if begins symbol.AtLeast tokens then (do
      x ← operand_at (drop 1 tokens)
      Some (test.Ge x.0, x.1)) else
    if begins symbol.Equals tokens then (do
      x ← operand_at (drop 1 tokens)
      Some (test.Eq x.0, x.1)) else
    if begins symbol.In tokens then in_at (drop 1 tokens) else
    between_at tokens

unfoldable pub cond_at : List Token → Option (RawCond × List Token)
cond_at tokens = do
  r ← ref_at tokens
  if begins symbol.Equals r.1
      then (if begins_name (drop 1 r.1)
      then (do
        s ← ref_at (drop 1 r.1)
        Some (cond.Same r.0 s.0, s.1))
      else (do
        x ← operand_at (drop 1 r.1)
        Some (cond.Test r.0 (test.Eq x.0), x.1)))
      else (do
        t ← test_at r.1
        Some (cond.Test r.0 t.0, t.1))

unfoldable pub key_at : List Token → Option (RawKey × List Token)
key_at tokens = do
  r ← ref_at tokens
  if begins symbol.Desc r.1 then Some (record { at = r.0; descending = true }, drop 1 r.1) else
      (if begins symbol.Asc r.1 then Some (record { at = r.0; descending = false }, drop 1 r.1) else
      Some (record { at = r.0; descending = false }, r.1))

abbrev pub begins_joined : List Token → Bool
begins_joined tokens = begins symbol.Comma tokens || begins symbol.Inner tokens || begins symbol.Join tokens

-- JOIN place ON cond {AND cond}
unfoldable pub join_at : List Token → Option (Joined × List Token)
join_at tokens = do
  join ← symbol_at symbol.Join tokens
  place ← place_at join.1
  on ← symbol_at symbol.On place.1
  conds ← list_at symbol.And cond_at on.1
  Some (record { place = place.0; conds = conds.0 }, conds.1)

unfoldable pub joined_at : List Token → Option (Joined × List Token)
joined_at tokens =
    if begins symbol.Comma tokens then (do
      place ← place_at (drop 1 tokens)
      Some (record { place = place.0; conds = [] }, place.1)) else
    join_at (if begins symbol.Inner tokens then drop 1 tokens else tokens)

unfoldable pub joins_at : List Token → Option (List Joined × List Token)
joins_at tokens = all_at begins_joined joined_at (suc (length tokens)) tokens

unfoldable pub where_at : List Token → Option (List RawCond × List Token)
where_at tokens = if begins symbol.Where tokens then list_at symbol.And cond_at (drop 1 tokens) else Some ([], tokens)

unfoldable pub group_at : List Token → Option (List RawRef × List Token)
group_at tokens = if begins symbol.Group tokens
    then (do
      by ← symbol_at symbol.By (drop 1 tokens)
      list_at symbol.Comma ref_at by.1)
    else Some ([], tokens)

unfoldable pub order_at : List Token → Option (List RawKey × List Token)
order_at tokens = if begins symbol.Order tokens
    then (do
      by ← symbol_at symbol.By (drop 1 tokens)
      list_at symbol.Comma key_at by.1)
    else Some ([], tokens)

-- whether there are tokens
abbrev pub is_end : List Token → Bool
is_end [] = true
is_end (t ∷ tokens) = false

unfoldable pub end_at : List Token → Option (Unit {0} × List Token)
end_at tokens =
    if begins symbol.Semicolon tokens
    then (if is_end (drop 1 tokens) then Some (tt, []) else None)
    else (if is_end tokens then Some (tt, []) else None)

-- place {"," place | join}
unfoldable pub from_at : List Token → Option ((List RawPlace × List RawCond) × List Token)
from_at tokens = do
  place ← place_at tokens
  joins ← joins_at place.1
  Some ((place.0 ∷ joined_places joins.0, joined_conds joins.0), joins.1)

-- the parts of FROM and WHERE together
unfoldable pub source_at : List Token → Option ((List RawPlace × List RawCond) × List Token)
source_at tokens = do
  from ← from_at tokens
  conds ← where_at from.1
  Some ((from.0.0, from.0.1 ++ conds.0), conds.1)

unfoldable pub statement_at : List Token → Option (Parts × List Token)
statement_at tokens = do
  select ← symbol_at symbol.Select tokens
  items ← list_at symbol.Comma item_at select.1
  from ← symbol_at symbol.From items.1
  source ← source_at from.1
  groups ← group_at source.1
  order ← order_at groups.1
  end ← end_at order.1
  Some (record { items = items.0; places = source.0.0; conds = source.0.1; groups = groups.0; order = order.0 }, end.1)

-- whether a token is one that a text spells: its name has a byte, its number has 64 bits
abbrev pub is_good : Token → Bool
is_good (token.Name name) = is_name name
is_good (token.Literal value) = is_operand (operand.Literal value)
is_good (token.Symbol found) = true
