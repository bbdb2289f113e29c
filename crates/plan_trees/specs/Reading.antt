-- How a spelling is read from its front, piece by piece. A reading is a value and the text behind it, or nothing.
use Rattle.std.specs.Prelude.{ℕ, zero, suc, ◌+◌, ◌≡◌, ◌==◌, List, [], ◌∷◌, codes, map, length, Result, Ok, Err, Option}
use Rattle.std.specs.Prelude.{Some, None, if◌then◌else◌}
use Rattle.row_values.specs.Names.{canonical_name}
use Rattle.row_values.specs.Statements.{Statement}
use Rattle.row_values.specs.declared.columns.Column.{Column}
use Rattle.row_values.specs.declared.statement.Place.{Place}
use Rattle.plan_trees.specs.declared.plans.Access.{Access}
use Rattle.plan_trees.specs.declared.plans.Access.TheVariants.{Seq, Range, Full}
use Rattle.plan_trees.specs.declared.plans.StepKind.TheVariants.{Loop, Probe}
use Rattle.plan_trees.specs.declared.reading.Form.{Form}
use Rattle.plan_trees.specs.declared.reading.Form.TheVariants as form
use Rattle.plan_trees.specs.declared.reading.PlanFault.{PlanFault}
use Rattle.plan_trees.specs.declared.reading.PlanFault.TheVariants.{NotAPlan, Memory}
use Rattle.plan_trees.specs.Spelling.{columns_of, number_text}
use Rattle.plan_trees.specs.Trees.{Tree, Base, Join, HashJoin, Sort, TopTree, Rows, SortedGroups, HashGroups}

infixl 10 ◌>>=◌
abbrev pub ◌>>=◌ : {A B : Type 0} → Option A → (A → Option B) → Option B
None >>= read = None
(Some x) >>= read = read x

-- what a reader returned, seen by view, is this reading, unless memory ran out
abbrev pub Fails : {B : Type 0} → PlanFault → Option B → Type 0
Fails NotAPlan reading = reading ≡ None
Fails Memory reading = Unit {0}

abbrev pub Gives : {A B : Type 0} → (A → B) → Result A PlanFault → Option B → Type 0
Gives view (Ok x) reading = reading ≡ Some (view x)
Gives view (Err fault) reading = Fails fault reading

-- the first reading where the front is there, else the other
abbrev pub chosen : {A B : Type 0} → Option A → (A → Option B) → Option B → Option B
chosen None read other = other
chosen (Some rest) read other = read rest

-- Words.

abbrev pub after_byte : ℕ → List ℕ → Option (List ℕ)
after_byte byte [] = None
after_byte byte (next ∷ text) = if next == byte then Some text else None

-- the text behind this word
abbrev pub after : List ℕ → List ℕ → Option (List ℕ)
after [] text = Some text
after (byte ∷ word) text = after_byte byte text >>= after word

-- the text behind this word and the byte that ends it
abbrev pub after_ended : ℕ → List ℕ → List ℕ → Option (List ℕ)
after_ended end word text = after word text >>= after_byte end

-- the number of the first of these words that stands at the front with its end; they are counted from this number on
abbrev pub first_at : ℕ → ℕ → List (List ℕ) → List ℕ → Option (ℕ × List ℕ)
first_at end number [] text = None
first_at end number (word ∷ words) text =
    chosen (after_ended end word text) (λ rest. Some (number, rest)) (first_at end (number + 1) words text)

abbrev pub alias_words : List Place → List (List ℕ)
alias_words places = map (λ place. canonical_name place.alias) places

abbrev pub column_words : List Column → List (List ℕ)
column_words columns = map (λ column. canonical_name column.name) columns

-- so many numbers, from this one on
abbrev pub number_words : ℕ → ℕ → List (List ℕ)
number_words first zero = []
number_words first (suc more) = number_text first ∷ number_words (first + 1) more

unfoldable pub place_at : ℕ → List Place → List ℕ → Option (ℕ × List ℕ)
place_at end places text = first_at end 0 (alias_words places) text

unfoldable pub column_at : ℕ → List Column → List ℕ → Option (ℕ × List ℕ)
column_at end columns text = first_at end 0 (column_words columns) text

unfoldable pub number_at : ℕ → ℕ → List ℕ → Option (ℕ × List ℕ)
number_at end count text = first_at end 0 (number_words 0 count) text

-- Accesses; 41 is a closing bracket, 44 a comma, 46 a dot.

unfoldable pub seq_at : Statement → List ℕ → Option (Access × List ℕ)
seq_at q text = do
  place ← place_at 41 q.places text
  Some (Seq place.0, place.1)

unfoldable pub range_at : Statement → List ℕ → Option (Access × List ℕ)
range_at q text = do
  place ← place_at 46 q.places text
  column ← column_at 44 (columns_of q.places place.0) place.1
  pred ← number_at 41 (length q.preds) column.1
  Some (Range place.0 column.0 pred.0, pred.1)

unfoldable pub full_at : Statement → List ℕ → Option (Access × List ℕ)
full_at q text = do
  place ← place_at 46 q.places text
  column ← column_at 41 (columns_of q.places place.0) place.1
  Some (Full place.0 column.0, column.1)

unfoldable pub access_at : Statement → List ℕ → Option (Access × List ℕ)
access_at q text =
    chosen (after (codes "seq(") text) (seq_at q)
    (chosen (after (codes "range(") text) (range_at q) (chosen (after (codes "full(") text) (full_at q) None))

-- Plans.

-- the form of a plan over one plan, and the text behind its bracket
unfoldable pub form_at : List ℕ → Option (Form × List ℕ)
form_at text =
    chosen (after (codes "loop(") text) (λ rest. Some (form.Loop, rest))
    (chosen (after (codes "probe(") text) (λ rest. Some (form.Probe, rest))
    (chosen (after (codes "sort(") text) (λ rest. Some (form.Sort, rest)) None))

-- the plan of this form over an outer plan, from what stands behind that
unfoldable pub closed_at : Statement → Form → Tree → List ℕ → Option (Tree × List ℕ)
closed_at q form.Loop outer text = do
  rest ← after_byte 44 text
  access ← access_at q rest
  rest ← after_byte 41 access.1
  Some (Join outer (Loop access.0), rest)
closed_at q form.Probe outer text = do
  rest ← after_byte 44 text
  place ← place_at 44 q.places rest
  edge ← number_at 41 (length q.edges) place.1
  Some (Join outer (Probe place.0 edge.0), edge.1)
closed_at q form.Sort outer text = do
  rest ← after_byte 41 text
  Some (Sort outer, rest)

-- the hash join of two plans, from what stands behind the inner one
unfoldable pub joined_at : Statement → Tree → Tree → List ℕ → Option (Tree × List ℕ)
joined_at q outer inner text = do
  rest ← after_byte 44 text
  edge ← number_at 41 (length q.edges) rest
  Some (HashJoin outer inner edge.0, edge.1)

unfoldable pub base_at : Statement → List ℕ → Option (Tree × List ℕ)
base_at q text = do
  access ← access_at q text
  Some (Base access.0, access.1)

-- a plan with at most so many nested
unfoldable pub plan_at : ℕ → Statement → List ℕ → Option (Tree × List ℕ)
plan_at zero q text = None
plan_at (suc room) q text =
    chosen (after (codes "hash(") text)
    (λ rest. plan_at room q rest >>= λ outer. after_byte 44 outer.1 >>= λ rest. plan_at room q rest >>= λ inner.
    joined_at q outer.0 inner.0 inner.1)
    (chosen (form_at text) (λ f. plan_at room q f.1 >>= λ outer. closed_at q f.0 outer.0 outer.1) (base_at q text))

-- Tops.

-- a plan with a bracket behind it and nothing else
unfoldable pub whole_at : Statement → List ℕ → Option Tree
whole_at q text = do
  plan ← plan_at 16 q text
  rest ← after_byte 41 plan.1
  if length rest == 0 then Some plan.0 else None

unfoldable pub top_at : Statement → List ℕ → Option TopTree
top_at q text =
    chosen (after (codes "rows(") text) (λ rest. whole_at q rest >>= λ plan. Some (Rows plan))
    (chosen (after (codes "sorted_groups(") text) (λ rest. whole_at q rest >>= λ plan. Some (SortedGroups plan))
    (chosen (after (codes "hash_groups(") text) (λ rest. whole_at q rest >>= λ plan. Some (HashGroups plan)) None))
