-- Open cursors: what a store holds of them beside the rows that wait.
use Rattle.std.proofs.Common.{ℕ, zero, suc, ◌≡◌, ◌<◌, ◌∙◌, ◌||◌, Bool, true, false, cond}
use Rattle.std.proofs.Common.{List, [], ◌∷◌, ◌++◌, length, set, remove, drop, All, ap, ap₂, refl, sym}
use Rattle.std.proofs.Common.{Option, Some, None, subst, arith, slice_get, slice_index_or}
use Rattle.std.proofs.lemmas.List.Elements.{All-append, All-cons, All-head, All-nil, All-tail}
use Rattle.std.specs.Option.{option_map, option_map_or}
use Rattle.std.specs.Str.{bytes_eq}
use Rattle.row_values.specs.Statements.{Statement}
use Rattle.catalog_model.specs.Catalogs.{StatementState}
use Rattle.catalog_model.specs.Held.{HeldCursor, cursor_number, held_by, is_open, without_cursor}
use Rattle.catalog_model.proofs.Numbers.{position_next}
use Rattle.session_model.specs.State.{CursorState, closed_from, cursor_named, fetched_from, held_versions, hold_of}
use Rattle.session_model.specs.State.{holds_of}
use Rattle.session_engine.specs.Cursors.{IsWaiting, cursors_with, lines_of, lines_waiting}
use Rattle.session_engine.specs.declared.waiting.Waiting.{Waiting}

-- What is held.

pub holds_are : (ss : List StatementState) (hs : List HeldCursor) (ws : List Waiting) → length ws ≡ length hs
    → holds_of (cursors_with ss hs ws) ≡ hs
holds_are ss [] ws e = refl
holds_are ss (h ∷ hs) [] e = absurd (omega (arith, e))
holds_are ss (h ∷ hs) (w ∷ ws) e =
    let same : length ws ≡ length hs = omega (arith, e) in
    ap (λ (rest : List HeldCursor). h ∷ rest) (holds_are ss hs ws same)

pub held_are : (ss : List StatementState) (hs : List HeldCursor) (ws : List Waiting) → length ws ≡ length hs
    → held_versions (cursors_with ss hs ws) ≡ held_by hs
held_are ss hs ws e = ap held_by (holds_are ss hs ws e)

-- One more statement.

found_behind : (ss : List StatementState) (new prepared : StatementState) (n : ℕ) → slice_get ss n ≡ Some prepared
    → slice_get (ss ++ new ∷ []) n ≡ Some prepared
found_behind [] new prepared n e = absurd cc
found_behind (s ∷ ss) new prepared zero e = e
found_behind (s ∷ ss) new prepared (suc n) e = found_behind ss new prepared n e

-- the statement of the rows that wait
record IsOf (ss : List StatementState) (w : Waiting) (q : Statement) : Type 0 where
  pub prepared : StatementState
  pub there : slice_get ss w.statement ≡ Some prepared
  pub same : prepared.statement ≡ q

statement_of : (ss : List StatementState) (w : Waiting) (q : Statement)
    → option_map (λ (s : StatementState). s.statement) (slice_get ss w.statement) ≡ Some q → IsOf ss w q
statement_of ss w q e = by_found (slice_get ss w.statement) refl e
  where
    by_found : (o : Option StatementState) → slice_get ss w.statement ≡ o
        → option_map (λ (s : StatementState). s.statement) o ≡ Some q → IsOf ss w q
    by_found None is h = absurd cc
    by_found (Some prepared) is h = record { prepared = prepared; there = is; same = cc }

-- the lines that wait are those of its rows
pub lines_are : (ss : List StatementState) (w : Waiting) (q : Statement)
    → option_map (λ (s : StatementState). s.statement) (slice_get ss w.statement) ≡ Some q
    → lines_waiting ss w ≡ drop w.fetched (lines_of q w.rows)
lines_are ss w q e =
    let one = statement_of ss w q e in
    ap (λ (o : Option StatementState). option_map_or (λ s. drop w.fetched (lines_of s.statement w.rows)) o []) one.there
    ∙ ap (λ (p : Statement). drop w.fetched (lines_of p w.rows)) one.same

there_behind : (ss : List StatementState) (new : StatementState) (w : Waiting) (q : Statement)
    → option_map (λ (s : StatementState). s.statement) (slice_get ss w.statement) ≡ Some q
    → option_map (λ (s : StatementState). s.statement) (slice_get (ss ++ new ∷ []) w.statement) ≡ Some q
there_behind ss new w q e =
    let one = statement_of ss w q e in
    ap (option_map (λ (s : StatementState). s.statement)) (found_behind ss new one.prepared w.statement one.there)
    ∙ ap Some one.same

pub waits_behind : (ss : List StatementState) (new : StatementState) (ws : List Waiting) → All (IsWaiting ss) ws
    → All (IsWaiting (ss ++ new ∷ [])) ws
waits_behind ss new [] a = All-nil (IsWaiting (ss ++ new ∷ []))
waits_behind ss new (w ∷ ws) a =
    let one = All-head (IsWaiting ss) w ws a in
    All-cons (IsWaiting (ss ++ new ∷ [])) w ws
    (record { statement = one.statement; there = there_behind ss new w one.statement one.there; few = one.few })
    (waits_behind ss new ws (All-tail (IsWaiting ss) w ws a))

pub with_behind : (ss : List StatementState) (new : StatementState) (hs : List HeldCursor) (ws : List Waiting)
    → All (IsWaiting ss) ws → cursors_with (ss ++ new ∷ []) hs ws ≡ cursors_with ss hs ws
with_behind ss new [] ws a = refl
with_behind ss new (h ∷ hs) [] a = refl
with_behind ss new (h ∷ hs) (w ∷ ws) a =
    let one = All-head (IsWaiting ss) w ws a in
    let lines : lines_waiting (ss ++ new ∷ []) w ≡ lines_waiting ss w =
    lines_are (ss ++ new ∷ []) w one.statement (there_behind ss new w one.statement one.there)
    ∙ sym (lines_are ss w one.statement one.there) in
    ap₂ (λ (ls : List (List ℕ)) (rest : List CursorState).
    let cursor : CursorState = record { name = h.name; held = h.held; lines = ls } in cursor ∷ rest)
    lines (with_behind ss new hs ws (All-tail (IsWaiting ss) w ws a))

-- One more cursor.

pub cursors_behind : (ss : List StatementState) (hs : List HeldCursor) (ws : List Waiting) (h : HeldCursor)
    (w : Waiting)
    → length ws ≡ length hs → cursors_with ss (hs ++ h ∷ []) (ws ++ w ∷ [])
    ≡ cursors_with ss hs ws ++ record { name = h.name; held = h.held; lines = lines_waiting ss w } ∷ []
cursors_behind ss [] [] h w e = refl
cursors_behind ss [] (v ∷ ws) h w e = absurd (omega (arith, e))
cursors_behind ss (first ∷ hs) [] h w e = absurd (omega (arith, e))
cursors_behind ss (first ∷ hs) (v ∷ ws) h w e =
    let same : length ws ≡ length hs = omega (arith, e) in
    ap (λ (rest : List CursorState).
    let cursor : CursorState = record { name = first.name; held = first.held; lines = lines_waiting ss v } in
    cursor ∷ rest) (cursors_behind ss hs ws h w same)

pub waits_more : (ss : List StatementState) (ws : List Waiting) (w : Waiting) → All (IsWaiting ss) ws → IsWaiting ss w
    → All (IsWaiting ss) (ws ++ w ∷ [])
waits_more ss ws w a one =
    All-append (IsWaiting ss) ws (w ∷ []) a (All-cons (IsWaiting ss) w [] one (All-nil (IsWaiting ss)))

-- a cursor that was opened last, closed again
pub without_last : (hs : List HeldCursor) (h : HeldCursor) → is_open h.name hs ≡ false
    → bytes_eq h.name h.name ≡ true → without_cursor h.name (hs ++ h ∷ []) ≡ hs
without_last [] h e own = rw own refl
without_last (first ∷ hs) h e own = by_test (bytes_eq first.name h.name) (is_open h.name hs) e (without_last hs h)
  where
    by_test : (test later : Bool) → (test || later) ≡ false
        → (later ≡ false → bytes_eq h.name h.name ≡ true → without_cursor h.name (hs ++ h ∷ []) ≡ hs)
        → cond test (hs ++ h ∷ []) (first ∷ without_cursor h.name (hs ++ h ∷ [])) ≡ first ∷ hs
    by_test true later e rest = absurd cc
    by_test false later e rest = ap (λ (cs : List HeldCursor). first ∷ cs) (rest e own)

-- A cursor by its name.

-- the cursor of this number, with its rows
pub record IsNamedAt (ss : List StatementState) (hs : List HeldCursor) (ws : List Waiting) (name : List ℕ) (number : ℕ)
    (d : Waiting) : Type 0 where
  pub less : number < length ws
  pub cursor : HeldCursor
  pub named : cursor_named (cursors_with ss hs ws) name
      ≡ Some (record { name = cursor.name; held = cursor.held; lines = lines_waiting ss (slice_index_or ws number d) })
  pub fetched : (count : ℕ) (w : Waiting)
      → lines_waiting ss w ≡ drop count (lines_waiting ss (slice_index_or ws number d))
      → cursors_with ss hs (set ws number w) ≡ fetched_from (cursors_with ss hs ws) name count
  pub closed : cursors_with ss (without_cursor name hs) (remove ws number) ≡ closed_from (cursors_with ss hs ws) name
  pub fewer : length (remove ws number) ≡ length (without_cursor name hs)

named_by : (test : Bool) (ss : List StatementState) (h : HeldCursor) (hs : List HeldCursor) (w : Waiting)
    (ws : List Waiting) (name : List ℕ) (number : ℕ) (d : Waiting) → length ws ≡ length hs → bytes_eq h.name name ≡ test
    → cond test (Some 0) (option_map suc (cursor_number hs name)) ≡ Some number
    → ((number : ℕ) → cursor_number hs name ≡ Some number → IsNamedAt ss hs ws name number d)
    → IsNamedAt ss (h ∷ hs) (w ∷ ws) name number d
named_by true ss h hs w ws name number d same e found later =
    let first : 0 ≡ number = cc in
    subst (λ n. IsNamedAt ss (h ∷ hs) (w ∷ ws) name n d) first
    (record {
      less = omega arith;
      cursor = h;
      named = rw e refl;
      fetched = λ count v lines. rw e (ap (λ (ls : List (List ℕ)).
          let cursor : CursorState = record { name = h.name; held = h.held; lines = ls } in
          cursor ∷ cursors_with ss hs ws) lines);
      closed = rw e refl;
      fewer = rw e same;
    })
named_by false ss h hs w ws name number d same e found later = behind (cursor_number hs name) refl found
  where
    behind : (o : Option ℕ) → cursor_number hs name ≡ o → option_map suc o ≡ Some number
        → IsNamedAt ss (h ∷ hs) (w ∷ ws) name number d
    behind None is k = absurd cc
    behind (Some before) is k =
        let next : suc before ≡ number = cc in
        let one = later before is in
        let less = one.less in
        let own : CursorState = record { name = h.name; held = h.held; lines = lines_waiting ss w } in
        subst (λ n. IsNamedAt ss (h ∷ hs) (w ∷ ws) name n d) next
        (record {
          less = omega (arith, less);
          cursor = one.cursor;
          named = rw e one.named;
          fetched = λ count v lines. rw e (ap (λ (rest : List CursorState). own ∷ rest) (one.fetched count v lines));
          closed = rw e (ap (λ (rest : List CursorState). own ∷ rest) one.closed);
          fewer = rw e (ap suc one.fewer);
        })

pub named_at : (ss : List StatementState) (hs : List HeldCursor) (ws : List Waiting) (name : List ℕ) (number : ℕ)
    (d : Waiting) → length ws ≡ length hs → cursor_number hs name ≡ Some number → IsNamedAt ss hs ws name number d
named_at ss [] ws name number d e found = absurd cc
named_at ss (h ∷ hs) [] name number d e found = absurd (omega (arith, e))
named_at ss (h ∷ hs) (w ∷ ws) name number d e found =
    let same : length ws ≡ length hs = omega (arith, e) in
    named_by (bytes_eq h.name name) ss h hs w ws name number d same refl
    (sym (position_next (λ (c : HeldCursor). bytes_eq c.name name) h hs) ∙ found)
    (λ n is. named_at ss hs ws name n d same is)

none_by : (test : Bool) (c : CursorState) (cs : List CursorState) (name : List ℕ) → bytes_eq c.name name ≡ test
    → cond test (Some 0) (option_map suc (cursor_number (holds_of cs) name)) ≡ None
    → (cursor_number (holds_of cs) name ≡ None → cursor_named cs name ≡ None) → cursor_named (c ∷ cs) name ≡ None
none_by true c cs name e found later = absurd cc
none_by false c cs name e found later = rw e (later (behind (cursor_number (holds_of cs) name) found))
  where
    behind : (o : Option ℕ) → option_map suc o ≡ None → o ≡ None
    behind None k = refl
    behind (Some n) k = absurd cc

pub not_named : (cs : List CursorState) (name : List ℕ) → cursor_number (holds_of cs) name ≡ None
    → cursor_named cs name ≡ None
not_named [] name found = refl
not_named (c ∷ cs) name found =
    none_by (bytes_eq c.name name) c cs name refl
    (sym (position_next (λ (h : HeldCursor). bytes_eq h.name name) (hold_of c) (holds_of cs)) ∙ found)
    (not_named cs name)

-- All rows but those of one cursor.

pub waits_set : (ss : List StatementState) (ws : List Waiting) (number : ℕ) (w : Waiting) → All (IsWaiting ss) ws
    → IsWaiting ss w → All (IsWaiting ss) (set ws number w)
waits_set ss [] number w a one = a
waits_set ss (v ∷ ws) zero w a one = All-cons (IsWaiting ss) w ws one (All-tail (IsWaiting ss) v ws a)
waits_set ss (v ∷ ws) (suc number) w a one =
    All-cons (IsWaiting ss) v (set ws number w) (All-head (IsWaiting ss) v ws a)
    (waits_set ss ws number w (All-tail (IsWaiting ss) v ws a) one)

pub waits_there : (ss : List StatementState) (ws : List Waiting) (number : ℕ) (d : Waiting) → number < length ws
    → All (IsWaiting ss) ws → IsWaiting ss (slice_index_or ws number d)
waits_there ss [] number d less a = absurd (omega (arith, less))
waits_there ss (w ∷ ws) zero d less a = All-head (IsWaiting ss) w ws a
waits_there ss (w ∷ ws) (suc number) d less a =
    let before : number < length ws = omega (arith, less) in
    waits_there ss ws number d before (All-tail (IsWaiting ss) w ws a)

pub waits_left : (ss : List StatementState) (ws : List Waiting) (number : ℕ) → All (IsWaiting ss) ws
    → All (IsWaiting ss) (remove ws number)
waits_left ss [] zero a = a
waits_left ss [] (suc number) a = a
waits_left ss (w ∷ ws) zero a = All-tail (IsWaiting ss) w ws a
waits_left ss (w ∷ ws) (suc number) a =
    All-cons (IsWaiting ss) w (remove ws number) (All-head (IsWaiting ss) w ws a)
    (waits_left ss ws number (All-tail (IsWaiting ss) w ws a))

-- the statement of rows that wait is there
pub statement_less : (ss : List StatementState) (w : Waiting) → IsWaiting ss w → w.statement < length ss
statement_less ss w h = let one = statement_of ss w h.statement h.there in there_less ss w.statement one.prepared
    one.there
  where
    there_less : (ss : List StatementState) (n : ℕ) (prepared : StatementState) → slice_get ss n ≡ Some prepared
        → n < length ss
    there_less [] n prepared e = absurd cc
    there_less (s ∷ ss) zero prepared e = omega arith
    there_less (s ∷ ss) (suc n) prepared e = let less = there_less ss n prepared e in omega (arith, less)
