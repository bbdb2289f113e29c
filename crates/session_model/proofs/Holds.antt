-- What open cursors hold, as cursors are opened, fetched from, and closed.
use Rattle.std.proofs.Common.{ℕ, suc, ◌≡◌, ◌∙◌, ◌||◌, List, [], ◌∷◌, ◌++◌, length, map, drop, Bool, true, false, cond}
use Rattle.std.proofs.Common.{Option, Some, None, ap, refl, sym}
use Rattle.std.specs.Str.{bytes_eq}
use Rattle.catalog_model.specs.Held.{HeldCursor, is_open, without_cursor}
use Rattle.session_model.specs.State.{CursorState, closed_from, cursor_named, fetched_from, hold_of, holds_of}

pub holds_behind : (cursors : List CursorState) (new : CursorState)
    → holds_of (cursors ++ new ∷ []) ≡ holds_of cursors ++ hold_of new ∷ []
holds_behind [] new = refl
holds_behind (c ∷ cs) new = ap (λ (rest : List HeldCursor). hold_of c ∷ rest) (holds_behind cs new)

-- a fetch takes lines, and leaves what is held
pub holds_fetched : (cursors : List CursorState) (name : List ℕ) (count : ℕ)
    → holds_of (fetched_from cursors name count) ≡ holds_of cursors
holds_fetched [] name count = refl
holds_fetched (c ∷ cs) name count = by_test (bytes_eq c.name name) (holds_fetched cs name count)
  where
    by_test : (test : Bool) → holds_of (fetched_from cs name count) ≡ holds_of cs
        → holds_of (cond test (record c { lines = drop count c.lines } ∷ cs) (c ∷ fetched_from cs name count))
        ≡ holds_of (c ∷ cs)
    by_test true later = refl
    by_test false later = ap (λ (rest : List HeldCursor). hold_of c ∷ rest) later

pub holds_closed : (cursors : List CursorState) (name : List ℕ)
    → holds_of (closed_from cursors name) ≡ without_cursor name (holds_of cursors)
holds_closed [] name = refl
holds_closed (c ∷ cs) name = by_test (bytes_eq c.name name) (holds_closed cs name)
  where
    by_test : (test : Bool) → holds_of (closed_from cs name) ≡ without_cursor name (holds_of cs)
        → holds_of (cond test cs (c ∷ closed_from cs name))
        ≡ cond test (holds_of cs) (hold_of c ∷ without_cursor name (holds_of cs))
    by_test true later = refl
    by_test false later = ap (λ (rest : List HeldCursor). hold_of c ∷ rest) later

pub holds_long : (cursors : List CursorState) → length (holds_of cursors) ≡ length cursors
holds_long [] = refl
holds_long (c ∷ cs) = ap suc (holds_long cs)
