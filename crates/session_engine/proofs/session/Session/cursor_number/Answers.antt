use Rattle.std.proofs.Common.{ℕ, ◌∙◌, List, Some, None, ap}
use Rattle.row_values.specs.Names.{canonical_name}
use Rattle.row_values.specs.Refusals.{unknown_cursor}
use Rattle.session_engine.proofs.KeptCursors.{number_told}
use Rattle.session_engine.proofs.session.Session.cursor_number.Goals as goal

pub returns-in-Some : goal.returns-in-Some
returns-in-Some c =
    number_told c.self.inside.store c.self.inside.caches.items c.self.inside.waiting.items c.self.inside.executions
    c.self.inside.settings c.args.self.now c.args.cursor.now (Some c.in-Some.number) c.self.invariant c.self.view_is
    c.in-Some.ensures.value

pub returns-in_ok-shown-in-None : goal.returns-in_ok-shown-in-None
returns-in_ok-shown-in-None c = (
  number_told c.self.inside.store c.self.inside.caches.items c.self.inside.waiting.items c.self.inside.executions
      c.self.inside.settings c.args.self.now c.args.cursor.now None c.self.invariant c.self.view_is
      c.in-None.ensures.value,
  c.unknown_cursor.ensures ∙ ap unknown_cursor c.in_ok-shown-in-None.ensures ∙ ap
      (λ (n : List ℕ). unknown_cursor (canonical_name n)) c.as_str.ensures,
)
