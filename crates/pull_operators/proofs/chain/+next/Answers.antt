use Rattle.std.proofs.Common.{◌≡◌, ◌∷◌, ℕ, List, length, subst, sym, ◌∙◌}
use Rattle.std.specs.Prelude.{All}
use Rattle.std.proofs.lemmas.List.Elements.{All-head, All-same, All-tail}
use Rattle.pull_operators.specs.Pieces.{piece}
use Rattle.pull_operators.specs.StillToCome.{Takes, pulled_to_come, to_come}
use Rattle.pull_operators.proofs.Chained.{gone_on}
use Rattle.pull_operators.proofs.chain.+next.Goals as goal

pub next_joined-begin-requires-clause-takes : goal.next_joined-begin-requires-clause-takes
next_joined-begin-requires-clause-takes t c =
    subst (λ (ds : List (List ℕ)). All (λ d. length c.in_ok-combo.combo ≡ length d) ds) (sym c.next.ensures.partners)
    (All-head (Takes c.loop-made.top) c.in_ok-combo.combo (pulled_to_come c.next_of.new.pulled)
    (All-same (Takes c.loop-made.top) (c.in_ok-combo.combo ∷ pulled_to_come c.next_of.new.pulled)
    (pulled_to_come c.loop-made.below) (sym c.in_ok-combo.ensures.given) c.loop-made.invariant.2))

pub next_joined-loop-made-preserved : goal.next_joined-loop-made-preserved
next_joined-loop-made-preserved t c = (
  c.next_of.ensures.ready,
  c.begin.ensures.ready,
  subst (λ (ds : List (List ℕ)). All (λ one. All (λ d. length one ≡ length d) ds) (pulled_to_come c.next_of.new.pulled))
      (sym (c.begin.ensures.partners ∙ c.next.ensures.partners))
      (All-tail (Takes c.loop-made.top) c.in_ok-combo.combo (pulled_to_come c.next_of.new.pulled)
      (All-same (Takes c.loop-made.top) (c.in_ok-combo.combo ∷ pulled_to_come c.next_of.new.pulled)
      (pulled_to_come c.loop-made.below) (sym c.in_ok-combo.ensures.given) c.loop-made.invariant.2)),
  c.next_of.ensures.joins ∙ c.loop-made.invariant.3,
  c.loop-made.invariant.4
      ∙ gone_on (piece c.loop-made.top) (piece c.next.new.self) (piece c.begin.new.self) (to_come c.loop-made.top)
      (to_come c.next.new.self) (to_come c.begin.new.self) (pulled_to_come c.loop-made.below)
      (pulled_to_come c.next_of.new.pulled) c.in_ok-combo.combo c.in_default.ensures.given c.in_default.ensures.none
      c.next.ensures.piece c.in_ok-combo.ensures.given c.begin.ensures.piece c.begin.ensures.to_come,
)
