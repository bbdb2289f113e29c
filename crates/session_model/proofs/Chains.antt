-- Chains of steps, over any relation between two states by a line and its reply.
use Rattle.std.proofs.Common.{ℕ, ◌≡◌, List, [], ◌∷◌, ◌++◌, sym, subst, refl, ap, ◌∙◌, append_assoc}
use Rattle.script_report.specs.Replies.{reply_text}
use Rattle.script_report.specs.declared.replies.Reply.{Reply}
use Rattle.session_model.specs.Run.{Line, IsChain, report_text}

module _ {A : Type 0} (Takes : A → Line → Reply → A → Type 0) where
  -- what each step keeps holds along a chain
  pub keeps : (Has : A → Type 0)
      → ((a : A) (line : Line) (reply : Reply) (b : A) → Has a → Takes a line reply b → Has b)
      → (old : A) (lines : List Line) (replies : List Reply) (new : A) → Has old →
      IsChain Takes old lines replies new → Has new
  keeps Has step old [] [] new h chain = subst Has (sym chain) h
  keeps Has step old (line ∷ lines) (reply ∷ replies) new h chain =
      keeps Has step chain.0 lines replies new (step old line reply chain.0 h chain.1) chain.2
  keeps Has step old [] (reply ∷ replies) new h chain = elim chain [ ]
  keeps Has step old (line ∷ lines) [] new h chain = elim chain [ ]

  -- a chain, and one from where it ended
  pub chained : (old middle new : A) (first second : List Line) (some more : List Reply)
      → IsChain Takes old first some middle → IsChain Takes middle second more new
      → IsChain Takes old (first ++ second) (some ++ more) new
  chained old middle new [] second [] more h k = subst (λ (m : A). IsChain Takes m second more new) h k
  chained old middle new (line ∷ first) second (reply ∷ some) more h k =
      (h.0, h.1, chained h.0 middle new first second some more h.2 k)
  chained old middle new [] second (reply ∷ some) more h k = elim h [ ]
  chained old middle new (line ∷ first) second [] more h k = elim h [ ]

  -- and their report is one after the other
  pub reported : (old middle : A) (first second : List Line) (some more : List Reply)
      → IsChain Takes old first some middle
      → report_text (first ++ second) (some ++ more) ≡ report_text first some ++ report_text second more
  reported old middle [] second [] more h = refl
  reported old middle (line ∷ first) second (reply ∷ some) more h =
      ap (λ (t : List ℕ). reply_text line.number reply ++ t) (reported h.0 middle first second some more h.2)
      ∙ sym (append_assoc (reply_text line.number reply) (report_text first some) (report_text second more))
  reported old middle [] second (reply ∷ some) more h = elim h [ ]
  reported old middle (line ∷ first) second [] more h = elim h [ ]

-- a chain is one of a weaker relation, over what is seen of its states
pub mapped : {A B : Type 0} (Takes : A → Line → Reply → A → Type 0) (Gives : B → Line → Reply → B → Type 0)
    (seen : A → B) → ((a : A) (line : Line) (reply : Reply) (b : A) → Takes a line reply b
    → Gives (seen a) line reply (seen b)) →
    (old : A) (lines : List Line) (replies : List Reply) (new : A) → IsChain Takes old lines replies new
    → IsChain Gives (seen old) lines replies (seen new)
mapped Takes Gives seen step old [] [] new chain = ap seen chain
mapped Takes Gives seen step old (line ∷ lines) (reply ∷ replies) new chain =
    (seen chain.0, step old line reply chain.0 chain.1, mapped Takes Gives seen step chain.0 lines replies new chain.2)
mapped Takes Gives seen step old [] (reply ∷ replies) new chain = elim chain [ ]
mapped Takes Gives seen step old (line ∷ lines) [] new chain = elim chain [ ]
