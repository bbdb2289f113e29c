-- The items of a report are those of its replies.
use Rattle.std.proofs.Common.{◌≡◌, ◌≢◌, ◌∙◌, ◌⊎◌, inl, inr, List, [], ◌∷◌, ◌++◌, ap, refl, sym, subst}
use Rattle.std.specs.Str.Lines.{lines}
use Rattle.script_report.specs.Replies.{reply_text}
use Rattle.script_report.specs.declared.replies.Reply.{Reply}
use Rattle.script_report.specs.declared.replies.Reply.TheVariants.{Spent}
use Rattle.report_items.specs.Items.{items_of}
use Rattle.report_items.specs.declared.items.ReportItem.{ReportItem}
use Rattle.session_model.specs.Run.{Line, report_text}
use Rattle.reported_items.specs.Reported.{AreNumbered, items_told}
use Rattle.reported_items.proofs.Apart.{BeginsWithHead, IsWhole, texts_apart}
use Rattle.reported_items.proofs.ReplyEnds.{head_first, reply_begins, said}

nothing : items_of [] ≡ []
unfolding items_of
nothing = refl

spent_or : (reply : Reply) → (reply ≡ Spent) ⊎ (reply ≢ Spent)
spent_or Spent = inl refl
spent_or reply = inr (λ e. cc)

-- a report is empty, or begins with a head
report_begins : (lines' : List Line) (replies : List Reply) → AreNumbered lines'
    → BeginsWithHead (lines (report_text lines' replies))
report_begins [] replies h = tt
report_begins (line ∷ lines') [] h = tt
report_begins (line ∷ lines') (reply ∷ replies) h = by_reply (spent_or reply) (report_begins lines' replies h.1)
  where
    by_reply : (reply ≡ Spent) ⊎ (reply ≢ Spent) → BeginsWithHead (lines (report_text lines' replies))
        → BeginsWithHead (lines (reply_text line.number reply ++ report_text lines' replies))
    by_reply (inl e) later =
        subst (λ (r : Reply). BeginsWithHead (lines (reply_text line.number r ++ report_text lines' replies))) (sym
        e) later
    by_reply (inr some) later =
        head_first (reply_text line.number reply ++ report_text lines' replies)
        (reply_begins line.number reply (report_text lines' replies) h.0 some)

pub items_each : (lines' : List Line) (replies : List Reply) → AreNumbered lines'
    → items_of (report_text lines' replies) ≡ items_told lines' replies
items_each [] replies h = nothing
items_each (line ∷ lines') [] h = nothing
items_each (line ∷ lines') (reply ∷ replies) h =
    by_reply (said line.number reply) (items_each lines' replies h.1)
  where
    by_reply : (reply ≡ Spent) ⊎ IsWhole (reply_text line.number reply)
        → items_of (report_text lines' replies) ≡ items_told lines' replies
        → items_of (reply_text line.number reply ++ report_text lines' replies)
        ≡ items_of (reply_text line.number reply) ++ items_told lines' replies
    by_reply (inl e) later =
        subst (λ (r : Reply). items_of (reply_text line.number r ++ report_text lines' replies)
        ≡ items_of (reply_text line.number r) ++ items_told lines' replies) (sym e)
        (later ∙ ap (λ (z : List ReportItem). z ++ items_told lines' replies) (sym nothing))
    by_reply (inr whole) later =
        texts_apart (reply_text line.number reply) (report_text lines' replies) whole
        (report_begins lines' replies h.1)
        ∙ ap (λ (z : List ReportItem). items_of (reply_text line.number reply) ++ z) later
