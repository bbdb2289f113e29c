use Rattle.std.proofs.Common.{◌≡◌, ◌<◌, ◌+◌, ◌-◌, ◌++◌, ℕ, List, length, take, drop, get_or, string_bytes, refl, arith}
use Rattle.std.proofs.Common.{ap, sym, ◌∙◌}
use Rattle.statement_meaning.specs.Spelling.{escaped}
use Rattle.value_spelling.specs.Escapes.{needs_escape}
use Rattle.value_spelling.proofs.Escapes.{waits, copied, first_cut, next_cut}
use Rattle.value_spelling.proofs.push_escapes.Goals as goal
use Rattle.value_spelling.proofs.push_escapes.Goals.{then-is_escaped+in_ok-push_str+in_ok-push_escaped}
use Rattle.value_spelling.proofs.push_escapes.Goals.{else-is_escaped}

pub loop-i-init : goal.loop-i-init
loop-i-init c = record { behind = omega arith; cut = first_cut c.args.words.now c.utf8.words; so_far = refl }

pub loop-i-preserved : goal.loop-i-preserved
loop-i-preserved c =
    let there : c.loop-i.i < length c.args.words.now = rw c.as_bytes-byte-items.ensures.value at c.loop-i-test.true in
    let test : c.is_escaped.result ≡ needs_escape (get_or c.args.words.now c.loop-i.i 0) =
    rw c.as_bytes-byte-items.ensures.value at c.is_escaped.ensures in
    elim c.if-is_escaped.branch [
      | then-is_escaped+in_ok-push_str+in_ok-push_escaped w ↦ rw (w.text-is, w.start-is) record {
        behind = omega arith;
        cut = next_cut c.args.words.now c.loop-i.i c.utf8.words there (sym test ∙ w.if-is_escaped.true);
        so_far =
            let new : string_bytes w.push_escaped.new.text
            ≡ (string_bytes c.loop-i.text
            ++ take (c.loop-i.i - c.loop-i.start) (drop c.loop-i.start c.args.words.now))
            ++ escaped (get_or c.args.words.now c.loop-i.i 0) =
            rw (w.in_ok-push_str.ensures.bytes, w.range.ensures.value, c.as_bytes-byte-items.ensures.value) at
            w.in_ok-push_escaped.ensures in
            ap (λ (bs : List ℕ). bs ++ drop (c.loop-i.i + 1) (take (c.loop-i.i + 1) c.args.words.now)) new
            ∙ copied c.args.words.now c.loop-i.i c.loop-i.start (string_bytes c.loop-i.text)
            (string_bytes c.args.text.now) c.loop-i.invariant.behind there c.loop-i.invariant.so_far;
      }
      | else-is_escaped w ↦ rw (w.text-is, w.start-is) record {
        behind = omega arith;
        cut = c.loop-i.invariant.cut;
        so_far =
            waits c.args.words.now c.loop-i.i c.loop-i.start (string_bytes c.loop-i.text) (string_bytes c.args.text.now)
            c.loop-i.invariant.behind there (sym test ∙ w.if-is_escaped.false) c.loop-i.invariant.so_far;
      }
    ]
