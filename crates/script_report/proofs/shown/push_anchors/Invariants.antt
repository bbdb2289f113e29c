use Rattle.std.proofs.Common.{◌≡◌, ◌++◌, drop, string_bytes}
use Rattle.script_report.specs.Shown.{anchors_text}
use Rattle.script_report.proofs.shown.push_anchors.Given as goal

-- what is written, and the anchors that are left
abbrev pub invariant-loop-anchor : goal.invariant-loop-anchor
invariant-loop-anchor l =
    string_bytes l.text ++ anchors_text (drop l.anchor-index l.anchors)
    ≡ string_bytes l.fn.text ++ anchors_text l.anchors
