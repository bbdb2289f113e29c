use Rattle.std.proofs.Common.{string_bytes, ◌≡◌, ◌∙◌, ◌++◌, ap, sym, map-id}
use Rattle.std.specs.List.{flat_map}
use Rattle.std.proofs.lemmas.Iterator.{YieldsList-from_chars}
use Rattle.std.proofs.lemmas.Iterator.Consumers.{YieldsList-end}
use Rattle.row_values.specs.Names.{doubled, letter_bytes}
use Rattle.row_values.proofs.Letters.{doubled_text}
use Rattle.row_values.proofs.spelling.push_doubled.Goals as goal

-- all characters were added, and their bytes are those of the name with each quote as two
pub returns : goal.returns
returns c =
    let done = YieldsList-end (YieldsList-from_chars c.args.name.now c.utf8.name cc) c.loop-letter.yielded _
    c.loop-letter.yielded_by _ _ c.in-None.is c.next.ensures.steps in
    let all : flat_map letter_bytes c.loop-letter.yielded ≡ flat_map doubled c.args.name.now =
    ap (flat_map letter_bytes) (sym (map-id c.loop-letter.yielded) ∙ done.0) ∙ doubled_text c.args.name.now c.utf8.name
    in
    c.loop-letter.invariant ∙ ap (λ text. string_bytes c.args.out.now ++ text) all
