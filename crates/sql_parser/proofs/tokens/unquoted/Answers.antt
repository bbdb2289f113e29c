use Rattle.std.proofs.Common.{[], ◌++◌, Some, None, string_bytes, ap, ◌∙◌}
use Rattle.std.proofs.lemmas.Str.Pattern.{split_parts, strip_prefix_char}
use Rattle.sql_parser.proofs.Scanning.{utf8_behind, unquoted_found, unquoted_on, unquoted_none}
use Rattle.sql_parser.proofs.tokens.unquoted.Goals as goal

pub returns-in-None : goal.returns-in-None
returns-in-None c =
    let parts = split_parts c.args.quote c.loop-part.rest.now (Some (c.in-Some.part, c.in-Some.after))
    c.in-Some.ensures.cases c.requires in
    let stop = strip_prefix_char c.args.quote c.in-Some.after.now None c.in-None.ensures.cases c.requires in
    unquoted_found c.args.quote c.args.inside.now (string_bytes c.loop-part.content) c.loop-part.rest.now
    c.in-Some.part.now c.in-Some.after.now c.from_string.result
    c.requires c.utf8.inside c.loop-part.invariant.1 parts (c.from_string.ensures ∙ c.in_ok-push_str.ensures.bytes) stop

pub loop-part-preserved : goal.loop-part-preserved
loop-part-preserved c =
    let parts = split_parts c.args.quote c.loop-part.rest.now (Some (c.in-Some.part, c.in-Some.after))
    c.in-Some.ensures.cases c.requires in
    let more = strip_prefix_char c.args.quote c.in-Some.after.now (Some c.in-Some-strip_prefix.more)
    c.in-Some-strip_prefix.ensures.cases c.requires in
    let u = utf8_behind c.args.quote c.in-Some.part.now c.in-Some.after.now c.loop-part.rest.now c.requires
    c.loop-part.invariant.0 parts.0 in (
      utf8_behind c.args.quote [] c.in-Some-strip_prefix.more.now c.in-Some.after.now c.requires u more,
      unquoted_on c.args.quote c.args.inside.now (string_bytes c.loop-part.content) c.loop-part.rest.now
          c.in-Some.part.now c.in-Some.after.now c.in-Some-strip_prefix.more.now
          (string_bytes c.push_str.new.self) (string_bytes c.push.new.self)
          c.loop-part.invariant.1 parts more c.in_ok-push_str.ensures.bytes (c.in_ok-push.ensures.bytes
          ∙ ap (λ z. string_bytes c.push_str.new.self ++ z) (c.push.ensures.ascii c.requires)),
    )

pub returns : goal.returns
returns c =
    let parts = split_parts c.args.quote c.loop-part.rest.now None c.in_default.ensures.cases c.requires in
    unquoted_none c.args.quote c.args.inside.now (string_bytes c.loop-part.content) c.loop-part.rest.now
    c.loop-part.invariant.1 parts
