use Rattle.std.proofs.Common.{lit<, ◌++◌, ◌∷◌, [], Some, None, string_bytes, ap, ◌∙◌}
use Rattle.std.proofs.lemmas.Str.Pattern.{split_parts}
use Rattle.sql_parser.specs.Tokens.{quoted, doubled}
use Rattle.sql_parser.proofs.Scanning.{utf8_behind, no_quotes}
use Rattle.sql_parser.proofs.PrintedQuotes.{quote_start, quote_step, quote_end}
use Rattle.sql_parser.proofs.printing.push_text.Goals as goal

pub quotes-init : goal.quotes-init
quotes-init c = (
  c.utf8.text,
  quote_start 39 (string_bytes c.args.out.now) (string_bytes c.push.new.self) (doubled 39 c.args.text.now ++ 39 ∷ [])
      (c.in_ok-push.ensures.bytes ∙ ap (λ z. string_bytes c.args.out.now ++ z) (c.push.ensures.ascii (lit< tt))),
)

pub quotes-preserved : goal.quotes-preserved
quotes-preserved c =
    let parts = split_parts 39 c.quotes.rest.now (Some (c.in-Some.part, c.in-Some.after)) c.in-Some.ensures.cases
    (lit< tt) in (
      utf8_behind 39 c.in-Some.part.now c.in-Some.after.now c.quotes.rest.now (lit< tt) c.quotes.invariant.0 parts.0,
      quote_step 39 (string_bytes c.quotes.out) (string_bytes c.push_str.new.self)
          (string_bytes c.push_str-in-Some.new.self)
          (string_bytes c.args.out.now ++ quoted 39 c.args.text.now) c.quotes.rest.now c.in-Some.part.now
          c.in-Some.after.now
          c.in_ok-push_str.ensures.bytes c.in_ok-push_str-2.ensures.bytes
          parts.0 (no_quotes 39 c.in-Some.part.now parts.1) c.quotes.invariant.1,
    )

pub returns : goal.returns
returns c =
    let parts = split_parts 39 c.quotes.rest.now None c.in_default.ensures.cases (lit< tt) in
    quote_end 39 (string_bytes c.quotes.out) (string_bytes c.push_str-2.new.self) (string_bytes c.push-2.new.self)
    (string_bytes c.args.out.now ++ quoted 39 c.args.text.now) c.quotes.rest.now
    c.in_ok-push_str-3.ensures.bytes
    (c.in_ok-push-2.ensures.bytes ∙ ap (λ z. string_bytes c.push_str-2.new.self ++ z)
    (c.push-2.ensures.ascii (lit< tt)))
    (no_quotes 39 c.quotes.rest.now parts) c.quotes.invariant.1
