use Rattle.std.proofs.Common.{◌≡◌, Err, ap}
use Rattle.std.proofs.lemmas.Result.{err_from_is_err_and}
use Rattle.sql_parser.specs.declared.faults.ParseFault.TheVariants as fault
use Rattle.sql_parser.proofs.ReadIsSound.{tokens_good}
use Rattle.sql_parser.proofs.FunctionsAreGrammar.{spelled_all, spelled_none}
use Rattle.sql_parser.proofs.TextsReadOnce.{text_found, text_only, text_none, text_untokened}
use Rattle.sql_parser.proofs.parsing.parse.Goals as goal

pub take_statement-requires : goal.take_statement-requires
take_statement-requires c = tokens_good c.args.text.now c.in_ok-tokens.tokens.items c.in_ok-tokens.ensures.found

pub returns-in_err-select-clause-syntax : goal.returns-in_err-select-clause-syntax
returns-in_err-select-clause-syntax c = λ s other is.
    let p = err_from_is_err_and c.from_residual-in_err-select.result c.from_residual-in_err-select.ensures.1 in
    let q = p.2 in
    let t = rw (p.1) at s in
    let e : c.in_err-select.field-0.0 ≡ fault.Syntax = cc in
    text_none c.args.text.now c.in_ok-tokens.tokens.items c.in_ok-tokens.ensures.only (rw e at c.in_err-select.ensures)
    other is

pub returns-clause-found : goal.returns-clause-found
returns-clause-found c = text_found c.args.text.now c.in_ok-tokens.tokens.items c.in_ok-select.select
    c.take_statement.new.tokens.items c.in_ok-tokens.ensures.found c.in_ok-select.ensures

pub returns-clause-only : goal.returns-clause-only
returns-clause-only c = text_only c.args.text.now c.in_ok-tokens.tokens.items c.in_ok-select.select
    c.take_statement.new.tokens.items c.in_ok-tokens.ensures.only c.in_ok-select.ensures

pub returns-in_err-tokens-clause-none : goal.returns-in_err-tokens-clause-none
returns-in_err-tokens-clause-none c = λ s.
    let p = err_from_is_err_and c.from_residual.result c.from_residual.ensures.1 in
    let q = p.2 in
    let t = rw (p.1) at s in
    let e : c.in_err-tokens.field-0.0 ≡ fault.Syntax = cc in
    spelled_none c.args.text.now (λ other is. text_untokened c.args.text.now
    (c.in_err-tokens.ensures.syntax (ap (λ z. Err z) e)) other is)

pub returns-in_err-select-clause-none : goal.returns-in_err-select-clause-none
returns-in_err-select-clause-none c = λ s.
    let p = err_from_is_err_and c.from_residual-in_err-select.result c.from_residual-in_err-select.ensures.1 in
    let q = p.2 in
    let t = rw (p.1) at s in
    let e : c.in_err-select.field-0.0 ≡ fault.Syntax = cc in
    spelled_none c.args.text.now (λ other is. text_none c.args.text.now c.in_ok-tokens.tokens.items
    c.in_ok-tokens.ensures.only (rw e at c.in_err-select.ensures) other is)

pub returns-clause-value : goal.returns-clause-value
returns-clause-value c = spelled_all c.args.text.now _
    (text_found c.args.text.now c.in_ok-tokens.tokens.items c.in_ok-select.select c.take_statement.new.tokens.items
    c.in_ok-tokens.ensures.found c.in_ok-select.ensures)
