use Rattle.std.proofs.Common.{◌≡◌, ◌≢◌, ◌<◌, [], length, sym, subst, ap, ◌∙◌}
use Rattle.std.specs.Prelude.{◌==◌}
use Rattle.std.proofs.lemmas.Bool.{false≢true, eqb-true}
use Rattle.std.proofs.lemmas.List.{nil_from_length}
use Rattle.wb_aql_tokens.proofs.Lexing.{lexing_begins, lexing_ends, lexing_stops, lexing_on, shorter}
use Rattle.wb_aql_tokens.proofs.lexer.tokens_of.Goals as goal

pub loop-rest-init : goal.loop-rest-init
loop-rest-init c = rw (c.after_blanks-rest.ensures, c.new-tokens.ensures, c.new-starts.ensures) (lexing_begins c.args.text.now)

pub loop-rest-smaller : goal.loop-rest-smaller
loop-rest-smaller c =
    let found = rw c.in-Some.is at c.in_ok-token.ensures in
    subst (λ rest. length rest < length c.loop-rest.rest.now) (sym c.after_blanks-rest-in-Some.ensures)
    (shorter c.args.text.now c.loop-rest.rest.now c.loop-rest.tokens c.loop-rest.starts c.loop-rest.invariant c.in-Some.token c.in-Some.behind.now found)

pub loop-rest-preserved : goal.loop-rest-preserved
loop-rest-preserved c =
    let found = rw c.in-Some.is at c.in_ok-token.ensures in
    rw (c.after_blanks-rest-in-Some.ensures, c.in_ok-push-in-Some.ensures.ok, c.in_ok-push.ensures.ok)
    (lexing_on c.args.text.now c.loop-rest.rest.now c.loop-rest.tokens c.loop-rest.starts c.loop-rest.invariant c.in-Some.token c.in-Some.behind.now found)

pub returns-in-None : goal.returns-in-None
returns-in-None c =
    let none = rw c.in-None.is at c.in_ok-token.ensures in
    let some : c.loop-rest.rest.now ≢ [] = λ e. false≢true (sym c.loop-rest-test.true ∙ c.is_empty.ensures ∙ ap (λ rest. length rest == 0) e) in
    rw (c.in_ok-push-in-None.ensures.ok, c.in_ok-push.ensures.ok)
    (lexing_stops c.args.text.now c.loop-rest.rest.now c.loop-rest.tokens c.loop-rest.starts c.loop-rest.invariant some none)

pub returns : goal.returns
returns c =
    let none : c.loop-rest.rest.now ≡ [] = nil_from_length _ (eqb-true _ _ (sym c.is_empty.ensures ∙ c.loop-rest-test.false)) in
    lexing_ends c.args.text.now c.loop-rest.rest.now c.loop-rest.tokens c.loop-rest.starts c.loop-rest.invariant none
