use Rattle.std.proofs.Common.{◌≡◌, ℕ, List, Option, Some, None, sym, subst, ap, ◌∙◌, true, false}
use Rattle.std.specs.Prelude.{Bool, MatchOption, not, ◌&&◌, is_some}
use Rattle.std.proofs.lemmas.Bool.{false_from_ne_true, and_from, not_from_false}
use Rattle.wb_base.specs.Names.{is_name}
use Rattle.wb_aql_tokens.specs.Lexes.{is_expression_name, is_reserved, word_of}
use Rattle.wb_aql_tokens.specs.declared.token.Sign.{Sign as SignName}
use Rattle.wb_aql_tokens.proofs.OneLexing.{no_sign_name}
use Rattle.wb_aql_tokens.proofs.names.is_expression_name.Goals as goal

free_name : (text : List ℕ) (found : Option SignName) → MatchOption found (is_reserved text ≡ false) (λ sign. text ≡ word_of sign) → is_name text ≡ true →
    not (is_some found) ≡ is_expression_name text
unfolding is_expression_name
free_name text None free named = sym (and_from _ _ named (not_from_false _ free))
free_name text (Some sign) is named = sym (false_from_ne_true _ (λ named. no_sign_name sign (subst (λ z. is_expression_name z ≡ true) is named)))

no_name : (text : List ℕ) → is_name text ≡ false → false ≡ is_expression_name text
unfolding is_expression_name
no_name text wrong = sym (ap (λ z. z && not (is_reserved text)) wrong)

through : (r s y : Bool) → s ≡ not r → not s ≡ y → r ≡ y
through true s y e f = sym (ap not e) ∙ f
through false s y e f = sym (ap not e) ∙ f

pub returns-then-is_name : goal.returns-then-is_name
returns-then-is_name c =
    through _ _ _ c.is_none.ensures (free_name c.args.text.now c.reserved_word.result c.reserved_word.ensures (sym c.is_name.ensures ∙ c.if-is_name.true))

pub returns-else-is_name : goal.returns-else-is_name
returns-else-is_name c = c.if-is_name.false ∙ no_name c.args.text.now (sym c.is_name.ensures ∙ c.if-is_name.false)
