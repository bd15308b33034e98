use Rattle.std.proofs.Common.{refl, sym, ap}
use Rattle.std.specs.Option.{option_map}
use Rattle.wb_aql_tokens.proofs.Words.{differs}
use Rattle.wb_aql_grammar.specs.declared.expr.CallKind.TheVariants.{Dot}
use Rattle.wb_aql_check.specs.Services.{Row, services, service_named}
use Rattle.wb_aql_check.proofs.Rows.{missed}
use Rattle.wb_aql_check.proofs.services.named_by_dot.Goals as goal

pub returns-in-eContainer : goal.returns-in-eContainer
unfolding service_named services
returns-in-eContainer c = sym (ap (service_named Dot) c.in-eContainer.is)

pub returns-in-eContents : goal.returns-in-eContents
unfolding service_named services
returns-in-eContents c = sym (ap (service_named Dot) c.in-eContents.is)

pub returns-in-eAllContents : goal.returns-in-eAllContents
unfolding service_named services
returns-in-eAllContents c = sym (ap (service_named Dot) c.in-eAllContents.is)

pub returns-in-eInverse : goal.returns-in-eInverse
unfolding service_named services
returns-in-eInverse c = sym (ap (service_named Dot) c.in-eInverse.is)

pub returns-in-ancestors : goal.returns-in-ancestors
unfolding service_named services
returns-in-ancestors c = sym (ap (service_named Dot) c.in-ancestors.is)

pub returns-in-siblings : goal.returns-in-siblings
unfolding service_named services
returns-in-siblings c = sym (ap (service_named Dot) c.in-siblings.is)

pub returns-in-precedingSiblings : goal.returns-in-precedingSiblings
unfolding service_named services
returns-in-precedingSiblings c = sym (ap (service_named Dot) c.in-precedingSiblings.is)

pub returns-in-followingSiblings : goal.returns-in-followingSiblings
unfolding service_named services
returns-in-followingSiblings c = sym (ap (service_named Dot) c.in-followingSiblings.is)

pub returns-in-oclIsKindOf : goal.returns-in-oclIsKindOf
unfolding service_named services
returns-in-oclIsKindOf c = sym (ap (service_named Dot) c.in-oclIsKindOf.is)

pub returns-in-oclIsTypeOf : goal.returns-in-oclIsTypeOf
unfolding service_named services
returns-in-oclIsTypeOf c = sym (ap (service_named Dot) c.in-oclIsTypeOf.is)

pub returns-in-oclAsType : goal.returns-in-oclAsType
unfolding service_named services
returns-in-oclAsType c = sym (ap (service_named Dot) c.in-oclAsType.is)

pub returns-in-concat : goal.returns-in-concat
unfolding service_named services
returns-in-concat c = sym (ap (service_named Dot) c.in-concat.is)

pub returns-in-startsWith : goal.returns-in-startsWith
unfolding service_named services
returns-in-startsWith c = sym (ap (service_named Dot) c.in-startsWith.is)

pub returns-in_default : goal.returns-in_default
unfolding service_named services
returns-in_default c =
    sym (ap (option_map (λ (row : Row). (row.callee, row.parameters)))
    (missed _ _ _ (differs c.in_default.not-eContainer) (missed _ _ _ (differs c.in_default.not-eContents) (missed _ _ _ (differs c.in_default.not-eAllContents) (missed _ _ _ (differs c.in_default.not-eInverse) (missed _ _ _ (differs c.in_default.not-ancestors) (missed _ _ _ (differs c.in_default.not-siblings) (missed _ _ _ (differs c.in_default.not-precedingSiblings) (missed _ _ _ (differs c.in_default.not-followingSiblings) (missed _ _ _ (differs c.in_default.not-oclIsKindOf) (missed _ _ _ (differs c.in_default.not-oclIsTypeOf) (missed _ _ _ (differs c.in_default.not-oclAsType) (missed _ _ _ (differs c.in_default.not-concat) (missed _ _ _ (differs c.in_default.not-startsWith) (refl)))))))))))))))
