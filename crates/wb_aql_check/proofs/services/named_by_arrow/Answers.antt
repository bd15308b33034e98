use Rattle.std.proofs.Common.{refl, sym, ap}
use Rattle.std.specs.Option.{option_map}
use Rattle.wb_aql_tokens.proofs.Words.{differs}
use Rattle.wb_aql_grammar.specs.declared.expr.CallKind.TheVariants.{Arrow}
use Rattle.wb_aql_check.specs.Services.{Row, services, service_named}
use Rattle.wb_aql_check.proofs.Rows.{missed}
use Rattle.wb_aql_check.proofs.services.named_by_arrow.Goals as goal

pub returns-in-select : goal.returns-in-select
unfolding service_named services
returns-in-select c = sym (ap (service_named Arrow) c.in-select.is)

pub returns-in-reject : goal.returns-in-reject
unfolding service_named services
returns-in-reject c = sym (ap (service_named Arrow) c.in-reject.is)

pub returns-in-collect : goal.returns-in-collect
unfolding service_named services
returns-in-collect c = sym (ap (service_named Arrow) c.in-collect.is)

pub returns-in-exists : goal.returns-in-exists
unfolding service_named services
returns-in-exists c = sym (ap (service_named Arrow) c.in-exists.is)

pub returns-in-forAll : goal.returns-in-forAll
unfolding service_named services
returns-in-forAll c = sym (ap (service_named Arrow) c.in-forAll.is)

pub returns-in-any : goal.returns-in-any
unfolding service_named services
returns-in-any c = sym (ap (service_named Arrow) c.in-any.is)

pub returns-in-filter : goal.returns-in-filter
unfolding service_named services
returns-in-filter c = sym (ap (service_named Arrow) c.in-filter.is)

pub returns-in-first : goal.returns-in-first
unfolding service_named services
returns-in-first c = sym (ap (service_named Arrow) c.in-first.is)

pub returns-in-last : goal.returns-in-last
unfolding service_named services
returns-in-last c = sym (ap (service_named Arrow) c.in-last.is)

pub returns-in-at : goal.returns-in-at
unfolding service_named services
returns-in-at c = sym (ap (service_named Arrow) c.in-at.is)

pub returns-in-size : goal.returns-in-size
unfolding service_named services
returns-in-size c = sym (ap (service_named Arrow) c.in-size.is)

pub returns-in-isEmpty : goal.returns-in-isEmpty
unfolding service_named services
returns-in-isEmpty c = sym (ap (service_named Arrow) c.in-isEmpty.is)

pub returns-in-notEmpty : goal.returns-in-notEmpty
unfolding service_named services
returns-in-notEmpty c = sym (ap (service_named Arrow) c.in-notEmpty.is)

pub returns-in-includes : goal.returns-in-includes
unfolding service_named services
returns-in-includes c = sym (ap (service_named Arrow) c.in-includes.is)

pub returns-in-excludes : goal.returns-in-excludes
unfolding service_named services
returns-in-excludes c = sym (ap (service_named Arrow) c.in-excludes.is)

pub returns-in-including : goal.returns-in-including
unfolding service_named services
returns-in-including c = sym (ap (service_named Arrow) c.in-including.is)

pub returns-in-excluding : goal.returns-in-excluding
unfolding service_named services
returns-in-excluding c = sym (ap (service_named Arrow) c.in-excluding.is)

pub returns-in-asSequence : goal.returns-in-asSequence
unfolding service_named services
returns-in-asSequence c = sym (ap (service_named Arrow) c.in-asSequence.is)

pub returns-in-asOrderedSet : goal.returns-in-asOrderedSet
unfolding service_named services
returns-in-asOrderedSet c = sym (ap (service_named Arrow) c.in-asOrderedSet.is)

pub returns-in_default : goal.returns-in_default
unfolding service_named services
returns-in_default c =
    sym (ap (option_map (λ (row : Row). (row.callee, row.parameters)))
    (missed _ _ _ (differs c.in_default.not-select) (missed _ _ _ (differs c.in_default.not-reject) (missed _ _ _ (differs c.in_default.not-collect) (missed _ _ _ (differs c.in_default.not-exists) (missed _ _ _ (differs c.in_default.not-forAll) (missed _ _ _ (differs c.in_default.not-any) (missed _ _ _ (differs c.in_default.not-filter) (missed _ _ _ (differs c.in_default.not-first) (missed _ _ _ (differs c.in_default.not-last) (missed _ _ _ (differs c.in_default.not-at) (missed _ _ _ (differs c.in_default.not-size) (missed _ _ _ (differs c.in_default.not-isEmpty) (missed _ _ _ (differs c.in_default.not-notEmpty) (missed _ _ _ (differs c.in_default.not-includes) (missed _ _ _ (differs c.in_default.not-excludes) (missed _ _ _ (differs c.in_default.not-including) (missed _ _ _ (differs c.in_default.not-excluding) (missed _ _ _ (differs c.in_default.not-asSequence) (missed _ _ _ (differs c.in_default.not-asOrderedSet) (refl)))))))))))))))))))))
