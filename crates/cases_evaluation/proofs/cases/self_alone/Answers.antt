use Rattle.std.proofs.Common.{rules, ◌≡◌, [], ◌∷◌}
use Rattle.wb_store.specs.declared.scalars.Scalar.TheVariants.{Object}
use Rattle.wb_aql_values.specs.declared.values.Value.TheVariants.{One}
use Rattle.cases_evaluation.proofs.Selves.{binds_self}
use Rattle.cases_evaluation.proofs.cases.self_alone.Goals as goal

pub returns : goal.returns
returns c =
    let names : c.push.new.self ≡ c.in_ok-from_str.field-0 ∷ [] = search rules in
    let values : c.push-2.new.self ≡ One (Object c.args.number) ∷ [] = search rules in
    λ mm. rw (names, values) (binds_self mm c.in_ok-from_str.field-0 c.args.number)
