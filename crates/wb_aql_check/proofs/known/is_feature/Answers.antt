use Rattle.std.proofs.Common.{sym, ◌∙◌}
use Rattle.wb_metamodel.specs.Metamodel.{same_name}
use Rattle.wb_ecore.specs.declared.features.Feature.{Feature}
use Rattle.wb_aql_check.proofs.Searching.{found_here, not_here}
use Rattle.wb_aql_check.proofs.known.is_feature.Goals as goal

pub returns-then-eq : goal.returns-then-eq
returns-then-eq c =
    sym (found_here (λ (feature : Feature). same_name feature.name c.args.name.now) c.args.metamodel.now.features c.loop-number.number c.feature-feature.result.now c.feature-feature.ensures
    (sym c.eq.ensures ∙ c.if-eq.true)) ∙ c.loop-number.invariant

pub loop-number-preserved : goal.loop-number-preserved
loop-number-preserved c =
    not_here (λ (feature : Feature). same_name feature.name c.args.name.now) c.args.metamodel.now.features c.loop-number.number c.feature-feature.result.now c.feature-feature.ensures
    (sym c.eq.ensures ∙ c.if-eq.false) ∙ c.loop-number.invariant
