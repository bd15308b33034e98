use Rattle.std.proofs.Common.{sym, ap}
use Rattle.wb_base.specs.Names.{same_name}
use Rattle.wb_ecore.specs.declared.features.Feature.{Feature}
use Rattle.wb_spec_check.proofs.OwnNames.{gains}
use Rattle.wb_spec_check.proofs.names.feature_names.Goals as goal

pub loop-number-preserved : goal.loop-number-preserved
loop-number-preserved c = λ name.
    gains (λ (feature : Feature). same_name feature.name name) c.args.metamodel.now.features c.loop-number.number c.loop-number.number c.feature.result.now (same_name c.as_slice.result.now name) _ _
    c.feature.ensures (ap (λ n. same_name n name) (sym c.as_slice.ensures.same)) (c.loop-number.invariant name) (c.in_ok-add.ensures name)
