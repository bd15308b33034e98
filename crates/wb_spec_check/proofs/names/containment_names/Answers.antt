use Rattle.std.proofs.Common.{◌&&◌, sym, ap, ap₂}
use Rattle.wb_base.specs.Names.{same_name}
use Rattle.wb_ecore.specs.declared.features.Feature.{Feature}
use Rattle.wb_spec_check.proofs.OwnNames.{gains, keeps}
use Rattle.wb_spec_check.proofs.names.containment_names.Goals as goal
use Rattle.wb_spec_check.proofs.names.containment_names.Goals.{then-feature+in_ok-add, else-feature}

pub loop-number-preserved : goal.loop-number-preserved
loop-number-preserved c = λ name.
    let feature = c.feature-feature.result.now in
    elim c.if-feature.branch [
      | then-feature+in_ok-add w ↦
          rw w.names-is
          (gains (λ (feature : Feature). feature.containment && same_name feature.name name) c.args.metamodel.now.features c.loop-number.number c.loop-number.number feature (same_name w.as_slice.result.now name) _ _
          c.feature-feature.ensures (ap₂ (λ b n. b && same_name n name) w.if-feature.true (sym w.as_slice.ensures.same)) (c.loop-number.invariant name) (w.in_ok-add.ensures name))
      | else-feature w ↦
          rw w.names-is
          (keeps (λ (feature : Feature). feature.containment && same_name feature.name name) c.args.metamodel.now.features c.loop-number.number feature _
          c.feature-feature.ensures (ap (λ b. b && same_name feature.name name) w.if-feature.false) (c.loop-number.invariant name))
    ]
