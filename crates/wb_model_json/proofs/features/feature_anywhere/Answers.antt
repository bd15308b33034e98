use Rattle.std.proofs.Common.{◌<◌, length, sym, ◌∙◌, arith}
use Rattle.wb_metamodel.specs.Checks.{is_name_of}
use Rattle.wb_ecore.proofs.Taken.{find-on}
use Rattle.wb_model_json.proofs.features.feature_anywhere.Goals as goal

pub loop-number-preserved : goal.loop-number-preserved
loop-number-preserved c =
    let within : c.loop-number.number < length c.args.metamodel.now.features = omega (arith, c.feature_count-number-end.ensures, c.loop-number-test.true) in
    c.loop-number.invariant ∙ find-on (is_name_of c.args.metamodel.now c.args.name.now) (length c.args.metamodel.now.features) c.loop-number.number within (sym c.has_name.ensures ∙ c.if-has_name.false)
