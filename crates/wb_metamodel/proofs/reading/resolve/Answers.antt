use Rattle.wb_base.proofs.Answered.{answered_then}
use Rattle.wb_json.specs.Refusals.{code_at, coded}
use Rattle.wb_ecore.specs.declared.refusal.MetamodelCode.TheVariants.{DuplicateName, UnknownName}
use Rattle.wb_ecore.specs.Repeats.{unrepeated_names}
use Rattle.wb_ecore.specs.Resolving.{resolved}
use Rattle.wb_metamodel.specs.Checks.{resolve}
use Rattle.wb_metamodel.proofs.reading.resolve.Goals as goal

pub returns : goal.returns
unfolding resolve
returns c =
    let document = c.args.document.now in
    answered_then code_at (coded DuplicateName (unrepeated_names document)) (λ _. coded UnknownName (resolved document)) tt c.coded-2.result (c.in_ok-coded.ensures (unrepeated_names document) c.unrepeated_names.ensures) (c.coded-2.ensures (resolved document) c.resolved.ensures)
