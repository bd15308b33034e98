-- The codes of the three readers, by name.
use Rattle.std.specs.Prelude.{ℕ, List, codes}
use Rattle.wb_ecore.specs.declared.refusal.MetamodelCode.{MetamodelCode}
use Rattle.wb_ecore.specs.declared.refusal.MetamodelCode.TheVariants as metamodel
use Rattle.wb_viewpoint.specs.declared.refusal.ViewpointCode.{ViewpointCode}
use Rattle.wb_viewpoint.specs.declared.refusal.ViewpointCode.TheVariants as viewpoint
use Rattle.wb_model_json.specs.declared.refusal.ModelCode.{ModelCode}
use Rattle.wb_model_json.specs.declared.refusal.ModelCode.TheVariants as model

abbrev pub metamodel_code_name : MetamodelCode → List ℕ
metamodel_code_name metamodel.BadJson = codes "BadJson"
metamodel_code_name metamodel.BadShape = codes "BadShape"
metamodel_code_name metamodel.DuplicateName = codes "DuplicateName"
metamodel_code_name metamodel.UnknownName = codes "UnknownName"
metamodel_code_name metamodel.SupertypeCycle = codes "SupertypeCycle"
metamodel_code_name metamodel.OppositeMismatch = codes "OppositeMismatch"
metamodel_code_name metamodel.TooMany = codes "TooMany"

abbrev pub viewpoint_code_name : ViewpointCode → List ℕ
viewpoint_code_name viewpoint.BadJson = codes "BadJson"
viewpoint_code_name viewpoint.BadShape = codes "BadShape"
viewpoint_code_name viewpoint.TooMany = codes "TooMany"

abbrev pub model_code_name : ModelCode → List ℕ
model_code_name model.BadJson = codes "BadJson"
model_code_name model.BadShape = codes "BadShape"
model_code_name model.TooMany = codes "TooMany"
model_code_name model.DuplicateObject = codes "DuplicateObject"
model_code_name model.UnknownName = codes "UnknownName"
model_code_name model.Broken1 = codes "Broken1"
model_code_name model.Broken2 = codes "Broken2"
model_code_name model.Broken3 = codes "Broken3"
model_code_name model.Broken4 = codes "Broken4"
model_code_name model.Broken5 = codes "Broken5"
model_code_name model.Broken6 = codes "Broken6"
model_code_name model.Broken7 = codes "Broken7"
model_code_name model.Broken8 = codes "Broken8"
model_code_name model.Broken9 = codes "Broken9"
model_code_name model.Broken10 = codes "Broken10"
