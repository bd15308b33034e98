-- The numbers of the codes of a metamodel's text.
use Rattle.std.specs.Prelude.{ℕ}
use Rattle.wb_ecore.specs.declared.refusal.MetamodelCode.{MetamodelCode}
use Rattle.wb_ecore.specs.declared.refusal.MetamodelCode.TheVariants.{BadJson, BadShape, DuplicateName, UnknownName, SupertypeCycle, OppositeMismatch, TooMany}

abbrev pub code_number : MetamodelCode → ℕ
code_number BadJson = 1
code_number BadShape = 2
code_number DuplicateName = 3
code_number UnknownName = 4
code_number SupertypeCycle = 5
code_number OppositeMismatch = 6
code_number TooMany = 7
