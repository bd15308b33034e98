-- The checks of names that repeat, as the code makes them: by the names that are taken.
use Rattle.std.specs.Prelude.{⊤, Result, codes}
use Rattle.wb_base.specs.Results.{◌>>=◌}
use Rattle.wb_json.specs.Place.{Place, at_member}
use Rattle.wb_ecore.specs.declared.numbered_names.NumberedNames.{NumberedNames}
use Rattle.wb_ecore.specs.declared.document.EnumPart.{EnumPart}
use Rattle.wb_ecore.specs.declared.document.ClassPart.{ClassPart}
use Rattle.wb_ecore.specs.invariants.NumberedNames.{fresh_in}
use Rattle.wb_ecore.specs.Repeats.{unrepeated, unrepeated_features}

abbrev pub enum_names_in : NumberedNames → EnumPart → Result ⊤ Place
enum_names_in taken part = at_member (codes "name") (fresh_in taken part.name) >>= (λ _. at_member (codes "literals") (unrepeated part.literals))

abbrev pub class_names_in : NumberedNames → ClassPart → Result ⊤ Place
class_names_in taken part = do
  _ ← at_member (codes "name") (fresh_in taken part.name)
  _ ← at_member (codes "supertypes") (unrepeated part.supertypes)
  at_member (codes "features") (unrepeated_features part.features)
