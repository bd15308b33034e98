-- What a document gives that passed every check is well formed.
use Rattle.std.proofs.Common.{◌≡◌, ℕ, ◌<◌, ◌^◌, true, List, length, Result, Ok, Err, ap, ◌∙◌, subst, arith}
use Rattle.std.specs.Prelude.{codes, ⊤}
use Rattle.wb_json.specs.Form.{or_wrong}
use Rattle.wb_json.specs.Json.{json_of}
use Rattle.wb_json.specs.Place.{Place, at_member}
use Rattle.wb_ecore.specs.declared.document.Document.{Document}
use Rattle.wb_ecore.specs.declared.resolving.ResolvedClass.{ResolvedClass}
use Rattle.wb_ecore.specs.Document.{document_of, HasNames}
use Rattle.wb_metamodel.specs.Metamodel.{Metamodel, is_supertype}
use Rattle.std.specs.List.{enumerate_from}
use Rattle.wb_ecore.specs.Resolving.{walked, class_resolved, package_of, resolved}
use Rattle.wb_metamodel.specs.WellFormed.{IsWellFormed}
use Rattle.wb_base.specs.Results.{◌>>=◌}
use Rattle.wb_ecore.specs.Repeats.{each_from, check_enum_names, check_class_names, unrepeated_names}
use Rattle.wb_metamodel.specs.Checks.{no_cycle, no_clash, opposites_match, within_limits, coded, read_document, resolve, later, check}
use Rattle.wb_ecore.specs.declared.refusal.MetamodelCode.{MetamodelCode}
use Rattle.wb_ecore.specs.declared.refusal.MetamodelCode.TheVariants.{BadJson, BadShape, SupertypeCycle, DuplicateName, UnknownName, OppositeMismatch, TooMany}
use Rattle.wb_base.specs.Answering.{AsDefined}
use Rattle.wb_base.proofs.Answered.{answered_first, answered_then}
use Rattle.wb_json.specs.Refusals.{code_at}
use Rattle.wb_json.specs.declared.file_refusal.FileRefusal.{FileRefusal}
use Rattle.wb_metamodel.specs.invariants.Inherited.{IsHierarchy}
use Rattle.wb_metamodel.proofs.Resolutions.{resolution, supertypes-known, features-known}
use Rattle.wb_base.proofs.Steps.{then_ok}
use Rattle.wb_json.proofs.Found.{within_ok, coded_ok}
use Rattle.wb_metamodel.proofs.Distinct.{classes-named, enumerations-named, literals-named}
use Rattle.wb_metamodel.proofs.ReadNames.{document-names, classes-are-names, features-are-names, enumerations-are-names, literals-are-names}
use Rattle.wb_metamodel.proofs.Checked.{is-acyclic, features-named, opposites-are, limits}

of-elements : (document : Document) (parts : List ResolvedClass) → HasNames document → walked (class_resolved document) (enumerate_from 0 document.classes) ≡ Ok parts → unrepeated_names document ≡ Ok tt
    → no_cycle (package_of document parts) ≡ Ok tt → no_clash (package_of document parts) ≡ Ok tt → opposites_match (package_of document parts) ≡ Ok tt → within_limits (package_of document parts) ≡ Ok tt → IsWellFormed (package_of document parts)
unfolding IsWellFormed unrepeated_names
of-elements document parts written walk names cycle clash opposites small =
    let mm = package_of document parts in
    let first = then_ok (at_member (codes "enums") (each_from (check_enum_names document.enums) 0 document.enums)) _ tt names in
    let enums = within_ok _ (each_from (check_enum_names document.enums) 0 document.enums) tt first.1 in
    let classes = within_ok _ (each_from (check_class_names document.enums document.classes) 0 document.classes) tt first.2 in
    let bounds = limits mm small in
    record {
      few_classes = bounds.0;
      few_features = bounds.1;
      few_enumerations = bounds.2;
      few_literals = bounds.3;
      supertypes_known = supertypes-known document parts walk;
      owners_known = λ f feature h. (features-known document parts walk f feature h).owner;
      kinds_known = λ f feature h. (features-known document parts walk f feature h).kind;
      acyclic = is-acyclic mm cycle;
      package_is_a_name = written.package_name;
      classes_are_names = classes-are-names document parts written walk;
      features_are_names = features-are-names document parts written walk;
      enumerations_are_names = enumerations-are-names document parts written;
      literals_are_names = literals-are-names document parts written;
      classes_named = classes-named document parts walk classes;
      enumerations_named = enumerations-named document parts enums;
      literals_named = literals-named document parts enums;
      features_named = features-named mm clash;
      containments = λ f feature h. (features-known document parts walk f feature h).containment;
      opposites = opposites-are mm opposites;
    }

pub whole : (document : Document) (mm : Metamodel) → HasNames document → unrepeated_names document ≡ Ok tt → resolved document ≡ Ok mm → no_cycle mm ≡ Ok tt → no_clash mm ≡ Ok tt → opposites_match mm ≡ Ok tt → within_limits mm ≡ Ok tt → IsWellFormed mm
whole document mm written names given =
    let r = resolution document mm given in
    let P : Metamodel → Type 0 = λ m. no_cycle m ≡ Ok tt → no_clash m ≡ Ok tt → opposites_match m ≡ Ok tt → within_limits m ≡ Ok tt → IsWellFormed m in
    subst P r.is (of-elements document r.parts written r.walk names)

-- a document that was read from a text has names alone
pub names-read : (bytes : List ℕ) (document : Document) → read_document bytes ≡ Ok document → HasNames document
unfolding read_document
names-read bytes document h =
    let a = then_ok (coded BadJson (or_wrong (json_of bytes))) _ document h in
    document-names a.0 document (coded_ok BadShape (document_of a.0) document a.2)

resolve-parts : (document : Document) (mm : Metamodel) → resolve document ≡ Ok mm → (unrepeated_names document ≡ Ok tt) × (resolved document ≡ Ok mm)
unfolding resolve
resolve-parts document mm h =
    let a = then_ok (coded DuplicateName (unrepeated_names document)) (λ _. coded UnknownName (resolved document)) mm h in
    (coded_ok DuplicateName (unrepeated_names document) tt a.1, coded_ok UnknownName (resolved document) mm a.2)

later-parts : (mm : Metamodel) → later mm ≡ Ok tt → (no_clash mm ≡ Ok tt) × (opposites_match mm ≡ Ok tt) × (within_limits mm ≡ Ok tt)
unfolding later
later-parts mm h =
    let a = then_ok (coded DuplicateName (no_clash mm)) (λ _. coded OppositeMismatch (opposites_match mm) >>= (λ _. coded TooMany (within_limits mm))) tt h in
    let b = then_ok (coded OppositeMismatch (opposites_match mm)) (λ _. coded TooMany (within_limits mm)) tt a.2 in
    (coded_ok DuplicateName (no_clash mm) tt a.1, coded_ok OppositeMismatch (opposites_match mm) tt b.1, coded_ok TooMany (within_limits mm) tt b.2)

-- every supertype of a resolved document is one of its classes
pub known : (document : Document) (mm : Metamodel) → resolve document ≡ Ok mm → (c s : ℕ) → is_supertype mm c s ≡ true → s < length mm.classes
known document mm h =
    let r = resolution document mm (resolve-parts document mm h).1 in
    let P : Metamodel → Type 0 = λ m. (c s : ℕ) → is_supertype m c s ≡ true → s < length m.classes in
    subst P r.is (supertypes-known document r.parts r.walk)

-- what passed every check is well formed, where the document has names alone
pub passed : (document : Document) (mm : Metamodel) → HasNames document → resolve document ≡ Ok mm → no_cycle mm ≡ Ok tt → later mm ≡ Ok tt → IsWellFormed mm
passed document mm written h cycle rest =
    let first = resolve-parts document mm h in
    let parts = later-parts mm rest in
    whole document mm written first.0 first.1 cycle parts.0 parts.1 parts.2

-- what copying needs of a metamodel
pub hierarchy-of : (mm : Metamodel) → IsWellFormed mm → IsHierarchy mm
unfolding IsWellFormed
hierarchy-of mm h = record {
  acyclic = h.acyclic;
  known = h.supertypes_known;
  few_classes = omega (arith, h.few_classes);
  few_features = omega (arith, h.few_features);
}

pub hierarchy-from : (document : Document) (mm : Metamodel) → resolve document ≡ Ok mm → no_cycle mm ≡ Ok tt → length mm.classes < 2 ^ 32 → length mm.features < 2 ^ 32 → IsHierarchy mm
hierarchy-from document mm h cycle classes features = record { acyclic = is-acyclic mm cycle; known = known document mm h; few_classes = classes; few_features = features }

pub check-ok : (mm : Metamodel) → no_cycle mm ≡ Ok tt → later mm ≡ Ok tt → check mm ≡ Ok mm
unfolding check
check-ok mm cycle rest =
    ap (λ r. coded SupertypeCycle r >>= (λ _. later mm >>= (λ _. Ok mm))) cycle ∙ ap (λ r. r >>= (λ _. Ok mm)) rest

pub check-refused : (mm : Metamodel) (refusal : FileRefusal MetamodelCode) → no_cycle mm ≡ Ok tt → AsDefined {A = ⊤} code_at (later mm) (Err refusal) → AsDefined {A = Metamodel} code_at (check mm) (Err refusal)
unfolding check
check-refused mm refusal cycle rest =
    answered_then {B = Metamodel} code_at (coded SupertypeCycle (no_cycle mm)) (λ _. later mm >>= (λ _. Ok mm)) tt (Err refusal) (ap (coded SupertypeCycle) cycle) (answered_first code_at (later mm) (λ _. Ok mm) refusal rest)
