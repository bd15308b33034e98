-- The numbers of a document's names, as the code keeps them.
use Rattle.std.specs.Prelude.{◌≡◌, ℕ, ◌+◌, ◌<◌, ◌^◌, List, length, position}
use Rattle.std.specs.List.{AllZip}
use Rattle.wb_ecore.specs.declared.index.Index.{Index}
use Rattle.wb_ecore.specs.declared.index.ClassFeatures.{ClassFeatures}
use Rattle.wb_ecore.specs.declared.document.Document.{Document}
use Rattle.wb_ecore.specs.declared.document.FeaturePart.{FeaturePart}
use Rattle.wb_ecore.specs.Naming.{same_name}
use Rattle.wb_ecore.specs.invariants.NumberedNames.{number_of}
use Rattle.wb_ecore.specs.Resolving.{numbered, class_number, enum_number}

-- the number of a class's first feature, and the places of its features' names
pub record HasOwn (own : ClassFeatures) (features : ℕ × List FeaturePart) : Type 0 where
  pub first : own.first ≡ features.0
  pub names : (name : List ℕ) → number_of own.names name ≡ position (λ (part : FeaturePart). same_name part.name name) features.1
  pub fits : features.0 + length features.1 < 2 ^ 32

pub record Indexes (index : Index) (document : Document) : Type 0 where
  pub fits : length document.classes < 2 ^ 32
  pub classes : (name : List ℕ) → number_of index.classes name ≡ class_number document name
  pub enums : (name : List ℕ) → number_of index.enums name ≡ enum_number document name
  pub features : AllZip HasOwn index.features.items (numbered 0 document.classes)
