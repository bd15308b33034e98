-- What the names of a viewpoint and of a metamodel are looked up in: their first places, by name.
use Rattle.std.specs.Prelude.{◌≡◌, ℕ, Bool, List, Option, is_some, map, position}
use Rattle.wb_base.specs.Names.{same_name}
use Rattle.wb_ecore.specs.declared.numbered_names.NumberedNames.{NumberedNames}
use Rattle.wb_ecore.specs.invariants.NumberedNames.{number_of}
use Rattle.wb_metamodel.specs.Metamodel.{Metamodel}
use Rattle.wb_aql_check.specs.Names.{is_feature}
use Rattle.wb_viewpoint.specs.declared.content.Content.{Content}
use Rattle.wb_viewpoint.specs.declared.layers.Layer.{Layer}
use Rattle.wb_viewpoint.specs.declared.mappings.Mapping.{Mapping}
use Rattle.wb_spec_check.specs.Findings.{is_containment_name}

-- each name has the number of what it names
abbrev pub Numbers : NumberedNames → (List ℕ → Option ℕ) → Type 0
Numbers names numbered = (name : List ℕ) → number_of names name ≡ numbered name

-- the first place of a name among these
abbrev pub place_in : List (List ℕ) → List ℕ → Option ℕ
place_in all name = position (λ other. same_name other name) all

-- exactly these names are there
abbrev pub HasNames : NumberedNames → (List ℕ → Bool) → Type 0
HasNames names has = (name : List ℕ) → is_some (number_of names name) ≡ has name

-- the first places of a viewpoint's layers and mappings, and the names of a metamodel's features and containment references
pub record AreKnown (mm : Metamodel) (content : Content) (layers mappings features containments : NumberedNames) : Type 0 where
  pub layer : Numbers layers (place_in (map (λ (it : Layer). it.name) content.layers))
  pub mapping : Numbers mappings (place_in (map (λ (it : Mapping). it.name) content.mappings))
  pub feature : HasNames features (is_feature mm)
  pub containment : HasNames containments (is_containment_name mm)
