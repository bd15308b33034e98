-- What edges are declared over, as the definitions see it.
use Rattle.std.specs.Prelude.{◌≡◌, ◌<◌, ℕ, Bool, not, nat_eq, List, [], length, filter, unwrap_or, IfSome}
use Rattle.indexmap.specs.IndexMap.{IndexMap, get}
use Rattle.wb_diagram.specs.declared.keys.Key.{Key}
use Rattle.wb_spec_check.specs.Checked.{IsCheckedBy}
use Rattle.wb_spec_check.specs.declared.checked_mappings.CheckedEdge.{CheckedEdge}
use Rattle.wb_spec_check.specs.declared.checked_mappings.CheckedSource.{CheckedSource}
use Rattle.wb_edges.specs.Edges.{Scene, elements_of, represents, scene_of}
use Rattle.wb_edges.specs.declared.ends.Ends.{Ends}
use Rattle.wb_edges.specs.declared.grounds.Grounds.{Grounds}

abbrev pub scene : Grounds → Scene
scene g = scene_of g.spec.now g.model.now g.nodes.now

-- the viewpoint was checked against the metamodel of the model
abbrev pub IsSound : Grounds → Type 0
IsSound g = IsCheckedBy g.model.now.metamodel g.spec.now

-- the class of candidates is one of the model's metamodel
abbrev pub HasClass : Grounds → CheckedSource → Type 0
HasClass g source = source.objects.domain < length g.model.now.metamodel.classes

abbrev pub HasClassOfCandidates : Grounds → CheckedEdge → Type 0
HasClassOfCandidates g edge = IfSome edge.object_edge (HasClass g)

-- what a table has for an object
abbrev pub elements_in : {S : Type 0} → IndexMap ℕ (List Key) S → ℕ → List Key
elements_in table o = unwrap_or (get nat_eq table o) []

-- does it have an element for the object?
abbrev pub has_element : {S : Type 0} → IndexMap ℕ (List Key) S → ℕ → Bool
has_element table o = not (nat_eq (length (elements_in table o)) 0)

-- it has for each object those of the elements that represent it
abbrev pub Indexes : {S : Type 0} → IndexMap ℕ (List Key) S → (elements : List Key) → Type 0
Indexes table elements = (o : ℕ) → elements_in table o ≡ filter (represents o) elements

-- the elements at which the edges of a mapping may begin and end
pub record AreEnds (s : Scene) (edge : CheckedEdge) (ends : Ends) : Type 0 where
  pub sources : Indexes ends.sources (elements_of s edge.sources)
  pub targets : Indexes ends.targets (elements_of s edge.targets)
