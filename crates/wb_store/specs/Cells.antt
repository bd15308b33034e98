-- What can be read of a model, each from its classes and slots alone.
use Rattle.std.specs.Prelude.{ℕ, zero, suc, List, [], ◌∷◌, map, filter, find, Option, option_map, Bool, false, not, ◌&&◌}
use Rattle.std.specs.Option.{option_map_or}
use Rattle.std.specs.List.{flat_map}
use Rattle.std.specs.FinMap.{entries, len}
use Rattle.wb_metamodel.specs.Metamodel.{Metamodel, conforms, features_of}
use Rattle.wb_store.specs.declared.scalars.Scalar.{Scalar}
use Rattle.wb_store.specs.declared.scalars.Scalar.TheVariants.{Object}
use Rattle.wb_store.specs.declared.scalars.Cell.{Cell}
use Rattle.wb_store.specs.declared.scalars.Cell.TheVariants.{Kind, Slot, Holder, Tree, Inverse, Extent, Roots}
use Rattle.wb_store.specs.Contents.{Contents, Filled, members, kind, slot, has_object, is_containment}
use Rattle.wb_store.specs.Features.{opposite}

-- is it a containment slot that has the object?
abbrev pub holds : Metamodel → ℕ → (ℕ × ℕ) × Filled → Bool
holds metamodel o e = is_containment metamodel e.0.1 && has_object (members e.1) o

-- the container of an object, and the feature that holds it
abbrev pub holder : Contents → ℕ → Option (ℕ × ℕ)
holder m o = option_map (λ (e : (ℕ × ℕ) × Filled). e.0) (find (holds m.metamodel o) (entries m.slots))

-- the live objects that conform to a class, ascending
abbrev pub extent : Contents → ℕ → List ℕ
extent m c = map (λ (e : ℕ × ℕ). e.0) (filter (λ (e : ℕ × ℕ). conforms m.metamodel e.1 c) (entries m.kinds))

-- the objects among values
abbrev pub objects_in : List Scalar → List ℕ
objects_in [] = []
objects_in (Object o ∷ values) = o ∷ objects_in values
objects_in (_ ∷ values) = objects_in values

-- the features that an object has by its class, none where it is not live
abbrev pub features : Contents → ℕ → List ℕ
features m o = option_map_or (features_of m.metamodel) (kind m o) []

-- what an object contains directly: by the features of its class, and then by place in the slot
abbrev pub content : Contents → ℕ → List ℕ
content m o = flat_map (λ f. objects_in (slot m o f)) (filter (is_containment m.metamodel) (features m o))

-- what an object contains down to this depth, each object before its own content
unfoldable pub tree_within : Contents → ℕ → ℕ → List ℕ
tree_within m zero o = []
tree_within m (suc n) o = flat_map (λ p. p ∷ tree_within m n p) (content m o)

-- all that an object contains: in a valid model no more objects stand above each other than are live
abbrev pub tree : Contents → ℕ → List ℕ
tree m o = tree_within m (len m.kinds) o

-- a container reference: its opposite is a containment
abbrev pub is_container_reference : Metamodel → ℕ → Bool
is_container_reference metamodel f = option_map_or (is_containment metamodel) (opposite metamodel f) false

-- a plain feature: neither a containment nor a container reference
abbrev pub is_plain : Metamodel → ℕ → Bool
is_plain metamodel f = not (is_containment metamodel f) && not (is_container_reference metamodel f)

-- is it a slot of a plain feature that has the object?
abbrev pub refers : Metamodel → ℕ → (ℕ × ℕ) × Filled → Bool
refers metamodel o e = is_plain metamodel e.0.1 && has_object (members e.1) o

-- the objects and plain references that hold an object, ascending
abbrev pub inverse : Contents → ℕ → List (ℕ × ℕ)
inverse m o = map (λ (e : (ℕ × ℕ) × Filled). e.0) (filter (refers m.metamodel o) (entries m.slots))

-- what stands in a cell: a class, values, a container with its feature, objects, or objects with references
abbrev pub InCell : Cell → Type 0
InCell (Kind o) = Option ℕ
InCell (Slot o f) = List Scalar
InCell (Holder o) = Option (ℕ × ℕ)
InCell (Tree o) = List ℕ
InCell (Inverse o) = List (ℕ × ℕ)
InCell (Extent c) = List ℕ
InCell Roots = List ℕ

-- what stands in a cell of a model
abbrev pub cell : Contents → (c : Cell) → InCell c
cell m (Kind o) = kind m o
cell m (Slot o f) = slot m o f
cell m (Holder o) = holder m o
cell m (Tree o) = tree m o
cell m (Inverse o) = inverse m o
cell m (Extent c) = extent m c
cell m Roots = m.roots
