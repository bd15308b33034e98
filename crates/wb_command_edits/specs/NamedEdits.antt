-- The edit that a command asks for by names, or why its names name nothing.
use Rattle.std.specs.Prelude.{⊤, ℕ, List, Option, Some, None, Result, Ok, ok_or}
use Rattle.std.specs.Option.{option_map_or}
use Rattle.wb_base.specs.Results.{◌>>=◌}
use Rattle.wb_ecore.specs.declared.features.Feature.{Feature}
use Rattle.wb_ecore.specs.declared.features.Kind.{Kind}
use Rattle.wb_ecore.specs.declared.features.Kind.TheVariants as kinds
use Rattle.wb_metamodel.specs.Metamodel.{Metamodel, feature_at, feature_named, literal_named}
use Rattle.wb_metamodel.specs.Metamodel as metamodels
use Rattle.wb_store.specs.Contents.{Contents, kind}
use Rattle.wb_store.specs.declared.scalars.Scalar.{Scalar}
use Rattle.wb_store.specs.declared.scalars.Scalar.TheVariants as scalars
use Rattle.wb_store.specs.declared.scalars.Place.TheVariants.{Root, In}
use Rattle.wb_model.specs.declared.edits.edit.Edit.{Edit}
use Rattle.wb_model.specs.declared.edits.edit.Edit.TheVariants as edits
use Rattle.wb_diagram.specs.declared.commands.Action.{Action}
use Rattle.wb_diagram.specs.declared.commands.Action.TheVariants.{Create, Set, Add, Take, Unset, MoveTo, Remove}
use Rattle.wb_diagram.specs.declared.commands.Given.{Given}
use Rattle.wb_diagram.specs.declared.commands.Given.TheVariants as given
use Rattle.wb_diagram.specs.declared.commands.NamedSlot.{NamedSlot}
use Rattle.wb_command_edits.specs.declared.refusal.NameRefusal.{NameRefusal}
use Rattle.wb_command_edits.specs.declared.refusal.NameRefusal.TheVariants.{UnknownObject, UnknownClass, UnknownFeature, NoMemory}

-- the refusal of an error; want of memory is none
abbrev pub named : NameRefusal → Option NameRefusal
named UnknownObject = Some UnknownObject
named UnknownClass = Some UnknownClass
named UnknownFeature = Some UnknownFeature
named NoMemory = None

-- ---- what names name

-- the class of an object, which must be live
abbrev pub live : Contents → ℕ → Result ℕ NameRefusal
live m o = ok_or (kind m o) UnknownObject

-- a value that is an object must be live
abbrev pub live_value : Contents → Given → Result ⊤ NameRefusal
live_value m (given.Object o) = live m o >>= (λ _. Ok tt)
live_value m _ = Ok tt

abbrev pub class_named : Contents → List ℕ → Result ℕ NameRefusal
class_named m name = ok_or (metamodels.class_named m.metamodel name) UnknownClass

-- the feature of a slot, by its name among those of the object's class
abbrev pub feature_in : Contents → (class : ℕ) → NamedSlot → Result ℕ NameRefusal
feature_in m class slot = ok_or (feature_named m.metamodel class slot.feature) UnknownFeature

-- ---- values

abbrev pub literal_or_text : (enumeration : ℕ) → (text : List ℕ) → (literal : Option ℕ) → Scalar
literal_or_text enumeration text (Some literal) = scalars.Literal enumeration literal
literal_or_text enumeration text None = scalars.Text text

-- a text is a literal where the kind is an enumeration that has it by name, and else a text
abbrev pub words_in : Metamodel → Kind → List ℕ → Scalar
words_in mm (kinds.Enum e) text = literal_or_text e text (literal_named mm e text)
words_in mm kinds.Int text = scalars.Text text
words_in mm kinds.Bool text = scalars.Text text
words_in mm kinds.Text text = scalars.Text text
words_in mm (kinds.Reference c) text = scalars.Text text

-- the value that is given for a feature
abbrev pub scalar_in : Metamodel → (feature : ℕ) → Given → Scalar
scalar_in mm f (given.Int n) = scalars.Int n
scalar_in mm f (given.Bool b) = scalars.Bool b
scalar_in mm f (given.Object o) = scalars.Object o
scalar_in mm f (given.Text text) = option_map_or (λ (feature : Feature). words_in mm feature.kind text) (feature_at mm f) (scalars.Text text)

-- ---- edits: objects are looked at first, then the class, then the feature

-- a new object, among the roots or in a slot
abbrev pub create_named : Contents → (class : List ℕ) → Option NamedSlot → Result Edit NameRefusal
create_named m name None = class_named m name >>= (λ class. Ok (edits.Create class Root))
create_named m name (Some slot) =
    live m slot.object >>= (λ own. class_named m name >>= (λ class. feature_in m own slot >>= (λ f. Ok (edits.Create class (In slot.object f)))))

-- the feature of a slot, and the value that is given for it
abbrev pub value_named : Contents → NamedSlot → Given → Result (ℕ × Scalar) NameRefusal
value_named m slot value =
    live m slot.object >>= (λ own. live_value m value >>= (λ _. feature_in m own slot >>= (λ f. Ok (f, scalar_in m.metamodel f value))))

abbrev pub set_named : Contents → NamedSlot → Given → Result Edit NameRefusal
set_named m slot value = value_named m slot value >>= (λ it. Ok (edits.Set slot.object it.0 it.1))

abbrev pub add_named : Contents → NamedSlot → Given → Result Edit NameRefusal
add_named m slot value = value_named m slot value >>= (λ it. Ok (edits.Add slot.object it.0 it.1))

abbrev pub take_named : Contents → NamedSlot → Given → Result Edit NameRefusal
take_named m slot value = value_named m slot value >>= (λ it. Ok (edits.Take slot.object it.0 it.1))

abbrev pub unset_named : Contents → NamedSlot → Result Edit NameRefusal
unset_named m slot = live m slot.object >>= (λ own. feature_in m own slot >>= (λ f. Ok (edits.Unset slot.object f)))

abbrev pub move_named : Contents → ℕ → NamedSlot → Result Edit NameRefusal
move_named m o slot = live m o >>= (λ _. live m slot.object >>= (λ own. feature_in m own slot >>= (λ f. Ok (edits.MoveTo o slot.object f))))

abbrev pub remove_named : Contents → ℕ → Result Edit NameRefusal
remove_named m o = live m o >>= (λ _. Ok (edits.Remove o))

-- the edit that an action asks for, or the first refusal of its names; none where it asks for no edit
abbrev pub edit_named : Contents → Action → Option (Result Edit NameRefusal)
edit_named m (Create class slot) = Some (create_named m class slot)
edit_named m (Set slot value) = Some (set_named m slot value)
edit_named m (Add slot value) = Some (add_named m slot value)
edit_named m (Take slot value) = Some (take_named m slot value)
edit_named m (Unset slot) = Some (unset_named m slot)
edit_named m (MoveTo o slot) = Some (move_named m o slot)
edit_named m (Remove o) = Some (remove_named m o)
edit_named m _ = None
