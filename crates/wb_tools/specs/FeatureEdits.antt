-- The edits of features and references that an operation names: which feature is meant depends on the class of the object at hand.
use Rattle.std.specs.Prelude.{ℕ, List, [], ◌∷◌, Option, Some, None, Result, Ok, Err, if◌then◌else◌}
use Rattle.wb_base.specs.Results.{◌>>=◌}
use Rattle.wb_metamodel.specs.Metamodel.{Metamodel, feature_named}
use Rattle.wb_store.specs.Cells.{is_plain, objects_in}
use Rattle.wb_store.specs.Contents.{Contents, kind, slot, is_containment}
use Rattle.wb_store.specs.Features.{is_many}
use Rattle.wb_store.specs.declared.scalars.Place.TheVariants.{In}
use Rattle.wb_store.specs.declared.scalars.Scalar.{Scalar}
use Rattle.wb_store.specs.declared.scalars.Scalar.TheVariants.{Int, Bool as Boolean, Text, Literal, Object}
use Rattle.wb_model.specs.Edits.{is_live}
use Rattle.wb_model.specs.declared.edits.edit.Edit.{Edit}
use Rattle.wb_model.specs.declared.edits.edit.Edit.TheVariants.{Create, Set, Add, Take, Unset, MoveTo, Remove}
use Rattle.wb_model.specs.declared.refusals.ModelRefusal.{ModelRefusal}
use Rattle.wb_model.specs.declared.refusals.ModelRefusal.TheVariants.{UnknownObject, KindMismatch}
use Rattle.wb_tools.specs.Doings.{Doing, done, refuse, look, edited, given, each, after}
use Rattle.wb_tools.specs.declared.feature_sorts.FeatureSort.{FeatureSort}
use Rattle.wb_tools.specs.declared.feature_sorts.FeatureSort.TheVariants as sort
use Rattle.wb_tools.specs.declared.feature_sorts.Way.{Way}
use Rattle.wb_tools.specs.declared.feature_sorts.Way.TheVariants as way
use Rattle.wb_tools.specs.declared.refusals.ToolRefusal.{ToolRefusal}
use Rattle.wb_tools.specs.declared.refusals.ToolRefusal.TheVariants.{Model}

-- how a feature may be edited
abbrev pub sort_of : Metamodel → ℕ → FeatureSort
sort_of mm f =
    if is_plain mm f then (if is_many mm f then sort.Many else sort.Single)
    else (if is_containment mm f then sort.Containment else sort.Container)

-- ---- which feature is meant

abbrev pub feature_of_class : Metamodel → Option ℕ → List ℕ → Result ℕ ModelRefusal
feature_of_class mm None name = Err UnknownObject
feature_of_class mm (Some class) name = elim (feature_named mm class name) [ None ↦ Err KindMismatch | Some f ↦ Ok f ]

-- the feature of this name that an object has: a dead object has none, and a class may lack it
unfoldable pub feature_in : Contents → ℕ → List ℕ → Result ℕ ModelRefusal
feature_in m o name = feature_of_class m.metamodel (kind m o) name

-- a new object in the reference of this name
unfoldable pub creation : Contents → (container class : ℕ) → List ℕ → Result Edit ModelRefusal
creation m p class name = feature_in m p name >>= λ f. Ok (Create class (In p f))

-- an object goes into the reference of this name; a dead object is met first
unfoldable pub moving : Contents → (object container : ℕ) → List ℕ → Result Edit ModelRefusal
moving m o p name = if is_live m o then (feature_in m p name >>= λ f. Ok (MoveTo o p f)) else Err UnknownObject

-- ---- at a place of a tool

abbrev pub at_place : {A : Type 0} → ℕ → Result A ModelRefusal → Result A ToolRefusal
at_place place (Ok x) = Ok x
at_place place (Err refusal) = Err (Model place refusal)

abbrev pub mismatch : {A : Type 0} → ℕ → Doing A
mismatch place = refuse (Model place KindMismatch)

-- before an edit is asked for, the object must have the feature
abbrev pub with_feature : ℕ → ℕ → List ℕ → (Contents → ℕ → Doing Unit) → Doing Unit
with_feature place o name next = look (λ m. after (given (at_place place (feature_in m o name))) (next m))

-- an edit by the model as it is; nothing comes of its number
abbrev pub edit_by : ℕ → Result Edit ModelRefusal → Doing Unit
edit_by place change = after (edited place change) (λ _. done tt)

-- ---- values one by one

-- the edit that a value asks for; what is no object asks for none where it would be contained
abbrev pub change_of : Way → ℕ → ℕ → Scalar → Option Edit
change_of way.Set o f x = Some (Set o f x)
change_of way.Add o f x = Some (Add o f x)
change_of way.Take o f x = Some (Take o f x)
change_of way.Contain o f (Object p) = Some (MoveTo p o f)
change_of way.Contain o f (Int n) = None
change_of way.Contain o f (Boolean b) = None
change_of way.Contain o f (Text bytes) = None
change_of way.Contain o f (Literal e l) = None

abbrev pub edit_or_mismatch : ℕ → Option Edit → Doing Unit
edit_or_mismatch place (Some change) = edit_by place (Ok change)
edit_or_mismatch place None = mismatch place

abbrev pub with_value : Way → ℕ → ℕ → ℕ → Scalar → Doing Unit
with_value way place o f x = edit_or_mismatch place (change_of way o f x)

-- ---- to set a feature

abbrev pub set_one : ℕ → ℕ → ℕ → List Scalar → Doing Unit
set_one place o f [] = edit_by place (Ok (Unset o f))
set_one place o f (x ∷ xs) = with_value way.Set place o f x

-- a single feature gets the first value, or is unset where there is none; to one of many each value is added; into a containment each is moved
unfoldable pub set_by : ℕ → ℕ → ℕ → List Scalar → FeatureSort → Doing Unit
set_by place o f xs sort.Single = set_one place o f xs
set_by place o f xs sort.Many = each (with_value way.Add place o f) xs
set_by place o f xs sort.Containment = each (with_value way.Contain place o f) xs
set_by place o f xs sort.Container = mismatch place

unfoldable pub set_all : ℕ → ℕ → List ℕ → List Scalar → Doing Unit
set_all place o name xs = with_feature place o name (λ m f. set_by place o f xs (sort_of m.metamodel f))

-- ---- to unset a feature

-- a plain feature is unset; the content of a containment is removed in order
unfoldable pub unset_by : ℕ → ℕ → ℕ → List Scalar → FeatureSort → Doing Unit
unset_by place o f content sort.Single = edit_by place (Ok (Unset o f))
unset_by place o f content sort.Many = edit_by place (Ok (Unset o f))
unset_by place o f content sort.Containment = each (λ p. edit_by place (Ok (Remove p))) (objects_in content)
unset_by place o f content sort.Container = mismatch place

unfoldable pub unset_all : ℕ → ℕ → List ℕ → Doing Unit
unset_all place o name = with_feature place o name (λ m f. unset_by place o f (slot m o f) (sort_of m.metamodel f))

-- values are taken from a plain feature of many
unfoldable pub take_by : ℕ → ℕ → ℕ → List Scalar → FeatureSort → Doing Unit
take_by place o f xs sort.Many = each (with_value way.Take place o f) xs
take_by place o f xs sort.Single = mismatch place
take_by place o f xs sort.Containment = mismatch place
take_by place o f xs sort.Container = mismatch place

unfoldable pub take_all : ℕ → ℕ → List ℕ → List Scalar → Doing Unit
take_all place o name xs = with_feature place o name (λ m f. take_by place o f xs (sort_of m.metamodel f))
