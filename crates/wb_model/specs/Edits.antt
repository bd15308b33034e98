-- What an edit makes of a model: a whole model over its list of links, or the first refusal that holds.
use Rattle.std.specs.Prelude.{◌≡◌, ℕ, suc, ◌^◌, Bool, true, false, not, ◌&&◌, nat_le, is_some, if◌then◌else◌, List, [], ◌∷◌, ◌++◌, length, Option, Some, None, Result, Ok, Err}
use Rattle.std.specs.Option.{option_map_or}
use Rattle.std.specs.List.{list_any}
use Rattle.std.specs.FinMap.{insert, len}
use Rattle.wb_base.specs.Answering.{IsRefusal}
use Rattle.wb_metamodel.specs.Metamodel.{Metamodel, conforms, feature_at}
use Rattle.wb_ecore.specs.declared.features.Feature.{Feature}
use Rattle.wb_ecore.specs.declared.features.Kind.{Kind}
use Rattle.wb_ecore.specs.declared.features.Kind.TheVariants.{Int as IntKind, Bool as BoolKind, Text as TextKind, Enum, Reference}
use Rattle.wb_store.specs.declared.scalars.Scalar.{Scalar}
use Rattle.wb_store.specs.declared.scalars.Scalar.TheVariants.{Object}
use Rattle.wb_store.specs.declared.scalars.Place.{Place}
use Rattle.wb_store.specs.declared.scalars.Place.TheVariants.{Root, In}
use Rattle.wb_model.specs.declared.refusals.ModelRefusal.{ModelRefusal}
use Rattle.wb_model.specs.declared.refusals.ModelRefusal.TheVariants.{UnknownObject, KindMismatch, UpperBound, ContainmentCycle, AbstractClass, TooManyObjects, IdsSpent, NoMemory}
use Rattle.wb_store.specs.Contents.{Contents, kind, slot, is_containment}
use Rattle.wb_store.specs.Cells.{tree, is_plain}
use Rattle.wb_store.specs.Features.{is_many}
use Rattle.wb_store.specs.Relinking.{Link, link, both_ends, change, is_at, same_link, leads_to, is_among, stands, gives_way, without_root, without}
use Rattle.wb_validity.specs.Valid.{room, is_of_class, is_of_feature, is_abstract}

-- ---- the edits of models

-- a link comes, unless it stands there
abbrev pub link_up : Link → Contents → Contents
link_up l m = if stands m l then m else change (gives_way m.metamodel l) (l ∷ []) m

abbrev pub unlink : Link → Contents → Contents
unlink l m = change (same_link l) [] m

abbrev pub emptied : ℕ → ℕ → Contents → Contents
emptied o f m = change (is_at o f) [] m

-- a new object
abbrev pub with_object : ℕ → List ℕ → Contents → Contents
with_object class roots m = record {
  metamodel = m.metamodel;
  next = suc m.next;
  kinds = insert m.kinds m.next class;
  slots = m.slots;
  roots = roots;
}

-- an object goes last in a containment slot, and leaves the one that contained it
abbrev pub place : ℕ → ℕ → ℕ → Contents → Contents
place o p f m = change (leads_to m.metamodel o) (link p f (Object o) ∷ []) m

abbrev pub created : ℕ → Place → Contents → Contents
created class Root m = with_object class (m.roots ++ (m.next ∷ [])) m
created class (In p f) m = place m.next p f (with_object class m.roots m)

-- an object that stands there already stays
abbrev pub moved : ℕ → ℕ → ℕ → Contents → Contents
moved o p f m = if stands m (link p f (Object o)) then m else place o p f (without_root o m)

abbrev pub removed : ℕ → Contents → Contents
removed o m = without (o ∷ tree m o) m

-- ---- the refusals of edits

-- the first refusal whose condition holds
abbrev pub first_refusal : List (Bool × ModelRefusal) → Option ModelRefusal
first_refusal [] = None
first_refusal ((holds, refusal) ∷ more) = if holds then Some refusal else first_refusal more

-- a model, unless there is a refusal
abbrev pub unless : {A : Type 0} → Option ModelRefusal → A → Result A ModelRefusal
unless (Some refusal) m = Err refusal
unless None m = Ok m

abbrev pub is_live : Contents → ℕ → Bool
is_live m o = is_some (kind m o)

-- a value that is an object is live
abbrev pub is_known_value : Contents → Scalar → Bool
is_known_value m (Object p) = is_live m p
is_known_value m _ = true

-- is it a plain feature of the object's class, of many values or of one?
abbrev pub is_plain_feature : Contents → ℕ → ℕ → Bool
is_plain_feature m o f = is_of_class m o f && is_plain m.metamodel f

abbrev pub is_plain_link : Contents → Link → Bool
is_plain_link m l = is_plain_feature m l.object l.feature && is_of_feature m l.feature l.value

-- is it a containment feature of the object's class, that may hold objects of a class?
abbrev pub refers_to : Metamodel → ℕ → Kind → Bool
refers_to metamodel c IntKind = false
refers_to metamodel c BoolKind = false
refers_to metamodel c TextKind = false
refers_to metamodel c (Enum e) = false
refers_to metamodel c (Reference d) = conforms metamodel c d

abbrev pub may_contain : Contents → ℕ → ℕ → ℕ → Bool
may_contain m p f c = is_of_class m p f && is_containment m.metamodel f && option_map_or (λ (feature : Feature). refers_to m.metamodel c feature.kind) (feature_at m.metamodel f) false

-- has a slot of many values as many as it may have?
abbrev pub is_full : Contents → ℕ → ℕ → Bool
is_full m o f = nat_le (room m.metamodel f) (length (slot m o f))

-- a link that does not stand there finds a slot of many values full, at either end
abbrev pub finds_no_room : Contents → Link → Bool
finds_no_room m l = not (stands m l) && list_any (λ (e : Link). is_many m.metamodel e.feature && is_full m e.object e.feature) (both_ends m.metamodel l)

abbrev pub refusal_of_link : Bool → Contents → Link → Option ModelRefusal
refusal_of_link many m l = first_refusal (
    (not (is_live m l.object && is_known_value m l.value), UnknownObject)
    ∷ (not (is_plain_link m l && (if is_many m.metamodel l.feature then many else not many)), KindMismatch)
    ∷ (finds_no_room m l, UpperBound)
    ∷ [])

abbrev pub refusal_of_take : Contents → Link → Option ModelRefusal
refusal_of_take m l = first_refusal (
    (not (is_live m l.object && is_known_value m l.value), UnknownObject)
    ∷ (not (is_plain_link m l && is_many m.metamodel l.feature), KindMismatch)
    ∷ [])

abbrev pub refusal_of_unset : Contents → ℕ → ℕ → Option ModelRefusal
refusal_of_unset m o f = first_refusal ((not (is_live m o), UnknownObject) ∷ (not (is_plain_feature m o f), KindMismatch) ∷ [])

abbrev pub conforms_as : Contents → ℕ → ℕ → ℕ → Bool
conforms_as m p f o = option_map_or (may_contain m p f) (kind m o) false

abbrev pub refusal_of_move : Contents → ℕ → ℕ → ℕ → Option ModelRefusal
refusal_of_move m o p f = first_refusal (
    (not (is_live m o && is_live m p), UnknownObject)
    ∷ (not (conforms_as m p f o), KindMismatch)
    ∷ (not (stands m (link p f (Object o))) && is_full m p f, UpperBound)
    ∷ (is_among (o ∷ tree m o) p, ContainmentCycle)
    ∷ [])

-- where no object is put into a slot there is no more to be looked at
abbrev pub refusals_of_place : Contents → ℕ → Place → List (Bool × ModelRefusal)
refusals_of_place m class Root = []
refusals_of_place m class (In p f) =
    (not (is_live m p), UnknownObject) ∷ (not (may_contain m p f class), KindMismatch) ∷ (is_full m p f, UpperBound) ∷ []

abbrev pub refusal_of_create : Contents → ℕ → Place → Option ModelRefusal
refusal_of_create m class place = first_refusal (refusals_of_place m class place
    ++ ((is_abstract m.metamodel class, AbstractClass)
    ∷ (nat_le 20000 (len m.kinds), TooManyObjects)
    ∷ (nat_le (2 ^ 32) (suc m.next), IdsSpent)
    ∷ []))

-- ---- the edits

abbrev pub set : Contents → ℕ → ℕ → Scalar → Result Contents ModelRefusal
set m o f v = unless (refusal_of_link false m (link o f v)) (link_up (link o f v) m)

abbrev pub add : Contents → ℕ → ℕ → Scalar → Result Contents ModelRefusal
add m o f v = unless (refusal_of_link true m (link o f v)) (link_up (link o f v) m)

abbrev pub take_out : Contents → ℕ → ℕ → Scalar → Result Contents ModelRefusal
take_out m o f v = unless (refusal_of_take m (link o f v)) (unlink (link o f v) m)

abbrev pub unset : Contents → ℕ → ℕ → Result Contents ModelRefusal
unset m o f = unless (refusal_of_unset m o f) (emptied o f m)

abbrev pub move_to : Contents → ℕ → ℕ → ℕ → Result Contents ModelRefusal
move_to m o p f = unless (refusal_of_move m o p f) (moved o p f m)

abbrev pub remove : Contents → ℕ → Result Contents ModelRefusal
remove m o = unless (if is_live m o then None else Some UnknownObject) (removed o m)

abbrev pub create : Contents → ℕ → Place → Result Contents ModelRefusal
create m class place = unless (refusal_of_create m class place) (created class place m)

-- ---- what an edit leaves

-- the refusal of an error; want of memory is none
abbrev pub named : ModelRefusal → Option ModelRefusal
named UnknownObject = Some UnknownObject
named KindMismatch = Some KindMismatch
named UpperBound = Some UpperBound
named ContainmentCycle = Some ContainmentCycle
named AbstractClass = Some AbstractClass
named TooManyObjects = Some TooManyObjects
named IdsSpent = Some IdsSpent
named NoMemory = None

-- an accepted edit leaves the model of its definition; a refusal is that of the definition, and leaves the model as before, want of memory too
abbrev pub Edited : {A : Type 0} → Result A ModelRefusal → Result Contents ModelRefusal → Contents → Contents → Type 0
Edited (Ok _) edit old new = edit ≡ Ok new
Edited (Err e) edit old new = IsRefusal (named e) edit × (new ≡ old)
