-- From an object to others: the services `eContainer`, `eContents`, `eAllContents`, `eInverse`, `ancestors` and the siblings.
-- Each is a reading for an object and its class, which was looked at before.
use Rattle.std.specs.Prelude.{ℕ, zero, suc, nat_eq, not, List, [], ◌∷◌, ◌++◌, map, filter, Option, None, Some, if◌then◌else◌}
use Rattle.std.specs.Option.{option_map_or}
use Rattle.std.specs.List.{before_first, after_first}
use Rattle.wb_metamodel.specs.Metamodel.{Metamodel, features_of}
use Rattle.wb_store.specs.declared.scalars.Scalar.{Scalar}
use Rattle.wb_store.specs.declared.scalars.Scalar.TheVariants.{Object}
use Rattle.wb_store.specs.declared.scalars.Cell.TheVariants.{Kind, Slot, Holder, Tree, Inverse, Roots}
use Rattle.wb_store.specs.Contents.{is_containment}
use Rattle.wb_store.specs.Cells.{objects_in}
use Rattle.wb_aql_services.specs.declared.by_dot.Navigation.{Navigation}
use Rattle.wb_aql_services.specs.declared.by_dot.Navigation.TheVariants as n
use Rattle.wb_aql_values.specs.declared.faults.Fault.TheVariants.{NotAnObject}
use Rattle.wb_aql_values.specs.declared.values.Sort.TheVariants as sort
use Rattle.wb_aql_values.specs.declared.values.Value.{Value}
use Rattle.wb_aql_values.specs.declared.values.Value.TheVariants.{Null, One, Sequence, OrderedSet}
use Rattle.wb_aql_values.specs.Values.{short, put}
use Rattle.wb_aql_values.specs.Readings.{Reading, done, fail, ◌>>=◌, held, given, each, class_of}
use Rattle.wb_aql_services.specs.Types.{is_of, narrowed, object_in}

-- no more objects than this stand above an object, since no more are live
abbrev pub height : ℕ
height = 20000

-- what needs an object looks at its class first, which a dead one has not
unfoldable pub of_object : (ℕ → ℕ → Reading Value) → Scalar → Reading Value
of_object f x = option_map_or (λ o. class_of o >>= f o) (object_in x) (fail NotAnObject)

-- objects as the members of a sequence; of these the ones that conform to the type that is asked for
unfoldable pub sequence : Metamodel → Option ℕ → List ℕ → Reading Value
sequence mm t os = given (short (map Object os)) >>= λ xs. narrowed mm t xs >>= λ ys. done (Sequence ys)

-- ---- upwards

-- the container, or null
unfoldable pub container : ℕ → Reading Value
container o = held (Holder o) >>= λ holder. done (option_map_or (λ (place : ℕ × ℕ). One (Object place.0)) holder Null)

-- the nearest container that conforms to a type, or null, within so many steps
unfoldable pub nearest : Metamodel → Option ℕ → ℕ → ℕ → Reading Value
nearest mm t zero o = done Null
nearest mm t (suc n) o =
    held (Holder o) >>= λ holder. option_map_or (λ (place : ℕ × ℕ). held (Kind place.0) >>= λ kind. if is_of mm t kind then done (One (Object place.0)) else nearest mm t n place.0) holder (done Null)

unfoldable pub e_container : Metamodel → Option ℕ → ℕ → Reading Value
e_container mm None o = container o
e_container mm (Some t) o = nearest mm (Some t) height o

-- the containers above an object, nearest first, after those that were met before, within so many steps
unfoldable pub climbed : ℕ → List ℕ → ℕ → Reading (List ℕ)
climbed zero met o = done met
climbed (suc n) met o = held (Holder o) >>= λ holder. option_map_or (λ (place : ℕ × ℕ). climbed n (met ++ place.0 ∷ []) place.0) holder (done met)

unfoldable pub ancestors : Metamodel → Option ℕ → ℕ → Reading Value
ancestors mm t o = climbed height [] o >>= sequence mm t

-- ---- downwards

-- the objects in the slot of one more feature, where it is a containment
unfoldable pub with_slot : Metamodel → ℕ → List ℕ → ℕ → Reading (List ℕ)
with_slot mm o os f = if is_containment mm f then (held (Slot o f) >>= λ values. done (os ++ objects_in values)) else done os

-- what an object of a class contains directly: features in order, and then by place in the slot
unfoldable pub content : Metamodel → ℕ → ℕ → Reading (List ℕ)
content mm o c = each (with_slot mm o) [] (features_of mm c)

-- the same of an object whose class is looked at first
unfoldable pub content_of : Metamodel → ℕ → Reading (List ℕ)
content_of mm o = class_of o >>= content mm o

unfoldable pub e_contents : Metamodel → Option ℕ → ℕ → ℕ → Reading Value
e_contents mm t o c = content mm o c >>= sequence mm t

-- what an object contains directly or through others, in preorder
unfoldable pub e_all_contents : Metamodel → Option ℕ → ℕ → Reading Value
e_all_contents mm t o = held (Tree o) >>= sequence mm t

-- ---- sidewards

-- the objects beside an object, itself among them: the content of its container, or else the roots
unfoldable pub beside : Metamodel → ℕ → Reading (List ℕ)
beside mm o = held (Holder o) >>= λ holder. option_map_or (λ (place : ℕ × ℕ). content_of mm place.0) holder (held Roots)

unfoldable pub siblings : Metamodel → ℕ → Reading Value
siblings mm o = beside mm o >>= λ os. sequence mm None (filter (λ p. not (nat_eq p o)) os)

-- those before the object, and those after it
unfoldable pub preceding : Metamodel → ℕ → Reading Value
preceding mm o = beside mm o >>= λ os. sequence mm None (before_first (λ p. nat_eq p o) os)

unfoldable pub following : Metamodel → ℕ → Reading Value
following mm o = beside mm o >>= λ os. sequence mm None (after_first (λ p. nat_eq p o) os)

-- ---- along references

-- the objects whose plain references lead to an object, ascending
unfoldable pub e_inverse : ℕ → Reading Value
e_inverse o = held (Inverse o) >>= λ pairs. given (put sort.OrderedSet [] (Sequence (map (λ (pair : ℕ × ℕ). Object pair.0) pairs))) >>= λ xs. done (OrderedSet xs)

-- ---- each by its name

unfoldable pub from_object : Metamodel → Navigation → Option ℕ → ℕ → ℕ → Reading Value
from_object mm n.EContainer t o c = e_container mm t o
from_object mm n.EContents t o c = e_contents mm t o c
from_object mm n.EAllContents t o c = e_all_contents mm t o
from_object mm n.EInverse t o c = e_inverse o
from_object mm n.Ancestors t o c = ancestors mm t o
from_object mm n.Siblings t o c = siblings mm o
from_object mm n.PrecedingSiblings t o c = preceding mm o
from_object mm n.FollowingSiblings t o c = following mm o
