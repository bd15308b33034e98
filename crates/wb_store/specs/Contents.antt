-- What a model holds: the classes of its objects, the values of their features, and its roots.
use Rattle.std.specs.Prelude.{ℕ, List, [], ◌∷◌, Option, Bool, false, ◌&&◌}
use Rattle.std.specs.Option.{option_map_or}
use Rattle.std.specs.List.{list_any}
use Rattle.std.specs.Ordering.{nat_cmp, then_cmp, on}
use Rattle.std.specs.declared.cmp.Ordering.{Ordering}
use Rattle.std.specs.FinMap.{FinMap}
use Rattle.std.specs.FinMap as map
use Rattle.wb_metamodel.specs.Metamodel.{Metamodel, feature_at}
use Rattle.wb_ecore.specs.declared.features.Feature.{Feature}
use Rattle.wb_store.specs.declared.scalars.Scalar.{Scalar}
use Rattle.wb_store.specs.declared.scalars.Scalar.TheVariants.{Object}
use Rattle.wb_store.specs.Scalars.{same}

-- the values of a slot that is not empty
pub record Filled : Type 0 where
  pub first : Scalar
  pub more : List Scalar

abbrev pub members : Filled → List Scalar
members values = values.first ∷ values.more

-- slots go by their object, and then by their feature
abbrev pub slot_cmp : ℕ × ℕ → ℕ × ℕ → Ordering
slot_cmp = then_cmp (on (λ (k : ℕ × ℕ). k.0) nat_cmp) (on (λ (k : ℕ × ℕ). k.1) nat_cmp)

pub record Contents : Type 0 where
  pub metamodel : Metamodel
  -- the number that the next object gets
  pub next : ℕ
  -- the class of each live object
  pub kinds : FinMap nat_cmp ℕ
  -- the values of each object and feature that has any
  pub slots : FinMap slot_cmp Filled
  pub roots : List ℕ

-- the class of an object, none where it is not live
abbrev pub kind : Contents → ℕ → Option ℕ
kind m o = map.get m.kinds o

-- the values of an object and a feature, in order
abbrev pub slot : Contents → ℕ → ℕ → List Scalar
slot m o f = option_map_or members (map.get m.slots (o, f)) []

-- does a list of values have an object?
abbrev pub has_object : List Scalar → ℕ → Bool
has_object values o = list_any (λ value. same value (Object o)) values

abbrev pub is_containment : Metamodel → ℕ → Bool
is_containment metamodel f = option_map_or (λ (feature : Feature). feature.containment) (feature_at metamodel f) false

-- does the first object contain the second, in the slot of this feature?
abbrev pub contains : Contents → ℕ → ℕ → ℕ → Bool
contains m p f o = is_containment m.metamodel f && has_object (slot m p f) o

-- no objects, and the numbers from 1 on
abbrev pub empty_contents : Metamodel → Contents
empty_contents metamodel = record { metamodel = metamodel; next = 1; kinds = map.empty; slots = map.empty; roots = [] }

-- the same, and the next object gets another number
abbrev pub with_next : ℕ → Contents → Contents
with_next next m = record m { next = next }
