-- A model as the list of its links, of which some leave and others come.
use Rattle.std.specs.Prelude.{ℕ, Bool, not, ◌&&◌, ◌||◌, nat_eq, List, [], ◌∷◌, ◌++◌, map, filter, Option, Some, None}
use Rattle.std.specs.List.{list_any, flat_map}
use Rattle.std.specs.FinMap.{FinMap, entries, insert, get, empty, from_entries}
use Rattle.wb_metamodel.specs.Metamodel.{Metamodel}
use Rattle.wb_store.specs.declared.scalars.Scalar.{Scalar}
use Rattle.wb_store.specs.declared.scalars.Scalar.TheVariants.{Object}
use Rattle.wb_store.specs.Scalars.{same}
use Rattle.wb_store.specs.Contents.{Contents, Filled, members, slot_cmp, slot, is_containment}
use Rattle.wb_store.specs.Features.{is_many, opposite}

-- ---- links

-- a value in the slot of an object and a feature
pub record Link : Type 0 where
  pub object : ℕ
  pub feature : ℕ
  pub value : Scalar

abbrev pub link : ℕ → ℕ → Scalar → Link
link o f v = record { object = o; feature = f; value = v }

-- all links of a model: by object and feature, and those of a slot in their order
abbrev pub links : Contents → List Link
links m = flat_map (λ (e : (ℕ × ℕ) × Filled). map (link e.0.0 e.0.1) (members e.1)) (entries m.slots)

-- the slots with one more value, last in its slot
abbrev pub with_last : Option Filled → Scalar → Filled
with_last None v = record { first = v; more = [] }
with_last (Some values) v = record { first = values.first; more = values.more ++ (v ∷ []) }

abbrev pub put_last : FinMap slot_cmp Filled → Link → FinMap slot_cmp Filled
put_last slots l = insert slots (l.object, l.feature) (with_last (get slots (l.object, l.feature)) l.value)

unfoldable pub slots_from : FinMap slot_cmp Filled → List Link → FinMap slot_cmp Filled
slots_from slots [] = slots
slots_from slots (l ∷ ls) = slots_from (put_last slots l) ls

-- the model without the links that leave, and with those that come, each last in its slot
unfoldable pub relink : (Link → Bool) → List Link → Contents → Contents
relink leaves comes m = record {
  metamodel = m.metamodel;
  next = m.next;
  kinds = m.kinds;
  slots = slots_from empty (filter (λ l. not (leaves l)) (links m) ++ comes);
  roots = m.roots;
}

-- the link from the other end, where the feature has an opposite
abbrev pub back : ℕ → Option ℕ → Scalar → List Link
back o (Some g) (Object p) = link p g (Object o) ∷ []
back o _ _ = []

abbrev pub other_end : Metamodel → Link → List Link
other_end metamodel l = back l.object (opposite metamodel l.feature) l.value

abbrev pub both_ends : Metamodel → Link → List Link
both_ends metamodel l = l ∷ other_end metamodel l

-- what leaves and what comes is said on one end; the other end follows
abbrev pub change : (Link → Bool) → List Link → Contents → Contents
change leaves comes m = relink (λ l. list_any leaves (both_ends m.metamodel l)) (flat_map (both_ends m.metamodel) comes) m

-- ---- which links

-- does the link stand in the slot of an object and a feature?
abbrev pub is_at : ℕ → ℕ → Link → Bool
is_at o f l = nat_eq l.object o && nat_eq l.feature f

abbrev pub same_link : Link → Link → Bool
same_link k l = is_at k.object k.feature l && same l.value k.value

-- does an object contain this one by the link?
abbrev pub leads_to : Metamodel → ℕ → Link → Bool
leads_to metamodel o l = is_containment metamodel l.feature && same l.value (Object o)

-- is the value of the link this one of the objects, or is its object?
abbrev pub is_among : List ℕ → ℕ → Bool
is_among os o = list_any (λ p. nat_eq p o) os

abbrev pub is_value_among : List ℕ → Scalar → Bool
is_value_among os v = list_any (λ p. same v (Object p)) os

abbrev pub touches : List ℕ → Link → Bool
touches dead l = is_among dead l.object || is_value_among dead l.value

-- does the link stand there already?
abbrev pub stands : Contents → Link → Bool
stands m l = list_any (λ v. same v l.value) (slot m l.object l.feature)

-- the links that give way to a link that comes: those of a slot of one value, at either end
abbrev pub gives_way : Metamodel → Link → Link → Bool
gives_way metamodel l k = list_any (λ (e : Link). not (is_many metamodel e.feature) && is_at e.object e.feature k) (both_ends metamodel l)

-- ---- what leaves by its object

abbrev pub without_root : ℕ → Contents → Contents
without_root o m = record m { roots = filter (λ root. not (nat_eq root o)) m.roots }

-- these objects are deleted, with every link into or out of them
abbrev pub without : List ℕ → Contents → Contents
without dead m = record (relink (touches dead) [] m) {
  kinds = from_entries (filter (λ (e : ℕ × ℕ). not (is_among dead e.0)) (entries m.kinds));
  roots = filter (λ root. not (is_among dead root)) m.roots;
}
