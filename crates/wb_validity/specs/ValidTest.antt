-- Whether a model is valid, as a test.
use Rattle.std.specs.Prelude.{ℕ, Bool, not, ◌&&◌, ◌||◌, nat_eq, nat_le, is_some, List, map, filter, length}
use Rattle.std.specs.List.{list_any, list_all}
use Rattle.std.specs.FinMap.{entries, len}
use Rattle.wb_base.specs.Paths.{leads_through}
use Rattle.wb_store.specs.Contents.{Contents, Filled, kind, contains}
use Rattle.wb_store.specs.Places.{once}
use Rattle.wb_validity.specs.Valid.{every_object, numbers_are_spent, classes_are_concrete, slots_are_of_classes, slots_have_room, values_are_of_kinds, values_differ, opposites_agree, is_root}

-- the slots that are not empty, each by its object and its feature
abbrev pub filled_slots : Contents → List (ℕ × ℕ)
filled_slots m = map (λ (e : (ℕ × ℕ) × Filled). e.0) (entries m.slots)

-- the containment slots that an object stands in
abbrev pub holders : Contents → ℕ → List (ℕ × ℕ)
holders m o = filter (λ (k : ℕ × ℕ). contains m k.0 k.1 o) (filled_slots m)

-- 8. Does every object stand in at most one containment slot?
abbrev pub are_contained_once : Contents → Bool
are_contained_once m = every_object m (λ o c. nat_le (length (holders m o)) 1)

-- does the first object contain the second, in some slot?
abbrev pub is_container : Contents → ℕ → ℕ → Bool
is_container m p o = list_any (λ (k : ℕ × ℕ). nat_eq p k.0) (holders m o)

-- the objects that have values in a slot
abbrev pub owners : Contents → List ℕ
owners m = map (λ (k : ℕ × ℕ). k.0) (filled_slots m)

-- does the first object contain the second, directly or through others?
abbrev pub is_within : Contents → ℕ → ℕ → Bool
is_within m p o = leads_through (is_container m) (owners m) p o

-- 9. Does no object contain itself?
abbrev pub none_is_within_itself : Contents → Bool
none_is_within_itself m = list_all (λ o. not (is_within m o o)) (owners m)

-- does an object stand in a containment slot?
abbrev pub is_contained : Contents → ℕ → Bool
is_contained m o = list_any (λ (k : ℕ × ℕ). contains m k.0 k.1 o) (filled_slots m)

-- 10. Is each root listed once, live and in no containment slot, and every other object in one?
abbrev pub may_be_root : Contents → ℕ → Bool
may_be_root m o = is_some (kind m o) && not (is_contained m o)

abbrev pub roots_are_uncontained : Contents → Bool
roots_are_uncontained m = once m.roots && list_all (may_be_root m) m.roots && every_object m (λ o c. is_root m o || is_contained m o)

-- the ten conditions, and the bound on the objects
unfoldable pub is_valid : Contents → Bool
is_valid m =
    numbers_are_spent m
    && classes_are_concrete m
    && slots_are_of_classes m
    && slots_have_room m
    && values_are_of_kinds m
    && values_differ m
    && opposites_agree m
    && are_contained_once m
    && none_is_within_itself m
    && roots_are_uncontained m
    && nat_le (len m.kinds) 20000
