-- The first condition of a valid model that is broken, with the least object that shows it.
use Rattle.std.specs.Prelude.{ℕ, ◌^◌, Bool, not, ◌&&◌, ◌||◌, nat_eq, nat_lt, if◌then◌else◌, List, map, filter, find, length, Option, Some, None, option_map}
use Rattle.std.specs.Option.{option_or}
use Rattle.std.specs.List.{list_any, list_all}
use Rattle.std.specs.FinMap.{entries}
use Rattle.wb_metamodel.specs.Metamodel.{Metamodel}
use Rattle.wb_validity.specs.declared.conditions.Condition.{Condition}
use Rattle.wb_validity.specs.declared.conditions.Condition.TheVariants.{OfClass, HasRoom, OfKinds, Differ, HeldBack}
use Rattle.wb_store.specs.declared.parts.Part.{Part}
use Rattle.wb_store.specs.Contents.{Contents, Filled, members}
use Rattle.wb_validity.specs.Conditions.{meets}
use Rattle.wb_store.specs.Parts.{is_listed}
use Rattle.wb_validity.specs.Valid.{is_abstract}
use Rattle.wb_validity.specs.ValidTest.{holders, is_within, roots_are_uncontained}

-- a condition by its number, and an object that shows that it is broken; none where the model as a whole shows it
abbrev pub Breach : Type 0
Breach = ℕ × Option ℕ

abbrev pub shown_by : ℕ → Option ℕ → Option Breach
shown_by number o = option_map (λ o. (number, Some o)) o

abbrev pub unless : ℕ → Bool → Option Breach
unless number holds = if holds then None else Some (number, None)

-- the least object that passes a test of its number and its class
abbrev pub least : Contents → (ℕ → ℕ → Bool) → Option ℕ
least m passes = option_map (λ (e : ℕ × ℕ). e.0) (find (λ (e : ℕ × ℕ). passes e.0 e.1) (entries m.kinds))

-- the slots of an object that are not empty
abbrev pub slots_at : Contents → ℕ → List ((ℕ × ℕ) × Filled)
slots_at m o = filter (λ (e : (ℕ × ℕ) × Filled). nat_eq o e.0.0) (entries m.slots)

-- does each of them meet a condition?
abbrev pub slots_meet : Contents → Condition → ℕ → Bool
slots_meet m condition o = list_all (λ (e : (ℕ × ℕ) × Filled). meets m condition e.0.0 e.0.1 (members e.1)) (slots_at m o)

abbrev pub breaks : Contents → Condition → ℕ → Bool
breaks m condition o = not (slots_meet m condition o)

-- the objects of parts that have a slot which is empty, or not written as its feature wants it
abbrev pub miswritten : Metamodel → List Part → List ℕ
miswritten metamodel parts = map (λ (p : Part). p.id) (filter (λ (p : Part). not (is_listed metamodel p)) parts)

-- 1. `next`, and then the numbers
abbrev pub next_is_number : Contents → Bool
next_is_number m = nat_lt 0 m.next && nat_lt m.next (2 ^ 32)

abbrev pub is_misnumbered : Contents → ℕ → Bool
is_misnumbered m o = not (nat_lt 0 o && nat_lt o m.next)

unfoldable pub broken_number : Contents → Option Breach
broken_number m = option_or (unless 1 (next_is_number m)) (shown_by 1 (least m (λ o c. is_misnumbered m o)))

-- 4. some slots of objects are not written as they are to be
abbrev pub is_crowded : Contents → List ℕ → ℕ → Bool
is_crowded m wrong o = list_any (λ p. nat_eq p o) wrong || breaks m HasRoom o

-- 8. an object in two containment slots
abbrev pub is_held_twice : Contents → ℕ → Bool
is_held_twice m o = nat_lt 1 (length (holders m o))

-- 1 to 4
unfoldable pub broken_first : Contents → List ℕ → Option Breach
broken_first m wrong =
    option_or (broken_number m)
    (option_or (shown_by 2 (least m (λ o c. is_abstract m.metamodel c)))
    (option_or (shown_by 3 (least m (λ o c. breaks m OfClass o)))
    (shown_by 4 (least m (λ o c. is_crowded m wrong o)))))

-- 5 to 7
unfoldable pub broken_values : Contents → Option Breach
broken_values m =
    option_or (shown_by 5 (least m (λ o c. breaks m OfKinds o)))
    (option_or (shown_by 6 (least m (λ o c. breaks m Differ o)))
    (shown_by 7 (least m (λ o c. breaks m HeldBack o))))

-- 9. an object on a ring of containers. 10. the roots
unfoldable pub broken_holding : Contents → Option Breach
broken_holding m =
    option_or (shown_by 9 (least m (λ o c. is_within m o o)))
    (unless 10 (roots_are_uncontained m))

-- 8 to 10
unfoldable pub broken_containment : Contents → Option Breach
broken_containment m = option_or (shown_by 8 (least m (λ o c. is_held_twice m o))) (broken_holding m)

-- the first of all; `wrong` are the objects with a slot that is not written as it is to be
unfoldable pub broken : Contents → List ℕ → Option Breach
broken m wrong = option_or (broken_first m wrong) (option_or (broken_values m) (broken_containment m))
