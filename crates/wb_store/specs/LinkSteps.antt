-- The steps of which edits are made: one link comes or leaves, at one end alone.
use Rattle.std.specs.Prelude.{◌≡◌, ℕ, suc, nat_eq, Bool, false, List, [], ◌∷◌, ◌++◌, Option, Some, None, if◌then◌else◌}
use Rattle.std.specs.Option.{option_map_or}
use Rattle.std.specs.List.{list_any}
use Rattle.std.specs.FinMap.{insert}
use Rattle.wb_metamodel.specs.Metamodel.{Metamodel}
use Rattle.wb_store.specs.declared.scalars.Scalar.{Scalar}
use Rattle.wb_store.specs.declared.scalars.Scalar.TheVariants.{Object}
use Rattle.wb_store.specs.declared.records.Slot.{Slot}
use Rattle.wb_store.specs.Contents.{Contents, slot}
use Rattle.wb_store.specs.Records.{values_in}
use Rattle.wb_store.specs.Features.{is_many, opposite}
use Rattle.wb_store.specs.Relinking.{Link, link, relink, both_ends, change, is_at, same_link}

-- a link comes last in its slot
abbrev pub with_link : Link → Contents → Contents
with_link l m = relink (λ k. false) (l ∷ []) m

-- a link comes in place of all that its slot has
abbrev pub with_only : Link → Contents → Contents
with_only l m = relink (is_at l.object l.feature) (l ∷ []) m

-- a link leaves
abbrev pub without_link : Link → Contents → Contents
without_link l m = relink (same_link l) [] m

-- all links of a slot leave
abbrev pub without_slot : ℕ → ℕ → Contents → Contents
without_slot o f m = relink (is_at o f) [] m

-- links leave one by one
abbrev pub each_left : List Link → Contents → Contents
each_left [] m = m
each_left (l ∷ ls) m = each_left ls (without_link l m)

-- a link comes, and its other end
abbrev pub with_ends : Link → Contents → Contents
with_ends l m = change (λ k. false) (l ∷ []) m

-- the link to an object that is given, if one is, and its other end
abbrev pub is_given : Metamodel → ℕ → ℕ → Option ℕ → Link → Bool
is_given metamodel o f given k = option_map_or (λ p. list_any (same_link (link o f (Object p))) (both_ends metamodel k)) given false

-- the object at the head of a slot
abbrev pub first_object : List Scalar → Option ℕ
first_object (Object p ∷ values) = Some p
first_object _ = None

-- the object that gives way where another comes to a slot of one value
abbrev pub gives_place : Contents → ℕ → ℕ → Option ℕ
gives_place m o f = if is_many m.metamodel f then None else first_object (slot m o f)

-- an object comes last in the roots
abbrev pub with_root : ℕ → Contents → Contents
with_root o m = record m { roots = m.roots ++ (o ∷ []) }

-- one more object, with these slots
pub record Grows (class : ℕ) (slots : List Slot) (old new : Contents) : Type 0 where
  pub metamodel : new.metamodel ≡ old.metamodel
  pub next : new.next ≡ suc old.next
  pub roots : new.roots ≡ old.roots
  pub kinds : new.kinds ≡ insert old.kinds old.next class
  pub at : (o f : ℕ) → slot new o f ≡ (if nat_eq o old.next then values_in f slots else slot old o f)

-- the slots of a new object that comes into a slot of another
abbrev pub back_slots : Metamodel → ℕ → ℕ → List Slot
back_slots metamodel f p = option_map_or (λ g. record { feature = g; values = Object p ∷ [] } ∷ []) (opposite metamodel f) []
