-- Parts of the refusals of edits, as they are checked one after another.
use Rattle.std.specs.Prelude.{◌≡◌, ℕ, suc, ◌^◌, ◌<◌, Bool, not, ◌&&◌, nat_le, List, [], ◌∷◌, length, Option, Some, None, Result, Ok, Err}
use Rattle.std.specs.FinMap.{len}
use Rattle.wb_metamodel.specs.Metamodel.{Metamodel}
use Rattle.wb_store.specs.declared.scalars.Scalar.TheVariants.{Object}
use Rattle.wb_store.specs.declared.scalars.Place.{Place}
use Rattle.wb_store.specs.declared.scalars.Place.TheVariants.{Root, In}
use Rattle.wb_model.specs.declared.refusals.ModelRefusal.{ModelRefusal}
use Rattle.wb_model.specs.declared.refusals.ModelRefusal.TheVariants.{UnknownObject, KindMismatch, UpperBound, AbstractClass, TooManyObjects, IdsSpent, NoMemory}
use Rattle.wb_store.specs.Contents.{Contents}
use Rattle.wb_validity.specs.Valid.{is_abstract}
use Rattle.wb_store.specs.Relinking.{link, stands}
use Rattle.wb_model.specs.Edits.{is_live, conforms_as, is_full}

-- the first refusal that holds, none where the check passes; want of memory tells nothing
abbrev pub Tells : {A : Type 0} → Result A ModelRefusal → Option ModelRefusal → Type 0
Tells (Ok _) refusal = refusal ≡ None
Tells (Err NoMemory) refusal = Unit {0}
Tells (Err e) refusal = refusal ≡ Some e

-- the feature of a place is one of the metamodel
abbrev pub PlaceIsKnown : Metamodel → Place → Type 0
PlaceIsKnown metamodel Root = Unit {0}
PlaceIsKnown metamodel (In p f) = f < length metamodel.features

-- the refusals of a move that stand before the cycle
abbrev pub refusals_before_cycle : Contents → ℕ → ℕ → ℕ → List (Bool × ModelRefusal)
refusals_before_cycle m o p f =
    (not (is_live m o && is_live m p), UnknownObject)
    ∷ (not (conforms_as m p f o), KindMismatch)
    ∷ (not (stands m (link p f (Object o))) && is_full m p f, UpperBound)
    ∷ []

-- the refusals of a new object, wherever it goes
abbrev pub refusals_of_new : Contents → ℕ → List (Bool × ModelRefusal)
refusals_of_new m class =
    (is_abstract m.metamodel class, AbstractClass)
    ∷ (nat_le 20000 (len m.kinds), TooManyObjects)
    ∷ (nat_le (2 ^ 32) (suc m.next), IdsSpent)
    ∷ []
