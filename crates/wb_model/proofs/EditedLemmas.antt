-- What an edit's answer says: a refusal that is told, want of memory, or the model of the definition.
use Rattle.std.proofs.Common.{◌≡◌, ℕ, Bool, true, false, Option, Some, None, Result, Ok, Err, refl, sym, ap, subst, ◌∙◌, List, [], ◌∷◌, ◌++◌}
use Rattle.std.proofs.lemmas.Bool.{and_parts}
use Rattle.std.specs.Prelude.{IsSome, is_some}
use Rattle.std.specs.Result.{IsErrAnd}
use Rattle.wb_base.specs.Answering.{IsRefusal}
use Rattle.wb_model.specs.declared.refusals.ModelRefusal.{ModelRefusal}
use Rattle.wb_model.specs.declared.refusals.ModelRefusal.TheVariants.{UnknownObject, KindMismatch, UpperBound, ContainmentCycle, AbstractClass, TooManyObjects, IdsSpent, NoMemory}
use Rattle.wb_store.specs.Contents.{Contents, kind}
use Rattle.wb_validity.specs.Valid.{IsValid, is_of_feature}
use Rattle.wb_store.specs.Relinking.{Link}
use Rattle.wb_model.specs.Edits.{unless, named, Edited, first_refusal, is_live, is_known_value, is_plain_feature, refusal_of_link}
use Rattle.wb_model.specs.EditChecks.{Tells}
use Rattle.wb_model.proofs.KeptLinks.{link-accepted}

-- a refusal of the definition, and the model as before
is_named : (e : ModelRefusal) (edit : Result Contents ModelRefusal) → edit ≡ Err e → IsRefusal (named e) edit
is_named UnknownObject edit h = h
is_named KindMismatch edit h = h
is_named UpperBound edit h = h
is_named ContainmentCycle edit h = h
is_named AbstractClass edit h = h
is_named TooManyObjects edit h = h
is_named IdsSpent edit h = h
is_named NoMemory edit h = tt

refused : (A : Type 0) (e : ModelRefusal) (edit : Result Contents ModelRefusal) (m : Contents) → edit ≡ Err e → Edited {A = A} (Err e) edit m m
refused A e edit m h = (is_named e edit h, refl)

-- the refusal that a check tells is that of the edit
pub told : (A : Type 0) (refusal : Option ModelRefusal) (e : ModelRefusal) (x m : Contents) → Err e ≡ unless refusal (tt {0}) → Edited {A = A} (Err e) (unless refusal x) m m
told A None e x m h = cc
told A (Some r) e x m h =
    let same : r ≡ e = cc in
    refused A e (Err r) m (ap Err same)

pub none_told : (refusal : Option ModelRefusal) → Ok (tt {0}) ≡ unless refusal (tt {0}) → refusal ≡ None
none_told None h = refl
none_told (Some r) h = cc

-- an edit that is not refused
pub done : (refusal : Option ModelRefusal) (x n : Contents) → Ok (tt {0}) ≡ unless refusal (tt {0}) → n ≡ x → unless refusal x ≡ Ok n
done refusal x n h e = ap (λ r. unless r x) (none_told refusal h) ∙ ap Ok (sym e)

is_some-IsSome : (r : Option ℕ) → is_some r ≡ true → IsSome r
is_some-IsSome None h = h
is_some-IsSome (Some x) h = refl

pub accepted_live : (many : Bool) (m : Contents) (l : Link) → Ok (tt {0}) ≡ unless (refusal_of_link many m l) (tt {0}) → IsSome (kind m l.object)
accepted_live many m l h =
    let a = link-accepted many m l (none_told (refusal_of_link many m l) h) in
    is_some-IsSome (kind m l.object) (and_parts (is_live m l.object) (is_known_value m l.value) a.known).0

pub accepted_value : (many : Bool) (m : Contents) (l : Link) → Ok (tt {0}) ≡ unless (refusal_of_link many m l) (tt {0}) → is_of_feature m l.feature l.value ≡ true
accepted_value many m l h =
    let a = link-accepted many m l (none_told (refusal_of_link many m l) h) in
    (and_parts (is_plain_feature m l.object l.feature) (is_of_feature m l.feature l.value) a.plain).1

-- an edit that keeps models valid leaves a valid one in any case
pub edited_valid : {A : Type 0} (r : Result A ModelRefusal) (edit : Result Contents ModelRefusal) (m n : Contents) → Edited r edit m n → IsValid m → ((k : Contents) → edit ≡ Ok k → IsValid k) → IsValid n
edited_valid (Ok x) edit m n h valid kept = kept n h
edited_valid (Err e) edit m n h valid kept = subst IsValid (sym h.1) valid

-- the same where the refusal is passed on
pub told_on : {A : Type 0} (refusal : Option ModelRefusal) (r : Result A ModelRefusal) (e : ModelRefusal) (x m : Contents) → IsErrAnd r (λ d. d ≡ e) → Err e ≡ unless refusal (tt {0}) → Edited r (unless refusal x) m m
told_on refusal (Ok y) e x m p h = absurd p
told_on {A} refusal (Err d) e x m p h = told A refusal d x m (ap Err p ∙ h)

-- ---- checks one after another

-- a refusal that is the first of the first ones is the first of all
pub first_some : (xs ys : List (Bool × ModelRefusal)) (e : ModelRefusal) → first_refusal xs ≡ Some e → first_refusal (xs ++ ys) ≡ Some e
first_some [] ys e h = cc
first_some ((true, r) ∷ xs) ys e h = h
first_some ((false, r) ∷ xs) ys e h = first_some xs ys e h

-- where none of the first ones holds, the others count
pub first_none : (xs ys : List (Bool × ModelRefusal)) → first_refusal xs ≡ None → first_refusal (xs ++ ys) ≡ first_refusal ys
first_none [] ys h = refl
first_none ((true, r) ∷ xs) ys h = cc
first_none ((false, r) ∷ xs) ys h = first_none xs ys h

pub some_told : (refusal : Option ModelRefusal) (e : ModelRefusal) → Err e ≡ unless refusal (tt {0}) → refusal ≡ Some e
some_told None e h = cc
some_told (Some r) e h = cc

tells_some : {A : Type 0} (r : Result A ModelRefusal) (e : ModelRefusal) (refusal : Option ModelRefusal) → r ≡ Err e → refusal ≡ Some e → Tells r refusal
tells_some {A} r e refusal is h = subst (λ r. Tells r refusal) (sym is) (by_case e h)
  where
    by_case : (e : ModelRefusal) → refusal ≡ Some e → Tells {A = A} (Err e) refusal
    by_case UnknownObject h = h
    by_case KindMismatch h = h
    by_case UpperBound h = h
    by_case ContainmentCycle h = h
    by_case AbstractClass h = h
    by_case TooManyObjects h = h
    by_case IdsSpent h = h
    by_case NoMemory h = tt

-- the refusal of the first checks is passed on
pub tells_first : {A : Type 0} (r : Result A ModelRefusal) (e : ModelRefusal) (xs ys : List (Bool × ModelRefusal)) → IsErrAnd r (λ d. d ≡ e) → Err e ≡ unless (first_refusal xs) (tt {0}) → Tells r (first_refusal (xs ++ ys))
tells_first (Ok x) e xs ys p h = absurd p
tells_first {A} (Err d) e xs ys p h = tells_some {A = A} (Err d) d (first_refusal (xs ++ ys)) refl (first_some xs ys d (some_told (first_refusal xs) d (ap Err p ∙ h)))

-- and so it is, as an equation
pub unless_first : (r : Result (Unit {0}) ModelRefusal) (e : ModelRefusal) (xs ys : List (Bool × ModelRefusal)) → IsErrAnd r (λ d. d ≡ e) → Err e ≡ unless (first_refusal xs) (tt {0}) → r ≡ unless (first_refusal (xs ++ ys)) (tt {0})
unless_first (Ok x) e xs ys p h = absurd p
unless_first (Err d) e xs ys p h = sym (ap (λ r. unless r (tt {0})) (first_some xs ys d (some_told (first_refusal xs) d (ap Err p ∙ h))))
