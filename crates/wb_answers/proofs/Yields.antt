-- What is true of the value of a check, part by part.
use Rattle.std.proofs.Common.{◌≡◌, ℕ, zero, suc, List, [], ◌∷◌, Option, Some, None, Result, Ok, Err, refl, subst}
use Rattle.std.specs.Prelude.{⊤, slice_get}
use Rattle.wb_json.specs.Place.{Place}
use Rattle.wb_spec_check.specs.Validated.{Validated, Finding, good, bad, ◌<*>◌, at, each_from, optional}

-- it is true of the value, if there is one
pub record Yields {A : Type 0} (P : A → Type 0) (v : Validated A) : Type 0 where
  pub value : (x : A) → v ≡ good x → P x

abbrev pub Any : {A : Type 0} → A → Type 0
Any x = ⊤

pub any : {A : Type 0} {v : Validated A} → Yields Any v
any = record { value = λ x is. tt }

pub yields_good : {A : Type 0} {P : A → Type 0} (x : A) → P x → Yields P (good x)
yields_good {A} {P} x h = record { value = λ y is. subst P (same y is) h }
  where
    same : (y : A) → good x ≡ good y → x ≡ y
    same y is = cc

pub yields_both : {A B : Type 0} {P : B → Type 0} {Q : A → Type 0} {f : Validated (A → B)} {v : Validated A} → Yields (λ g. (x : A) → Q x → P (g x)) f → Yields Q v → Yields P (f <*> v)
yields_both {A} {B} {P} {Q} {f} {v} first second = record { value = λ y is. by f v first second y is }
  where
    by : (f : Validated (A → B)) (v : Validated A) → Yields (λ g. (x : A) → Q x → P (g x)) f → Yields Q v → (y : B) → (f <*> v) ≡ good y → P y
    by (good g) (good x) first second y is = let same : g x ≡ y = cc in subst P same (first.value g refl x (second.value x refl))
    by (good g) (bad q qs) first second y is = absurd (let no : bad q qs ≡ good y = is in cc)
    by (bad p ps) (good x) first second y is = absurd (let no : bad p ps ≡ good y = is in cc)
    by (bad p ps) (bad q qs) first second y is = cc

pub yields_at : {A : Type 0} {P : A → Type 0} (place : Place) (found : Result A Finding) → ((x : A) → found ≡ Ok x → P x) → Yields P (at place found)
yields_at {A} {P} place (Ok x) h = yields_good x (h x refl)
yields_at {A} {P} place (Err finding) h = record { value = λ x is. cc }

-- of a part that may be absent
abbrev pub OfSome : {A : Type 0} → (A → Type 0) → Option A → Type 0
OfSome P None = ⊤
OfSome P (Some x) = P x

pub yields_optional : {A B : Type 0} {P : B → Type 0} (check : A → Validated B) (part : Option A) → ((x : A) → Yields P (check x)) → Yields (OfSome P) (optional check part)
yields_optional check None h = yields_good None tt
yields_optional check (Some x) h = yields_both (yields_good Some (λ y is. is)) (h x)

-- of each item of a list
abbrev pub OfEach : {A : Type 0} → (A → Type 0) → List A → Type 0
OfEach P [] = ⊤
OfEach P (x ∷ xs) = P x × OfEach P xs

pub yields_each : {A B : Type 0} {P : B → Type 0} (check : ℕ → A → Validated B) (i : ℕ) (xs : List A) → ((i : ℕ) (x : A) → Yields P (check i x)) → Yields (OfEach P) (each_from check i xs)
yields_each check i [] h = yields_good [] tt
yields_each check i (x ∷ xs) h = yields_both (yields_both (yields_good (λ y ys. y ∷ ys) (λ y is ys are. (is, are))) (h i x)) (yields_each check (suc i) xs h)

pub at_number : {A : Type 0} (P : A → Type 0) (xs : List A) (n : ℕ) → OfEach P xs → OfSome P (slice_get xs n)
at_number P [] n are = tt
at_number P (x ∷ xs) zero are = are.0
at_number P (x ∷ xs) (suc n) are = at_number P xs n are.1
