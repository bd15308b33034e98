-- What holds of a metamodel whose document was resolved.
use Rattle.std.proofs.Common.{◌≡◌, ℕ, ◌+◌, ◌<◌, Bool, true, false, cond, eqb, List, [], ◌∷◌, ◌++◌, length, map, Option, Some, None, Result, Ok, Err, zero, suc, refl, sym, ap, ◌∙◌, subst, inl, inr, ⊎_elim, ◌⊎◌, arith}
use Rattle.std.proofs.lemmas.Bool.{false≢true, or_cases, eqb-true}
use Rattle.std.proofs.lemmas.Option.{none-some, same_Some, slice_get_within, slice_get-map}
use Rattle.std.specs.List.{list_any, flat_map, enumerate_from, slice_get}
use Rattle.std.specs.Option.{option_map, option_map_or}
use Rattle.wb_json.specs.Place.{Place, within, at_member, at_index}
use Rattle.wb_json.specs.Form.{in_turn, or_wrong}
use Rattle.wb_base.proofs.Steps.{then_ok, same_ok}
use Rattle.wb_json.proofs.Found.{within_ok, or_wrong_ok}
use Rattle.wb_ecore.specs.declared.classes.Class.{Class}
use Rattle.wb_ecore.specs.declared.features.Feature.{Feature}
use Rattle.wb_ecore.specs.declared.features.Kind.{Kind}
use Rattle.wb_ecore.specs.declared.features.Kind.TheVariants.{Int, Bool as BoolKind, Text, Enum}
use Rattle.wb_ecore.specs.declared.resolving.ResolvedClass.{ResolvedClass}
use Rattle.wb_ecore.specs.declared.document.Document.{Document}
use Rattle.wb_ecore.specs.declared.document.EnumPart.{EnumPart}
use Rattle.wb_ecore.specs.declared.document.ClassPart.{ClassPart}
use Rattle.wb_ecore.specs.declared.document.FeaturePart.{FeaturePart}
use Rattle.wb_ecore.specs.declared.document.Target.{Target}
use Rattle.wb_ecore.specs.declared.document.Target.TheVariants.{Values, Objects}
use Rattle.wb_metamodel.specs.Metamodel.{Metamodel, same_name, is_supertype, feature_at}
use Rattle.wb_ecore.specs.Resolving.{class_number, enum_number, kind_named, opposite_of, feature_resolved, in_place, walked, class_resolved, enumeration_of, package_of, resolved}
use Rattle.wb_metamodel.specs.WellFormed.{KindIsKnown, IsReference}
use Rattle.wb_ecore.proofs.Numbered.{class-number-known}
use Rattle.wb_base.proofs.Positions.{position-Some}
use Rattle.wb_metamodel.proofs.Warshall.{length-map}

-- what each element of a walk gave
pub record Gave {A B : Type 0} (step : A → Result B Place) (xs : List A) (i : ℕ) (y : B) : Type 0 where
  pub from : A
  pub stands : slice_get xs i ≡ Some from
  pub gave : step from ≡ Ok y

placed : {A B : Type 0} (step : A → Result B Place) (x : A) (xs : List A) (z : B) (zs : List B) → step x ≡ Ok z → ((i : ℕ) (y : B) → slice_get zs i ≡ Some y → Gave step xs i y) → (i : ℕ) (y : B) → slice_get (z ∷ zs) i ≡ Some y → Gave step (x ∷ xs) i y
placed step x xs z zs s later zero y at = record { from = x; stands = refl; gave = s ∙ ap Ok (same_Some z y at) }
placed step x xs z zs s later (suc i) y at =
    let g = later i y at in
    record { from = g.from; stands = g.stands; gave = g.gave }

pub in_turn-gave : {A B : Type 0} (step : A → Result B Place) (n : ℕ) (xs : List A) (ys : List B) → in_turn (in_place step) (enumerate_from n xs) ≡ Ok ys
    → (i : ℕ) (y : B) → slice_get ys i ≡ Some y → Gave step xs i y
in_turn-gave step n [] ys h i y at =
    absurd (none-some y (subst (λ l. slice_get l i ≡ Some y) (sym (same_ok [] ys h)) at))
in_turn-gave step n (x ∷ xs) ys h i y at =
    let first = then_ok (at_index n (step x)) _ ys h in
    let rest = then_ok (in_turn (in_place step) (enumerate_from (n + 1) xs)) (λ zs. Ok (first.0 ∷ zs)) ys first.2 in
    let whole : first.0 ∷ rest.0 ≡ ys = same_ok _ ys rest.2 in
    placed step x xs first.0 rest.0 (within_ok _ (step x) first.0 first.1) (in_turn-gave step (n + 1) xs rest.0 rest.1) i y (subst (λ l. slice_get l i ≡ Some y) (sym whole) at)

pub in_turn-length : {A B : Type 0} (step : A → Result B Place) (n : ℕ) (xs : List A) (ys : List B) → in_turn (in_place step) (enumerate_from n xs) ≡ Ok ys → length ys ≡ length xs
in_turn-length step n [] ys h = ap length (sym (same_ok [] ys h))
in_turn-length step n (x ∷ xs) ys h =
    let first = then_ok (at_index n (step x)) _ ys h in
    let rest = then_ok (in_turn (in_place step) (enumerate_from (n + 1) xs)) (λ zs. Ok (first.0 ∷ zs)) ys first.2 in
    ap length (sym (same_ok _ ys rest.2)) ∙ ap (λ k. suc k) (in_turn-length step (n + 1) xs rest.0 rest.1)

pub numbered_at : {A : Type 0} (n : ℕ) (xs : List A) (i : ℕ) (p : ℕ × A) → slice_get (enumerate_from n xs) i ≡ Some p → (p.0 ≡ n + i) × (slice_get xs i ≡ Some p.1)
numbered_at n [] i p h = absurd (none-some p h)
numbered_at n (x ∷ xs) zero p h =
    let e : (n, x) ≡ p = same_Some _ p h in
    (sym (ap (λ q. q.0) e) ∙ (let z : n ≡ n + 0 = omega arith in z), ap Some (ap (λ q. q.1) e))
numbered_at n (x ∷ xs) (suc i) p h =
    let later = numbered_at (n + 1) xs i p h in
    (later.0 ∙ (let z : (n + 1) + i ≡ n + suc i = omega arith in z), later.1)

pub list_any-at : (s : ℕ) (xs : List ℕ) → list_any (eqb s) xs ≡ true → (j : ℕ) × (slice_get xs j ≡ Some s)
list_any-at s [] h = absurd (false≢true h)
list_any-at s (x ∷ xs) h =
    ⊎_elim (λ e. (0, ap Some (sym (eqb-true s x e)))) (λ m. let later = list_any-at s xs m in (suc later.0, later.1)) (or_cases (eqb s x) _ h)

-- where an element of joined pieces stands
pub flat_map-at : {A B : Type 0} (f : A → List B) (xs : List A) (k : ℕ) (y : B) → slice_get (flat_map f xs) k ≡ Some y → (i j : ℕ) × (x : A) × (slice_get xs i ≡ Some x) × (slice_get (f x) j ≡ Some y)
flat_map-at f [] k y h = absurd (none-some y h)
flat_map-at f (x ∷ xs) k y h = ⊎_elim (λ here. (0, here.0, x, refl, here.1)) (λ there. let later = flat_map-at f xs there.0 y there.1 in (suc later.0, later.1, later.2, later.3, later.4)) (split (f x) (flat_map f xs) k h)
  where
    split : {B : Type 0} (us vs : List B) (k : ℕ) {y : B} → slice_get (us ++ vs) k ≡ Some y → ((j : ℕ) × (slice_get us j ≡ Some y)) ⊎ ((j : ℕ) × (slice_get vs j ≡ Some y))
    split [] vs k h = inr (k, h)
    split (u ∷ us) vs zero h = inl (0, h)
    split (u ∷ us) vs (suc k) h = ⊎_elim (λ a. inl (suc a.0, a.1)) (λ b. inr b) (split us vs k h)

-- ---- what a document's resolution gave

pub record Resolution (document : Document) (mm : Metamodel) : Type 0 where
  pub parts : List ResolvedClass
  pub is : package_of document parts ≡ mm
  pub walk : walked (class_resolved document) (enumerate_from 0 document.classes) ≡ Ok parts

pub resolution : (document : Document) (mm : Metamodel) → resolved document ≡ Ok mm → Resolution document mm
unfolding resolved
resolution document mm h =
    let a = then_ok (at_member _ (walked (class_resolved document) (enumerate_from 0 document.classes))) _ mm h in
    record { parts = a.0; is = same_ok _ mm a.2; walk = within_ok _ _ a.0 a.1 }

-- what a class gave
pub record ClassGave (document : Document) (c : ℕ) (part : ClassPart) (y : ResolvedClass) : Type 0 where
  pub name : y.class.name ≡ part.name
  pub supertypes : walked (λ name. or_wrong (class_number document name)) part.supertypes ≡ Ok y.class.supertypes
  pub features : walked (λ (one : FeaturePart). feature_resolved document c one one.target) part.features ≡ Ok y.features

pub class-gave : (document : Document) (c : ℕ) (part : ClassPart) (y : ResolvedClass) → class_resolved document (c, part) ≡ Ok y → ClassGave document c part y
class-gave document c part y h =
    let a = then_ok (at_member _ (walked (λ name. or_wrong (class_number document name)) part.supertypes)) _ y h in
    let b = then_ok (at_member _ (walked (λ (one : FeaturePart). feature_resolved document c one one.target) part.features)) _ y a.2 in
    let whole = same_ok _ y b.2 in
    record {
      name = ap (λ (r : ResolvedClass). r.class.name) (sym whole);
      supertypes = within_ok _ _ a.0 a.1 ∙ ap (λ (r : ResolvedClass). Ok r.class.supertypes) whole;
      features = within_ok _ _ b.0 b.1 ∙ ap (λ (r : ResolvedClass). Ok r.features) whole;
    }

-- the class of a number, by its part
pub record ClassOf (document : Document) (parts : List ResolvedClass) (c : ℕ) (y : ResolvedClass) : Type 0 where
  pub part : ClassPart
  pub stands : slice_get document.classes c ≡ Some part
  pub gave : ClassGave document c part y

pub class-of : (document : Document) (parts : List ResolvedClass) (c : ℕ) (y : ResolvedClass) → walked (class_resolved document) (enumerate_from 0 document.classes) ≡ Ok parts → slice_get parts c ≡ Some y → ClassOf document parts c y
class-of document parts c y walk at =
    let g = in_turn-gave (class_resolved document) 0 (enumerate_from 0 document.classes) parts walk c y at in
    let n = numbered_at 0 document.classes c g.from g.stands in
    let number : g.from.0 ≡ c = n.0 ∙ (let z : 0 + c ≡ c = omega arith in z) in
    record {
      part = g.from.1;
      stands = n.1;
      gave = class-gave document c g.from.1 y (ap (λ k. class_resolved document (k, g.from.1)) (sym number) ∙ g.gave);
    }

length-enumerate : {A : Type 0} (n : ℕ) (xs : List A) → length (enumerate_from n xs) ≡ length xs
length-enumerate n [] = refl
length-enumerate n (x ∷ xs) = ap (λ k. suc k) (length-enumerate (n + 1) xs)

pub classes-length : (document : Document) (parts : List ResolvedClass) → walked (class_resolved document) (enumerate_from 0 document.classes) ≡ Ok parts → length (package_of document parts).classes ≡ length document.classes
classes-length document parts walk =
    length-map (λ (c : ResolvedClass). c.class) parts ∙ in_turn-length (class_resolved document) 0 (enumerate_from 0 document.classes) parts walk ∙ length-enumerate 0 document.classes

enum-number-known : (document : Document) (name : List ℕ) (e : ℕ) → enum_number document name ≡ Some e → e < length document.enums
enum-number-known document name e h =
    let found = position-Some (λ (part : EnumPart). same_name part.name name) document.enums e h in
    slice_get_within document.enums e found.0 found.1

-- an element of a mapped list
pub mapped : {A B : Type 0} (f : A → B) (o : Option A) (y : B) → option_map f o ≡ Some y → (x : A) × (o ≡ Some x) × (f x ≡ y)
mapped f None y h = absurd (none-some y h)
mapped f (Some x) y h = (x, refl, same_Some _ y h)

of_class : (s : ℕ) (o : Option Class) → list_any (eqb s) (option_map_or (λ (class : Class). class.supertypes) o []) ≡ true → (class : Class) × (o ≡ Some class) × (list_any (eqb s) class.supertypes ≡ true)
of_class s None h = absurd (false≢true h)
of_class s (Some class) h = (class, refl, h)

pub supertypes-known : (document : Document) (parts : List ResolvedClass) → walked (class_resolved document) (enumerate_from 0 document.classes) ≡ Ok parts
    → (c s : ℕ) → is_supertype (package_of document parts) c s ≡ true → s < length (package_of document parts).classes
supertypes-known document parts walk c s h =
    let cl = of_class s (slice_get (map (λ (r : ResolvedClass). r.class) parts) c) h in
    let y = mapped (λ (r : ResolvedClass). r.class) (slice_get parts c) cl.0 (sym (slice_get-map (λ (r : ResolvedClass). r.class) parts c) ∙ cl.1) in
    let of = class-of document parts c y.0 walk y.1 in
    let at = list_any-at s cl.0.supertypes cl.2 in
    let given = of.gave.supertypes ∙ ap (λ (k : Class). Ok k.supertypes) y.2 in
    let g = in_turn-gave (λ name. or_wrong (class_number document name)) 0 of.part.supertypes cl.0.supertypes given at.0 s at.1 in
    omega (arith, class-number-known document g.from s (or_wrong_ok _ s g.gave), classes-length document parts walk)

-- ---- features

pub record FeatureFacts (mm : Metamodel) (feature : Feature) : Type 0 where
  pub owner : feature.owner < length mm.classes
  pub kind : KindIsKnown mm feature.kind
  pub containment : feature.containment ≡ true → IsReference feature.kind

kind-choice : (mm : Metamodel) (a b c : Bool) (o : Option ℕ) (kind : Kind) → cond a (Some Int) (cond b (Some BoolKind) (cond c (Some Text) (option_map (λ e. Enum e) o))) ≡ Some kind
    → ((e : ℕ) → o ≡ Some e → e < length mm.enumerations) → KindIsKnown mm kind
kind-choice mm true b c o kind h k = subst (KindIsKnown mm) (same_Some Int kind h) tt
kind-choice mm false true c o kind h k = subst (KindIsKnown mm) (same_Some BoolKind kind h) tt
kind-choice mm false false true o kind h k = subst (KindIsKnown mm) (same_Some Text kind h) tt
kind-choice mm false false false None kind h k = absurd (none-some kind h)
kind-choice mm false false false (Some e) kind h k = subst (KindIsKnown mm) (same_Some (Enum e) kind h) (k e refl)

pub feature-facts : (document : Document) (parts : List ResolvedClass) (c : ℕ) (part : FeaturePart) (target : Target) (feature : Feature) → c < length (package_of document parts).classes
    → length (package_of document parts).classes ≡ length document.classes → feature_resolved document c part target ≡ Ok feature → FeatureFacts (package_of document parts) feature
feature-facts document parts c part (Values name) feature l n h =
    let mm = package_of document parts in
    let a = then_ok (at_member _ (or_wrong (kind_named document name))) _ feature h in
    let whole = same_ok _ feature a.2 in
    let named = or_wrong_ok _ a.0 (within_ok _ _ a.0 a.1) in
    let size = length-map enumeration_of document.enums in
    record {
      owner = subst (λ (f : Feature). f.owner < length mm.classes) whole l;
      kind = subst (λ (f : Feature). KindIsKnown mm f.kind) whole (kind-choice mm _ _ _ (enum_number document name) a.0 named (λ e i. omega (arith, enum-number-known document name e i)));
      containment = λ t. absurd (false≢true (ap (λ (f : Feature). f.containment) whole ∙ t));
    }
feature-facts document parts c part (Objects reference) feature l n h =
    let mm = package_of document parts in
    let a = then_ok (at_member _ (or_wrong (class_number document reference.class))) _ feature h in
    let b = then_ok (opposite_of document a.0 reference.opposite) _ feature a.2 in
    let whole = same_ok _ feature b.2 in
    let named = or_wrong_ok _ a.0 (within_ok _ _ a.0 a.1) in
    let target : a.0 < length mm.classes = omega (arith, class-number-known document reference.class a.0 named) in
    record {
      owner = subst (λ (f : Feature). f.owner < length mm.classes) whole l;
      kind = subst (λ (f : Feature). KindIsKnown mm f.kind) whole target;
      containment = λ t. subst (λ (f : Feature). IsReference f.kind) whole tt;
    }

pub features-known : (document : Document) (parts : List ResolvedClass) → walked (class_resolved document) (enumerate_from 0 document.classes) ≡ Ok parts
    → (f : ℕ) (feature : Feature) → feature_at (package_of document parts) f ≡ Some feature → FeatureFacts (package_of document parts) feature
features-known document parts walk f feature h =
    let at = flat_map-at (λ (r : ResolvedClass). r.features) parts f feature h in
    let of = class-of document parts at.0 at.2 walk at.3 in
    let g = in_turn-gave (λ (one : FeaturePart). feature_resolved document at.0 one one.target) 0 of.part.features at.2.features of.gave.features at.1 feature at.4 in
    let n = classes-length document parts walk in
    feature-facts document parts at.0 g.from g.from.target feature (omega (arith, slice_get_within document.classes at.0 of.part of.stands)) n g.gave
