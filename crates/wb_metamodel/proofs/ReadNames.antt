-- A document that was read has names alone, and so has its metamodel.
use Rattle.std.proofs.Common.{◌≡◌, ℕ, Bool, true, false, cond, List, [], ◌∷◌, Option, Some, None, Result, Ok, Err, refl, sym, ap, ◌∙◌, subst}
use Rattle.std.specs.Prelude.{codes}
use Rattle.std.proofs.lemmas.Option.{none-some, slice_get-map}
use Rattle.std.specs.List.{enumerate_from, slice_get}
use Rattle.serde_json.specs.Data.{Data}
use Rattle.serde_json.specs.Find.{get, as_array}
use Rattle.wb_json.specs.Place.{Place, at_member}
use Rattle.wb_json.specs.Form.{or_wrong, item_list, text_of, is_name, name_of, bool_of, list_of, listed, needed_part, needed, optional, list_part, list_or_empty, has}
use Rattle.wb_ecore.specs.declared.classes.Class.{Class}
use Rattle.wb_ecore.specs.declared.classes.Enumeration.{Enumeration}
use Rattle.wb_ecore.specs.declared.features.Feature.{Feature}
use Rattle.wb_ecore.specs.declared.resolving.ResolvedClass.{ResolvedClass}
use Rattle.wb_ecore.specs.declared.document.Document.{Document}
use Rattle.wb_ecore.specs.declared.document.EnumPart.{EnumPart}
use Rattle.wb_ecore.specs.declared.document.ClassPart.{ClassPart}
use Rattle.wb_ecore.specs.declared.document.FeaturePart.{FeaturePart}
use Rattle.wb_ecore.specs.declared.document.Target.{Target}
use Rattle.wb_ecore.specs.declared.document.Target.TheVariants.{Values, Objects}
use Rattle.wb_ecore.specs.Document.{attribute_of, reference_of, feature_of, enum_of, class_of, document_of, HasNames}
use Rattle.wb_metamodel.specs.Metamodel.{class_at, feature_at, enum_at}
use Rattle.wb_ecore.specs.Resolving.{class_number, kind_named, opposite_of, feature_resolved, walked, class_resolved, enumeration_of, package_of}
use Rattle.wb_base.proofs.Steps.{then_ok, same_ok}
use Rattle.wb_json.proofs.Found.{within_ok}
use Rattle.wb_metamodel.proofs.Resolutions.{in_turn-gave, mapped, class-of, flat_map-at}

-- ---- what was read

only-names : (text name : List ℕ) (b : Bool) → is_name text ≡ b → ◌≡◌ {A = Result (List ℕ) Place} (cond b (Ok text) (Err [])) (Ok name) → is_name name ≡ true
only-names text name true s h = subst (λ n. is_name n ≡ true) (same_ok text name h) s
only-names text name false s h = cc

name-read : (d : Data) (name : List ℕ) → name_of d ≡ Ok name → is_name name ≡ true
name-read d name h =
    let a = then_ok (text_of d) _ name h in
    only-names a.0 name (is_name a.0) refl a.2

abbrev IsRead : {A : Type 0} → (Data → Result A Place) → A → Type 0
IsRead form v = (d : Data) × (form d ≡ Ok v)

part-read : {A : Type 0} (name : List ℕ) (form : Data → Result A Place) (o : Option Data) (v : A) → needed_part name form o ≡ Ok v → IsRead form v
part-read name form (Some d) v h = (d, within_ok _ (form d) v h)
part-read name form None v h = cc

needed-read : {A : Type 0} (name : List ℕ) (form : Data → Result A Place) (d : Data) (v : A) → needed name form d ≡ Ok v → IsRead form v
needed-read name form d v h = part-read name form (get name d) v h

needed-name : (name : List ℕ) (d : Data) (v : List ℕ) → needed name name_of d ≡ Ok v → is_name v ≡ true
needed-name name d v h =
    let r = needed-read name name_of d v h in
    name-read r.0 v r.1

-- each item of a list was read
item-read : {A : Type 0} (form : Data → Result A Place) (d : Data) (vs : List A) → list_of form d ≡ Ok vs → (i : ℕ) (v : A) → slice_get vs i ≡ Some v → IsRead form v
unfolding list_of
item-read form d vs h i v at =
    let a = then_ok (or_wrong (as_array d)) _ vs h in
    let g = in_turn-gave form 0 (item_list a.0) vs a.2 i v at in
    (g.from, g.gave)

item-of-part : {A : Type 0} (name : List ℕ) (form : Data → Result A Place) (o : Option Data) (vs : List A) → list_part name form o ≡ Ok vs → (i : ℕ) (v : A) → slice_get vs i ≡ Some v → IsRead form v
item-of-part name form (Some d) vs h i v at = item-read form d vs (within_ok _ (list_of form d) vs h) i v at
item-of-part name form None vs h i v at = absurd (none-some v (subst (λ l. slice_get l i ≡ Some v) (sym (same_ok [] vs h)) at))

listed-item : {A : Type 0} (name : List ℕ) (form : Data → Result A Place) (d : Data) (vs : List A) → needed name (list_of form) d ≡ Ok vs → (i : ℕ) (v : A) → slice_get vs i ≡ Some v → IsRead form v
listed-item name form d vs h i v at =
    let r = needed-read name (list_of form) d vs h in
    item-read form r.0 vs r.1 i v at

-- ---- the parts of a document

attribute-name : (d : Data) (part : FeaturePart) → attribute_of d ≡ Ok part → is_name part.name ≡ true
attribute-name d part h =
    let a = then_ok (listed (codes "name" ∷ codes "type" ∷ codes "many" ∷ []) d) _ part h in
    let b = then_ok (needed (codes "name") name_of d) _ part a.2 in
    let e = then_ok (needed (codes "type") name_of d) _ part b.2 in
    let f = then_ok (optional (codes "many") bool_of d) _ part e.2 in
    subst (λ (p : FeaturePart). is_name p.name ≡ true) (same_ok _ part f.2) (needed-name (codes "name") d b.0 b.1)

reference-name : (d : Data) (part : FeaturePart) → reference_of d ≡ Ok part → is_name part.name ≡ true
reference-name d part h =
    let a = then_ok (listed (codes "name" ∷ codes "reference" ∷ codes "many" ∷ codes "containment" ∷ codes "opposite" ∷ []) d) _ part h in
    let b = then_ok (needed (codes "name") name_of d) _ part a.2 in
    let e = then_ok (needed (codes "reference") name_of d) _ part b.2 in
    let f = then_ok (optional (codes "many") bool_of d) _ part e.2 in
    let g = then_ok (optional (codes "containment") bool_of d) _ part f.2 in
    let i = then_ok (optional (codes "opposite") name_of d) _ part g.2 in
    subst (λ (p : FeaturePart). is_name p.name ≡ true) (same_ok _ part i.2) (needed-name (codes "name") d b.0 b.1)

feature-choice : (d : Data) (part : FeaturePart) (b : Bool) → cond b (reference_of d) (attribute_of d) ≡ Ok part → is_name part.name ≡ true
feature-choice d part true h = reference-name d part h
feature-choice d part false h = attribute-name d part h

feature-name : (d : Data) (part : FeaturePart) → feature_of d ≡ Ok part → is_name part.name ≡ true
unfolding feature_of
feature-name d part h = feature-choice d part (has (codes "reference") d) h

record ClassNames (part : ClassPart) : Type 0 where
  name : is_name part.name ≡ true
  features : (i : ℕ) (feature : FeaturePart) → slice_get part.features i ≡ Some feature → is_name feature.name ≡ true

class-names : (d : Data) (part : ClassPart) → class_of d ≡ Ok part → ClassNames part
unfolding class_of
class-names d part h =
    let a = then_ok (listed (codes "name" ∷ codes "abstract" ∷ codes "supertypes" ∷ codes "features" ∷ []) d) _ part h in
    let b = then_ok (needed (codes "name") name_of d) _ part a.2 in
    let e = then_ok (optional (codes "abstract") bool_of d) _ part b.2 in
    let f = then_ok (list_or_empty (codes "supertypes") name_of d) _ part e.2 in
    let g = then_ok (list_or_empty (codes "features") feature_of d) _ part f.2 in
    subst ClassNames (same_ok _ part g.2) (record {
      name = needed-name (codes "name") d b.0 b.1;
      features = λ i feature at. let r = item-of-part (codes "features") feature_of (get (codes "features") d) g.0 g.1 i feature at in feature-name r.0 feature r.1;
    })

record EnumNames (part : EnumPart) : Type 0 where
  name : is_name part.name ≡ true
  literals : (l : ℕ) (literal : List ℕ) → slice_get part.literals l ≡ Some literal → is_name literal ≡ true

enum-names : (d : Data) (part : EnumPart) → enum_of d ≡ Ok part → EnumNames part
unfolding enum_of
enum-names d part h =
    let a = then_ok (listed (codes "name" ∷ codes "literals" ∷ []) d) _ part h in
    let b = then_ok (needed (codes "name") name_of d) _ part a.2 in
    let e = then_ok (needed (codes "literals") (list_of name_of) d) _ part b.2 in
    subst EnumNames (same_ok _ part e.2) (record {
      name = needed-name (codes "name") d b.0 b.1;
      literals = λ l literal at. let r = listed-item (codes "literals") name_of d e.0 e.1 l literal at in name-read r.0 literal r.1;
    })

-- ---- the document

pub document-names : (d : Data) (document : Document) → document_of d ≡ Ok document → HasNames document
unfolding document_of
document-names d document h =
    let a = then_ok (listed (codes "package" ∷ codes "enums" ∷ codes "classes" ∷ []) d) _ document h in
    let b = then_ok (needed (codes "package") name_of d) _ document a.2 in
    let e = then_ok (list_or_empty (codes "enums") enum_of d) _ document b.2 in
    let f = then_ok (needed (codes "classes") (list_of class_of) d) _ document e.2 in
    let enum : (n : ℕ) (part : EnumPart) → slice_get e.0 n ≡ Some part → EnumNames part =
    λ n part at. let r = item-of-part (codes "enums") enum_of (get (codes "enums") d) e.0 e.1 n part at in enum-names r.0 part r.1 in
    let class : (n : ℕ) (part : ClassPart) → slice_get f.0 n ≡ Some part → ClassNames part =
    λ n part at. let r = listed-item (codes "classes") class_of d f.0 f.1 n part at in class-names r.0 part r.1 in
    subst HasNames (same_ok _ document f.2) (record {
      package_name = needed-name (codes "package") d b.0 b.1;
      classes = λ c part at. (class c part at).name;
      features = λ c i owner part at there. (class c owner at).features i part there;
      enums = λ n part at. (enum n part at).name;
      literals = λ n l part literal at there. (enum n part at).literals l literal there;
    })

-- ---- its metamodel

feature-kept : (document : Document) (c : ℕ) (part : FeaturePart) (target : Target) (feature : Feature) → feature_resolved document c part target ≡ Ok feature → part.name ≡ feature.name
feature-kept document c part (Values name) feature h =
    let a = then_ok (at_member _ (or_wrong (kind_named document name))) _ feature h in
    ap (λ (f : Feature). f.name) (same_ok _ feature a.2)
feature-kept document c part (Objects reference) feature h =
    let a = then_ok (at_member _ (or_wrong (class_number document reference.class))) _ feature h in
    let b = then_ok (opposite_of document a.0 reference.opposite) _ feature a.2 in
    ap (λ (f : Feature). f.name) (same_ok _ feature b.2)

pub classes-are-names : (document : Document) (parts : List ResolvedClass) → HasNames document → walked (class_resolved document) (enumerate_from 0 document.classes) ≡ Ok parts
    → (c : ℕ) (class : Class) → class_at (package_of document parts) c ≡ Some class → is_name class.name ≡ true
classes-are-names document parts names walk c class h =
    let y = mapped (λ (r : ResolvedClass). r.class) (slice_get parts c) class (sym (slice_get-map (λ (r : ResolvedClass). r.class) parts c) ∙ h) in
    let of = class-of document parts c y.0 walk y.1 in
    ap (λ (k : Class). is_name k.name) (sym y.2) ∙ ap is_name of.gave.name ∙ names.classes c of.part of.stands

pub features-are-names : (document : Document) (parts : List ResolvedClass) → HasNames document → walked (class_resolved document) (enumerate_from 0 document.classes) ≡ Ok parts
    → (f : ℕ) (feature : Feature) → feature_at (package_of document parts) f ≡ Some feature → is_name feature.name ≡ true
features-are-names document parts names walk f feature h =
    let at = flat_map-at (λ (r : ResolvedClass). r.features) parts f feature h in
    let of = class-of document parts at.0 at.2 walk at.3 in
    let g = in_turn-gave (λ (one : FeaturePart). feature_resolved document at.0 one one.target) 0 of.part.features at.2.features of.gave.features at.1 feature at.4 in
    ap is_name (sym (feature-kept document at.0 g.from g.from.target feature g.gave)) ∙ names.features at.0 at.1 of.part g.from of.stands g.stands

pub enumerations-are-names : (document : Document) (parts : List ResolvedClass) → HasNames document → (e : ℕ) (enumeration : Enumeration) → enum_at (package_of document parts) e ≡ Some enumeration → is_name enumeration.name ≡ true
enumerations-are-names document parts names e enumeration h =
    let y = mapped enumeration_of (slice_get document.enums e) enumeration (sym (slice_get-map enumeration_of document.enums e) ∙ h) in
    ap (λ (k : Enumeration). is_name k.name) (sym y.2) ∙ names.enums e y.0 y.1

pub literals-are-names : (document : Document) (parts : List ResolvedClass) → HasNames document → (e l : ℕ) (enumeration : Enumeration) (literal : List ℕ) → enum_at (package_of document parts) e ≡ Some enumeration
    → slice_get enumeration.literals l ≡ Some literal → is_name literal ≡ true
literals-are-names document parts names e l enumeration literal h at =
    let y = mapped enumeration_of (slice_get document.enums e) enumeration (sym (slice_get-map enumeration_of document.enums e) ∙ h) in
    names.literals e l y.0 literal y.1 (ap (λ (k : Enumeration). slice_get k.literals l) y.2 ∙ at)
