-- What the check of repeated names gives: what has a name is found by it.
use Rattle.std.proofs.Common.{◌≡◌, ℕ, ◌+◌, ◌<◌, Bool, true, false, cond, List, [], ◌∷◌, ◌++◌, length, map, take, Option, Some, Result, Ok, Err, zero, suc, refl, sym, ap, ◌∙◌, subst, arith}
use Rattle.std.specs.Prelude.{⊤, codes}
use Rattle.std.proofs.lemmas.Bool.{or_parts}
use Rattle.std.proofs.lemmas.Option.{none-some, same_Some, slice_get_within, slice_get-map}
use Rattle.std.specs.Cmp.Lexicographic.{nat_list_eq_equiv}
use Rattle.std.proofs.lemmas.List.Folds.{list_any-append}
use Rattle.std.specs.List.{list_any, enumerate_from, find, slice_get, position, range_with_len}
use Rattle.std.specs.Option.{option_map, option_map_or, option_and_then}
use Rattle.wb_json.specs.Place.{Place, within, at_member, at_index}
use Rattle.wb_ecore.specs.declared.classes.Class.{Class}
use Rattle.wb_ecore.specs.declared.classes.Enumeration.{Enumeration}
use Rattle.wb_ecore.specs.declared.resolving.ResolvedClass.{ResolvedClass}
use Rattle.wb_ecore.specs.declared.document.Document.{Document}
use Rattle.wb_ecore.specs.declared.document.EnumPart.{EnumPart}
use Rattle.wb_ecore.specs.declared.document.ClassPart.{ClassPart}
use Rattle.wb_metamodel.specs.Metamodel.{same_name, numbers, class_named, enum_named, literal_named, class_at, enum_at}
use Rattle.wb_ecore.specs.Resolving.{walked, class_resolved, enumeration_of, package_of}
use Rattle.wb_ecore.specs.Repeats.{each_from, none_is, fresh, repeats, unrepeated, kind_names, enum_names, class_names, check_enum_names, check_class_names}
use Rattle.wb_base.proofs.Positions.{position-first}
use Rattle.wb_base.proofs.ListLemmas.{number-at}
use Rattle.wb_base.proofs.Steps.{then_ok}
use Rattle.wb_json.proofs.Found.{within_ok}
use Rattle.wb_metamodel.proofs.Resolutions.{class-of, mapped}

pub any-at : {X : Type 0} (p : X → Bool) (xs : List X) (i : ℕ) (x : X) → list_any p xs ≡ false → slice_get xs i ≡ Some x → p x ≡ false
any-at p [] i x h at = absurd (none-some x at)
any-at p (y ∷ ys) zero x h at = subst (λ v. p v ≡ false) (same_Some y x at) ((or_parts (p y) (list_any p ys) h).0)
any-at p (y ∷ ys) (suc i) x h at = any-at p ys i x ((or_parts (p y) (list_any p ys) h).1) at

take-at : {X : Type 0} (n : ℕ) (xs : List X) (i : ℕ) → i < n → slice_get (take n xs) i ≡ slice_get xs i
take-at zero xs i h = absurd (omega arith)
take-at (suc n) [] i h = refl
take-at (suc n) (x ∷ xs) zero h = refl
take-at (suc n) (x ∷ xs) (suc i) h = take-at n xs i (omega arith)

each-placed : {A : Type 0} (check : ℕ → A → Result ⊤ Place) (n : ℕ) (y : A) (ys : List A) → check n y ≡ Ok tt → ((i : ℕ) (x : A) → slice_get ys i ≡ Some x → check ((n + 1) + i) x ≡ Ok tt) → (i : ℕ) (x : A) → slice_get (y ∷ ys) i ≡ Some x → check (n + i) x ≡ Ok tt
each-placed check n y ys s later zero x at = subst (λ v. check (n + 0) v ≡ Ok tt) (same_Some y x at) (ap (λ k. check k y) (let z : n + 0 ≡ n = omega arith in z) ∙ s)
each-placed check n y ys s later (suc i) x at = ap (λ k. check k x) (let z : n + suc i ≡ (n + 1) + i = omega arith in z) ∙ later i x at

-- each element of a walk passed its check
pub each-ok : {A : Type 0} (check : ℕ → A → Result ⊤ Place) (n : ℕ) (xs : List A) → each_from check n xs ≡ Ok tt → (i : ℕ) (x : A) → slice_get xs i ≡ Some x → check (n + i) x ≡ Ok tt
each-ok check n [] h i x at = absurd (none-some x at)
each-ok check n (y ∷ ys) h i x at =
    let a = then_ok (at_index n (check n y)) _ tt h in
    each-placed check n y ys (within_ok _ (check n y) tt a.1) (each-ok check (n + 1) ys a.2) i x at

chosen : (b : Bool) → ◌≡◌ {A = Result ⊤ Place} (cond b (Err []) (Ok tt)) (Ok tt) → b ≡ false
chosen true h = cc
chosen false h = refl

pub fresh-ok : (earlier : List (List ℕ)) (name : List ℕ) → fresh earlier name ≡ Ok tt → list_any (same_name name) earlier ≡ false
fresh-ok earlier name h = chosen (list_any (same_name name) earlier) h

first_is_not : (bad : ℕ → Bool) (wrong : ℕ → Result ⊤ Place) (m : ℕ) (ms : List ℕ) → ((n : ℕ) → wrong n ≡ Ok tt → ⊥) → (b : Bool) → bad m ≡ b → option_map_or wrong (cond b (Some m) (find bad ms)) (Ok tt) ≡ Ok tt
    → (bad m ≡ false) × (none_is bad wrong ms ≡ Ok tt)
first_is_not bad wrong m ms e true s g = absurd (e m g)
first_is_not bad wrong m ms e false s g = (s, g)

bad-placed : (bad : ℕ → Bool) (m : ℕ) (ms : List ℕ) → bad m ≡ false → ((i n : ℕ) → slice_get ms i ≡ Some n → bad n ≡ false) → (i n : ℕ) → slice_get (m ∷ ms) i ≡ Some n → bad n ≡ false
bad-placed bad m ms s later zero n at = subst (λ v. bad v ≡ false) (same_Some m n at) s
bad-placed bad m ms s later (suc i) n at = later i n at

-- where no number is wrong, none is bad
pub none-bad : (bad : ℕ → Bool) (wrong : ℕ → Result ⊤ Place) (ns : List ℕ) → ((n : ℕ) → wrong n ≡ Ok tt → ⊥) → none_is bad wrong ns ≡ Ok tt → (i n : ℕ) → slice_get ns i ≡ Some n → bad n ≡ false
none-bad bad wrong [] e h i n at = absurd (none-some n at)
none-bad bad wrong (m ∷ ms) e h i n at =
    let split = first_is_not bad wrong m ms e (bad m) refl h in
    bad-placed bad m ms split.0 (none-bad bad wrong ms e split.1) i n at

pub each-passed : {A : Type 0} (check : ℕ → A → Result ⊤ Place) (xs : List A) → each_from check 0 xs ≡ Ok tt → (i : ℕ) (x : A) → slice_get xs i ≡ Some x → check i x ≡ Ok tt
each-passed check xs h i x at = ap (λ k. check k x) (let z : i ≡ 0 + i = omega arith in z) ∙ each-ok check 0 xs h i x at

-- the names before a place, none of which is this one
apart : (name : List ℕ) (all : List (List ℕ)) (i k : ℕ) (other : List ℕ) → list_any (same_name name) (take i all) ≡ false → k < i → slice_get all k ≡ Some other → same_name other name ≡ false
apart name all i k other none l at =
    nat_list_eq_equiv.symm other name ∙ any-at (same_name name) (take i all) k other none (take-at i all k l ∙ at)

any-of-last : (name : List ℕ) (xs ys : List (List ℕ)) → list_any (same_name name) (xs ++ ys) ≡ false → list_any (same_name name) ys ≡ false
any-of-last name xs ys h = (or_parts (list_any (same_name name) xs) (list_any (same_name name) ys) (sym (list_any-append (same_name name) xs ys) ∙ h)).1

map-take : {A B : Type 0} (f : A → B) (n : ℕ) (xs : List A) → map f (take n xs) ≡ take n (map f xs)
map-take f zero xs = refl
map-take f (suc n) [] = refl
map-take f (suc n) (x ∷ xs) = ap (λ ys. f x ∷ ys) (map-take f n xs)

-- ---- classes

pub classes-named : (document : Document) (parts : List ResolvedClass) → walked (class_resolved document) (enumerate_from 0 document.classes) ≡ Ok parts → each_from (check_class_names document.enums document.classes) 0 document.classes ≡ Ok tt
    → (c : ℕ) (class : Class) → class_at (package_of document parts) c ≡ Some class → class_named (package_of document parts) class.name ≡ Some c
classes-named document parts walk names c class h =
    let classes = map (λ (r : ResolvedClass). r.class) parts in
    let all = class_names document.classes in
    let y = mapped (λ (r : ResolvedClass). r.class) (slice_get parts c) class (sym (slice_get-map (λ (r : ResolvedClass). r.class) parts c) ∙ h) in
    let of = class-of document parts c y.0 walk y.1 in
    let name : class.name ≡ of.part.name = ap (λ (k : Class). k.name) (sym y.2) ∙ of.gave.name in
    let checked = each-passed (check_class_names document.enums document.classes) document.classes names c of.part of.stands in
    let first = then_ok (at_member (codes "name") (fresh (kind_names ++ enum_names document.enums ++ class_names (take c document.classes)) of.part.name)) _ tt checked in
    let none = any-of-last of.part.name (kind_names ++ enum_names document.enums) (class_names (take c document.classes)) (fresh-ok (kind_names ++ enum_names document.enums ++ class_names (take c document.classes)) of.part.name (within_ok _ (fresh (kind_names ++ enum_names document.enums ++ class_names (take c document.classes)) of.part.name) tt first.1)) in
    let earlier : list_any (same_name class.name) (take c all) ≡ false = ap (λ n. list_any (same_name n) (take c all)) name ∙ ap (list_any (same_name of.part.name)) (sym (map-take (λ (p : ClassPart). p.name) c document.classes)) ∙ none in
    position-first (λ (one : Class). same_name one.name class.name) classes c class h (nat_list_eq_equiv.refl class.name)
    (λ k z l there.
    let w = mapped (λ (r : ResolvedClass). r.class) (slice_get parts k) z (sym (slice_get-map (λ (r : ResolvedClass). r.class) parts k) ∙ there) in
    let other = class-of document parts k w.0 walk w.1 in
    let its : z.name ≡ other.part.name = ap (λ (j : Class). j.name) (sym w.2) ∙ other.gave.name in
    ap (λ n. same_name n class.name) its ∙ apart class.name all c k other.part.name earlier l (slice_get-map (λ (p : ClassPart). p.name) document.classes k ∙ ap (option_map (λ (p : ClassPart). p.name)) other.stands))

-- ---- enumerations and their literals

pub enumerations-named : (document : Document) (parts : List ResolvedClass) → each_from (check_enum_names document.enums) 0 document.enums ≡ Ok tt
    → (e : ℕ) (enumeration : Enumeration) → enum_at (package_of document parts) e ≡ Some enumeration → enum_named (package_of document parts) enumeration.name ≡ Some e
enumerations-named document parts names e enumeration h =
    let all = enum_names document.enums in
    let y = mapped enumeration_of (slice_get document.enums e) enumeration (sym (slice_get-map enumeration_of document.enums e) ∙ h) in
    let name : enumeration.name ≡ y.0.name = ap (λ (k : Enumeration). k.name) (sym y.2) in
    let checked = each-passed (check_enum_names document.enums) document.enums names e y.0 y.1 in
    let first = then_ok (at_member (codes "name") (fresh (kind_names ++ enum_names (take e document.enums)) y.0.name)) _ tt checked in
    let none = any-of-last y.0.name kind_names (enum_names (take e document.enums)) (fresh-ok (kind_names ++ enum_names (take e document.enums)) y.0.name (within_ok _ (fresh (kind_names ++ enum_names (take e document.enums)) y.0.name) tt first.1)) in
    let earlier : list_any (same_name enumeration.name) (take e all) ≡ false = ap (λ n. list_any (same_name n) (take e all)) name ∙ ap (list_any (same_name y.0.name)) (sym (map-take (λ (p : EnumPart). p.name) e document.enums)) ∙ none in
    position-first (λ (one : Enumeration). same_name one.name enumeration.name) (map enumeration_of document.enums) e enumeration h (nat_list_eq_equiv.refl enumeration.name)
    (λ k z l there.
    let w = mapped enumeration_of (slice_get document.enums k) z (sym (slice_get-map enumeration_of document.enums k) ∙ there) in
    let its : z.name ≡ w.0.name = ap (λ (j : Enumeration). j.name) (sym w.2) in
    ap (λ n. same_name n enumeration.name) its ∙ apart enumeration.name all e k w.0.name earlier l (slice_get-map (λ (p : EnumPart). p.name) document.enums k ∙ ap (option_map (λ (p : EnumPart). p.name)) w.1))

index-wrong : (i : ℕ) → ◌≡◌ {A = Result ⊤ Place} (at_index i (Err [])) (Ok tt) → ⊥
index-wrong i h = cc

-- what a test of an element of a list gives, at one that stands
test-at : {X : Type 0} (p : X → Bool) (o : Option X) (x : X) → o ≡ Some x → option_map_or p o false ≡ false → p x ≡ false
test-at p o x e h = ap (λ v. option_map_or p v false) (sym e) ∙ h

map-id : {A : Type 0} (xs : List A) → map (λ x. x) xs ≡ xs
map-id [] = refl
map-id (x ∷ xs) = ap (λ ys. x ∷ ys) (map-id xs)

pub literals-named : (document : Document) (parts : List ResolvedClass) → each_from (check_enum_names document.enums) 0 document.enums ≡ Ok tt
    → (e l : ℕ) (enumeration : Enumeration) (literal : List ℕ) → enum_at (package_of document parts) e ≡ Some enumeration → slice_get enumeration.literals l ≡ Some literal → literal_named (package_of document parts) e literal ≡ Some l
literals-named document parts names e l enumeration literal h at =
    let all = enumeration.literals in
    let y = mapped enumeration_of (slice_get document.enums e) enumeration (sym (slice_get-map enumeration_of document.enums e) ∙ h) in
    let same : y.0.literals ≡ all = ap (λ (k : Enumeration). k.literals) y.2 in
    let checked = each-passed (check_enum_names document.enums) document.enums names e y.0 y.1 in
    let first = then_ok (at_member (codes "name") (fresh (kind_names ++ enum_names (take e document.enums)) y.0.name)) _ tt checked in
    let unique : unrepeated all ≡ Ok tt = ap unrepeated (sym same) ∙ within_ok _ (unrepeated y.0.literals) tt first.2 in
    let fresh_here = none-bad (repeats (λ name. name) all) (λ i. at_index i (Err [])) (numbers (length all)) index-wrong unique l l (number-at (length all) l (slice_get_within all l literal at)) in
    let none : list_any (same_name literal) (take l all) ≡ false = ap (list_any (same_name literal)) (sym (map-id (take l all))) ∙ test-at (λ x. list_any (same_name x) (map (λ name. name) (take l all))) (slice_get all l) literal at fresh_here in
    ap (option_and_then (λ (one : Enumeration). position (λ name. same_name name literal) one.literals)) h
    ∙ position-first (λ name. same_name name literal) all l literal at (nat_list_eq_equiv.refl literal) (λ k z j there. apart literal all l k z none j there)
