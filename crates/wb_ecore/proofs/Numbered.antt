-- The classes of a document by their names, and the own features of each, numbered over all classes.
use Rattle.std.proofs.Common.{◌≡◌, ℕ, ◌+◌, ◌<◌, ◌^◌, List, [], ◌∷◌, ◌++◌, length, drop, get_or, Some, zero, suc, refl, sym, ap, ◌∙◌, append_assoc, arith}
use Rattle.std.specs.List.{AllZip, slice_get, position}
use Rattle.std.specs.Option.{option_map, option_and_then}
use Rattle.std.proofs.lemmas.List.{drop_more}
use Rattle.std.proofs.lemmas.Option.{slice_get_read, slice_get_within}
use Rattle.wb_ecore.specs.declared.document.Document.{Document}
use Rattle.wb_ecore.specs.declared.document.ClassPart.{ClassPart}
use Rattle.wb_ecore.specs.declared.document.FeaturePart.{FeaturePart}
use Rattle.wb_ecore.specs.declared.index.ClassFeatures.{ClassFeatures}
use Rattle.wb_ecore.specs.Naming.{same_name}
use Rattle.wb_ecore.specs.invariants.NumberedNames.{number_of}
use Rattle.wb_ecore.specs.Resolving.{class_number, numbered, own_feature}
use Rattle.wb_ecore.specs.invariants.Index.{HasOwn}
use Rattle.wb_base.proofs.Positions.{position-Some}
use Rattle.wb_base.proofs.Zips.{zip-length, zip-at}

pub class-number-known : (document : Document) (name : List ℕ) (c : ℕ) → class_number document name ≡ Some c → c < length document.classes
class-number-known document name c h =
    let found = position-Some (λ (part : ClassPart). same_name part.name name) document.classes c h in
    slice_get_within document.classes c found.0 found.1

pub length-numbered : (first : ℕ) (parts : List ClassPart) → length (numbered first parts) ≡ length parts
length-numbered first [] = refl
length-numbered first (p ∷ ps) = ap (λ n. suc n) (length-numbered (first + length p.features) ps)

there : {X : Type 0} (xs : List X) (i : ℕ) → i < length xs → (x : X) × (slice_get xs i ≡ Some x)
there [] i h = absurd (omega arith)
there (x ∷ xs) zero h = (x, refl)
there (x ∷ xs) (suc i) h = there xs i (omega arith)

pub own-within : (items : List ClassFeatures) (classes : List ClassPart) (c : ℕ) → AllZip HasOwn items (numbered 0 classes) → c < length classes → c < length items
own-within items classes c h l = omega (arith, zip-length HasOwn items (numbered 0 classes) h, length-numbered 0 classes)

-- what the code keeps of a class
pub own-at : (items : List ClassFeatures) (classes : List ClassPart) (c : ℕ) (own : ClassFeatures) → AllZip HasOwn items (numbered 0 classes) → c < length classes → own ≡ get_or items c own
    → (n : ℕ × List FeaturePart) × (slice_get (numbered 0 classes) c ≡ Some n) × HasOwn own n
own-at items classes c own h l e =
    let found = there (numbered 0 classes) c (omega (arith, length-numbered 0 classes)) in
    let at = slice_get_read items (length items) c own refl (own-within items classes c h l) e in
    (found.0, found.1, zip-at HasOwn items (numbered 0 classes) c own found.0 h at found.1)

pub own-found : (document : Document) (c : ℕ) (name : List ℕ) (own : ClassFeatures) (n : ℕ × List FeaturePart) → slice_get (numbered 0 document.classes) c ≡ Some n → HasOwn own n
    → own_feature document c name ≡ option_map (λ i. own.first + i) (number_of own.names name)
own-found document c name own n at has =
    ap (option_and_then (λ (m : ℕ × List FeaturePart). option_map (λ i. m.0 + i) (position (λ (part : FeaturePart). same_name part.name name) m.1))) at
    ∙ ap (λ o. option_map (λ i. n.0 + i) o) (sym (has.names name))
    ∙ ap (λ k. option_map (λ i. k + i) (number_of own.names name)) (sym has.first)

pub own-fits : (name : List ℕ) (own : ClassFeatures) (n : ℕ × List FeaturePart) (k : ℕ) → HasOwn own n → number_of own.names name ≡ Some k → own.first + k < 2 ^ 32
own-fits name own n k has e =
    let found = position-Some (λ (part : FeaturePart). same_name part.name name) n.1 k (sym (has.names name) ∙ e) in
    omega (arith, slice_get_within n.1 k found.0 found.1, has.fits, has.first)

-- one more class
pub numbered-more : (classes : List ClassPart) (done : List (ℕ × List FeaturePart)) (first i : ℕ) (part : ClassPart) → i < length classes → part ≡ get_or classes i part → numbered 0 classes ≡ done ++ numbered first (drop i classes)
    → numbered 0 classes ≡ (done ++ (first, part.features) ∷ []) ++ numbered (first + length part.features) (drop (i + 1) classes)
numbered-more classes done first i part l e h =
    h ∙ ap (λ xs. done ++ numbered first xs) (drop_more classes i part l ∙ ap (λ p. p ∷ drop (i + 1) classes) (sym e))
    ∙ sym (append_assoc done ((first, part.features) ∷ []) (numbered (first + length part.features) (drop (i + 1) classes)))
