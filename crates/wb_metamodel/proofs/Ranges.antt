-- What a look-up finds is one of the metamodel's.
use Rattle.std.proofs.Common.{◌≡◌, ℕ, ◌<◌, List, [], length, Option, Some, None, get_or, sym}
use Rattle.std.specs.Prelude.{All, IfSome}
use Rattle.std.specs.List.{slice_get, position}
use Rattle.std.specs.Option.{option_map_or, option_and_then}
use Rattle.std.proofs.lemmas.Option.{none-some, slice_get_within}
use Rattle.wb_ecore.specs.declared.classes.Class.{Class}
use Rattle.wb_ecore.specs.declared.classes.Enumeration.{Enumeration}
use Rattle.wb_metamodel.specs.Metamodel.{Metamodel, same_name, class_named, enum_named, feature_named, features_of, literal_named, literals_of}
use Rattle.wb_metamodel.specs.Checks.{is_name_of}
use Rattle.wb_base.proofs.Positions.{position-Some}
use Rattle.wb_metamodel.proofs.Inherit.{find-member, of-member, member-at}

pub class_in_range : (mm : Metamodel) (name : List ℕ) (c : ℕ) → class_named mm name ≡ Some c → c < length mm.classes
class_in_range mm name c h =
    let found = position-Some (λ (class : Class). same_name class.name name) mm.classes c h in
    slice_get_within mm.classes c found.0 found.1

pub enum_in_range : (mm : Metamodel) (name : List ℕ) (e : ℕ) → enum_named mm name ≡ Some e → e < length mm.enumerations
enum_in_range mm name e h =
    let found = position-Some (λ (one : Enumeration). same_name one.name name) mm.enumerations e h in
    slice_get_within mm.enumerations e found.0 found.1

pub feature_in_range : (mm : Metamodel) (c : ℕ) (name : List ℕ) (f : ℕ) → feature_named mm c name ≡ Some f → f < length mm.features
feature_in_range mm c name f h = of-member mm c f (find-member (is_name_of mm name) (features_of mm c) f h)

pub features_in_range : (mm : Metamodel) (c : ℕ) → All (λ f. f < length mm.features) (features_of mm c)
features_in_range mm c = λ k d l. of-member mm c (get_or (features_of mm c) k d) (member-at (features_of mm c) k d l)

-- ---- the same of what was found, if anything

pub class_known : (mm : Metamodel) (name : List ℕ) (found : Option ℕ) → found ≡ class_named mm name → IfSome found (λ c. c < length mm.classes)
class_known mm name None is = tt
class_known mm name (Some c) is = class_in_range mm name c (sym is)

pub enum_known : (mm : Metamodel) (name : List ℕ) (found : Option ℕ) → found ≡ enum_named mm name → IfSome found (λ e. e < length mm.enumerations)
enum_known mm name None is = tt
enum_known mm name (Some e) is = enum_in_range mm name e (sym is)

pub feature_known : (mm : Metamodel) (c : ℕ) (name : List ℕ) (found : Option ℕ) → found ≡ feature_named mm c name → IfSome found (λ f. f < length mm.features)
feature_known mm c name None is = tt
feature_known mm c name (Some f) is = feature_in_range mm c name f (sym is)

literal_in_range : (name : List ℕ) (l : ℕ) (o : Option Enumeration) → option_and_then (λ (one : Enumeration). position (λ literal. same_name literal name) one.literals) o ≡ Some l → l < length (option_map_or (λ (one : Enumeration). one.literals) o [])
literal_in_range name l None is = absurd (none-some l is)
literal_in_range name l (Some one) is =
    let found = position-Some (λ literal. same_name literal name) one.literals l is in
    slice_get_within one.literals l found.0 found.1

pub literal_known : (mm : Metamodel) (e : ℕ) (name : List ℕ) (found : Option ℕ) → found ≡ literal_named mm e name → IfSome found (λ l. l < length (literals_of mm e))
literal_known mm e name None is = tt
literal_known mm e name (Some l) is = literal_in_range name l (slice_get mm.enumerations e) (sym is)
