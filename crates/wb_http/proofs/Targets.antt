-- An element's target has its key behind nine bytes.
use Rattle.std.proofs.Common.{◌≡◌, refl, sym, ap, subst, ℕ, ◌≤◌, ◌-◌, ◌&&◌, Bool, true, false, cond, List, ◌++◌, length, drop, take, None, Some, Result, Err, codes, length-drop, arith}
use Rattle.std.specs.Str.{IsUtf8, is_utf8, bytes_eq}
use Rattle.std.proofs.lemmas.Slice.Eq.{starts_is}
use Rattle.std.proofs.lemmas.Bool.Decides.{Decides-eqb}
use Rattle.std.proofs.lemmas.Str.{IsUtf8-drop, IsCharBoundary-after_ascii, IsUtf8-from_is_utf8, is_utf8-from_IsUtf8}
use Rattle.wb_http.specs.declared.routes.Target.TheVariants.{Diagram, Element, Model, Command, Stop}
use Rattle.wb_http.specs.declared.routes.Route.{Route}
use Rattle.wb_http.specs.declared.routes.RouteRefusal.{RouteRefusal}
use Rattle.wb_http.specs.declared.routes.RouteRefusal.TheVariants.{NotFound}
use Rattle.wb_base.specs.Answering.{AsDefined}
use Rattle.std.proofs.lemmas.List.{take_all}
use Rattle.wb_http.specs.Routes.{is_element, kind_of, routed, route_of, refusal_of}

both_first : (u v : Bool) → (u && v) ≡ true → u ≡ true
both_first true v is = refl
both_first false v is = cc

front_is : (target : List ℕ) → is_element target ≡ true → target ≡ codes "/element/" ++ drop 9 target
front_is target is = (starts_is Decides-eqb target (codes "/element/") _ refl).0 (both_first _ _ is)

behind_is_text : (rest : List ℕ) → IsUtf8 (codes "/element/" ++ rest) → IsUtf8 rest
behind_is_text rest text = IsUtf8-drop (codes "/element/" ++ rest) 9 text (IsCharBoundary-after_ascii (codes "/element/" ++ rest) 8 text (omega arith) (omega arith))

pub key_is_text : (target : List ℕ) → is_element target ≡ true → IsUtf8 target → IsUtf8 (drop 9 target)
key_is_text target is text = behind_is_text (drop 9 target) (subst IsUtf8 (front_is target is) text)

pub key_is_within : (target : List ℕ) → is_element target ≡ true → 9 ≤ length target
key_is_within target is =
    let count : length target ≡ length (codes "/element/" ++ drop 9 target) = ap length (front_is target is) in
    omega (arith, count)

-- where the target is an element's, it has the form of one
pub element_is : (target : List ℕ) → kind_of target ≡ Some Element → is_element target ≡ true
element_is target is = by (bytes_eq target (codes "/diagram")) (bytes_eq target (codes "/model")) (bytes_eq target (codes "/command")) (bytes_eq target (codes "/stop")) (is_element target) is
  where
    by : (a b c d e : Bool) → cond a (Some Diagram) (cond b (Some Model) (cond c (Some Command) (cond d (Some Stop) (cond e (Some Element) None)))) ≡ Some Element → e ≡ true
    by true b c d e is = cc
    by false true c d e is = cc
    by false false true d e is = cc
    by false false false true e is = cc
    by false false false false true is = refl
    by false false false false false is = cc

-- the part of a text that is its key
pub key_part : (target bytes : List ℕ) → bytes ≡ target → is_element target ≡ true → IsUtf8 bytes → IsUtf8 (take (length bytes - 9) (drop 9 bytes))
key_part target bytes same is text =
    let element : is_element bytes ≡ true = subst (λ b. is_element b ≡ true) (sym same) is in
    subst IsUtf8 (sym (take_all (length bytes - 9) (drop 9 bytes) (omega (arith, length-drop 9 bytes)))) (key_is_text bytes element text)

pub text_routed : (method target text : List ℕ) (result : Result Route RouteRefusal) → IsUtf8 target → text ≡ target → AsDefined refusal_of (routed (kind_of text) method text) result → AsDefined refusal_of (route_of method target) result
unfolding route_of
text_routed method target text result utf8 is given =
    let routes = subst (λ t. AsDefined refusal_of (routed (kind_of t) method t) result) is given in
    subst (λ b. AsDefined refusal_of (cond b (routed (kind_of target) method target) (Err NotFound)) result) (sym (is_utf8-from_IsUtf8 target utf8)) routes

-- a test that is not passed fails
failed : (b : Bool) → (b ≡ true → ⊥) → b ≡ false
failed true h = absurd (h refl)
failed false h = refl

pub no_text : (method target : List ℕ) → ¬ (IsUtf8 target) → route_of method target ≡ Err NotFound
unfolding route_of
no_text method target none = ap (λ b. cond b (routed (kind_of target) method target) (Err NotFound)) (failed (is_utf8 target) (λ h. none (IsUtf8-from_is_utf8 target h)))
