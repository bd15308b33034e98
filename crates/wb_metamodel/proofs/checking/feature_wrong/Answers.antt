use Rattle.std.proofs.Common.{◌≡◌, ℕ, [], Some, Err, Result, eqb, length, take, get_or, sym, ap, ◌∙◌, subst, arith}
use Rattle.std.specs.Prelude.{⊤, codes}
use Rattle.std.specs.List.{count_by, slice_get}
use Rattle.std.specs.Option.{option_map_or}
use Rattle.std.proofs.lemmas.Option.{slice_get-get_or}
use Rattle.wb_json.specs.Place.{Place, at_member, at_index}
use Rattle.wb_json.specs.Form.{Gives}
use Rattle.wb_ecore.specs.declared.features.Feature.{Feature}
use Rattle.wb_metamodel.specs.Metamodel.{Metamodel}
use Rattle.wb_metamodel.specs.Checks.{wrong_feature}
use Rattle.wb_metamodel.proofs.checking.feature_wrong.Goals as goal

abbrev placed : ℕ → ℕ → Result ⊤ Place
placed owner place = at_member (codes "classes") (at_index owner (at_member (codes "features") (at_index place (Err []))))

-- a feature that stands is wrong at its class and its place in it
wrong-at : (mm : Metamodel) (f : ℕ) (feature : Feature) → slice_get mm.features f ≡ Some feature → wrong_feature mm f ≡ placed feature.owner (count_by (λ (one : Feature). eqb one.owner feature.owner) (take f mm.features))
wrong-at mm f feature at =
    ap (λ o. option_map_or (λ (one : Feature). placed one.owner (count_by (λ (other : Feature). eqb other.owner one.owner) (take f mm.features))) o (Err [])) at

pub returns : goal.returns
returns c =
    let mm = c.args.elements.now in
    let f = c.args.number in
    let slice = c.as_slice-features.result.now in
    let n = ap length c.as_slice-features.ensures in
    let feature = get_or slice f c.index-features-number.result in
    let at = ap (λ fs. slice_get fs f) (sym c.as_slice-features.ensures) ∙ slice_get-get_or slice f c.index-features-number.result (omega arith) in
    let count = c.count_of.ensures ∙ ap (λ fs. count_by (λ (one : Feature). eqb one.owner feature.owner) (take f fs)) c.as_slice-features.ensures in
    subst (λ given. Gives {A = ⊤} (Err c.wrong_at.result) given) (sym (wrong-at mm f feature at ∙ ap (placed feature.owner) (sym count))) c.wrong_at.ensures
