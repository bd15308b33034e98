use Rattle.std.proofs.Common.{◌≡◌, ◌++◌, [], length, get_or, eqb, sym, ap, ◌∙◌, subst, arith}
use Rattle.std.specs.List.{flat_map, list_any, slice_get}
use Rattle.std.specs.Option.{option_map_or}
use Rattle.std.specs.Result.{IfOk}
use Rattle.std.proofs.lemmas.Option.{slice_get-get_or}
use Rattle.wb_ecore.specs.declared.classes.Class.{Class}
use Rattle.wb_metamodel.specs.Metamodel.{own_features, supertypes_of, first_places}
use Rattle.wb_metamodel.specs.invariants.Inherited.{all_features}
use Rattle.wb_metamodel.proofs.Inherit.{member-at}
use Rattle.wb_metamodel.proofs.inherited.features_of.Goals as goal

pub first_places-requires : goal.first_places-requires
first_places-requires c =
    let mm = c.args.elements.now in
    let table = c.args.table.now in
    let k = c.args.class in
    let g = c.as_slice.ensures in
    let n = ap length g in
    let at : slice_get mm.classes k ≡ _ = ap (λ cs. slice_get cs k) (sym g) ∙ ap (slice_get c.as_slice.result.now) (sym c.class.view_is) ∙ slice_get-get_or c.as_slice.result.now c.class.inside.0 c.index-as_slice-class.result (omega arith) in
    let supers : c.as_slice-2.result.now ≡ supertypes_of mm k = c.as_slice-2.ensures ∙ sym (ap (λ o. option_map_or (λ (class : Class). class.supertypes) o []) at) in
    let all : c.as_slice-3.result.now ≡ all_features mm table k =
    c.as_slice-3.ensures.value ∙ c.in_ok-push_own.ensures ∙ ap (λ l. l ++ own_features mm k) (c.in_ok-all.ensures ∙ ap (flat_map (λ s. get_or table s [])) supers) in
    λ j d h.
    let m = member-at c.as_slice-3.result.now j d h in
    let f = c.requires.known (get_or c.as_slice-3.result.now j d) (ap (list_any (eqb (get_or c.as_slice-3.result.now j d))) (sym all) ∙ m) in
    let size = c.len.ensures in
    omega arith

pub returns : goal.returns
returns c =
    let mm = c.args.elements.now in
    let table = c.args.table.now in
    let k = c.args.class in
    let g = c.as_slice.ensures in
    let n = ap length g in
    let at : slice_get mm.classes k ≡ _ = ap (λ cs. slice_get cs k) (sym g) ∙ ap (slice_get c.as_slice.result.now) (sym c.class.view_is) ∙ slice_get-get_or c.as_slice.result.now c.class.inside.0 c.index-as_slice-class.result (omega arith) in
    let supers : c.as_slice-2.result.now ≡ supertypes_of mm k = c.as_slice-2.ensures ∙ sym (ap (λ o. option_map_or (λ (class : Class). class.supertypes) o []) at) in
    let all : c.as_slice-3.result.now ≡ all_features mm table k =
    c.as_slice-3.ensures.value ∙ c.in_ok-push_own.ensures ∙ ap (λ l. l ++ own_features mm k) (c.in_ok-all.ensures ∙ ap (flat_map (λ s. get_or table s [])) supers) in
    subst (λ l. IfOk c.first_places.result (λ features. features ≡ first_places l)) all c.first_places.ensures
