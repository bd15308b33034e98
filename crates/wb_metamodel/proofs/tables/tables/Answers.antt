use Rattle.std.proofs.Common.{◌≡◌, ◌<◌, ℕ, List, length, map, sym, ap, ◌∙◌, subst}
use Rattle.std.specs.Prelude.{All, unwrap_or}
use Rattle.std.specs.List.{AllZip, position}
use Rattle.wb_ecore.specs.declared.classes.Class.{Class}
use Rattle.wb_ecore.specs.declared.classes.Enumeration.{Enumeration}
use Rattle.wb_ecore.specs.declared.features.Feature.{Feature}
use Rattle.wb_metamodel.specs.Metamodel.{same_name}
use Rattle.wb_ecore.specs.invariants.NumberedNames.{number_of}
use Rattle.wb_metamodel.specs.invariants.Tables.{LiteralPlaces, HasRow, feature_place, features_table}
use Rattle.wb_base.proofs.ListLemmas.{map-same}
use Rattle.wb_metamodel.proofs.ByName.{places_of, length-places, places-known, features-known, row-features, by-name}
use Rattle.wb_metamodel.proofs.tables.tables.Goals as goal

pub rows-requires-clause-places : goal.rows-requires-clause-places
rows-requires-clause-places c =
    let mm = c.args.elements.now in
    let fp = c.in_ok-feature_places.feature_places in
    let names = λ (name : List ℕ). c.in_ok-feature_names.ensures name ∙ ap (position (λ (one : Feature). same_name one.name name)) c.as_slice-2.ensures in
    let are : fp ≡ places_of mm =
    c.in_ok-feature_places.ensures ∙ ap (map (λ (one : Feature). unwrap_or (number_of c.in_ok-feature_names.feature_names one.name) 0)) c.as_slice-3.ensures
    ∙ map-same (λ (one : Feature). unwrap_or (number_of c.in_ok-feature_names.feature_names one.name) 0) (λ (one : Feature). unwrap_or (feature_place mm one.name) 0) mm.features (λ one. ap (λ o. unwrap_or o 0) (names one.name)) in
    subst (λ ps. All (λ k. k < length ps) ps) (sym c.as_slice-4.ensures) (places-known mm fp are)

pub rows-requires-clause-features : goal.rows-requires-clause-features
rows-requires-clause-features c = λ k own at.
    let mm = c.args.elements.now in
    let fp = c.in_ok-feature_places.feature_places in
    let names = λ (name : List ℕ). c.in_ok-feature_names.ensures name ∙ ap (position (λ (one : Feature). same_name one.name name)) c.as_slice-2.ensures in
    let are : fp ≡ places_of mm =
    c.in_ok-feature_places.ensures ∙ ap (map (λ (one : Feature). unwrap_or (number_of c.in_ok-feature_names.feature_names one.name) 0)) c.as_slice-3.ensures
    ∙ map-same (λ (one : Feature). unwrap_or (number_of c.in_ok-feature_names.feature_names one.name) 0) (λ (one : Feature). unwrap_or (feature_place mm one.name) 0) mm.features (λ one. ap (λ o. unwrap_or o 0) (names one.name)) in
    let size : length mm.features ≡ length c.as_slice-4.result.now = sym (ap length c.as_slice-4.ensures ∙ length-places mm fp are) in
    let table : c.as_slice-5.result.now ≡ features_table mm = c.as_slice-5.ensures ∙ c.in_ok-class_features.ensures in
    features-known mm k (length c.as_slice-4.result.now) own size (row-features mm c.as_slice-5.result.now k own table at)

pub returns : goal.returns
returns c =
    let mm = c.args.elements.now in
    let fp = c.in_ok-feature_places.feature_places in
    let fbn = c.in_ok-features_by_name.features_by_name in
    let names = λ (name : List ℕ). c.in_ok-feature_names.ensures name ∙ ap (position (λ (one : Feature). same_name one.name name)) c.as_slice-2.ensures in
    let are : fp ≡ places_of mm =
    c.in_ok-feature_places.ensures ∙ ap (map (λ (one : Feature). unwrap_or (number_of c.in_ok-feature_names.feature_names one.name) 0)) c.as_slice-3.ensures
    ∙ map-same (λ (one : Feature). unwrap_or (number_of c.in_ok-feature_names.feature_names one.name) 0) (λ (one : Feature). unwrap_or (feature_place mm one.name) 0) mm.features (λ one. ap (λ o. unwrap_or o 0) (names one.name)) in
    let features = c.class_features.view_is ∙ c.in_ok-class_features.ensures in
    let table : c.as_slice-5.result.now ≡ features_table mm = c.as_slice-5.ensures ∙ c.in_ok-class_features.ensures in
    let rows : AllZip (HasRow fp) fbn (features_table mm) = subst (λ t. AllZip (HasRow fp) fbn t) table (subst (λ ps. AllZip (HasRow ps) fbn c.as_slice-5.result.now) c.as_slice-4.ensures c.in_ok-features_by_name.ensures) in
    record {
      below = c.below.view_is ∙ c.requires.below;
      class_features = features;
      class_names = λ name. c.in_ok-of.ensures name ∙ ap (position (λ (one : Class). same_name one.name name)) c.as_slice-6.ensures;
      enum_names = λ name. c.in_ok-of-2.ensures name ∙ ap (position (λ (one : Enumeration). same_name one.name name)) c.as_slice-7.ensures;
      literal_names = subst (LiteralPlaces c.in_ok-literal_names.field-0) c.as_slice-8.ensures c.in_ok-literal_names.ensures;
      feature_names = names;
      feature_places = are;
      rows = subst (λ t. AllZip (HasRow fp) fbn t) (sym features) rows;
      features_by_name = by-name mm fbn fp are rows;
    }
