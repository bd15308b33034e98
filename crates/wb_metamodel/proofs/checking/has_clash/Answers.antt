use Rattle.std.proofs.Common.{◌≡◌, ◌<◌, length, get_or, subst, sym, ap, ◌∙◌, arith}
use Rattle.std.specs.Prelude.{All}
use Rattle.std.specs.List.{list_any}
use Rattle.wb_metamodel.specs.Metamodel.{features_of}
use Rattle.wb_metamodel.specs.invariants.Tables.{is_other, HasRow}
use Rattle.wb_base.proofs.Zips.{zip-length}
use Rattle.wb_metamodel.proofs.TableLemmas.{length-features_table, features_read}
use Rattle.wb_metamodel.proofs.ByName.{clash-same, length-places, places-known, features-known, reads-names, row-length}
use Rattle.wb_metamodel.proofs.checking.has_clash.Goals as goal

pub bounds-as_slice-class : goal.bounds-as_slice-class
bounds-as_slice-class c =
    let t = c.requires.tables in
    let n = zip-length (HasRow c.args.tables.now.feature_places) c.args.tables.now.features_by_name c.args.tables.now.class_features t.rows in
    let m = ap length t.class_features ∙ length-features_table c.args.elements.now in
    let s = ap length c.as_slice.ensures in
    omega arith

pub offset_bounds-as_slice-class : goal.offset_bounds-as_slice-class
offset_bounds-as_slice-class c =
    let t = c.requires.tables in
    let n = zip-length (HasRow c.args.tables.now.feature_places) c.args.tables.now.features_by_name c.args.tables.now.class_features t.rows in
    let m = ap length t.class_features ∙ length-features_table c.args.elements.now in
    let s = ap length c.as_slice.ensures in
    omega arith

pub bounds-as_slice-class-2 : goal.bounds-as_slice-class-2
bounds-as_slice-class-2 c =
    let m = ap length c.requires.tables.class_features ∙ length-features_table c.args.elements.now in
    let s = ap length c.as_slice-3.ensures in
    omega arith

pub offset_bounds-as_slice-class-2 : goal.offset_bounds-as_slice-class-2
offset_bounds-as_slice-class-2 c =
    let m = ap length c.requires.tables.class_features ∙ length-features_table c.args.elements.now in
    let s = ap length c.as_slice-3.ensures in
    omega arith

pub has_other-requires-clause-features : goal.has_other-requires-clause-features
has_other-requires-clause-features c =
    let mm = c.args.elements.now in
    let t = c.requires.tables in
    let k = c.args.class in
    let row = c.index-as_slice-class-2.result in
    let at = subst (λ rows. row ≡ get_or rows k row) (c.as_slice-3.ensures ∙ t.class_features) c.index-as_slice-class-2.is in
    let own : c.as_slice-4.result.now ≡ features_of mm k = c.as_slice-4.ensures ∙ features_read mm k row c.requires.class at in
    let size = sym (ap length c.as_slice-2.ensures ∙ length-places mm c.args.tables.now.feature_places t.feature_places) in
    features-known mm k (length c.as_slice-2.result.now) c.as_slice-4.result.now size own

pub has_other-requires-clause-places : goal.has_other-requires-clause-places
has_other-requires-clause-places c =
    let mm = c.args.elements.now in
    let t = c.requires.tables in
    let k = c.args.class in
    let row = c.index-as_slice-class.result in
    let at = subst (λ rows. row ≡ get_or rows k row) c.as_slice.ensures c.index-as_slice-class.is in
    let size = ap length c.as_slice-row.ensures ∙ row-length mm c.args.tables.now.features_by_name c.args.tables.now.feature_places c.args.tables.now.class_features k row t.rows t.class_features c.requires.class at in
    let known = places-known mm c.args.tables.now.feature_places t.feature_places in
    subst (λ places. All (λ place. place < length c.as_slice-row.result.now) places) (sym c.as_slice-2.ensures)
    (λ j d h. let f = known j d h in omega arith)

pub returns : goal.returns
returns c =
    let mm = c.args.elements.now in
    let t = c.requires.tables in
    let k = c.args.class in
    let places = c.args.tables.now.feature_places in
    let row = c.index-as_slice-class.result in
    let at = subst (λ rows. row ≡ get_or rows k row) c.as_slice.ensures c.index-as_slice-class.is in
    let own_row = c.index-as_slice-class-2.result in
    let own_at = subst (λ rows. own_row ≡ get_or rows k own_row) (c.as_slice-3.ensures ∙ t.class_features) c.index-as_slice-class-2.is in
    let own : c.as_slice-4.result.now ≡ features_of mm k = c.as_slice-4.ensures ∙ features_read mm k own_row c.requires.class own_at in
    c.has_other.ensures
    ∙ ap (λ r. list_any (is_other r c.as_slice-2.result.now) c.as_slice-4.result.now) c.as_slice-row.ensures
    ∙ ap (λ ps. list_any (is_other row ps) c.as_slice-4.result.now) c.as_slice-2.ensures
    ∙ ap (list_any (is_other row places)) own
    ∙ clash-same mm k row places (reads-names mm c.args.tables.now.features_by_name places k row t.feature_places t.features_by_name c.requires.class at)
