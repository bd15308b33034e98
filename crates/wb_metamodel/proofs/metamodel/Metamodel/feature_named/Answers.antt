use Rattle.std.proofs.Common.{◌≡◌, length, get_or, subst, sym, ap, ◌∙◌, arith}
use Rattle.std.proofs.lemmas.Option.{slice_get_within, get_or_from_slice_get}
use Rattle.wb_metamodel.specs.Metamodel as definition
use Rattle.wb_metamodel.proofs.Ranges.{feature_known}
use Rattle.wb_metamodel.proofs.TableLemmas.{entry-row, entry-cell, feature_named-unknown}
use Rattle.wb_metamodel.proofs.metamodel.Metamodel.feature_named.Goals as goal

pub bounds-as_slice-class-inside : goal.bounds-as_slice-class-inside
bounds-as_slice-class-inside c =
    let v = ap (λ (m : definition.Metamodel). length m.classes) c.self.view_is in
    let place = sym (c.self.invariant.tables.feature_names c.args.name.now) ∙ sym c.in-Some.ensures in
    let found = c.self.invariant.tables.features_by_name c.class.inside.0 c.in-Some.place c.args.name.now (omega arith) place in
    let within = entry-row c.self.inside.tables.features_by_name c.class.inside.0 c.in-Some.place _ found in
    let same = ap length c.as_slice.ensures in
    omega arith

pub bounds-as_slice-place : goal.bounds-as_slice-place
bounds-as_slice-place c =
    let v = ap (λ (m : definition.Metamodel). length m.classes) c.self.view_is in
    let place = sym (c.self.invariant.tables.feature_names c.args.name.now) ∙ sym c.in-Some.ensures in
    let found = c.self.invariant.tables.features_by_name c.class.inside.0 c.in-Some.place c.args.name.now (omega arith) place in
    let row = subst (λ t. c.index-as_slice-class.result ≡ get_or t c.class.inside.0 c.index-as_slice-class.result) c.as_slice.ensures c.index-as_slice-class.is in
    let cell = entry-cell c.self.inside.tables.features_by_name c.class.inside.0 c.in-Some.place _ c.index-as_slice-class.result found row in
    let within = slice_get_within c.index-as_slice-class.result c.in-Some.place _ cell in
    let same = ap length c.as_slice-in-Some.ensures in
    omega arith

pub returns-in-None-clause-named : goal.returns-in-None-clause-named
returns-in-None-clause-named c =
    let place = sym (c.self.invariant.tables.feature_names c.args.name.now) ∙ sym c.in-None.ensures in
    let same = ap (λ (m : definition.Metamodel). definition.feature_named m c.args.class c.args.name.now) c.self.view_is in
    sym (feature_named-unknown c.self.inside.elements c.args.class c.args.name.now place) ∙ same

pub returns-in-Some-clause-named : goal.returns-in-Some-clause-named
returns-in-Some-clause-named c =
    let v = ap (λ (m : definition.Metamodel). length m.classes) c.self.view_is in
    let place = sym (c.self.invariant.tables.feature_names c.args.name.now) ∙ sym c.in-Some.ensures in
    let found = c.self.invariant.tables.features_by_name c.class.inside.0 c.in-Some.place c.args.name.now (omega arith) place in
    let row = subst (λ t. c.index-as_slice-class.result ≡ get_or t c.class.inside.0 c.index-as_slice-class.result) c.as_slice.ensures c.index-as_slice-class.is in
    let cell = entry-cell c.self.inside.tables.features_by_name c.class.inside.0 c.in-Some.place _ c.index-as_slice-class.result found row in
    let read = subst (λ t. c.index-as_slice-place.result ≡ get_or t c.in-Some.place c.index-as_slice-place.result) c.as_slice-in-Some.ensures c.index-as_slice-place.is in
    let is = read ∙ get_or_from_slice_get c.index-as_slice-class.result c.in-Some.place _ c.index-as_slice-place.result cell in
    let class_is = ap (λ k. definition.feature_named c.self.inside.elements k c.args.name.now) c.class.view_is in
    let same = ap (λ (m : definition.Metamodel). definition.feature_named m c.args.class c.args.name.now) c.self.view_is in
    is ∙ class_is ∙ same

pub returns-in-Some-clause-known : goal.returns-in-Some-clause-known
returns-in-Some-clause-known c = feature_known c.args.self.now c.args.class c.args.name.now c.index-as_slice-place.result (returns-in-Some-clause-named c)
