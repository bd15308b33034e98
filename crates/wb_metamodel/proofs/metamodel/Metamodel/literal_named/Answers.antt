use Rattle.std.proofs.Common.{◌≡◌, ◌<◌, ℕ, List, [], ◌∷◌, zero, suc, Some, length, sym, ap, ◌∙◌, refl, arith}
use Rattle.std.specs.List.{slice_get, position}
use Rattle.std.specs.Option.{option_and_then}
use Rattle.std.proofs.lemmas.Option.{slice_get_read}
use Rattle.wb_ecore.specs.declared.classes.Enumeration.{Enumeration}
use Rattle.wb_metamodel.specs.Metamodel as definition
use Rattle.wb_metamodel.specs.invariants.Tables.{PlacesOf}
use Rattle.wb_base.proofs.ListLemmas.{present}
use Rattle.wb_metamodel.proofs.Ranges.{literal_known}
use Rattle.wb_base.proofs.Zips.{zip-length, zip-at}
use Rattle.wb_metamodel.proofs.metamodel.Metamodel.literal_named.Goals as goal

pub bounds-as_slice-e-inside : goal.bounds-as_slice-e-inside
bounds-as_slice-e-inside c =
    let v = ap (λ (m : definition.Metamodel). length m.enumerations) c.self.view_is in
    let n = zip-length (λ names (enumeration : Enumeration). PlacesOf names enumeration.literals) c.self.inside.tables.literal_names c.self.inside.elements.enumerations c.self.invariant.tables.literal_names in
    let s = ap length c.as_slice.ensures in
    omega arith

pub returns-clause-named : goal.returns-clause-named
returns-clause-named c =
    let mm = c.self.inside.elements in
    let e = c.e.inside.0 in
    let v = ap (λ (m : definition.Metamodel). length m.enumerations) c.self.view_is in
    let n = zip-length (λ names (enumeration : Enumeration). PlacesOf names enumeration.literals) c.self.inside.tables.literal_names mm.enumerations c.self.invariant.tables.literal_names in
    let s = ap length c.as_slice.ensures in
    let found = present mm.enumerations e (omega arith) in
    let table : slice_get c.self.inside.tables.literal_names e ≡ _ = sym (ap (λ t. slice_get t e) c.as_slice.ensures) ∙ slice_get_read c.as_slice.result.now _ e c.index-as_slice-e.result refl (omega arith) c.index-as_slice-e.is in
    let places = zip-at (λ names (enumeration : Enumeration). PlacesOf names enumeration.literals) c.self.inside.tables.literal_names mm.enumerations e c.index-as_slice-e.result found.0 c.self.invariant.tables.literal_names table found.1 c.args.name.now in
    let here = ap (λ o. option_and_then (λ (enumeration : Enumeration). position (λ literal. definition.same_name literal c.args.name.now) enumeration.literals) o) found.1 in
    let e_is = ap (λ k. definition.literal_named mm k c.args.name.now) c.e.view_is in
    let same = ap (λ (m : definition.Metamodel). definition.literal_named m c.args.e c.args.name.now) c.self.view_is in
    let g = c.get.ensures in
    let r = c.index-as_slice-e.is in
    cc

pub returns-clause-known : goal.returns-clause-known
returns-clause-known c = literal_known c.args.self.now c.args.e c.args.name.now c.get.result (returns-clause-named c)
