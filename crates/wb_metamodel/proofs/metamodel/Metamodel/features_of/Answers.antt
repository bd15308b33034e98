use Rattle.std.proofs.Common.{◌≡◌, ◌<◌, length, get_or, subst, ap, ◌∙◌, arith}
use Rattle.wb_metamodel.specs.Metamodel as definition
use Rattle.wb_metamodel.proofs.TableLemmas.{length-features_table, features_read}
use Rattle.wb_metamodel.proofs.metamodel.Metamodel.features_of.Goals as goal

pub bounds-as_slice-c-inside : goal.bounds-as_slice-c-inside
bounds-as_slice-c-inside c =
    let n = ap length (c.as_slice.ensures ∙ c.self.invariant.tables.class_features) ∙ length-features_table c.self.inside.elements in
    let v = ap (λ (m : definition.Metamodel). length m.classes) c.self.view_is in
    omega arith

pub returns : goal.returns
returns c =
    let v = ap (λ (m : definition.Metamodel). length m.classes) c.self.view_is in
    let c_in : c.c.inside.0 < length c.self.inside.elements.classes = omega arith in
    let row = subst (λ t. c.index-as_slice-c.result ≡ get_or t c.c.inside.0 c.index-as_slice-c.result) (c.as_slice.ensures ∙ c.self.invariant.tables.class_features) c.index-as_slice-c.is in
    let same = ap (λ (m : definition.Metamodel). definition.features_of m c.c.inside.0) c.self.view_is in
    let c_is = ap (λ x. definition.features_of c.args.self.now x) c.c.view_is in
    c.as_slice-2.ensures ∙ features_read c.self.inside.elements c.c.inside.0 c.index-as_slice-c.result c_in row ∙ same ∙ c_is
