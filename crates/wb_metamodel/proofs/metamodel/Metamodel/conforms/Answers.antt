use Rattle.std.proofs.Common.{◌≡◌, ◌<◌, length, get_or, subst, ap, ◌∙◌, sym, arith, false}
use Rattle.std.proofs.lemmas.Bool.{eq-eqb}
use Rattle.wb_metamodel.specs.Metamodel as definition
use Rattle.wb_metamodel.proofs.Paths.{conforms-path, path-conforms}
use Rattle.wb_metamodel.proofs.TableLemmas.{length-below_table, length-below_row, below_read, conforms-same, conforms-apart}
use Rattle.wb_metamodel.proofs.metamodel.Metamodel.conforms.Goals as goal

pub bounds-as_slice-a-inside : goal.bounds-as_slice-a-inside
bounds-as_slice-a-inside c =
    let n = ap length (c.as_slice.ensures ∙ c.self.invariant.tables.below) ∙ length-below_table c.self.inside.elements in
    let v = ap (λ (m : definition.Metamodel). length m.classes) c.self.view_is in
    omega arith

pub bounds-as_slice-b-inside : goal.bounds-as_slice-b-inside
bounds-as_slice-b-inside c =
    let v = ap (λ (m : definition.Metamodel). length m.classes) c.self.view_is in
    let a_in : c.a.inside.0 < length c.self.inside.elements.classes = omega arith in
    let row = subst (λ t. c.index-as_slice-a.result ≡ get_or t c.a.inside.0 c.index-as_slice-a.result) (c.as_slice.ensures ∙ c.self.invariant.tables.below) c.index-as_slice-a.is in
    let n = ap length c.as_slice-else-a-b.ensures ∙ length-below_row c.self.inside.elements c.a.inside.0 c.index-as_slice-a.result a_in row in
    omega arith

pub returns-then-a-b-clause-value : goal.returns-then-a-b-clause-value
returns-then-a-b-clause-value c = eq-eqb c.a.inside.0 c.b.inside.0 c.if-a-b.true ∙ sym (conforms-same c.args.self.now c.args.a c.args.b (sym c.a.view_is ∙ c.if-a-b.true ∙ c.b.view_is))

pub returns-then-a-b-clause-path : goal.returns-then-a-b-clause-path
returns-then-a-b-clause-path c =
    let value = returns-then-a-b-clause-value c in (
      λ h. conforms-path c.args.self.now c.args.a c.args.b (sym value ∙ h),
      λ p. value ∙ path-conforms c.args.self.now c.args.a c.args.b p,
    )

-- what is read is the test
pub returns-else-a-b-clause-value : goal.returns-else-a-b-clause-value
returns-else-a-b-clause-value c =
    let mm = c.self.inside.elements in
    let v = ap (λ (m : definition.Metamodel). length m.classes) c.self.view_is in
    let a_in : c.a.inside.0 < length mm.classes = omega arith in
    let b_in : c.b.inside.0 < length mm.classes = omega arith in
    let row = subst (λ t. c.index-as_slice-a.result ≡ get_or t c.a.inside.0 c.index-as_slice-a.result) (c.as_slice.ensures ∙ c.self.invariant.tables.below) c.index-as_slice-a.is in
    let read = ap (λ r. get_or r c.b.inside.0 false) c.as_slice-else-a-b.ensures ∙ below_read mm c.a.inside.0 c.b.inside.0 c.index-as_slice-a.result false a_in b_in row in
    let same = ap (λ (m : definition.Metamodel). definition.conforms m c.a.inside.0 c.b.inside.0) c.self.view_is in
    let a_is = ap (λ a. definition.conforms c.args.self.now a c.b.inside.0) c.a.view_is in
    let b_is = ap (λ b. definition.conforms c.args.self.now c.args.a b) c.b.view_is in
    read ∙ sym (conforms-apart mm c.a.inside.0 c.b.inside.0 c.if-a-b.false) ∙ same ∙ a_is ∙ b_is

pub returns-else-a-b-clause-path : goal.returns-else-a-b-clause-path
returns-else-a-b-clause-path c =
    let value = returns-else-a-b-clause-value c in (
      λ h. conforms-path c.args.self.now c.args.a c.args.b (sym value ∙ h),
      λ p. value ∙ path-conforms c.args.self.now c.args.a c.args.b p,
    )
