use Rattle.std.proofs.Common.{◌≡◌, ◌≤◌, ◌<◌, ◌∙◌, List, [], ℕ, length, get_or, ap, sym, arith}
use Rattle.std.specs.List.{sum_by, slice_get}
use Rattle.std.specs.Option.{option_map_or}
use Rattle.std.proofs.lemmas.List.Sums.{get_or-le-sum_by}
use Rattle.std.proofs.lemmas.Option.{slice_get-get_or}
use Rattle.wb_ecore.specs.declared.classes.Enumeration.{Enumeration}
use Rattle.wb_metamodel.specs.Metamodel as definition
use Rattle.wb_metamodel.specs.WellFormed.{IsWellFormed}
use Rattle.wb_metamodel.proofs.metamodel.Metamodel.literal_count.Goals as goal

within_limits : (xs ys : List Enumeration) (i : ℕ) (x : Enumeration) → ys ≡ xs → i < length ys → sum_by (λ (e : Enumeration). length e.literals) xs ≤ 10000 → length (get_or ys i x).literals ≤ 10000
within_limits xs ys i x s h l =
    let b = get_or-le-sum_by (λ (e : Enumeration). length e.literals) ys i x h in
    let t = ap (sum_by (λ (e : Enumeration). length e.literals)) s in
    omega arith

pub overflow_cast-result : goal.overflow_cast-result
unfolding IsWellFormed
overflow_cast-result c =
    let v = ap (λ (m : definition.Metamodel). length m.enumerations) c.self.view_is in
    let s = ap length c.as_slice.ensures in
    let within = within_limits c.self.inside.elements.enumerations c.as_slice.result.now c.e.inside.0 c.index-as_slice-e.result c.as_slice.ensures (omega arith) c.self.invariant.well_formed.few_literals in
    omega arith

pub returns : goal.returns
returns c =
    let v = ap (λ (m : definition.Metamodel). length m.enumerations) c.self.view_is in
    let s = ap length c.as_slice.ensures in
    let read : slice_get c.as_slice.result.now c.e.inside.0 ≡ _ = slice_get-get_or c.as_slice.result.now c.e.inside.0 c.index-as_slice-e.result (omega arith) in
    let at : slice_get c.args.self.now.enumerations c.args.e ≡ _ =
    sym (ap (λ (m : definition.Metamodel). slice_get m.enumerations c.args.e) c.self.view_is) ∙ sym (ap (λ xs. slice_get xs c.args.e) c.as_slice.ensures) ∙ sym (ap (λ e. slice_get c.as_slice.result.now e) c.e.view_is) ∙ read in
    c.len.ensures ∙ sym (ap (λ o. length (option_map_or (λ (x : Enumeration). x.literals) o [])) at)
