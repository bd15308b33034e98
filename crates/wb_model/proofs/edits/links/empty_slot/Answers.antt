use Rattle.std.proofs.Common.{◌<◌, ◌∙◌, ap, sym, subst, length, List, []}
use Rattle.wb_metamodel.specs.Metamodel.{Metamodel}
use Rattle.wb_metamodel.specs.WellFormed.{WellFormed}
use Rattle.wb_store.specs.declared.scalars.Scalar.{Scalar}
use Rattle.wb_store.specs.Contents.{Contents}
use Rattle.wb_store.specs.Relinking.{is_at}
use Rattle.wb_store.specs.LinkSteps.{each_left, without_slot}
use Rattle.wb_model.proofs.EditSteps.{emptied-both}
use Rattle.wb_model.proofs.OtherEnds.{ends_of}
use Rattle.wb_model.proofs.edits.links.empty_slot.Goals as goal
use Rattle.wb_store.proofs.Relinked.{metamodel-relink}
use Rattle.wb_model.proofs.KeptLinks.{sound}

pub drop_other_ends-requires : goal.drop_other_ends-requires
drop_other_ends-requires c =
    subst (λ (metamodel : Metamodel). c.args.f < length metamodel.features) (sym (ap (λ (m : Contents). m.metamodel) c.take_values-values.ensures.left ∙ metamodel-relink (is_at c.args.o c.args.f) [] c.args.store.now)) c.requires.known

pub returns : goal.returns
returns c =
    let m = c.args.store.now in
    let o = c.args.o in
    let f = c.args.f in
    let well = subst WellFormed c.metamodel.ensures c.well_formed-2.ensures in
    let values = c.as_slice.ensures ∙ c.take_values-values.ensures.taken in
    c.drop_other_ends.ensures
    ∙ ap (λ (vs : List Scalar). each_left (ends_of c.take_values-values.new.self.metamodel o f vs) c.take_values-values.new.self) values
    ∙ (λ i. each_left (ends_of (c.take_values-values.ensures.left i).metamodel o f (Rattle.wb_store.specs.Contents.slot m o f)) (c.take_values-values.ensures.left i))
    ∙ ap (λ (metamodel : Metamodel). each_left (ends_of metamodel o f (Rattle.wb_store.specs.Contents.slot m o f)) (without_slot o f m)) (metamodel-relink (is_at o f) [] m)
    ∙ sym (emptied-both m well (sound m c.requires.valid) o f)
