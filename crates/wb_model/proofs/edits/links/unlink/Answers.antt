use Rattle.std.proofs.Common.{◌<◌, ◌∙◌, ap, sym, subst, length, []}
use Rattle.wb_metamodel.specs.Metamodel.{Metamodel}
use Rattle.wb_metamodel.specs.WellFormed.{WellFormed}
use Rattle.wb_store.specs.Contents.{Contents}
use Rattle.wb_store.specs.Relinking.{link, other_end, same_link}
use Rattle.wb_store.specs.LinkSteps.{each_left, without_link}
use Rattle.wb_model.proofs.Comings.{unlink_steps}
use Rattle.wb_model.proofs.edits.links.unlink.Goals as goal
use Rattle.wb_store.proofs.Relinked.{metamodel-relink}

pub drop_other_end-requires : goal.drop_other_end-requires
drop_other_end-requires c =
    let l = link c.args.o c.args.f c.args.value.now in
    subst (λ (metamodel : Metamodel). c.args.f < length metamodel.features) (sym (ap (λ (m : Contents). m.metamodel) c.drop_value.ensures ∙ metamodel-relink (same_link l) [] c.args.store.now)) c.requires

pub returns : goal.returns
returns c =
    let l = link c.args.o c.args.f c.args.value.now in
    let well = subst WellFormed c.metamodel.ensures c.well_formed-2.ensures in
    c.drop_other_end.ensures
    ∙ (λ i. each_left (other_end (c.drop_value.ensures i).metamodel l) (c.drop_value.ensures i))
    ∙ ap (λ (metamodel : Metamodel). each_left (other_end metamodel l) (without_link l c.args.store.now)) (metamodel-relink (same_link l) [] c.args.store.now)
    ∙ unlink_steps c.args.store.now well l
