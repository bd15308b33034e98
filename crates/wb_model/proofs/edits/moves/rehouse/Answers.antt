use Rattle.std.proofs.Common.{◌∙◌, ap, sym, subst}
use Rattle.wb_metamodel.specs.WellFormed.{WellFormed}
use Rattle.wb_store.specs.declared.scalars.Scalar.TheVariants.{Object}
use Rattle.wb_store.specs.Contents.{Contents}
use Rattle.wb_store.specs.Relinking.{link, without_root}
use Rattle.wb_model.specs.Edits.{unlink}
use Rattle.wb_model.proofs.Comings.{known_after}
use Rattle.wb_model.proofs.MoveSteps.{holder-some, holder-none}
use Rattle.wb_model.proofs.Moving.{containment_known, rehoused_held, rehoused_root}
use Rattle.wb_model.proofs.Sound.{contains-parts}
use Rattle.wb_model.proofs.edits.moves.rehouse.Goals as goal
use Rattle.wb_store.proofs.Relinked.{metamodel-relink}

pub unlink-requires : goal.unlink-requires
unlink-requires c =
    let m = c.args.store.now in
    let place = c.in-Some.place in
    let held = contains-parts m place.0 place.1 c.args.o (holder-some m c.args.o place.0 place.1 (sym c.in-Some.ensures)) in
    known_after m c.put_ends.new.store place.1 (ap (λ (m : Contents). m.metamodel) c.in_ok-put_ends.ensures.ok ∙ metamodel-relink _ _ m) (containment_known m.metamodel place.1 held.0)

pub returns-in-Some-clause-ok : goal.returns-in-Some-clause-ok
returns-in-Some-clause-ok c =
    let m = c.args.store.now in
    let place = c.in-Some.place in
    let well = subst WellFormed c.metamodel.ensures c.well_formed-2.ensures in
    c.unlink.ensures
    ∙ ap (unlink (link place.0 place.1 (Object c.args.o))) c.in_ok-put_ends.ensures.ok
    ∙ rehoused_held m well c.requires.valid c.args.o c.args.p c.args.f place.0 place.1 (holder-some m c.args.o place.0 place.1 (sym c.in-Some.ensures)) c.requires.fresh

pub returns-in-None-clause-ok : goal.returns-in-None-clause-ok
returns-in-None-clause-ok c =
    let m = c.args.store.now in
    let well = subst WellFormed c.metamodel.ensures c.well_formed-2.ensures in
    c.drop_root.ensures
    ∙ ap (without_root c.args.o) c.in_ok-put_ends.ensures.ok
    ∙ rehoused_root m well c.requires.valid c.args.o c.args.p c.args.f (holder-none m c.args.o (sym c.in-None.ensures)) c.requires.fresh
