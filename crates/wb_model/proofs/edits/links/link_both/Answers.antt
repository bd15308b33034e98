use Rattle.std.proofs.Common.{◌∙◌, ap, subst}
use Rattle.wb_metamodel.specs.WellFormed.{WellFormed}
use Rattle.wb_store.specs.Contents.{Contents}
use Rattle.wb_model.proofs.Comings.{known_after, both_steps, up_both}
use Rattle.wb_model.proofs.edits.links.link_both.Goals as goal
use Rattle.wb_store.proofs.Relinked.{metamodel-relink}
use Rattle.wb_model.proofs.KeptLinks.{sound}

pub unlink_given-requires : goal.unlink_given-requires
unlink_given-requires c =
    known_after c.args.store.now c.put_ends.new.store c.args.f (ap (λ (m : Contents). m.metamodel) c.in_ok-put_ends.ensures.ok ∙ metamodel-relink _ _ c.args.store.now) c.requires.known

pub unlink_given-requires-2 : goal.unlink_given-requires-2
unlink_given-requires-2 c =
    known_after c.args.store.now c.unlink_given.new.store c.args.g
    (ap (λ (m : Contents). m.metamodel) c.unlink_given.ensures ∙ metamodel-relink _ _ c.put_ends.new.store ∙ ap (λ (m : Contents). m.metamodel) c.in_ok-put_ends.ensures.ok ∙ metamodel-relink _ _ c.args.store.now)
    c.requires.known_back

pub returns-clause-ok : goal.returns-clause-ok
returns-clause-ok c =
    let m = c.args.store.now in
    let well = subst WellFormed c.metamodel.ensures c.well_formed-2.ensures in
    both_steps m c.put_ends.new.store c.unlink_given.new.store c.unlink_given-2.new.store c.args.o c.args.f c.args.p c.args.g
    c.gives_place-first.result c.gives_place-second.result c.gives_place-first.ensures c.gives_place-second.ensures
    c.in_ok-put_ends.ensures.ok c.unlink_given.ensures c.unlink_given-2.ensures
    ∙ up_both m well (sound m c.requires.valid) c.args.o c.args.f c.args.p c.args.g c.requires.opposed c.requires.fresh
