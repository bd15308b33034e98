use Rattle.std.proofs.Common.{true}
use Rattle.wb_store.specs.Relinking.{link}
use Rattle.wb_model.specs.Edits.{refusal_of_link, link_up}
use Rattle.wb_model.proofs.EditedLemmas.{told_on, done, accepted_value}
use Rattle.wb_model.proofs.edits.features.add.Goals as goal

pub returns-in_err-checked_link : goal.returns-in_err-checked_link
returns-in_err-checked_link c =
    let l = link c.args.o c.args.f c.args.value in
    told_on (refusal_of_link true c.args.store.now l) c.from_residual.result _ (link_up l c.args.store.now) c.args.store.now c.from_residual.ensures.1 c.in_err-checked_link.ensures

pub link_up-requires-clause-of_feature : goal.link_up-requires-clause-of_feature
link_up-requires-clause-of_feature c = accepted_value true c.args.store.now (link c.args.o c.args.f c.args.value) c.in_ok-checked_link.ensures

pub returns : goal.returns
returns c =
    let l = link c.args.o c.args.f c.args.value in
    done (refusal_of_link true c.args.store.now l) (link_up l c.args.store.now) c.link_up.new.store c.in_ok-checked_link.ensures c.in_ok-link_up.ensures.ok
