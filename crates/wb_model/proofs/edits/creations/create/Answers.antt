use Rattle.wb_model.specs.Edits.{refusal_of_create, created}
use Rattle.wb_model.proofs.EditedLemmas.{told_on, done}
use Rattle.wb_model.proofs.edits.creations.create.Goals as goal

pub returns-in_err-checked_create : goal.returns-in_err-checked_create
returns-in_err-checked_create c =
    let m = c.args.store.now in
    told_on (refusal_of_create m c.args.class c.args.place) c.from_residual.result _ (created c.args.class c.args.place m) m c.from_residual.ensures.1 c.in_err-checked_create.ensures

pub returns : goal.returns
returns c =
    let m = c.args.store.now in
    done (refusal_of_create m c.args.class c.args.place) (created c.args.class c.args.place m) c.create_at.new.store c.in_ok-checked_create.ensures c.in_ok-create_at.ensures.ok
