use Rattle.std.proofs.Common.{Ok, sym, ap, ◌∙◌}
use Rattle.wb_aql_services.proofs.FirstLooks.{keep_none, keep_yes, keep_no}
use Rattle.wb_aql_services.proofs.types.keep.Goals as goal

pub returns-in_default : goal.returns-in_default
returns-in_default c = keep_none c.args.model.now c.args.model.now.metamodel c.args.asked.now c.args.kept.now c.args.x.now c.args.reads.now (sym c.object_in.ensures ∙ c.in_default.is)

pub returns-in_ok-push : goal.returns-in_ok-push
returns-in_ok-push c =
    keep_yes c.args.model.now c.args.model.now.metamodel c.args.asked.now c.args.kept.now c.args.x.now c.args.reads.now c.in-Some.o c.look_whether_of.new.reads
    (sym c.in-Some.ensures) (sym c.in_ok-look_whether_of.ensures.value ∙ c.if-branch.true) c.in_ok-look_whether_of.ensures.read
    ∙ ap (λ ys. record { gave = Ok ys; reads = c.look_whether_of.new.reads }) (sym c.in_ok-push.ensures.ok)

pub returns-else-branch : goal.returns-else-branch
returns-else-branch c =
    keep_no c.args.model.now c.args.model.now.metamodel c.args.asked.now c.args.kept.now c.args.x.now c.args.reads.now c.in-Some.o c.look_whether_of.new.reads
    (sym c.in-Some.ensures) (sym c.in_ok-look_whether_of.ensures.value ∙ c.if-branch.false) c.in_ok-look_whether_of.ensures.read
