use Rattle.std.proofs.Common.{◌≡◌, ◌∙◌, sym, subst, Ok}
use Rattle.wb_base.specs.Answering.{IsRefusal}
use Rattle.wb_http.specs.Routes.{refusal_of}
use Rattle.wb_serving.specs.Turns.{route_for}
use Rattle.wb_serving.specs.Responses.{RepliesAt}
use Rattle.wb_serving.specs.Replies.{RefusesRoute}
use Rattle.wb_serving.proofs.Replying.{same_route, by_route, by_refusal}
use Rattle.wb_serving.proofs.answering.answer_request.Goals as goal

pub returns-in-Ok-clause-replies : goal.returns-in-Ok-clause-replies
returns-in-Ok-clause-replies g c =
    let law = g.M.Machine.law in
    let old = g.M.Machine.told c.args.machine.now in
    let new = g.M.Machine.told c.answer_route.new.machine in
    let q = c.args.request.now in
    let route : route_for q ≡ Ok c.in-Ok.route = sym (same_route law q c.args.is_last _ _ c.as_slice.ensures.same c.as_slice-2.ensures) ∙ c.in-Ok.ensures in
    let at : RepliesAt law old new q.body c.closes_after-closes.result c.in-Ok.route c.answer_route.result = subst (λ body. RepliesAt law old new body c.closes_after-closes.result c.in-Ok.route c.answer_route.result) c.as_slice-in-Ok.ensures c.answer_route.ensures.replies in
    by_route law q c.args.is_last old new c.in-Ok.route c.answer_route.result route c.answer_route.ensures.keeps.later (subst (λ b. RepliesAt law old new q.body b c.in-Ok.route c.answer_route.result) c.closes_after-closes.ensures at)

pub returns-in-Err-clause-replies : goal.returns-in-Err-clause-replies
returns-in-Err-clause-replies g c =
    let q = c.args.request.now in
    let same = same_route g.M.Machine.law q c.args.is_last _ _ c.as_slice.ensures.same c.as_slice-2.ensures in
    by_refusal g.M.Machine.law q c.args.is_last (g.M.Machine.told c.args.machine.now) c.in-Err.refusal c.refuse_route.result (subst (λ r. IsRefusal (refusal_of c.in-Err.refusal) r) same c.in-Err.ensures) (subst (λ b. RefusesRoute c.in-Err.refusal b c.refuse_route.result) c.closes_after-closes.ensures c.refuse_route.ensures)
