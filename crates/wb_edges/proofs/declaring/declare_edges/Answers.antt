use Rattle.std.proofs.Common.{◌∙◌, arith}
use Rattle.wb_edges.specs.Edges.{scene_of}
use Rattle.wb_edges.proofs.Ending.{ended, ended_edges, ended_refused, ended_short}
use Rattle.wb_edges.proofs.declaring.declare_edges.Goals as goal

pub returns-in_err-declare_all-clause-asks : goal.returns-in_err-declare_all-clause-asks
returns-in_err-declare_all-clause-asks g c =
    ended_refused (scene_of c.args.spec.now c.args.model.now c.args.nodes.now) (g.A.Answers.seen c.args.answers.now) _ c.new-edges.result.keys c.new-edges.ensures.empty (omega arith) _ _ c.from_residual.ensures c.in_err-declare_all.ensures

pub returns-in_err-in_order-clause-asks : goal.returns-in_err-in_order-clause-asks
returns-in_err-in_order-clause-asks g c =
    ended_short (scene_of c.args.spec.now c.args.model.now c.args.nodes.now) (g.A.Answers.seen c.args.answers.now) _ c.new-edges.result.keys c.new-edges.ensures.empty (omega arith) _ _ c.from_residual-in_err-in_order.ensures c.in_ok-declare_all.ensures

pub returns-clause-edges : goal.returns-clause-edges
returns-clause-edges g c =
    c.in_ok-in_order.ensures
    ∙ ended_edges (scene_of c.args.spec.now c.args.model.now c.args.nodes.now) (g.A.Answers.seen c.args.answers.now) _ c.new-edges.result.keys c.new-edges.ensures.empty (omega arith) _ c.in_ok-declare_all.ensures

pub returns-clause-asks : goal.returns-clause-asks
returns-clause-asks g c =
    ended (scene_of c.args.spec.now c.args.model.now c.args.nodes.now) (g.A.Answers.seen c.args.answers.now) _ c.new-edges.result.keys c.new-edges.ensures.empty (omega arith) _ c.in_ok-declare_all.ensures
