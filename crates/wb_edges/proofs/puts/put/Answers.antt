use Rattle.std.proofs.Common.{◌∙◌, arith, ap, length}
use Rattle.wb_edges.proofs.Putting.{insert_is_put}
use Rattle.wb_edges.proofs.puts.put.Goals as goal

pub returns-then-len-room : goal.returns-then-len-room
returns-then-len-room c =
    let now = ap length (c.in_ok-insert_full.ensures.keys ∙ insert_is_put c.args.edges.now.keys c.args.edge) in
    λ _. omega (arith, now)

pub returns : goal.returns
returns c = (c.in_ok-insert_full.ensures.keys ∙ insert_is_put c.args.edges.now.keys c.args.edge, omega arith)
