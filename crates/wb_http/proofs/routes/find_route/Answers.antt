use Rattle.wb_http.proofs.Targets.{text_routed, no_text}
use Rattle.wb_http.proofs.routes.find_route.Goals as goal

pub returns-in-Ok : goal.returns-in-Ok
returns-in-Ok c = text_routed c.args.method.now c.args.target.now c.in-Ok.text.now c.route_text.result c.in-Ok.ensures.cases.1 c.in-Ok.ensures.cases.0 c.route_text.ensures

pub returns-in-Err : goal.returns-in-Err
returns-in-Err c = no_text c.args.method.now c.args.target.now c.in-Err.ensures.cases.0
