use Rattle.std.proofs.Common.{◌∙◌, ap, Some}
use Rattle.wb_http.proofs.Targets.{element_is}
use Rattle.wb_http.proofs.routes.route_to.Goals as goal

pub key_of-requires : goal.key_of-requires
key_of-requires c = element_is c.args.target.now (c.requires ∙ ap Some c.in-Element.is)
