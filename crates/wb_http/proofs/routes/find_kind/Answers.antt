use Rattle.std.proofs.Common.{option_map, ap, ◌∙◌, arith}
use Rattle.matchit.specs.Seek.{first}
use Rattle.wb_http.specs.Routes.{value_of}
use Rattle.wb_http.proofs.Table.{first-table, AllBytes-from_fits}
use Rattle.wb_http.proofs.routes.find_kind.Goals as goal

pub returns : goal.returns
returns c =
    let t = first-table c.args.target.now (AllBytes-from_fits c.args.target.now (λ i. omega (arith, c.type_inv.target i))) in
    c.kind_at.ensures ∙ (ap (λ rows. option_map value_of (first rows c.args.target.now)) c.in_ok-router.ensures ∙ t)
