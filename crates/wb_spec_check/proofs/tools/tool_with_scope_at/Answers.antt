use Rattle.std.proofs.Common.{map, take, sym}
use Rattle.std.proofs.lemmas.List.{take-map}
use Rattle.wb_viewpoint.specs.declared.tools.Tool.{Tool}
use Rattle.wb_spec_check.specs.Tools.{tool_at}
use Rattle.wb_spec_check.proofs.Joined.{joined3}
use Rattle.wb_spec_check.proofs.Steps.{place_member}
use Rattle.wb_spec_check.proofs.tools.tool_with_scope_at.Goals as goal

pub returns : goal.returns
unfolding tool_at
returns c =
    let tools = c.args.names.now.1.tools in
    let titled = rw c.as_str.ensures.same at c.in_ok-known.ensures in
    joined3 _ _ (titled (map (λ (it : Tool). it.name) tools) (map (λ (it : Tool). it.name) (take c.args.number tools)) c.requires.first (sym (take-map (λ (it : Tool). it.name) c.args.number tools)))
    (rw (place_member, c.metamodel.ensures, c.requires.scope) at c.in_ok-precondition.ensures)
    (rw (place_member, c.as_slice-operations.ensures, c.requires.scope) at c.in_ok-rows.ensures) c.tool_with.ensures
