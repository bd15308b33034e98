-- Values for the variables of a tool's kind, in their order, are what a tool asks for.
use Rattle.std.proofs.Common.{◌≡◌, ℕ, List, [], drop, length, Option, Some, None, refl, sym, ap, subst}
use Rattle.std.specs.Prelude.{All, slice_get}
use Rattle.std.specs.List.{list_any, IsDistinct}
use Rattle.std.specs.Option.{option_map_or}
use Rattle.wb_base.specs.Names.{same_name}
use Rattle.wb_metamodel.specs.Metamodel.{Metamodel}
use Rattle.wb_aql_values.specs.Bounds.{IsBounded}
use Rattle.wb_aql_eval.specs.Outcomes.{Binds}
use Rattle.wb_aql_eval.specs.declared.env.Env.{Env}
use Rattle.wb_viewpoint.specs.declared.tools.Tool.{Tool}
use Rattle.wb_viewpoint.specs.declared.tools.ToolKind.{ToolKind}
use Rattle.wb_viewpoint.specs.declared.tools.ToolKind.TheVariants as k
use Rattle.wb_spec_check.specs.Checked.{Specification}
use Rattle.wb_spec_check.specs.Scopes.{tool_scope}
use Rattle.wb_tools.specs.Readiness.{variables_of}

-- the variables of a kind are apart
once_by_kind : (kind : ToolKind) → IsDistinct same_name (drop 1 (tool_scope kind))
unfolding tool_scope IsDistinct
once_by_kind k.NodeCreation = (tt, tt)
once_by_kind k.EdgeCreation = ((refl, tt), (tt, tt))
once_by_kind k.Delete = (tt, tt)
once_by_kind k.DirectEdit = ((refl, tt), (tt, tt))
once_by_kind k.Reconnect = ((refl, (refl, (refl, tt))), ((refl, (refl, tt)), ((refl, tt), (tt, tt))))
once_by_kind k.Drop = ((refl, (refl, tt)), ((refl, tt), (tt, tt)))

once_of : (tool : Option Tool) → IsDistinct same_name (option_map_or (λ (it : Tool). drop 1 (tool_scope it.kind)) tool [])
unfolding IsDistinct
once_of None = tt
once_of (Some tool) = once_by_kind tool.kind

pub binds_variables : (mm : Metamodel) (spec : Specification) (tool : ℕ) (env : Env) → env.names ≡ variables_of spec tool → length env.values ≡ length env.names → All (IsBounded mm) env.values → Binds mm (variables_of spec tool) env
binds_variables mm spec tool env are paired bounded = record {
  names = λ name. ap (λ (names : List (List ℕ)). list_any (same_name name) names) are;
  once = subst (IsDistinct same_name) (sym are) (once_of (slice_get spec.0.tools tool));
  paired = paired;
  bounded = bounded;
}
