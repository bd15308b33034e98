-- A viewpoint has few tools, and the variables of a kind bind the scope of a tool of that kind.
use Rattle.std.proofs.Common.{◌≡◌, ◌≤◌, ℕ, true, [], drop, length, Option, Some, None, sym, ap, ◌∙◌}
use Rattle.std.specs.Option.{option_map_or}
use Rattle.std.specs.Prelude.{option_map}
use Rattle.std.proofs.lemmas.Bool.{and_parts, leb-true}
use Rattle.wb_metamodel.specs.Metamodel.{Metamodel}
use Rattle.wb_aql_eval.specs.Outcomes.{Binds}
use Rattle.wb_aql_eval.specs.declared.env.Env.{Env}
use Rattle.wb_viewpoint.specs.Limits.{is_small}
use Rattle.wb_viewpoint.specs.declared.content.Content.{Content}
use Rattle.wb_viewpoint.specs.declared.tools.Tool.{Tool}
use Rattle.wb_viewpoint.specs.declared.tools.ToolKind.{ToolKind}
use Rattle.wb_spec_check.specs.Checked.{Specification}
use Rattle.wb_spec_check.specs.Scopes.{tool_scope}
use Rattle.wb_tools.specs.Readiness.{variables_of}
use Rattle.wb_tools.proofs.KindVariables.{binds_variables}
use Rattle.wb_arguments.specs.Arguments.{kind_of}
use Rattle.wb_arguments.specs.Variables.{AreOf}

pub few_tools : (content : Content) → is_small content ≡ true → length content.tools ≤ 256
unfolding is_small
few_tools content small = leb-true _ _ (and_parts _ _ (and_parts _ _ (and_parts _ _ small).0).0).1

variables_by : (o : Option Tool) (kind : ToolKind) → option_map (λ (it : Tool). it.kind) o ≡ Some kind → option_map_or (λ (it : Tool). drop 1 (tool_scope it.kind)) o [] ≡ drop 1 (tool_scope kind)
variables_by None kind e = cc
variables_by (Some tool) kind e = let same : tool.kind ≡ kind = cc in ap (λ k. drop 1 (tool_scope k)) same

-- what is of a kind binds the variables of a tool of that kind
pub binds_asked : (mm : Metamodel) (spec : Specification) (tool : ℕ) (kind : ToolKind) (env : Env) → kind_of spec tool ≡ Some kind → AreOf mm kind env → Binds mm (variables_of spec tool) env
binds_asked mm spec tool kind env is of = binds_variables mm spec tool env (of.names ∙ sym (variables_by _ kind is)) of.paired of.bounded
