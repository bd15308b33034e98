use Rattle.std.proofs.Common.{◌∙◌, sym, ap, Some, None}
use Rattle.wb_ecore.specs.invariants.NumberedNames.{number_of}
use Rattle.wb_expressions.specs.declared.problem.ProblemCode.TheVariants as code
use Rattle.wb_metamodel.specs.Metamodel.{Metamodel}
use Rattle.wb_viewpoint.specs.declared.content.Content.{Content}
use Rattle.wb_viewpoint.specs.declared.layers.Layer.{Layer}
use Rattle.wb_spec_check.specs.Findings.{or_problem, layer_found}
use Rattle.wb_spec_check.proofs.OwnNames.{first_found}
use Rattle.wb_spec_check.proofs.names.Names.layer.Goals as goal

pub returns-in-Some : goal.returns-in-Some
returns-in-Some c =
    let name = c.args.name.now in
    let content = c.self.inside.content.now in
    ap (λ (it : Metamodel × Content). layer_found it.1 name) (sym c.self.view_is)
    ∙ ap (or_problem code.UnknownLayer name)
    (first_found (λ (it : Layer). it.name) content.layers name (Some c.in-Some.layer)
    (sym c.in-Some.is ∙ c.get.ensures ∙ ap (number_of c.self.inside.layers) c.as_bytes.ensures.value ∙ c.self.invariant.0.layer name))

pub returns-in-None : goal.returns-in-None
returns-in-None c =
    let name = c.args.name.now in
    let content = c.self.inside.content.now in
    ap (λ (it : Metamodel × Content). layer_found it.1 name) (sym c.self.view_is)
    ∙ ap (or_problem code.UnknownLayer name)
    (first_found (λ (it : Layer). it.name) content.layers name None
    (sym c.in-None.is ∙ c.get.ensures ∙ ap (number_of c.self.inside.layers) c.as_bytes.ensures.value ∙ c.self.invariant.0.layer name))
