use Rattle.std.proofs.Common.{◌∙◌, subst, sym}
use Rattle.std.specs.Prelude.{All}
use Rattle.wb_metamodel.specs.Metamodel.{Metamodel}
use Rattle.wb_answers.proofs.SeenLoops.{metamodel_of, not_over}
use Rattle.wb_nodes.specs.Nodes.{scene_of}
use Rattle.wb_looks.specs.Looks.{HasMapping}
use Rattle.wb_refresh.specs.Declarations.{AreShown}
use Rattle.wb_refresh.specs.Diagrams.{keys_of}
use Rattle.wb_refresh.proofs.DiagramLaws.{keys_have_mappings}
use Rattle.wb_refresh.proofs.GoingOn.{all_asked, edges_declared, edges_refused, keys_declared, shown_are, shown_refused}
use Rattle.wb_refresh.proofs.declaring.declare.Goals as goal

pub declare_edges-requires-clause-fine : goal.declare_edges-requires-clause-fine
declare_edges-requires-clause-fine g c = not_over _ _ _ c.in_ok-nodes.ensures.asks.asked c.requires.fine

pub returns-in_err-edges-clause-asks : goal.returns-in_err-edges-clause-asks
returns-in_err-edges-clause-asks g c =
    let sc = scene_of c.args.spec.now c.args.model.now c.args.shown.now in
    edges_refused sc (g.A.Answers.seen c.args.answers.now) _ c.as_slice.result.now (c.as_slice.ensures ∙ c.in_ok-nodes.ensures.nodes) c.in_ok-nodes.ensures.asks.asked _ _ _ c.from_residual-in_err-edges.ensures c.in_err-edges.ensures.asks

pub show-requires-clause-mappings : goal.show-requires-clause-mappings
show-requires-clause-mappings g c =
    let sc = scene_of c.args.spec.now c.args.model.now c.args.shown.now in
    let s = g.A.Answers.seen c.args.answers.now in
    let nodes_are = c.as_slice.ensures ∙ c.in_ok-nodes.ensures.nodes in
    let edges_are = edges_declared sc s _ c.as_slice.result.now nodes_are c.in_ok-nodes.ensures.asks.asked _ c.in_ok-edges.edges c.in_ok-edges.ensures.edges c.in_ok-edges.ensures.asks in
    let keys_are = keys_declared sc s.told c.as_slice-2.result.now c.as_slice-3.result.now (c.as_slice-2.ensures ∙ c.in_ok-nodes.ensures.nodes) (c.as_slice-3.ensures ∙ edges_are) in
    subst (All (HasMapping c.args.spec.now)) (sym keys_are) (keys_have_mappings sc s.told)

pub show-requires-clause-metamodel : goal.show-requires-clause-metamodel
show-requires-clause-metamodel g c =
    c.metamodel.ensures ∙ (sym c.requires.metamodel ∙ (sym (metamodel_of _ _ _ c.in_ok-nodes.ensures.asks.asked) ∙ sym (metamodel_of _ _ _ c.in_ok-edges.ensures.asks.asked)))

pub show-requires-clause-fine : goal.show-requires-clause-fine
show-requires-clause-fine g c = not_over _ _ _ c.in_ok-edges.ensures.asks.asked (not_over _ _ _ c.in_ok-nodes.ensures.asks.asked c.requires.fine)

pub returns-in_err-shown-clause-asks : goal.returns-in_err-shown-clause-asks
returns-in_err-shown-clause-asks g c =
    let sc = scene_of c.args.spec.now c.args.model.now c.args.shown.now in
    let s = g.A.Answers.seen c.args.answers.now in
    let nodes_are = c.as_slice.ensures ∙ c.in_ok-nodes.ensures.nodes in
    let edges_are = edges_declared sc s _ c.as_slice.result.now nodes_are c.in_ok-nodes.ensures.asks.asked _ c.in_ok-edges.edges c.in_ok-edges.ensures.edges c.in_ok-edges.ensures.asks in
    let keys_are = keys_declared sc s.told c.as_slice-2.result.now c.as_slice-3.result.now (c.as_slice-2.ensures ∙ c.in_ok-nodes.ensures.nodes) (c.as_slice-3.ensures ∙ edges_are) in
    shown_refused sc s _ c.as_slice.result.now nodes_are c.in_ok-nodes.ensures.asks.asked _ c.in_ok-edges.edges c.in_ok-edges.ensures.edges c.in_ok-edges.ensures.asks _ _ _ _ keys_are c.from_residual-in_err-shown.ensures c.in_err-shown.ensures.asks

pub returns-clause-declared : goal.returns-clause-declared
returns-clause-declared g c =
    let sc = scene_of c.args.spec.now c.args.model.now c.args.shown.now in
    let s = g.A.Answers.seen c.args.answers.now in
    let nodes_are = c.as_slice.ensures ∙ c.in_ok-nodes.ensures.nodes in
    let edges_are = edges_declared sc s _ c.as_slice.result.now nodes_are c.in_ok-nodes.ensures.asks.asked _ c.in_ok-edges.edges c.in_ok-edges.ensures.edges c.in_ok-edges.ensures.asks in
    let keys_are = keys_declared sc s.told c.as_slice-2.result.now c.as_slice-3.result.now (c.as_slice-2.ensures ∙ c.in_ok-nodes.ensures.nodes) (c.as_slice-3.ensures ∙ edges_are) in
    record {
      nodes = c.in_ok-nodes.ensures.nodes;
      edges = edges_are;
      shown = subst (λ (mm : Metamodel). AreShown c.args.spec.now mm s.told (keys_of sc s.told) c.in_ok-shown.shown) c.metamodel.ensures
          (shown_are sc s _ c.as_slice.result.now nodes_are c.in_ok-nodes.ensures.asks.asked _ c.in_ok-edges.edges c.in_ok-edges.ensures.edges c.in_ok-edges.ensures.asks c.metamodel.result.now _ c.in_ok-shown.shown keys_are c.in_ok-shown.ensures.shown);
    }

pub returns-clause-asks : goal.returns-clause-asks
returns-clause-asks g c =
    let sc = scene_of c.args.spec.now c.args.model.now c.args.shown.now in
    let s = g.A.Answers.seen c.args.answers.now in
    let nodes_are = c.as_slice.ensures ∙ c.in_ok-nodes.ensures.nodes in
    let edges_are = edges_declared sc s _ c.as_slice.result.now nodes_are c.in_ok-nodes.ensures.asks.asked _ c.in_ok-edges.edges c.in_ok-edges.ensures.edges c.in_ok-edges.ensures.asks in
    let keys_are = keys_declared sc s.told c.as_slice-2.result.now c.as_slice-3.result.now (c.as_slice-2.ensures ∙ c.in_ok-nodes.ensures.nodes) (c.as_slice-3.ensures ∙ edges_are) in
    all_asked sc s _ c.as_slice.result.now nodes_are c.in_ok-nodes.ensures.asks.asked _ c.in_ok-edges.edges c.in_ok-edges.ensures.edges c.in_ok-edges.ensures.asks _ _ keys_are c.in_ok-shown.ensures.asks
