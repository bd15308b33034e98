use Rattle.std.proofs.Common.{◌∙◌, ap, filter, List}
use Rattle.wb_diagram.specs.declared.keys.AnyKey.{AnyKey}
use Rattle.wb_diagram.specs.declared.keys.Key.{Key}
use Rattle.wb_layout.specs.Positions.{restricted}
use Rattle.wb_answers.specs.SameKeys.{among}
use Rattle.wb_marks.specs.Marks.{is_declared}
use Rattle.wb_marks.specs.declared.marks.Marks.{Marks}
use Rattle.wb_marks.proofs.SameOnes.{nodes_kept, keys_kept}
use Rattle.wb_marks.proofs.marks.Marks.settled.Goals as goal

pub returns : goal.returns
returns c =
    let nodes = c.args.nodes.now in
    let edges = c.args.edges.now in
    let it = c.in_ok-declared.declared in
    let shown =
    c.in_ok-marks-2.ensures ∙ ap (λ (keys : List Key). filter (among it.nodes.keys) keys) c.as_slice.ensures ∙ nodes_kept nodes edges it c.in_ok-declared.ensures c.args.self.now.shown in
    let hidden =
    c.in_ok-marks-3.ensures ∙ ap (λ (keys : List AnyKey). filter (is_declared it.nodes.keys it.edges.keys) keys) c.as_slice-2.ensures ∙ keys_kept nodes edges it c.in_ok-declared.ensures c.args.self.now.hidden in
    let layout = c.in_ok-restrict.ensures.ok ∙ ap (λ (m : Marks). restricted m.layout nodes) c.in_ok-marks.ensures in
    let layers = ap (λ (m : Marks). m.layers) c.in_ok-marks.ensures in
    let filters = ap (λ (m : Marks). m.filters) c.in_ok-marks.ensures in
    λ i. record { shown = shown i; hidden = hidden i; layout = layout i; layers = layers i; filters = filters i }
