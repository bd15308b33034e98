use Rattle.std.proofs.Common.{◌≡◌, ◌∙◌, ap, subst, sym, map}
use Rattle.std.specs.Prelude.{IfOk}
use Rattle.std.proofs.lemmas.Result.{IfOk-weaker}
use Rattle.wb_diagram.specs.Diagrams.{IsWritableDiagram}
use Rattle.wb_diagram.specs.declared.diagrams.Diagram.{Diagram}
use Rattle.wb_viewpoint.specs.declared.content.Content.{Content}
use Rattle.wb_looks.specs.Filters.{filtered}
use Rattle.wb_looks.specs.Visible.{is_visible, switches_of}
use Rattle.wb_picture.specs.Picture.{mapping_names}
use Rattle.wb_picture.specs.invariants.Drawn.{diagram_with}
use Rattle.wb_picture.proofs.Shown.{is_picture}
use Rattle.wb_picture.proofs.Writable.{drawn_is_writable}
use Rattle.wb_picture.proofs.pictures.picture.Goals as goal

pub returns-clause-picture : goal.returns-clause-picture
returns-clause-picture c = λ mm told are.
    let spec = c.args.spec.now in
    let declared = c.args.declared.now in
    let view = c.args.view.now in
    let flags = c.as_slice-2.result.now in
    let keys = c.as_slice.ensures.value ∙ c.in_ok-keys.ensures in
    let content = c.content-content.ensures.same ∙ c.viewpoint.ensures.same in
    let seen = c.as_slice-2.ensures ∙ (c.in_ok-flags.ensures told (are.filtered ∙ ap (filtered spec told) (sym keys)) ∙ ap (map (is_visible spec told (switches_of view.switches))) keys) in
    let same = ap (λ (it : Content). diagram_with it declared view flags) content ∙ is_picture spec mm told declared view flags are seen in
    subst (λ (d : Diagram). IfOk c.diagram_with.result (λ it. it ≡ d)) same c.diagram_with.ensures

pub returns-clause-writable : goal.returns-clause-writable
returns-clause-writable c = λ can.
    let spec = c.args.spec.now in
    let declared = c.args.declared.now in
    let view = c.args.view.now in
    let flags = c.as_slice-2.result.now in
    let content = c.content-content.ensures.same ∙ c.viewpoint.ensures.same in
    let P : Diagram → Type 0 = IsWritableDiagram (mapping_names spec.0) in
    let writable = subst (λ (it : Content). P (diagram_with it declared view flags)) (sym content) (drawn_is_writable spec declared view flags c.viewpoint.ensures.good can) in
    IfOk-weaker c.diagram_with.result (λ it. it ≡ diagram_with c.content-content.result.now declared view flags) P (λ it is. subst P (sym is) writable) c.diagram_with.ensures
