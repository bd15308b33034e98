use Rattle.std.proofs.Common.{List, [], ◌∷◌, ap, get_or, subst}
use Rattle.std.specs.Borrow.{GName}
use Rattle.wb_store.specs.Contents.{Contents}
use Rattle.wb_spec_check.specs.Checked.{Specification}
use Rattle.wb_answers.specs.Limits.{AsksUpTo}
use Rattle.wb_nodes.specs.Nodes.{scene_of}
use Rattle.wb_refresh.specs.Diagrams.{size_of, units_of}
use Rattle.wb_refresh.specs.Outcomes.{told}
use Rattle.wb_refresh.specs.Subjects.{subject_in}
use Rattle.wb_refresh.specs.Tables.{seen_by}
use Rattle.wb_refresh.proofs.Ended.{all_ends}
use Rattle.wb_refresh.proofs.opening.declare_in.Goals as goal

pub returns-clause-ends : goal.returns-clause-ends
returns-clause-ends g c =
    let p = c.args.evaluating.now in
    let q = c.declare.new.answers in
    let gives = g.E.Evaluator.outcome_by in
    let t = p.table.now in
    let P : Specification → Contents → Type 0 = λ sp m. AsksUpTo (seen_by gives t (g.E.Evaluator.count p.steps.now) (p.steps.ghost_name ∷ p.table.ghost_name ∷ [])) (units_of (scene_of sp m c.args.shown.now) (told gives t.setting)) (size_of (scene_of sp m c.args.shown.now) (told gives t.setting)) c.declare.result (seen_by gives q.table.now (g.E.Evaluator.count q.steps.now) (q.steps.ghost_name ∷ q.table.ghost_name ∷ [])) in
    let asks = subst (λ (sp : Specification). P sp t.setting.model) c.spec-spec.ensures (subst (λ (m : Contents). P c.spec-spec.result.now m) c.model-model.ensures.same c.declare.ensures.asks) in
    (all_ends gives (subject_in t.setting c.args.shown.now) (g.E.Evaluator.count p.steps.now) (g.E.Evaluator.count q.steps.now) _ _ t q.table.now c.declare.result c.requires (t.setting.model.metamodel, c.model-model.ensures.checked) asks).0

pub returns-clause-same_steps : goal.returns-clause-same_steps
returns-clause-same_steps g c =
    let p = c.args.evaluating.now in
    let q = c.declare.new.answers in
    let gives = g.E.Evaluator.outcome_by in
    let t = p.table.now in
    let P : Specification → Contents → Type 0 = λ sp m. AsksUpTo (seen_by gives t (g.E.Evaluator.count p.steps.now) (p.steps.ghost_name ∷ p.table.ghost_name ∷ [])) (units_of (scene_of sp m c.args.shown.now) (told gives t.setting)) (size_of (scene_of sp m c.args.shown.now) (told gives t.setting)) c.declare.result (seen_by gives q.table.now (g.E.Evaluator.count q.steps.now) (q.steps.ghost_name ∷ q.table.ghost_name ∷ [])) in
    let asks = subst (λ (sp : Specification). P sp t.setting.model) c.spec-spec.ensures (subst (λ (m : Contents). P c.spec-spec.result.now m) c.model-model.ensures.same c.declare.ensures.asks) in
    ap (λ (ns : List GName). get_or ns 0 0) (all_ends gives (subject_in t.setting c.args.shown.now) (g.E.Evaluator.count p.steps.now) (g.E.Evaluator.count q.steps.now) _ _ t q.table.now c.declare.result c.requires (t.setting.model.metamodel, c.model-model.ensures.checked) asks).1

pub returns-clause-same_table : goal.returns-clause-same_table
returns-clause-same_table g c =
    let p = c.args.evaluating.now in
    let q = c.declare.new.answers in
    let gives = g.E.Evaluator.outcome_by in
    let t = p.table.now in
    let P : Specification → Contents → Type 0 = λ sp m. AsksUpTo (seen_by gives t (g.E.Evaluator.count p.steps.now) (p.steps.ghost_name ∷ p.table.ghost_name ∷ [])) (units_of (scene_of sp m c.args.shown.now) (told gives t.setting)) (size_of (scene_of sp m c.args.shown.now) (told gives t.setting)) c.declare.result (seen_by gives q.table.now (g.E.Evaluator.count q.steps.now) (q.steps.ghost_name ∷ q.table.ghost_name ∷ [])) in
    let asks = subst (λ (sp : Specification). P sp t.setting.model) c.spec-spec.ensures (subst (λ (m : Contents). P c.spec-spec.result.now m) c.model-model.ensures.same c.declare.ensures.asks) in
    ap (λ (ns : List GName). get_or ns 1 0) (all_ends gives (subject_in t.setting c.args.shown.now) (g.E.Evaluator.count p.steps.now) (g.E.Evaluator.count q.steps.now) _ _ t q.table.now c.declare.result c.requires (t.setting.model.metamodel, c.model-model.ensures.checked) asks).1
