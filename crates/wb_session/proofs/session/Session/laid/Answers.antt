use Rattle.std.proofs.Common.{◌≡◌, ◌≤◌, true, List, length, sym, subst, ◌∙◌}
use Rattle.std.specs.List.{AllByRecursion}
use Rattle.std.proofs.lemmas.Result.{IfOk-weaker}
use Rattle.wb_diagram.specs.declared.keys.Key.{Key}
use Rattle.wb_declared.specs.Declarations.{declared_nodes}
use Rattle.wb_marks.specs.Marks.{arranged}
use Rattle.wb_marks.specs.declared.marks.Marks.{Marks}
use Rattle.wb_targets.specs.Targets.{is_placeable, placeable}
use Rattle.wb_session.specs.States.{AreLawful, State, subject_of}
use Rattle.wb_session.specs.invariants.Keeping.{state_of}
use Rattle.wb_session.proofs.Goods.{few_placeable}
use Rattle.wb_session.proofs.Lawful.{all_placeable, arranged_lawful}
use Rattle.wb_session.proofs.session.Session.laid.Goals as goal

pub arranged-requires : goal.arranged-requires
arranged-requires g c =
    let i = c.self.inside in
    let good = c.self.invariant.good in
    let keys = c.as_slice.ensures ∙ c.in_ok-keys.ensures in
    subst (λ (ks : List Key). length ks ≤ 100000) (sym keys)
    (subst (λ (ns : List Key). length (placeable i.spec ns) ≤ 100000) (sym c.nodes.ensures)
    (subst (λ (s : State). length (placeable i.spec (declared_nodes g.E.Evaluator.outcome_by (subject_of s))) ≤ 100000) c.self.view_is
    (few_placeable g.E.Evaluator.outcome_by (subject_of (state_of i.spec i.root i.model i.marks i.revision i.history)) i.spec good.body.fits)))

pub returns-clause-lawful : goal.returns-clause-lawful
returns-clause-lawful g c =
    let i = c.self.inside in
    let keys = c.as_slice.ensures ∙ c.in_ok-keys.ensures in
    let lawful : AreLawful i.spec (arranged c.as_slice.result.now i.marks) =
    arranged_lawful i.spec i.marks c.self.invariant.good.body.lawful c.as_slice.result.now
    (subst (λ (ks : List Key). AllByRecursion (λ (k : Key). is_placeable i.spec k ≡ true) ks) (sym keys) (all_placeable i.spec c.nodes.result.now))
    in
    IfOk-weaker c.arranged.result (λ (m : Marks). m ≡ arranged c.as_slice.result.now i.marks) (AreLawful c.args.self.now.spec)
    (λ m is. subst (λ (s : State). AreLawful s.spec m) c.self.view_is (subst (AreLawful i.spec) (sym is) lawful)) c.arranged.ensures
