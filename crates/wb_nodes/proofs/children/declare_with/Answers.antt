use Rattle.std.proofs.Common.{◌≡◌, ◌∙◌, [], ◌∷◌, ◌++◌, List, ap, refl, subst, filter}
use Rattle.std.specs.Prelude.{OnOk}
use Rattle.std.specs.List.{flat_map}
use Rattle.wb_diagram.specs.declared.keys.Key.{Key}
use Rattle.wb_answers.specs.Seen.{Told}
use Rattle.wb_answers.proofs.SeenLoops.{not_over, told_of, refused_first, asks_then}
use Rattle.wb_nodes.specs.Nodes.{candidates_by, is_declared, precondition_at, candidates_at}
use Rattle.wb_nodes.specs.Grounds.{scene}
use Rattle.wb_nodes.proofs.children.declare_with.Goals as goal

pub returns-in_err-candidates-clause-asks : goal.returns-in_err-candidates-clause-asks
returns-in_err-candidates-clause-asks g c = refused_first _ _ (candidates_at c.args.path.now c.args.number ∷ []) _ _ _ _ c.from_residual.ensures refl c.in_err-candidates.ensures.asks

pub declare_among-requires : goal.declare_among-requires
declare_among-requires g c = not_over _ _ _ c.in_ok-candidates.ensures.asks c.requires.fine

pub returns-clause-found : goal.returns-clause-found
returns-clause-found g c =
    let mid = g.A.Answers.seen c.candidates_by.new.answers in
    let keys = c.as_slice.ensures.value ∙ c.in_ok-candidates.ensures.keys in
    let told = told_of _ _ _ c.in_ok-candidates.ensures.asks in
    let P : Told → List Key → Type 0 = λ t ks. OnOk c.declare_among.result (c.declare_among.new.found.items ≡ c.args.found.now.items ++ filter (is_declared (scene c.args.grounds.now) t c.args.number c.args.node.now) ks) in
    let at_keys = subst (P mid.told) keys c.declare_among.ensures.found in
    subst (λ t. P t (candidates_by (scene c.args.grounds.now) (g.A.Answers.seen c.args.answers.now).told c.args.path.now c.args.number c.args.node.now)) told at_keys

pub returns-clause-asks : goal.returns-clause-asks
returns-clause-asks g c =
    let keys = c.in_ok-candidates.ensures.keys in
    asks_then _ _ _ _ _ _ _ c.in_ok-candidates.ensures.asks (ap (λ (ks : List Key). candidates_at c.args.path.now c.args.number ∷ flat_map (precondition_at (scene c.args.grounds.now) c.args.number) ks) (c.as_slice.ensures.value ∙ keys)) c.declare_among.ensures.asks
