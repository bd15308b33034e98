use Rattle.std.proofs.Common.{◌≡◌, ◌∙◌, ◌∷◌, ◌++◌, [], List, ap, append-nil, sym, subst, inr, arith, length, reverse, length-append}
use Rattle.std.specs.List.{flat_map}
use Rattle.std.proofs.lemmas.Grind.{common_steps}
use Rattle.wb_diagram.specs.declared.keys.Key.{Key}
use Rattle.wb_answers.specs.Seen.{Told, after}
use Rattle.wb_answers.proofs.SeenLaws.{stays, passed_on}
use Rattle.wb_answers.proofs.SeenLoops.{not_over, told_of, refused_first, asked_both, refused_told}
use Rattle.wb_answers.proofs.LimitLaws.{up_to}
use Rattle.wb_nodes.specs.Nodes.{units_under, nodes, node_units, children}
use Rattle.wb_nodes.specs.Grounds.{scene}
use Rattle.wb_nodes.proofs.Walks.{Whole, units_so_far, own_units, units_split, units_next, walk_starts, walk_goes_on, taken_up, too_many, behind, all_units}
use Rattle.wb_nodes.proofs.declaring.walk.Goals as goal

pub returns-in_err-waiting-clause-asks : goal.returns-in_err-waiting-clause-asks
returns-in_err-waiting-clause-asks g c =
    let s = g.A.Answers.seen c.args.answers.now in
    let ground = scene c.args.grounds.now in
    up_to _ _ _ _ _ _ c.from_residual.ensures
    (refused_first _ _ (units_under ground s.told []) (flat_map (own_units ground s.told) (nodes ground s.told)) (node_units ground s.told) _ _ c.from_residual.ensures
    (all_units ground s.told) c.in_err-waiting.ensures.asks)

pub loop-key-init : goal.loop-key-init
loop-key-init g c =
    let s = g.A.Answers.seen c.args.answers.now in
    let ground = scene c.args.grounds.now in
    let P : List Key → List Key → Type 0 = λ keys waiting. Whole ground s.told keys waiting in
    let first = c.new-nodes.ensures.items in
    let begun = c.reverse.ensures.items ∙ ap reverse c.in_ok-waiting.ensures.keys in
    record {
      whole = subst (λ keys. P keys c.reverse.new.self.items) (sym first) (subst (P []) (sym begun) (walk_starts ground s.told));
      asked = c.in_ok-waiting.ensures.asks ∙ ap (after s) (sym (ap (units_so_far ground s.told) first ∙ append-nil (units_under ground s.told [])));
      few = let none = ap length first in omega (arith, none);
    }

pub returns-then-len-clause-asks : goal.returns-then-len-clause-asks
returns-then-len-clause-asks g c =
    let s = g.A.Answers.seen c.args.answers.now in
    let ground = scene c.args.grounds.now in
    let keys = c.loop-key.nodes.items in
    let up = taken_up ground s.told keys c.pop.new.self.items c.loop-key.waiting.items c.in-Some.key c.in-Some.ensures.items c.loop-key.invariant.whole in
    record {
      stopped = stays s _ (units_so_far ground s.told keys) (flat_map (own_units ground s.told) (c.in-Some.key ∷ behind ground s.told c.pop.new.self.items c.in-Some.key)) (node_units ground s.told) c.loop-key.invariant.asked
          (units_split ground s.told keys _ up);
      large = λ same. inr (too_many ground s.told keys c.pop.new.self.items c.loop-key.waiting.items c.in-Some.key c.in-Some.ensures.items c.loop-key.invariant.whole (omega arith));
    }

pub visit-requires-clause-fine : goal.visit-requires-clause-fine
visit-requires-clause-fine g c = not_over _ _ _ c.loop-key.invariant.asked c.requires.fine

pub loop-key-preserved : goal.loop-key-preserved
loop-key-preserved g c =
    let s = g.A.Answers.seen c.args.answers.now in
    let ground = scene c.args.grounds.now in
    let keys = c.loop-key.nodes.items in
    let key = c.in-Some.key in
    let told = told_of s _ _ c.loop-key.invariant.asked in
    let on = c.in_ok-visit.ensures.waiting ∙ ap (λ (t : Told). c.pop.new.self.items ++ reverse (children ground t key.pairs)) told in
    let asked = c.in_ok-visit.ensures.asks ∙ ap (λ (t : Told). after (g.A.Answers.seen c.loop-key.answers) (units_under ground t key.pairs)) told in
    let pushed = c.in_ok-visit.ensures.nodes in
    record {
      whole = subst (λ ks. Whole ground s.told ks c.visit.new.waiting.items) (sym pushed)
          (walk_goes_on ground s.told keys c.pop.new.self.items c.loop-key.waiting.items c.visit.new.waiting.items key c.in-Some.ensures.items on c.loop-key.invariant.whole);
      asked = asked_both s _ _ (units_so_far ground s.told keys) (own_units ground s.told key) c.loop-key.invariant.asked asked
          ∙ ap (after s) (units_next ground s.told keys key ∙ ap (units_so_far ground s.told) (sym pushed));
      few = let more = ap length pushed in let sum = length-append keys (key ∷ []) in omega (arith, more, sum);
    }

pub returns-in_err-visit-clause-asks : goal.returns-in_err-visit-clause-asks
returns-in_err-visit-clause-asks g c =
    let s = g.A.Answers.seen c.args.answers.now in
    let ground = scene c.args.grounds.now in
    let keys = c.loop-key.nodes.items in
    let key = c.in-Some.key in
    let mid = g.A.Answers.seen c.loop-key.answers in
    let up = taken_up ground s.told keys c.pop.new.self.items c.loop-key.waiting.items key c.in-Some.ensures.items c.loop-key.invariant.whole in
    up_to _ _ _ _ _ _ c.from_residual-in_err-visit.ensures
    (passed_on s mid _ (units_so_far ground s.told keys) (own_units ground s.told key) (flat_map (own_units ground s.told) (behind ground s.told c.pop.new.self.items key)) (node_units ground s.told) _ _
    c.from_residual-in_err-visit.ensures c.loop-key.invariant.asked (units_split ground s.told keys _ up)
    (refused_told s mid _ _ _ (λ (t : Told). units_under ground t key.pairs) c.loop-key.invariant.asked c.in_err-visit.ensures.asks))

pub returns-clause-asks : goal.returns-clause-asks
returns-clause-asks g c =
    let s = g.A.Answers.seen c.args.answers.now in
    let ground = scene c.args.grounds.now in
    let whole = c.loop-key.invariant.whole in
    let none : c.loop-key.waiting.items ≡ [] = grind (arith, common_steps) in
    let P : List Key → Type 0 = λ waiting. Whole ground s.told c.loop-key.nodes.items waiting in
    let done = sym (append-nil c.loop-key.nodes.items) ∙ subst P none whole in
    record {
      asked = c.loop-key.invariant.asked ∙ ap (after s) (ap (units_so_far ground s.told) done ∙ all_units ground s.told);
      few = let same = ap length done in let few = c.loop-key.invariant.few in omega (arith, same, few);
    }
