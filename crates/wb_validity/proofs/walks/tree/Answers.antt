use Rattle.std.proofs.Common.{◌≡◌, ◌∙◌, ap, sym, List, ℕ, ◌++◌, reverse, length, arith}
use Rattle.std.proofs.lemmas.List.{append-nil, nil_from_length}
use Rattle.wb_validity.proofs.Trees.{trees, walk_begins, walk_smaller, walk_goes_on}
use Rattle.wb_validity.proofs.walks.tree.Goals as goal

pub loop-p-init : goal.loop-p-init
loop-p-init c =
    ap (λ (os : List ℕ). os ++ trees c.args.store.now (reverse c.in_ok-to_come.to_come.items)) c.new-tree.ensures.items
    ∙ ap (λ (os : List ℕ). trees c.args.store.now (reverse os)) c.in_ok-to_come.ensures
    ∙ walk_begins c.args.store.now c.requires c.args.o

pub loop-p-smaller : goal.loop-p-smaller
loop-p-smaller c =
    walk_smaller c.args.store.now c.requires c.pop.new.self.items c.in-Some.p c.loop-p.to_come.items c.extend_from_slice.new.self.items c.in_ok-content.content.items
    c.in-Some.ensures.items c.in_ok-content.ensures (c.in_ok-extend_from_slice.ensures.items ∙ ap (λ (os : List ℕ). c.pop.new.self.items ++ os) c.deref.ensures.value)

pub loop-p-preserved : goal.loop-p-preserved
loop-p-preserved c =
    walk_goes_on c.args.store.now c.requires c.pop.new.self.items c.in-Some.p c.loop-p.to_come.items c.extend_from_slice.new.self.items c.in_ok-content.content.items
    c.in-Some.ensures.items c.in_ok-content.ensures (c.in_ok-extend_from_slice.ensures.items ∙ ap (λ (os : List ℕ). c.pop.new.self.items ++ os) c.deref.ensures.value)
    c.loop-p.tree.items c.push.new.self.items c.in_ok-push.ensures.items
    ∙ c.loop-p.invariant

pub returns : goal.returns
returns c =
    let none : length c.loop-p.to_come.items ≡ 0 = omega (arith, c.in_default.ensures.cases.0) in
    c.from_vec.ensures
    ∙ sym (append-nil c.loop-p.tree.items)
    ∙ ap (λ (os : List ℕ). c.loop-p.tree.items ++ trees c.args.store.now (reverse os)) (sym (nil_from_length c.loop-p.to_come.items none))
    ∙ c.loop-p.invariant
