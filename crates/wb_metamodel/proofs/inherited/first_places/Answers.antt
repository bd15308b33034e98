use Rattle.std.proofs.Common.{◌≡◌, ◌<◌, ◌+◌, ◌++◌, ◌∷◌, [], true, false, length, get_or, set, sym, ap, ◌∙◌, subst, arith}
use Rattle.std.proofs.lemmas.List.{get_or_default}
use Rattle.wb_metamodel.proofs.Inherit.{Seen, seen-new, seen-old, item-at}
use Rattle.wb_metamodel.proofs.inherited.first_places.Goals as goal
use Rattle.wb_metamodel.proofs.inherited.first_places.Goals.{then-not-index+in_ok-push, else-not-index}

pub loop-feature-preserved : goal.loop-feature-preserved
loop-feature-preserved c =
    let all = c.args.all.now in
    let count = c.args.count in
    let i = c.loop-feature.feature-index in
    let f = c.f.inside.0 in
    let first = c.loop-feature.first.items in
    let seen = c.loop-feature.seen.items in
    let l : i < length all = omega arith in
    let is : f ≡ get_or all i f = item-at all i c.feature-item.result f c.f.view_is c.feature-item.is l in
    let known : f < count = let k = c.requires i f l in omega arith in
    let read : get_or seen f false ≡ c.index.result.now = get_or_default seen f false c.index.result.now (omega (arith, c.loop-feature.invariant.length_is)) ∙ sym c.index.ensures in
    elim c.if-not-index.branch [
      | then-not-index+in_ok-push w ↦
          let pushed : c.if-not-index.first.items ≡ first ++ f ∷ [] = (let p = w.in_ok-push.ensures.items in let q = w.first-is in let v = c.f.view_is in cc) in
          let marked : c.if-not-index.seen.items ≡ set seen f true = ap (λ v. v.items) w.seen-is in
          let absent : get_or seen f false ≡ false = (let t = w.if-not-index.true in cc) in
          subst (λ xs. Seen all count (i + 1) xs c.if-not-index.seen.items) (sym pushed)
          (subst (Seen all count (i + 1) (first ++ f ∷ [])) (sym marked) (seen-new all count i f first seen c.loop-feature.invariant l is known absent))
      | else-not-index w ↦
          let there : get_or seen f false ≡ true = (let t = w.if-not-index.false in cc) in
          subst (λ v. Seen all count (i + 1) v.items c.if-not-index.seen.items) (sym w.first-is)
          (subst (λ v. Seen all count (i + 1) first v.items) (sym w.seen-is) (seen-old all count i f first seen c.loop-feature.invariant l is known there))
    ]
