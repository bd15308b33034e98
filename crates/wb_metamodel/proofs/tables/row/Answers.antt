use Rattle.std.proofs.Common.{◌≡◌, ◌<◌, ◌+◌, ℕ, Option, Some, None, true, false, length, get_or, set, refl, sym, ap, ◌∙◌, subst, arith}
use Rattle.std.specs.Option.{is_some}
use Rattle.std.proofs.lemmas.Bool.{true≢false, false≢true}
use Rattle.std.proofs.lemmas.List.{get_or_default}
use Rattle.wb_metamodel.proofs.Inherit.{item-at}
use Rattle.wb_metamodel.proofs.ByName.{RowTo, row-new, row-old}
use Rattle.wb_metamodel.proofs.tables.row.Goals as goal
use Rattle.wb_metamodel.proofs.tables.row.Goals.{then-is_none, else-is_none}

none-from : (o : Option ℕ) → is_some o ≡ false → o ≡ None
none-from None h = refl
none-from (Some x) h = absurd (true≢false h)

some-from : (o : Option ℕ) → is_some o ≡ true → (x : ℕ) × (o ≡ Some x)
some-from None h = absurd (false≢true h)
some-from (Some x) h = (x, refl)

pub loop-feature-preserved : goal.loop-feature-preserved
loop-feature-preserved c =
    let places = c.args.places.now in
    let own = c.args.own.now in
    let i = c.loop-feature.feature-index in
    let f = c.f.inside.0 in
    let row = c.loop-feature.row.items in
    let place = get_or places f 0 in
    let l : i < length own = omega arith in
    let is : f ≡ get_or own i f = item-at own i c.feature-item.result f c.f.view_is c.feature-item.is l in
    let f_in : f < length places = (let k = c.requires.features i f l in omega arith) in
    let place_in : place < length places = c.requires.places f 0 f_in in
    let read : get_or row place None ≡ c.index.result.now = get_or_default row place None c.index.result.now (omega (arith, c.loop-feature.invariant.length_is)) ∙ sym c.index.ensures in
    elim c.if-is_none.branch [
      | then-is_none w ↦
          let empty = read ∙ none-from c.index.result.now w.if-is_none.ensures in
          let marked : c.if-is_none.row.items ≡ set row place (Some f) = ap (λ v. v.items) w.row-is ∙ ap (λ x. set row place (Some x)) (sym c.f.view_is) in
          subst (RowTo places own (i + 1)) (sym marked) (row-new places own i f place row c.loop-feature.invariant l is refl place_in empty)
      | else-is_none w ↦
          let full = some-from c.index.result.now w.if-is_none.ensures in
          subst (λ v. RowTo places own (i + 1) v.items) (sym w.row-is) (row-old places own i f place full.0 row c.loop-feature.invariant l is refl place_in (read ∙ full.1))
    ]
