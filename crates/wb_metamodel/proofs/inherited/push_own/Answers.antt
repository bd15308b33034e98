use Rattle.std.proofs.Common.{◌≡◌, ◌++◌, ◌∷◌, [], true, false, cond, eqb, length, refl, sym, ap, ◌∙◌, append_assoc, append-nil, arith}
use Rattle.std.specs.List.{filter, slice_get}
use Rattle.std.specs.Option.{option_map_or}
use Rattle.std.proofs.lemmas.Option.{slice_get_read}
use Rattle.wb_ecore.specs.declared.features.Feature.{Feature}
use Rattle.wb_metamodel.specs.Metamodel.{numbers}
use Rattle.wb_metamodel.proofs.Inherit.{is_owned, own-more}
use Rattle.wb_metamodel.proofs.inherited.push_own.Goals as goal
use Rattle.wb_metamodel.proofs.inherited.push_own.Goals.{then-eq+in_ok-push, else-eq}

pub loop-number-preserved : goal.loop-number-preserved
loop-number-preserved c =
    let mm = c.args.elements.now in
    let k = c.args.class in
    let i = c.loop-number.number in
    let item = c.feature-item.result in
    let front = c.args.all.now.items in
    let slice = c.as_slice-feature-items.result.now in
    let at = ap (λ fs. slice_get fs i) (sym c.as_slice-feature-items.ensures) ∙ slice_get_read slice (length slice) i item refl (omega arith) c.feature-item.is in
    let owned : is_owned mm k i ≡ eqb item.owner k = ap (λ o. option_map_or (λ (feature : Feature). eqb feature.owner k) o false) at in
    let so_far = filter (is_owned mm k) (numbers i) in
    elim c.if-eq.branch [
      | then-eq+in_ok-push w ↦
          let pushed : c.if-eq.all.items ≡ c.loop-number.all.items ++ i ∷ [] = (let p = w.in_ok-push.ensures.items in let q = w.all-is in cc) in
          let yes_ : is_owned mm k i ≡ true = (let e = c.eq.ensures in let t = w.if-eq.ensures in cc) in
          pushed ∙ ap (λ xs. xs ++ i ∷ []) c.loop-number.invariant ∙ append_assoc front so_far (i ∷ []) ∙ ap (λ xs. front ++ xs) (sym (own-more mm k i ∙ ap (λ b. so_far ++ cond b (i ∷ []) []) yes_))
      | else-eq w ↦
          let no_ : is_owned mm k i ≡ false = (let e = c.eq.ensures in let t = w.if-eq.ensures in cc) in
          ap (λ v. v.items) w.all-is ∙ c.loop-number.invariant ∙ ap (λ xs. front ++ xs) (sym (own-more mm k i ∙ ap (λ b. so_far ++ cond b (i ∷ []) []) no_ ∙ append-nil so_far))
    ]
