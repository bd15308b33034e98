use Rattle.std.proofs.Common.{◌+◌, ◌∷◌, [], ◌++◌, drop, refl, sym, ap, ◌∙◌, subst, arith}
use Rattle.std.specs.List.{AllZip, position}
use Rattle.wb_ecore.specs.declared.document.FeaturePart.{FeaturePart}
use Rattle.wb_ecore.specs.Naming.{same_name}
use Rattle.wb_ecore.specs.Resolving.{numbered}
use Rattle.wb_ecore.specs.invariants.Index.{HasOwn}
use Rattle.wb_ecore.proofs.Numbered.{numbered-more}
use Rattle.wb_base.proofs.Zips.{zip-push}
use Rattle.wb_ecore.proofs.index.class_features.Goals as goal

pub loop-class-preserved : goal.loop-class-preserved
loop-class-preserved c =
    let part = c.class-item.result in
    let i = c.loop-class.class-index in
    let first = c.loop-class.first in
    let done = c.loop-class.invariant.0 in
    let own : HasOwn (record { first = first; names = c.in_ok-names.names }) (first, part.features) =
    record {
      first = refl;
      names = λ name. c.in_ok-names.ensures name ∙ ap (position (λ (one : FeaturePart). same_name one.name name)) c.as_slice.ensures;
      fits = omega arith;
    } in (
      done ++ (first, part.features) ∷ [],
      subst (λ items. AllZip HasOwn items (done ++ (first, part.features) ∷ [])) (sym c.in_ok-push.ensures.items) (zip-push HasOwn c.loop-class.features.items done _ (first, part.features) c.loop-class.invariant.1 own),
      numbered-more c.args.classes.now done first i part (omega arith) c.class-item.is c.loop-class.invariant.2
          ∙ ap (λ n. (done ++ (first, part.features) ∷ []) ++ numbered n (drop (i + 1) c.args.classes.now)) (sym (c.in-Some.ensures.1 ∙ ap (λ k. first + k) c.len.ensures)),
    )
