use Rattle.std.proofs.Common.{◌++◌, take, sym, ap, ◌∙◌, arith}
use Rattle.std.specs.Prelude.{codes}
use Rattle.wb_json.specs.Place.{at_member, at_index}
use Rattle.wb_ecore.specs.declared.document.ClassPart.{ClassPart}
use Rattle.wb_ecore.specs.Repeats.{◌>>=◌, kind_names, enum_names, class_names, unrepeated, unrepeated_features, check_class_names}
use Rattle.wb_ecore.proofs.Taken.{holds-more, each-on, fresh-same}
use Rattle.wb_ecore.proofs.repeats.class_names.Goals as goal

pub loop-number-preserved : goal.loop-number-preserved
loop-number-preserved c =
    let parts = c.args.parts.now in
    let i = c.loop-number.number in
    let part = c.index-parts-number.result in
    let same = fresh-same c.loop-number.taken (kind_names ++ enum_names c.args.enums.now ++ class_names (take i parts)) part.name c.loop-number.invariant.0 in
    let given =
    ap (λ r. at_index i (at_member (codes "name") r >>= (λ _. at_member (codes "supertypes") (unrepeated part.supertypes) >>= (λ _. at_member (codes "features") (unrepeated_features part.features))))) (sym same) ∙ c.in_ok-class_at.ensures.given in (
      holds-more (λ (p : ClassPart). p.name) (kind_names ++ enum_names c.args.enums.now) parts i part c.loop-number.taken c.class_at.new.taken c.loop-number.invariant.0 c.in_ok-class_at.ensures.takes (omega arith) c.index-parts-number.is,
      each-on (check_class_names c.args.enums.now parts) parts i part _ (omega arith) c.index-parts-number.is given c.loop-number.invariant.1,
    )
