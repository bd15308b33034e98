use Rattle.std.proofs.Common.{◌∙◌, ◌+◌, ap, sym, List, drop}
use Rattle.wb_metamodel.specs.Metamodel.{Metamodel}
use Rattle.wb_store.specs.declared.scalars.Scalar.{Scalar}
use Rattle.wb_store.specs.Contents.{Contents}
use Rattle.wb_store.specs.Relinking.{Link, link, other_end}
use Rattle.wb_store.specs.LinkSteps.{each_left}
use Rattle.wb_model.proofs.Comings.{metamodel-left, left-append}
use Rattle.wb_model.proofs.OtherEnds.{ends_of}
use Rattle.wb_store.proofs.Steps.{flat_map_more}
use Rattle.wb_model.proofs.edits.links.drop_other_ends.Goals as goal

pub loop-value-preserved : goal.loop-value-preserved
loop-value-preserved c =
    let old = c.args.store.now in
    let now = c.loop-value.store in
    let o = c.args.o in
    let f = c.args.f in
    let v = c.value-item.result in
    let same = c.loop-value.invariant.same_metamodel in
    let rest = ends_of old.metamodel o f (drop (c.loop-value.value-index + 1) c.args.values.now) in
    let whole = flat_map_more c.args.values.now c.loop-value.value-index v c.loop-value-test.true c.value-item.is (λ (v : Scalar). other_end old.metamodel (link o f v)) in
    record {
      same_metamodel = ap (λ (m : Contents). m.metamodel) c.drop_other_end.ensures ∙ metamodel-left (other_end now.metamodel (link o f v)) now ∙ same;
      rest = ap (each_left rest) (c.drop_other_end.ensures ∙ ap (λ (metamodel : Metamodel). each_left (other_end metamodel (link o f v)) now) same)
          ∙ sym (left-append (other_end old.metamodel (link o f v)) rest now)
          ∙ ap (λ (ls : List Link). each_left ls now) (sym whole)
          ∙ c.loop-value.invariant.rest;
    }
