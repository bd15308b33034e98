use Rattle.std.proofs.Common.{◌∙◌, nat_eq, sym, ap, arith}
use Rattle.std.proofs.lemmas.Grind.{common_steps}
use Rattle.indexmap.specs.IndexSet.{insert_key}
use Rattle.wb_answers.proofs.FirstPlaces.{inserted, objects_next}
use Rattle.wb_answers.proofs.meanings.objects_among.Goals as goal
use Rattle.wb_answers.proofs.meanings.objects_among.Goals.{in-Some+in_ok-insert_full, in_default}

pub loop-value-preserved : goal.loop-value-preserved
loop-value-preserved c =
    let next = objects_next c.args.values.now c.loop-value.value-index c.value-item.result c.object_in.result (omega arith) c.value-item.is c.object_in.ensures in
    elim c.match-object_in.branch [
      | in-Some+in_ok-insert_full w ↦
          let known = rw w.in-Some.is at next in
          let step = inserted c.loop-value.objects.keys _ w.in-Some.object w.in_ok-insert_full.ensures.keys ∙ ap (λ ks. insert_key nat_eq ks w.in-Some.object) c.loop-value.invariant ∙ sym known in
          grind (arith, common_steps, step)
      | in_default w ↦ let known = rw w.in_default.is at next in grind (arith, common_steps, known)
    ]
