use Rattle.std.proofs.Common.{◌∙◌, ℕ, List, nat_eq, sym, ap, arith}
use Rattle.std.proofs.lemmas.Grind.{common_steps}
use Rattle.indexmap.specs.IndexSet.{insert_key}
use Rattle.wb_diagram.specs.Keys.{own_pair}
use Rattle.wb_diagram.specs.declared.keys.Key.{Key}
use Rattle.wb_diagram.specs.declared.keys.Pair.{Pair}
use Rattle.wb_answers.proofs.FirstPlaces.{inserted}
use Rattle.wb_edges.specs.Edges.{is_of}
use Rattle.wb_edges.proofs.Sources.{objects_passed, objects_taken}
use Rattle.wb_edges.proofs.semantic.objects_by.Goals as goal
use Rattle.wb_edges.proofs.semantic.objects_by.Goals.{then-is_of+in_ok-insert_full, else-is_of}

pub loop-key-preserved : goal.loop-key-preserved
loop-key-preserved c =
    let object = λ (key : Key). (own_pair key).object in
    elim c.if-is_of.branch [
      | then-is_of+in_ok-insert_full w ↦
          let taken = objects_taken (is_of c.args.mappings.now) object c.args.nodes.now c.loop-key.key-index c.key-item.result c.loop-key-test.true c.key-item.is (sym w.if-is_of.ensures) in
          let step = inserted c.loop-key.objects.keys _ w.own_pair.result.object w.in_ok-insert_full.ensures.keys
          ∙ ap (λ (pair : Pair). insert_key nat_eq c.loop-key.objects.keys pair.object) w.own_pair.ensures
          ∙ ap (λ (ks : List ℕ). insert_key nat_eq ks (object c.key-item.result)) c.loop-key.invariant
          ∙ sym taken in
          grind (arith, common_steps, step)
      | else-is_of w ↦
          let passed = objects_passed (is_of c.args.mappings.now) object c.args.nodes.now c.loop-key.key-index c.key-item.result c.loop-key-test.true c.key-item.is (sym w.if-is_of.ensures) in
          grind (arith, common_steps, passed)
    ]
