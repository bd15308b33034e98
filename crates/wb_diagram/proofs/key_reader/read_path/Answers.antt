use Rattle.std.proofs.Common.{◌≡◌, None, Some, [], ◌∷◌, ap, ◌∙◌, length, take, arith}
use Rattle.std.proofs.lemmas.List.{take_all, take_more}
use Rattle.std.proofs.lemmas.List.Elements.{All-nil, All-cons, All-append}
use Rattle.wb_diagram.specs.Keys.{IsNumbered, own_pair}
use Rattle.wb_diagram.proofs.Spelling.{ArePartsOf, as_many_parts, part_reads}
use Rattle.wb_diagram.proofs.key_reader.read_path.Goals as goal

pub returns-in-None-clause-complete : goal.returns-in-None-clause-complete
returns-in-None-clause-complete c = λ key some small is.
    let are : ArePartsOf c.deref-part-items.result.now c.args.text.now = rw c.deref-part-items.ensures.value c.in_ok-parts.ensures in
    let bad = part_reads c.deref-part-items.result.now c.args.text.now are key some small is c.loop-part.part-index (record { ref_ptr = (0, 0); now = [] }) c.loop-part-test.true None c.in-None.ensures.complete in
    cc

pub returns-clause-complete : goal.returns-clause-complete
returns-clause-complete c = λ key some small is.
    let are : ArePartsOf c.deref-part-items.result.now c.args.text.now = rw c.deref-part-items.ensures.value c.in_ok-parts.ensures in
    let many : length c.deref-part-items.result.now ≡ length key.pairs = as_many_parts c.deref-part-items.result.now c.args.text.now are key some small is in
    let whole : take c.loop-part.part-index key.pairs ≡ key.pairs = take_all c.loop-part.part-index key.pairs (omega arith) in
    ap (λ pairs. Some (record { pairs = pairs })) (c.loop-part.invariant.read key some small is ∙ whole)

pub loop-part-preserved : goal.loop-part-preserved
loop-part-preserved c = record {
  read = λ key some small is.
      let are : ArePartsOf c.deref-part-items.result.now c.args.text.now = rw c.deref-part-items.ensures.value c.in_ok-parts.ensures in
      let many : length c.deref-part-items.result.now ≡ length key.pairs = as_many_parts c.deref-part-items.result.now c.args.text.now are key some small is in
      let read = part_reads c.deref-part-items.result.now c.args.text.now are key some small is c.loop-part.part-index (record { ref_ptr = (0, 0); now = [] }) c.loop-part-test.true (Some c.in-Some.pair) c.in-Some.ensures.complete in
      let before = c.loop-part.invariant.read key some small is in
      let more = take_more key.pairs c.loop-part.part-index (own_pair key) (omega arith) in
      let pushed = c.in_ok-push-in-Some.ensures.ok in
      cc;
  numbered =
      rw c.in_ok-push-in-Some.ensures.ok
      (All-append IsNumbered c.loop-part.pairs (c.in-Some.pair ∷ []) c.loop-part.invariant.numbered
      (All-cons IsNumbered c.in-Some.pair [] c.in-Some.ensures.numbered (All-nil IsNumbered)));
}
