use Rattle.std.proofs.Common.{◌∙◌, [], ◌∷◌, ◌++◌, map, sym, ap, take}
use Rattle.wb_answers.specs.Seen.{Told}
use Rattle.wb_answers.proofs.SeenLaws.{after_none}
use Rattle.wb_answers.proofs.SeenLoops.{goes_on, metamodel_of, not_over, refused_at, told_of}
use Rattle.wb_looks.specs.Looks.{look, look_units}
use Rattle.wb_refresh.proofs.Lists.{map_next}
use Rattle.wb_refresh.proofs.declaring.looks.Goals as goal

pub loop-key-init : goal.loop-key-init
loop-key-init g c = record { looks = c.new-looks.ensures.items; asked = sym (after_none (g.A.Answers.seen c.args.answers.now)) }

pub put_look-requires-clause-metamodel : goal.put_look-requires-clause-metamodel
put_look-requires-clause-metamodel g c = c.requires.metamodel ∙ sym (metamodel_of _ _ _ c.loop-key.invariant.asked)

pub put_look-requires-clause-fine : goal.put_look-requires-clause-fine
put_look-requires-clause-fine g c = not_over _ _ _ c.loop-key.invariant.asked c.requires.fine

pub loop-key-preserved : goal.loop-key-preserved
loop-key-preserved g c =
    let s = g.A.Answers.seen c.args.answers.now in
    let keys = c.args.keys.now in
    let i = c.loop-key.key-index in
    let key = c.key-item.result in
    let f = λ (t : Told). look_units c.args.spec.now t in
    let h = λ (t : Told). look c.args.spec.now c.args.metamodel.now t in
    let told = told_of s _ _ c.loop-key.invariant.asked in
    record {
      looks = c.in_ok-put_look.ensures.looks
          ∙ (ap (λ xs. xs ++ h (g.A.Answers.seen c.loop-key.answers).told key ∷ []) c.loop-key.invariant.looks
          ∙ (ap (λ (t : Told). map (h s.told) (take i keys) ++ h t key ∷ []) told ∙ map_next (h s.told) keys i key key c.loop-key-test.true c.key-item.is));
      asked = goes_on f keys i key key s _ _ c.loop-key-test.true c.key-item.is c.loop-key.invariant.asked c.in_ok-put_look.ensures.asks;
    }

pub returns-in_err-put_look-clause-asks : goal.returns-in_err-put_look-clause-asks
returns-in_err-put_look-clause-asks g c =
    let f = λ (t : Told). look_units c.args.spec.now t in
    refused_at f c.args.keys.now c.loop-key.key-index c.key-item.result c.key-item.result (g.A.Answers.seen c.args.answers.now) _ _ c.loop-key-test.true c.key-item.is c.loop-key.invariant.asked _ _ c.from_residual.ensures c.in_err-put_look.ensures.asks
