use Rattle.std.proofs.Common.{◌≡◌, ◌+◌, ◌∙◌, ◌∷◌, ◌++◌, [], ℕ, ap, sym, subst, arith, add-one}
use Rattle.wb_diagram.specs.declared.units.Unit.TheVariants.{Style}
use Rattle.wb_answers.specs.Seen.{Told, after}
use Rattle.wb_answers.specs.Meanings.{is_true}
use Rattle.wb_answers.proofs.SeenLaws.{after_none, passed_on}
use Rattle.wb_answers.proofs.SeenLoops.{not_over, told_of, asked_both}
use Rattle.wb_looks.specs.Looks.{style_units}
use Rattle.wb_looks.proofs.Tries.{Tried, tried, none_tried, tried_next, tried_hit, tried_here, tried_all, tried_none, tried_more}
use Rattle.wb_looks.proofs.styles.chosen.Goals as goal

pub loop-index-init : goal.loop-index-init
loop-index-init g c = record {
  asked = sym (ap (after (g.A.Answers.seen c.args.answers.now)) (tried_none c.args.key.now) ∙ after_none (g.A.Answers.seen c.args.answers.now));
  tries = none_tried (g.A.Answers.seen c.args.answers.now).told c.args.key.now c.args.count;
}

pub holds-requires : goal.holds-requires
holds-requires g c = not_over _ _ _ c.loop-index.invariant.asked c.requires

pub returns-in_err-held-clause-asks : goal.returns-in_err-held-clause-asks
returns-in_err-held-clause-asks g c =
    let s = g.A.Answers.seen c.args.answers.now in
    let key = c.args.key.now in
    let index = c.loop-index.index in
    let here = tried_here s.told key c.args.count index c.loop-index-test.true c.loop-index.invariant.tries in
    passed_on s _ _ (tried key index) (Style (index + 1) key ∷ []) here.0 (style_units s.told key 1 c.args.count) _ _ c.from_residual.ensures c.loop-index.invariant.asked
    (ap (λ (n : ℕ). tried key index ++ (Style n key ∷ here.0)) (add-one index) ∙ here.1) c.in_err-held.ensures.asks

pub returns-then-held-clause-style : goal.returns-then-held-clause-style
returns-then-held-clause-style g c =
    let s = g.A.Answers.seen c.args.answers.now in
    let mid = g.A.Answers.seen c.loop-index.answers in
    let key = c.args.key.now in
    let index = c.loop-index.index in
    let told = told_of s mid _ c.loop-index.invariant.asked in
    let held = sym (ap (λ (t : Told). is_true (t (Style (index + 1) key))) told ∙ ap (λ (n : ℕ). is_true (s.told (Style n key))) (add-one index)) ∙ (sym c.in_ok-held.ensures.value ∙ c.if-held.true) in
    add-one index ∙ (tried_hit s.told key c.args.count index c.loop-index-test.true held c.loop-index.invariant.tries).1

pub returns-then-held-clause-asks : goal.returns-then-held-clause-asks
returns-then-held-clause-asks g c =
    let s = g.A.Answers.seen c.args.answers.now in
    let mid = g.A.Answers.seen c.loop-index.answers in
    let key = c.args.key.now in
    let index = c.loop-index.index in
    let told = told_of s mid _ c.loop-index.invariant.asked in
    let held = sym (ap (λ (t : Told). is_true (t (Style (index + 1) key))) told ∙ ap (λ (n : ℕ). is_true (s.told (Style n key))) (add-one index)) ∙ (sym c.in_ok-held.ensures.value ∙ c.if-held.true) in
    asked_both s mid _ (tried key index) (Style (index + 1) key ∷ []) c.loop-index.invariant.asked c.in_ok-held.ensures.asks
    ∙ ap (after s) (ap (λ (n : ℕ). tried key index ++ Style n key ∷ []) (add-one index) ∙ (tried_hit s.told key c.args.count index c.loop-index-test.true held c.loop-index.invariant.tries).0)

pub loop-index-preserved : goal.loop-index-preserved
loop-index-preserved g c =
    let s = g.A.Answers.seen c.args.answers.now in
    let mid = g.A.Answers.seen c.loop-index.answers in
    let key = c.args.key.now in
    let index = c.loop-index.index in
    let told = told_of s mid _ c.loop-index.invariant.asked in
    let failed = sym (ap (λ (t : Told). is_true (t (Style (index + 1) key))) told ∙ ap (λ (n : ℕ). is_true (s.told (Style n key))) (add-one index)) ∙ (sym c.in_ok-held.ensures.value ∙ c.if-held.false) in
    record {
      asked = asked_both s mid _ (tried key index) (Style (index + 1) key ∷ []) c.loop-index.invariant.asked c.in_ok-held.ensures.asks ∙ ap (after s) (tried_more key index);
      tries = subst (λ (n : ℕ). Tried s.told key c.args.count n) (sym (add-one index)) (tried_next s.told key c.args.count index c.loop-index-test.true failed c.loop-index.invariant.tries);
    }

pub returns-clause-style : goal.returns-clause-style
returns-clause-style g c =
    let s = g.A.Answers.seen c.args.answers.now in
    let done : c.loop-index.index ≡ c.args.count = omega arith in
    (tried_all s.told c.args.key.now c.args.count (subst (λ (n : ℕ). Tried s.told c.args.key.now c.args.count n) done c.loop-index.invariant.tries)).1

pub returns-clause-asks : goal.returns-clause-asks
returns-clause-asks g c =
    let s = g.A.Answers.seen c.args.answers.now in
    let done : c.loop-index.index ≡ c.args.count = omega arith in
    c.loop-index.invariant.asked ∙ ap (after s) (ap (tried c.args.key.now) done ∙ (tried_all s.told c.args.key.now c.args.count (subst (λ (n : ℕ). Tried s.told c.args.key.now c.args.count n) done c.loop-index.invariant.tries)).0)
