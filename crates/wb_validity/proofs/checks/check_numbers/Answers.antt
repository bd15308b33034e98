use Rattle.std.proofs.Common.{◌≡◌, ◌<◌, ◌∙◌, sym, ap, subst, Some, None, false, ◌&&◌, ltb, cond, ◌^◌, arith, refl}
use Rattle.std.proofs.lemmas.Bool.{and_from, lt-ltb}
use Rattle.std.specs.Option.{option_or}
use Rattle.wb_validity.specs.Broken.{shown_by, least, is_misnumbered, broken_number}
use Rattle.wb_validity.specs.Flaws.{Finds}
use Rattle.wb_validity.proofs.Findings.{passed_on}
use Rattle.wb_validity.proofs.checks.check_numbers.Goals as goal

pub returns-then-next-eq0 : goal.returns-then-next-eq0
unfolding broken_number
returns-then-next-eq0 c =
    let zero : c.args.store.now.next ≡ 0 = sym c.next.ensures ∙ c.if-next-eq0.true in
    let wrong = subst (λ n. (ltb 0 n && ltb n (2 ^ 32)) ≡ false) (sym zero) refl in
    ap (λ b. option_or (cond b None (Some (1, None))) (shown_by 1 (least c.args.store.now (λ o k. is_misnumbered c.args.store.now o)))) wrong

pub returns : goal.returns
unfolding broken_number
returns c =
    let low : 0 < c.args.store.now.next = subst (λ n. 0 < n) c.next.ensures (omega arith) in
    let high : c.args.store.now.next < 2 ^ 32 = subst (λ n. n < 2 ^ 32) c.next.ensures (omega arith) in
    let right = and_from _ _ (lt-ltb 0 c.args.store.now.next low) (lt-ltb c.args.store.now.next (2 ^ 32) high) in
    passed_on c.passed.result _ _ (ap (λ b. cond b None (Some (1, None))) right) (subst (Finds c.passed.result) (ap (shown_by 1) c.misnumbered_object.ensures) c.passed.ensures)
