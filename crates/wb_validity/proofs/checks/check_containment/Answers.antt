use Rattle.std.proofs.Common.{◌∙◌, sym, ap, subst, Err, List}
use Rattle.std.proofs.lemmas.Result.{err_from_is_err_and}
use Rattle.wb_metamodel.specs.Metamodel.{Metamodel}
use Rattle.wb_store.specs.declared.containment.Link.{Link}
use Rattle.wb_validity.specs.Broken.{shown_by, broken_containment}
use Rattle.wb_validity.specs.Flaws.{Finds}
use Rattle.wb_store.specs.invariants.Links.{Kept, AreHolders, KnowsHolders, links_of}
use Rattle.wb_store.specs.invariants.Marks.{first_marked}
use Rattle.wb_validity.proofs.Findings.{raised, passed_on, nothing_shown}
use Rattle.wb_validity.proofs.Marked.{twice_least, knows_holders}
use Rattle.wb_validity.proofs.checks.check_containment.Goals as goal

pub returns-in_err-passed : goal.returns-in_err-passed
unfolding broken_containment
returns-in_err-passed c =
    let m = c.args.store.now in
    let rs = c.records-records.result.now in
    let kept : Kept m rs = record { shown = c.records-records.ensures.shown; plain = c.records-records.ensures.plain } in
    let links = c.as_slice.ensures.value ∙ c.in_ok-links.ensures ∙ ap (λ (metamodel : Metamodel). links_of metamodel rs) c.metamodel.ensures in
    let holders = subst (λ (ls : List Link). AreHolders rs ls c.in_ok-holders.holders.first c.in_ok-holders.holders.twice) links c.in_ok-holders.ensures in
    let twice = c.first_marked.ensures ∙ ap (first_marked rs) c.as_slice-2.ensures ∙ twice_least m rs kept c.in_ok-holders.holders.first c.in_ok-holders.holders.twice holders in
    let r = c.from_residual-in_err-passed in
    let p = err_from_is_err_and r.result r.ensures.1 in
    raised r.result p.0 c.in_err-passed.field-0.0 _ _ p.1 p.2 (subst (Finds (Err c.in_err-passed.field-0.0)) (ap (shown_by 8) twice) c.in_err-passed.ensures)

pub check_holding-requires-clause-knows : goal.check_holding-requires-clause-knows
check_holding-requires-clause-knows c =
    let m = c.args.store.now in
    let rs = c.records-records.result.now in
    let kept : Kept m rs = record { shown = c.records-records.ensures.shown; plain = c.records-records.ensures.plain } in
    let links = c.as_slice.ensures.value ∙ c.in_ok-links.ensures ∙ ap (λ (metamodel : Metamodel). links_of metamodel rs) c.metamodel.ensures in
    let holders = subst (λ (ls : List Link). AreHolders rs ls c.in_ok-holders.holders.first c.in_ok-holders.holders.twice) links c.in_ok-holders.ensures in
    let none = sym (ap (first_marked rs) c.as_slice-2.ensures) ∙ sym c.first_marked.ensures ∙ nothing_shown 8 c.first_marked.result c.in_ok-passed.ensures in
    subst (KnowsHolders m rs) (sym c.as_slice-3.ensures) (knows_holders m rs kept c.in_ok-holders.holders.first c.in_ok-holders.holders.twice holders none)

pub returns : goal.returns
unfolding broken_containment
returns c =
    let m = c.args.store.now in
    let rs = c.records-records.result.now in
    let kept : Kept m rs = record { shown = c.records-records.ensures.shown; plain = c.records-records.ensures.plain } in
    let links = c.as_slice.ensures.value ∙ c.in_ok-links.ensures ∙ ap (λ (metamodel : Metamodel). links_of metamodel rs) c.metamodel.ensures in
    let holders = subst (λ (ls : List Link). AreHolders rs ls c.in_ok-holders.holders.first c.in_ok-holders.holders.twice) links c.in_ok-holders.ensures in
    let twice = c.first_marked.ensures ∙ ap (first_marked rs) c.as_slice-2.ensures ∙ twice_least m rs kept c.in_ok-holders.holders.first c.in_ok-holders.holders.twice holders in
    passed_on c.check_holding.result _ _ (sym (ap (shown_by 8) twice) ∙ c.in_ok-passed.ensures) c.check_holding.ensures
