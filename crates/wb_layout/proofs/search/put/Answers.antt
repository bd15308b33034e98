use Rattle.std.proofs.Common.{sym, subst, ap, ◌∙◌, List, set, true, false}
use Rattle.wb_diagram.specs.declared.keys.Key.{Key}
use Rattle.wb_layout.specs.Positions.{Position}
use Rattle.wb_layout.specs.invariants.Searches.{IsPlace, StandsAt}
use Rattle.wb_layout.proofs.Searches.{put_over, put_between, same_entry}
use Rattle.wb_layout.proofs.search.put.Goals as goal

pub returns-then-stands_at-clause-ok : goal.returns-then-stands_at-clause-ok
returns-then-stands_at-clause-ok c =
    let es = c.args.entries.now.items in
    let place : IsPlace c.args.key es c.place_of-i.result = subst (λ (fs : List (Key × Position)). IsPlace c.args.key fs c.place_of-i.result) c.as_slice.ensures.value c.place_of-i.ensures in
    let there : StandsAt c.args.key es c.place_of-i.result true = subst (λ (fs : List (Key × Position)). StandsAt c.args.key fs c.place_of-i.result true) c.as_slice-2.ensures.value (subst (StandsAt c.args.key c.as_slice-2.result.now c.place_of-i.result) c.if-stands_at.true c.stands_at.ensures) in
    let same = same_entry es c.place_of-i.result there.0 c.index_mut.result.now there.1.0 c.index_mut.ensures.value in
    sym (put_over c.args.key c.args.at es c.place_of-i.result there.0 place.before there.1.0 there.1.1 ∙ ap (λ (e : Key × Position). set es c.place_of-i.result (e.0, c.args.at)) same)

pub returns-clause-ok : goal.returns-clause-ok
returns-clause-ok c =
    let es = c.args.entries.now.items in
    let place : IsPlace c.args.key es c.place_of-i.result = subst (λ (fs : List (Key × Position)). IsPlace c.args.key fs c.place_of-i.result) c.as_slice.ensures.value c.place_of-i.ensures in
    let absent = subst (λ (fs : List (Key × Position)). StandsAt c.args.key fs c.place_of-i.result false) c.as_slice-2.ensures.value (subst (StandsAt c.args.key c.as_slice-2.result.now c.place_of-i.result) c.if-stands_at.false c.stands_at.ensures) in
    c.in_ok-insert.ensures.items ∙ sym (put_between c.args.key c.args.at es c.place_of-i.result place.before place.behind absent)
