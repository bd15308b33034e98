use Rattle.std.proofs.Common.{◌≡◌, true, false, string_bytes, sym, ap, ◌∙◌}
use Rattle.wb_json.proofs.Views.{names_pass_on, names_pass_not}
use Rattle.wb_json.proofs.member_names.only.Goals as goal

pub loop-name-preserved : goal.loop-name-preserved
loop-name-preserved g c =
    let passes = g.N.MemberNames.passes c.args.names.now in
    let one : passes (string_bytes c.in-Some.name.now) ≡ true = ap passes (sym c.as_str.ensures.value) ∙ sym c.passes.ensures ∙ c.if-not-passes.false in
    c.loop-name.invariant ∙ names_pass_on passes (c.in-Some.name.now, c.in-Some.field-0-1.now) c.next.new.self _ c.in-Some.ensures.steps one

pub returns-then-not-passes : goal.returns-then-not-passes
returns-then-not-passes g c =
    let passes = g.N.MemberNames.passes c.args.names.now in
    let none : passes (string_bytes c.in-Some.name.now) ≡ false = ap passes (sym c.as_str.ensures.value) ∙ sym c.passes.ensures ∙ c.if-not-passes.true in
    rw c.loop-name.invariant
    (names_pass_not passes (c.in-Some.name.now, c.in-Some.field-0-1.now) c.next.new.self _ _ c.in-Some.ensures.steps none
    (rw (sym c.here.ensures, sym c.as_str-then-not-passes.ensures.value) c.in_member.ensures))
