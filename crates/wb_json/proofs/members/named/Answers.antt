use Rattle.std.proofs.Common.{◌≡◌, Ok, string_bytes, sym, ◌∙◌, ap}
use Rattle.serde_json.specs.View.{view, members_view}
use Rattle.wb_json.specs.Form.{is_name, in_turn, member_list, member_of}
use Rattle.wb_json.proofs.Views.{names_pass_first, members_first}
use Rattle.wb_json.proofs.Turns.{goes_on}
use Rattle.wb_json.proofs.members.named.Goals as goal

pub loop-name-preserved : goal.loop-name-preserved
loop-name-preserved g c =
    let form = member_of g.T.Form.form in
    let whole = in_turn form (member_list (members_view c.args.members.now.entries)) in
    let left = c.next.new.self in
    let first = members_first (c.in-Some.name.now, c.in-Some.member.now) left c.loop-name.name-iterator c.in-Some.ensures.steps in
    let read : form (string_bytes c.in-Some.name.now, view c.in-Some.member.now) ≡ Ok c.in_ok-member_at.field-0 =
    ap (λ name. form (name, view c.in-Some.member.now)) (sym c.as_str.ensures.value) ∙ c.in_ok-member_at.ensures in
    record {
      named = (names_pass_first is_name (c.in-Some.name.now, c.in-Some.member.now) left c.loop-name.name-iterator c.in-Some.ensures.steps c.loop-name.invariant.named).1;
      so_far = rw c.in_ok-push.ensures.items (goes_on form c.loop-name.found.items _ c.in_ok-member_at.field-0 (member_list (members_view left)) whole read (rw first at c.loop-name.invariant.so_far));
    }
