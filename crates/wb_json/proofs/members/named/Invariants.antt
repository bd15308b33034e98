use Rattle.std.proofs.Common.{◌≡◌, Ok}
use Rattle.serde_json.specs.View.{members_view}
use Rattle.wb_json.specs.Form.{in_turn, is_name, member_list, member_of, names_pass}
use Rattle.wb_json.proofs.Turns.{Goes}
use Rattle.wb_json.proofs.members.named.Given as goal

abbrev pub invariant-loop-name : goal.invariant-loop-name
invariant-loop-name g l =
    record {
      named : names_pass is_name (members_view l.name-iterator) ≡ Ok tt;
      so_far : Goes (member_of g.T.Form.form) l.found.items (member_list (members_view l.name-iterator)) (in_turn (member_of g.T.Form.form) (member_list (members_view l.members.entries)));
    }
