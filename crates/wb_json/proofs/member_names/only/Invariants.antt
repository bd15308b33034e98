use Rattle.std.proofs.Common.{◌≡◌}
use Rattle.serde_json.specs.View.{members_view}
use Rattle.wb_json.specs.Form.{names_pass}
use Rattle.wb_json.proofs.member_names.only.Given as goal

-- no name so far is wrong
abbrev pub invariant-loop-name : goal.invariant-loop-name
invariant-loop-name g l = names_pass (g.N.MemberNames.passes l.names) (members_view l.members.entries) ≡ names_pass (g.N.MemberNames.passes l.names) (members_view l.name-iterator)
