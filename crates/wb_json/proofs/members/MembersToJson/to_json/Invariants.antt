use Rattle.std.proofs.Common.{◌≡◌, drop}
use Rattle.serde_json.specs.Data.{no_members}
use Rattle.serde_json.specs.View.{members_view}
use Rattle.wb_json.specs.ToJson.{put_all}
use Rattle.wb_json.proofs.members.MembersToJson.to_json.Given as goal

abbrev pub invariant-loop-member : goal.invariant-loop-member
invariant-loop-member g l = put_all g.T.ToJson.json (drop l.member-index l.member-items) (members_view l.object.entries) ≡ put_all g.T.ToJson.json l.member-items no_members
