use Rattle.std.proofs.Common.{rules}
use Rattle.wb_json.specs.Place.{pointer_segment, index_segment}
use Rattle.wb_spec_check.specs.Places.{place_of}
use Rattle.wb_spec_check.proofs.Steps.{place_root, place_member, place_item, pushed_on}
use Rattle.wb_spec_check.proofs.path.+push_place.Goals as goal

pub returns-in-Root : goal.returns-in-Root
returns-in-Root t c = rw (c.in-Root.is, place_root) (search rules)

pub returns-in_ok-push_place-in-Member : goal.returns-in_ok-push_place-in-Member
returns-in_ok-push_place-in-Member t c =
    let step = rw c.here.ensures at c.in_member.ensures in
    rw (c.in-Member.is, place_member)
    (pushed_on _ _ _ _ (place_of c.in-Member.outer.now) (pointer_segment c.in-Member.name.now) c.in_ok-push_place-in-Member.ensures (c.push_step.ensures _ step))

pub returns-in_ok-push_place-in-Item : goal.returns-in_ok-push_place-in-Item
returns-in_ok-push_place-in-Item t c =
    let step = rw c.here-in-Item.ensures at c.in_item.ensures in
    rw (c.in-Item.is, place_item)
    (pushed_on _ _ _ _ (place_of c.in-Item.outer.now) (index_segment c.in-Item.number) c.in_ok-push_place-in-Item.ensures (c.push_step-in-Item.ensures _ step))
