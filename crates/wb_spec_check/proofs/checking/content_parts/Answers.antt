use Rattle.wb_spec_check.proofs.Steps.{place_root, place_member}
use Rattle.wb_spec_check.proofs.checking.content_parts.Goals as goal

pub parts_at-requires : goal.parts_at-requires
parts_at-requires c = rw (place_member, place_root)
