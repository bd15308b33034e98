use Rattle.wb_spec_check.specs.Checked.{checked}
use Rattle.wb_spec_check.proofs.Joined.{joined6}
use Rattle.wb_spec_check.proofs.Steps.{place_member}
use Rattle.wb_spec_check.proofs.checking.parts_at.Goals as goal

pub returns : goal.returns
unfolding checked
returns c =
    joined6 _ _ (rw (place_member, c.requires) at c.in_ok-domain.ensures) c.in_ok-layers.ensures (rw (place_member, c.requires) at c.in_ok-top.ensures.reports)
    (rw (place_member, c.requires) at c.in_ok-mappings.ensures) (rw (place_member, c.requires) at c.in_ok-filters.ensures) (rw (place_member, c.requires) at c.in_ok-tools.ensures) c.parts_with.ensures

pub layers_at-requires : goal.layers_at-requires
layers_at-requires c = rw (place_member, c.requires)

pub top_at-requires : goal.top_at-requires
top_at-requires c = c.new-taken.ensures c.args.names.now.1
