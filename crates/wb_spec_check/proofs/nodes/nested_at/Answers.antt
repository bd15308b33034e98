use Rattle.std.proofs.Common.{[], ◌∷◌, ◌++◌}
use Rattle.wb_spec_check.specs.ChildLists.{children_list, lists_before}
use Rattle.wb_spec_check.specs.Mappings.{nested_at, nested_with}
use Rattle.wb_spec_check.proofs.Children.{taken_inside}
use Rattle.wb_spec_check.proofs.Joined.{joined2}
use Rattle.wb_spec_check.proofs.Steps.{place_member}
use Rattle.wb_spec_check.proofs.nodes.nested_at.Goals as goal

pub returns-clause-reports : goal.returns-clause-reports
unfolding nested_at
returns-clause-reports c =
    let before = lists_before c.args.names.now.1 c.args.number in
    let taken = rw c.as_slice.ensures at (c.in_ok-children.ensures.takes before c.requires) in
    let children = rw (place_member, c.as_slice.ensures) at (c.in_ok-children.ensures.reports before c.requires) in
    let borders = rw (place_member, c.as_slice-2.ensures) at (c.in_ok-borders.ensures.reports (before ++ children_list c.args.number c.args.node.now ∷ []) taken) in
    joined2 nested_with c.nested_with.result children borders c.nested_with.ensures

pub returns-clause-takes : goal.returns-clause-takes
returns-clause-takes c =
    taken_inside c.args.names.now.1 c.args.number c.args.node.now c.as_slice.result.now c.as_slice-2.result.now c.children_at.new.taken c.children_at-2.new.taken c.as_slice.ensures c.as_slice-2.ensures
    (c.in_ok-children.ensures.takes (lists_before c.args.names.now.1 c.args.number) c.requires) c.in_ok-borders.ensures.takes
