use Rattle.std.proofs.Common.{map, take, sym}
use Rattle.std.proofs.lemmas.List.{take-map}
use Rattle.wb_viewpoint.specs.declared.filters.Filter.{Filter}
use Rattle.wb_spec_check.specs.Checked.{filter_at}
use Rattle.wb_spec_check.proofs.Joined.{joined3}
use Rattle.wb_spec_check.proofs.Steps.{place_member}
use Rattle.wb_spec_check.proofs.filters.filter_at.Goals as goal

pub returns : goal.returns
unfolding filter_at
returns c =
    let filters = c.args.names.now.1.filters in
    let titled = rw c.as_str.ensures.same at c.in_ok-name.ensures in
    joined3 _ _ (titled (map (λ (it : Filter). it.name) filters) (map (λ (it : Filter). it.name) (take c.args.number filters)) c.requires (sym (take-map (λ (it : Filter). it.name) c.args.number filters)))
    (rw (place_member, c.as_slice.ensures) at c.in_ok-mappings.ensures)
    (rw (place_member, c.metamodel.ensures, c.self_alone.ensures) at c.in_ok-hides.ensures) c.filter_with.ensures
