use Rattle.std.proofs.Common.{map, take, sym}
use Rattle.std.proofs.lemmas.List.{take-map}
use Rattle.wb_viewpoint.specs.declared.mappings.Mapping.{Mapping}
use Rattle.wb_spec_check.specs.Mappings.{mapping_at}
use Rattle.wb_spec_check.proofs.Joined.{joined2}
use Rattle.wb_spec_check.proofs.mappings.mapping_at.Goals as goal

pub returns-clause-reports : goal.returns-clause-reports
unfolding mapping_at
returns-clause-reports c =
    let mappings = c.args.names.now.1.mappings in
    let titled = rw c.as_str.ensures.same at c.in_ok-named.ensures in
    joined2 (λ _ checked. checked) _
    (titled (map (λ (it : Mapping). it.name) mappings) (map (λ (it : Mapping). it.name) (take c.args.number mappings)) c.mapping_places.ensures (sym (take-map (λ (it : Mapping). it.name) c.args.number mappings)))
    c.in_ok-checked.ensures.reports c.mapping_with.ensures
