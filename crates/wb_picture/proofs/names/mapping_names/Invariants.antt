use Rattle.std.proofs.Common.{◌≡◌, map, take}
use Rattle.wb_viewpoint.specs.declared.mappings.Mapping.{Mapping}
use Rattle.wb_picture.proofs.names.mapping_names.Given as goal

abbrev pub invariant-loop-mapping : goal.invariant-loop-mapping
invariant-loop-mapping l = l.names.items ≡ map (λ (it : Mapping). it.name) (take l.mapping-index l.content.mappings)
