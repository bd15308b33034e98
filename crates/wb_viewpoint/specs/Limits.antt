-- How large a viewpoint may be.
use Rattle.std.specs.Prelude.{◌&&◌, nat_le, Bool, length}
use Rattle.std.specs.List.{list_all}
use Rattle.wb_viewpoint.specs.OperationTrees.{count_all, nesting_all}
use Rattle.wb_viewpoint.specs.declared.content.Content.{Content}
use Rattle.wb_viewpoint.specs.declared.mappings.Mapping.{Mapping}
use Rattle.wb_viewpoint.specs.declared.tools.Tool.{Tool}

-- at most 32 conditional styles
abbrev pub has_few_styles : Mapping → Bool
has_few_styles mapping = nat_le (length mapping.looks.styles) 32

-- at most 256 operations, which nest at most 16 deep
abbrev pub has_few_operations : Tool → Bool
has_few_operations tool = nat_le (count_all tool.operations) 256 && nat_le (nesting_all tool.operations) 16

-- at most 256 mappings, 64 layers, 64 filters and 256 tools
abbrev pub has_few_parts : Content → Bool
has_few_parts content = nat_le (length content.mappings) 256 && nat_le (length content.layers) 64 && nat_le (length content.filters) 64 && nat_le (length content.tools) 256

unfoldable pub is_small : Content → Bool
is_small content = has_few_parts content && list_all has_few_styles content.mappings && list_all has_few_operations content.tools
